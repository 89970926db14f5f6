-- Each line of a session is planned or justified, and the goal's line stays.
use Rattle.std.proofs.Common.{◌≡◌, ◌≢◌, ◌∙◌, ℕ, ◌==◌, List, [], ◌∷◌, Bool, true, false, cond, ◌⊎◌, inl, inr, refl, sym, ap, subst}
use Rattle.std.specs.Prelude.{Option, Some, None}
use Rattle.std.proofs.lemmas.Bool.Decides.{eqb_tells}
use Rattle.std.proofs.lemmas.Bool.{eq-eqb}
use Rattle.nd_rules.specs.Laws.{IsPlannedAt}
use Rattle.nd_rules.specs.Lines.{DeductionLine, line_of, planned}
use Rattle.nd_rules.specs.Outlines.{with_line, with_why}
use Rattle.nd_rules.specs.Rules.{IsJustified}
use Rattle.nd_rules.proofs.Staying.{other_line, other_put, stays_put_in, stays_under_others, stays_under_reasons}
use Rattle.etps_session.specs.Answers.{Accepts, line_at}
use Rattle.etps_session.specs.Commands.{Request, number_of, why_of}
use Rattle.etps_session.specs.Replays.{Goal, goal_line, put_at, replay_from, taken}
use Rattle.etps_session.specs.Tables.{table_line}
use Rattle.etps_session.specs.Traces.{AreTraced, IsSession, Trace, requests_of}
use Rattle.etps_session.proofs.Undone.{found_number, found_put, found_reason, free_is_planned}

-- planned or justified
abbrev pub IsHeld : List DeductionLine → DeductionLine → Type 0
IsHeld lines m = (m.why ≡ planned) ⊎ IsJustified lines m

-- the goal's line is there, and each line is planned or justified
pub record IsKept (g : Goal) (lines : List DeductionLine) : Type 0 where
  pub held : (n : ℕ) (m : DeductionLine) → line_of lines n ≡ Some m → IsHeld lines m
  pub line : DeductionLine
  pub there : line_of lines g.number ≡ Some line
  pub formula : line.formula ≡ g.formula
  pub hypotheses : line.hypotheses ≡ []

one_some : (o : Option DeductionLine) (m k : DeductionLine) → o ≡ Some m → o ≡ Some k → m ≡ k
one_some o m k e f = cc

not_there : (o : Option DeductionLine) (m : DeductionLine) → o ≡ None → o ≡ Some m → ⊥
not_there o m e f = cc

-- a line put in
kept_put : (g : Goal) (lines : List DeductionLine) (l : DeductionLine) → line_of lines l.number ≡ None → IsJustified lines l ⊎ (l.why ≡ planned) → IsKept g lines → IsKept g (with_line lines l)
kept_put g lines l none j k = record {
  held = λ n m e. held_at n m e (eqb_tells n l.number);
  line = k.line;
  there = other_put lines l g.number (λ same. not_there (line_of lines l.number) k.line none (ap (line_of lines) (sym same) ∙ k.there)) ∙ k.there;
  formula = k.formula;
  hypotheses = k.hypotheses;
}
  where
    itself : IsJustified lines l ⊎ (l.why ≡ planned) → IsHeld (with_line lines l) l
    itself (inl justified) = inr (stays_put_in lines l justified)
    itself (inr plan) = inl plan

    other : (m : DeductionLine) → m.number ≢ l.number → IsHeld lines m → IsHeld (with_line lines l) m
    other m differ (inl plan) = inl plan
    other m differ (inr justified) = inr (stays_under_others lines m l none differ justified)

    held_at : (n : ℕ) (m : DeductionLine) → line_of (with_line lines l) n ≡ Some m → ((n == l.number) ≡ true) × (n ≡ l.number) ⊎ ((n == l.number) ≡ false) × (n ≢ l.number) → IsHeld (with_line lines l) m
    held_at n m e (inl here) =
        let same : l ≡ m = one_some (line_of (with_line lines l) l.number) l m (found_put lines l none) (ap (line_of (with_line lines l)) (sym here.1) ∙ e) in
        subst (IsHeld (with_line lines l)) same (itself j)
    held_at n m e (inr differ) =
        let found : line_of lines n ≡ Some m = sym (other_put lines l n differ.1) ∙ e in
        other m (λ same. differ.1 (sym (found_number lines n m found) ∙ same)) (k.held n m found)

-- a planned line justified
kept_reason : (g : Goal) (lines : List DeductionLine) (n : ℕ) (m : DeductionLine) (r : Request) → line_of lines n ≡ Some m → m.why ≡ planned → IsJustified lines (record m { why = why_of r }) → IsKept g lines
    → IsKept g (with_why lines n (why_of r))
kept_reason g lines n m r e plan j k = record {
  held = λ i l f. held_at i l f (eqb_tells i n);
  line = (goal_at (eqb_tells g.number n)).0;
  there = (goal_at (eqb_tells g.number n)).1;
  formula = (goal_at (eqb_tells g.number n)).2;
  hypotheses = (goal_at (eqb_tells g.number n)).3;
}
  where
    at : IsPlannedAt lines n
    at l f = let same : m ≡ l = one_some (line_of lines n) m l e f in ap (λ (x : DeductionLine). x.why) (sym same) ∙ plan

    still : (l : DeductionLine) → IsHeld lines l → IsHeld (with_why lines n (why_of r)) l
    still l (inl h) = inl h
    still l (inr h) = inr (stays_under_reasons lines l n (why_of r) at h)

    held_at : (i : ℕ) (l : DeductionLine) → line_of (with_why lines n (why_of r)) i ≡ Some l → ((i == n) ≡ true) × (i ≡ n) ⊎ ((i == n) ≡ false) × (i ≢ n) → IsHeld (with_why lines n (why_of r)) l
    held_at i l f (inl here) =
        let same : record m { why = why_of r } ≡ l =
        one_some (line_of (with_why lines n (why_of r)) n) (record m { why = why_of r }) l (found_reason lines n (why_of r) m e) (ap (line_of (with_why lines n (why_of r))) (sym here.1) ∙ f) in
        subst (IsHeld (with_why lines n (why_of r))) same (inr (stays_under_reasons lines (record m { why = why_of r }) n (why_of r) at j))
    held_at i l f (inr differ) = still l (k.held i l (sym (other_line lines n (why_of r) i differ.1) ∙ f))

    goal_at : ((g.number == n) ≡ true) × (g.number ≡ n) ⊎ ((g.number == n) ≡ false) × (g.number ≢ n)
        → (l : DeductionLine) × (line_of (with_why lines n (why_of r)) g.number ≡ Some l) × (l.formula ≡ g.formula) × (l.hypotheses ≡ [])
    goal_at (inl here) =
        let found : line_of lines n ≡ Some k.line = ap (line_of lines) (sym here.1) ∙ k.there in
        (record k.line { why = why_of r }, ap (line_of (with_why lines n (why_of r))) here.1 ∙ found_reason lines n (why_of r) k.line found, k.formula, k.hypotheses)
    goal_at (inr differ) = (k.line, other_line lines n (why_of r) g.number differ.1 ∙ k.there, k.formula, k.hypotheses)

-- an accepted request
kept_taken : (g : Goal) (lines : List DeductionLine) (r : Request) → Accepts lines r → IsKept g lines → IsKept g (taken lines r)
kept_taken g lines r a k = go (line_of lines (number_of r)) refl a.justified
  where
    go : (o : Option DeductionLine) → line_of lines (number_of r) ≡ o → IsJustified lines (line_at o (table_line lines r)) → IsKept g (put_at o lines (table_line lines r))
    go None e j = kept_put g lines (table_line lines r) e (inl j) k
    go (Some m) e j = kept_reason g lines (number_of r) m r e (free_is_planned lines r m a.free e) j k

kept_all : (g : Goal) (lines : List DeductionLine) (steps : List Trace) → AreTraced lines steps → IsKept g lines → IsKept g (replay_from lines (requests_of steps))
kept_all g lines [] t k = k
kept_all g lines (s ∷ steps) t k = kept_all g (taken lines s.0) steps t.2 (kept_taken g lines s.0 t.0 k)

-- the goal's line alone
alone : (l m : DeductionLine) (n : ℕ) → line_of (l ∷ []) n ≡ Some m → l ≡ m
alone l m n e = go (l.number == n) e
  where
    go : (b : Bool) → cond b (Some l) None ≡ Some m → l ≡ m
    go true f = cc
    go false f = cc

kept_first : (g : Goal) → IsKept g (goal_line g ∷ [])
kept_first g = record {
  held = λ n m e. inl (ap (λ (l : DeductionLine). l.why) (sym (alone (goal_line g) m n e)));
  line = goal_line g;
  there = ap (λ (b : Bool). cond b (Some (goal_line g)) None) (eq-eqb g.number g.number refl);
  formula = refl;
  hypotheses = refl;
}

pub session_kept : (g : Goal) (steps : List Trace) (lines : List DeductionLine) → IsSession (Some g) steps lines → IsKept g lines
session_kept g steps lines s = subst (IsKept g) (sym s.outline) (kept_all g (goal_line g ∷ []) steps s.traced (kept_first g))
