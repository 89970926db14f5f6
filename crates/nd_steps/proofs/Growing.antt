-- Laws of deductions that grow.
use Rattle.std.proofs.Common.{◌≡◌, ℕ, ◌+◌, ◌<◌, ◌≤◌, List, [], ◌∷◌, ◌++◌, length, cond, Some, None, refl, sym, ◌∙◌, ap, subst, arith, inl, inr, append_assoc}
use Rattle.std.specs.Prelude.{All, Contains, slice_index}
use Rattle.std.proofs.lemmas.Bool.Decides.{eqb_tells}
use Rattle.std.proofs.lemmas.List.{append-nil}
use Rattle.std.proofs.lemmas.List.Elements.{recursion_from_All, All-from_recursion, All-weaker, All-contains, All-contains_itself}
use Rattle.hol_terms.specs.Lists.{IsAboveLast}
use Rattle.hol_terms.specs.Terms.{SimpleType, Term}
use Rattle.hol_terms.specs.FreeVariables.{IsFree}
use Rattle.nd_rules.specs.Lines.{DeductionLine, line_of}
use Rattle.nd_rules.specs.Outlines.{IsDerivation}
use Rattle.nd_rules.specs.Rules.{IsJustified}
use Rattle.nd_steps.specs.Deductions.{IsNumberedFrom, IsDeduction, Assumes, Proves, AreAssumptions, IsFreeInNone, Grows}
use Rattle.nd_steps.proofs.Numbering.{found_stays, found_in, found_number, numbered_within}

pub same_grows : (old new : List DeductionLine) → new ≡ old → Grows old new
same_grows old new e = ([], e ∙ sym (append-nil old))

pub grows_on : (first second third : List DeductionLine) → Grows first second → Grows second third → Grows first third
grows_on first second third g h = (g.0 ++ h.0, h.1 ∙ ap (λ (ls : List DeductionLine). ls ++ h.0) g.1 ∙ append_assoc first g.0 h.0)

found_later : (old new : List DeductionLine) (n : ℕ) (m : DeductionLine) → Grows old new → line_of old n ≡ Some m → line_of new n ≡ Some m
found_later old new n m g e = ap (λ (ls : List DeductionLine). line_of ls n) g.1 ∙ found_stays old g.0 n m e

pub proves_stays : (old new : List DeductionLine) (n : ℕ) (hyps : List ℕ) (formula : Term) → Grows old new → Proves old n hyps formula → Proves new n hyps formula
proves_stays old new n hyps formula g p = record { line = p.line; found = found_later old new n p.line g p.found; rests = p.rests; says = p.says }

pub assumes_stays : (old new : List DeductionLine) (n : ℕ) (formula : Term) → Grows old new → Assumes old n formula → Assumes new n formula
assumes_stays old new n formula g p = record { line = p.line; found = found_later old new n p.line g p.found; assumed = p.assumed; says = p.says }

pub assumptions_stay : (old new : List DeductionLine) (hyps : List ℕ) → Grows old new → AreAssumptions old hyps → AreAssumptions new hyps
assumptions_stay old new hyps g h =
    All-weaker (λ n. (formula : Term) × Assumes old n formula) (λ n. (formula : Term) × Assumes new n formula) (λ n a. (a.0, assumes_stays old new n a.0 g a.1)) hyps h

one_line : (lines : List DeductionLine) (n : ℕ) (m k : DeductionLine) → line_of lines n ≡ Some m → line_of lines n ≡ Some k → m ≡ k
one_line lines n m k e f = let both : Some m ≡ Some k = sym e ∙ f in cc

pub proves_one : (lines : List DeductionLine) (n : ℕ) (hyps others : List ℕ) (a b : Term) → Proves lines n hyps a → Proves lines n others b → a ≡ b
proves_one lines n hyps others a b p q = sym p.says ∙ ap (λ (l : DeductionLine). l.formula) (one_line lines n p.line q.line p.found q.found) ∙ q.says

pub assumes_one : (lines : List DeductionLine) (n : ℕ) (a b : Term) → Assumes lines n a → Assumes lines n b → a ≡ b
assumes_one lines n a b p q = sym p.says ∙ ap (λ (l : DeductionLine). l.formula) (one_line lines n p.line q.line p.found q.found) ∙ q.says

pub free_in_none_stays : (old new : List DeductionLine) (hyps name : List ℕ) (s : SimpleType) → Grows old new → AreAssumptions old hyps → IsFreeInNone old hyps name s → IsFreeInNone new hyps name s
free_in_none_stays old new hyps name s g h none =
    All-weaker (Contains hyps) (λ n. (formula : Term) → Assumes new n formula → IsFree name s formula → ⊥) each hyps (All-contains_itself hyps)
  where
    each : (n : ℕ) → Contains hyps n → (formula : Term) → Assumes new n formula → IsFree name s formula → ⊥
    each n held formula a f =
        let before = All-contains (λ k. (t : Term) × Assumes old k t) hyps n h held in
        let same : formula ≡ before.0 = assumes_one new n formula before.0 a (assumes_stays old new n before.0 g before.1) in
        let P : Term → Type 0 = λ t. IsFree name s t in
        All-contains (λ k. (t : Term) → Assumes old k t → IsFree name s t → ⊥) hyps n none held before.0 before.1 (subst P same f)

pub proves_from_more : (lines : List DeductionLine) (n : ℕ) (hyps others : List ℕ) (formula : Term) → All (Contains others) hyps → Proves lines n hyps formula → Proves lines n others formula
proves_from_more lines n hyps others formula more p =
    record { line = p.line; found = p.found; rests = All-weaker (Contains hyps) (Contains others) (λ k held. All-contains (Contains others) hyps k more held) p.line.hypotheses p.rests; says = p.says }

pub assumes_proves : (lines : List DeductionLine) (n : ℕ) (hyps : List ℕ) (formula : Term) → IsDeduction lines → Contains hyps n → Assumes lines n formula → Proves lines n hyps formula
assumes_proves lines n hyps formula d held a =
    let alone : a.line.hypotheses ≡ a.line.number ∷ [] = (found_in (IsJustified lines) lines n a.line d.justified a.found).hypotheses.0 a.assumed in
    let number : a.line.number ≡ n = found_number lines n a.line a.found in
    let P : List ℕ → Type 0 = λ ns. All (Contains hyps) ns in
    let Q : ℕ → Type 0 = λ k. All (Contains hyps) (k ∷ []) in
    record { line = a.line; found = a.found; rests = subst P (sym alone) (subst Q (sym number) (All-from_recursion (Contains hyps) (n ∷ []) (held, tt))); says = a.says }

pub assumes_within : (lines : List DeductionLine) (n : ℕ) (formula : Term) → IsDeduction lines → Assumes lines n formula → n ≤ length lines
assumes_within lines n formula d a = let within : n < 1 + length lines = numbered_within 1 lines n a.line d.numbered a.found in omega (arith, within)

pub next_is_above : (lines : List DeductionLine) (hyps : List ℕ) → IsDeduction lines → AreAssumptions lines hyps → IsAboveLast hyps (length lines + 1)
next_is_above lines hyps d h k last =
    let a = h k 0 (omega (arith, last)) in
    let within : slice_index hyps k ≤ length lines = assumes_within lines (slice_index hyps k) a.0 d a.1 in
    omega (arith, within)

-- the last line
last_line : (k : ℕ) (lines : List DeductionLine) (n : ℕ) (m : DeductionLine) → IsNumberedFrom k lines → line_of lines n ≡ Some m → n + 1 ≡ k + length lines → (before : List DeductionLine) × (lines ≡ before ++ m ∷ [])
last_line k [] n m h e last = cc
last_line k (x ∷ []) n m h e last = elim (eqb_tells x.number n) [
  | inl same ↦
      let found : Some x ≡ Some m = sym (ap (λ b. cond b (Some x) None) same.0) ∙ e in
      let here : x ≡ m = cc in
      ([], ap (λ (y : DeductionLine). y ∷ []) here)
  | inr other ↦ absurd (other.1 (omega (arith, h.0, last)))
]
last_line k (x ∷ y ∷ xs) n m h e last = elim (eqb_tells x.number n) [
  | inl same ↦ absurd (omega (arith, h.0, same.1, last))
  | inr other ↦
      let rest = last_line (k + 1) (y ∷ xs) n m h.1 (sym (ap (λ b. cond b (Some x) (line_of (y ∷ xs) n)) other.0) ∙ e) (omega (arith, last)) in
      (x ∷ rest.0, ap (λ (ls : List DeductionLine). x ∷ ls) rest.1)
]

none_held : (ns : List ℕ) → All (Contains []) ns → ns ≡ []
none_held [] h = refl
none_held (n ∷ ns) h = let held : Contains [] n = (recursion_from_All (Contains []) (n ∷ ns) h).0 in absurd (omega (arith, held.1))

pub ends_in_derivation : (lines : List DeductionLine) (formula : Term) → IsDeduction lines → Proves lines (length lines) [] formula → IsDerivation lines formula
ends_in_derivation lines formula d p =
    let last = last_line 1 lines (length lines) p.line d.numbered p.found (omega arith) in
    record {
      outline = d.outline;
      justified = d.justified;
      finished = d.finished;
      before = last.0;
      last = p.line;
      ends = last.1;
      proves = p.says;
      closed = none_held p.line.hypotheses p.rests;
    }
