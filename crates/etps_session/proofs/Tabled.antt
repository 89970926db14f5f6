-- An accepted request has a formula.
use Rattle.std.proofs.Common.{◌≡◌, ◌≢◌, ◌∙◌, ℕ, ◌<◌, ◌==◌, nat_lt, List, [], ◌∷◌, ◌++◌, Bool, true, false, not, cond, ◌&&◌, ◌⊎◌, inl, inr, refl, sym, ap, ap₂, subst, arith}
use Rattle.std.specs.Prelude.{Option, Some, None, find}
use Rattle.std.specs.List.{AllByRecursion}
use Rattle.std.proofs.lemmas.Bool.Decides.{eqb_tells, nat_tests}
use Rattle.hol_terms.specs.Indices.{instance_of}
use Rattle.hol_terms.specs.Terms.{SimpleType, Term, Variable}
use Rattle.nd_rules.specs.Lines.{Justification, DeductionLine, cited, line_of, line_with, IsLine}
use Rattle.nd_rules.specs.Rules.{HasShape, HasTypedTerm, is_hypothesis, is_late}
use Rattle.etps_session.specs.Answers.{Accepts, judged_line}
use Rattle.etps_session.specs.Commands.{Request, suppose, plan, deduce, instantiate, generalize, witness, choose, convert, follow, why_of}
use Rattle.etps_session.specs.Tables.{formula_at, formula_in, generalization_of, implication_of, instance_in, table_formula, universal_in}
use Rattle.etps_session.proofs.Typed.{instance_made}
use Rattle.etps_session.proofs.Undone.{judged_why}

-- a search that finds nothing
none_late : (l : DeductionLine) (ns : List ℕ) → find (is_late l) ns ≡ None → AllByRecursion (λ n. is_late l n ≡ false) ns
none_late l [] h = tt
none_late l (n ∷ ns) h = go (is_late l n) refl (none_late l ns) h
  where
    go : (b : Bool) → is_late l n ≡ b → (find (is_late l) ns ≡ None → AllByRecursion (λ n. is_late l n ≡ false) ns) → cond b (Some n) (find (is_late l) ns) ≡ None
        → (is_late l n ≡ false) × AllByRecursion (λ n. is_late l n ≡ false) ns
    go true e rest h = cc
    go false e rest h = (e, rest h)

-- a line that isn't late is not the line itself, unless this is a hypothesis
not_own : (l : DeductionLine) (n : ℕ) → is_hypothesis l.why ≡ false → is_late l n ≡ false → n ≢ l.number
not_own l n w early same = go (nat_lt n l.number) (is_hypothesis l.why) (n == l.number) (grind (arith, nat_tests)) w early
  where
    go : (a b c : Bool) → a ≡ false → b ≡ false → (not a && not (b && c)) ≡ false → ⊥
    go true b c e f g = cc
    go false true c e f g = cc
    go false false c e f g = cc

-- so it is the line of its number
found_there : (lines : List DeductionLine) (l : DeductionLine) (n : ℕ) (m : DeductionLine) → is_hypothesis l.why ≡ false → is_late l n ≡ false → IsLine lines l n m → formula_at lines n ≡ Some m.formula
found_there lines l n m w early e = go (eqb_tells n l.number)
  where
    go : ((n == l.number) ≡ true) × (n ≡ l.number) ⊎ ((n == l.number) ≡ false) × (n ≢ l.number) → formula_at lines n ≡ Some m.formula
    go (inl here) = absurd (not_own l n w early here.1)
    go (inr other) = ap formula_in (sym (ap (λ (b : Bool). cond b (Some l) (line_of lines n)) other.0) ∙ e)

some_isnt_none : (o : Option Term) (a : Term) → o ≡ Some a → o ≢ None
some_isnt_none o a e f = cc

-- by what the rule asks of the cited lines
has_formula : (lines : List DeductionLine) (l : DeductionLine) (r : Request) → l.why ≡ why_of r → find (is_late l) (cited (why_of r) ++ l.hypotheses) ≡ None
    → HasShape lines l (why_of r) → HasTypedTerm lines l (why_of r) → table_formula lines r ≢ None
has_formula lines l (suppose n a) w early shape typed = some_isnt_none (Some a) a refl
has_formula lines l (plan n hs a) w early shape typed = some_isnt_none (Some a) a refl
has_formula lines l (deduce n d h) w early shape typed =
    let none = none_late l (d ∷ h ∷ l.hypotheses) early in
    let source = found_there lines l d shape.0 (ap is_hypothesis w) none.0 shape.1 in
    let hyp = found_there lines l h shape.2 (ap is_hypothesis w) none.1.0 shape.3 in
    some_isnt_none (implication_of (formula_at lines h) (formula_at lines d)) _ (ap₂ implication_of hyp source)
has_formula lines l (instantiate n d t) w early shape typed =
    let none = none_late l (d ∷ l.hypotheses) early in
    let source = found_there lines l d typed.0 (ap is_hypothesis w) none.0 typed.1 in
    some_isnt_none (instance_in (universal_in (formula_at lines d)) t) (instance_of typed.3 t)
    (
    ap (λ (o : Option Term). instance_in (universal_in o) t) source
    ∙ sym (instance_made typed.0.formula typed.3 t (instance_of typed.3 t) typed.2 typed.4 typed.5 refl)
    )
has_formula lines l (generalize n d v) w early shape typed =
    let none = none_late l (d ∷ l.hypotheses) early in
    let source = found_there lines l d shape.0 (ap is_hypothesis w) none.0 shape.1 in
    some_isnt_none (generalization_of v (formula_at lines d)) _ (ap (generalization_of v) source)
has_formula lines l (witness n d t a) w early shape typed = some_isnt_none (Some a) a refl
has_formula lines l (choose n e h d a) w early shape typed =
    let none = none_late l (e ∷ h ∷ d ∷ l.hypotheses) early in
    let source = found_there lines l d shape.4 (ap is_hypothesis w) none.1.1.0 shape.5 in
    some_isnt_none (formula_at lines d) shape.4.formula source
has_formula lines l (convert n d a) w early shape typed = some_isnt_none (Some a) a refl
has_formula lines l (follow n ds a) w early shape typed = some_isnt_none (Some a) a refl

pub accepted_has_formula : (lines : List DeductionLine) (r : Request) → Accepts lines r → table_formula lines r ≢ None
accepted_has_formula lines r a =
    let l = judged_line lines r in
    let why : l.why ≡ why_of r = judged_why lines r in
    has_formula lines l r why
    (subst (λ (w : Justification). find (is_late l) (cited w ++ l.hypotheses) ≡ None) why a.justified.earlier)
    (subst (HasShape lines l) why a.justified.shape)
    (subst (HasTypedTerm lines l) why a.justified.typed)
