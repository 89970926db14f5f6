-- Lines have formulas and typed terms exactly where the judgement finds no fault.
use Rattle.std.proofs.Common.{◌≡◌, ℕ, true, false, Bool, if◌then◌else◌, List, [], ◌∷◌, Option, Some, None, Result, Ok, Err, refl, sym, ◌∙◌, ap, subst}
use Rattle.std.specs.List.{AllByRecursion}
use Rattle.std.proofs.lemmas.Bool.{false_from_ne_true}
use Rattle.hol_terms.specs.Terms.{SimpleType, truth_type}
use Rattle.hol_terms.specs.Typing.{IsFormula, Typed}
use Rattle.hol_terms.specs.Computed.{same_type}
use Rattle.hol_terms.proofs.Same.{same_type_only}
use Rattle.core_text.specs.Faults.{IsFaultUnlessMemory, or_else}
use Rattle.core_text.specs.Placed.{Placed, PlacedAll, none_at, more_at, forms, place_of, third_of}
use Rattle.core_text.specs.Reading.{◌>>=◌}
use Rattle.core_text.specs.Judged.{fault_in, judged_at}
use Rattle.core_text.specs.declared.faults.TextFault.{TextFault}
use Rattle.core_text.specs.declared.faults.TextFault.TheVariants.{IllTyped}
use Rattle.core_text.proofs.Judgements.{judged_typed, typed_judged}
use Rattle.core_text.proofs.Results.{fault_first}
use Rattle.core_text.proofs.Table.{bind_ok}
use Rattle.nd_rules.specs.Lines.{Justification, hypothesis, deduction, universal_instance, generalization, existential, choice, conversion, assignments, planned, DeductionLine}
use Rattle.nd_rules.specs.Outlines.{HasTypedTerms}
use Rattle.nd_check.specs.Forms.{line_forms}
use Rattle.nd_check.specs.Reading.{formulas_judged, fourth_of, line_judged, lines_judged, other_at, terms_judged, unless_other, why_judged}

-- another type than O
pub other_found : (s : SimpleType) (k : ℕ) → (s ≡ truth_type → ⊥) → other_at s k ≡ Some k
other_found s k h = rw (false_from_ne_true (same_type s truth_type) (λ e. h (same_type_only s truth_type e))) refl

truth_only : (s : SimpleType) (k : ℕ) (u : Unit {0}) → unless_other (other_at s k) ≡ Ok u → s ≡ truth_type
truth_only s k u e = go (same_type s truth_type) refl e
  where
    go : (b : Bool) → same_type s truth_type ≡ b → unless_other (if b then None else Some k) ≡ Ok u → s ≡ truth_type
    go true h e = same_type_only s truth_type h
    go false h e = cc

-- the judgement of what is left, where a formula of another type was found or not
abbrev pub unless_found : Option ℕ → Result (Unit {0}) TextFault → Result (Unit {0}) TextFault
unless_found None r = r
unless_found (Some k) r = Err (IllTyped k)

abbrev pub judged_from : Option ℕ → List DeductionLine → PlacedAll → Result (Unit {0}) TextFault
judged_from found ls ps = terms_judged ls ps >>= λ done. unless_found found (formulas_judged ls ps)

unless_both : (found o : Option ℕ) (r : Result (Unit {0}) TextFault) → unless_found found (unless_other o >>= λ done. r) ≡ unless_found (or_else found o) r
unless_both None None r = refl
unless_both None (Some k) r = refl
unless_both (Some j) o r = refl

pub judged_end : (found : Option ℕ) (ps : PlacedAll) → judged_from found [] ps ≡ unless_other found
judged_end None ps = refl
judged_end (Some k) ps = refl

pub judged_short : (found : Option ℕ) (l : DeductionLine) (ls : List DeductionLine) → judged_from found (l ∷ ls) none_at ≡ unless_other found
judged_short None l ls = refl
judged_short (Some k) l ls = refl

-- one line more
pub judged_on : (found : Option ℕ) (l : DeductionLine) (ls : List DeductionLine) (p : Placed) (ps : PlacedAll) (s : SimpleType) (whole : Result (Unit {0}) TextFault) → line_judged l p ≡ Ok s
    → judged_from found (l ∷ ls) (more_at p ps) ≡ whole → judged_from (or_else found (other_at s (place_of (third_of p)))) ls ps ≡ whole
judged_on found l ls p ps s whole h w = sym first ∙ w
  where
    formula : judged_at l.formula (third_of p) ≡ Ok s
    formula =
        let one = bind_ok (judged_at l.formula (third_of p)) (λ r. why_judged l.why (fourth_of p) >>= λ done. Ok r) s h in
        let two = bind_ok (why_judged l.why (fourth_of p)) (λ done. Ok one.0) s one.2 in
        let got = two.2 in
        let same : one.0 ≡ s = cc in
        one.1 ∙ ap (λ (r : SimpleType). let t : Result SimpleType TextFault = Ok r in t) same

    k : ℕ
    k = place_of (third_of p)

    first : judged_from found (l ∷ ls) (more_at p ps) ≡ judged_from (or_else found (other_at s k)) ls ps
    first =
        ap (λ (r : Result SimpleType TextFault). (r >>= λ t. terms_judged ls ps) >>= λ done. unless_found found (judged_at l.formula (third_of p) >>= λ t. unless_other (other_at t k) >>= λ done. formulas_judged ls ps)) h
        ∙ ap (λ (r : Result SimpleType TextFault). terms_judged ls ps >>= λ done. unless_found found (r >>= λ t. unless_other (other_at t k) >>= λ done. formulas_judged ls ps)) formula
        ∙ ap (λ (r : Result (Unit {0}) TextFault). terms_judged ls ps >>= λ done. r) (unless_both found (other_at s k) (formulas_judged ls ps))

pub judged_failed : (e : TextFault) (found : Option ℕ) (l : DeductionLine) (ls : List DeductionLine) (p : Placed) (ps : PlacedAll) (whole : Result (Unit {0}) TextFault) → IsFaultUnlessMemory e (fault_in (line_judged l p))
    → judged_from found (l ∷ ls) (more_at p ps) ≡ whole → IsFaultUnlessMemory e (fault_in whole)
judged_failed e found l ls p ps whole h w =
    subst (λ (r : Result (Unit {0}) TextFault). IsFaultUnlessMemory e (fault_in r)) w
    (fault_first e (terms_judged (l ∷ ls) (more_at p ps)) (λ done. unless_found found (formulas_judged (l ∷ ls) (more_at p ps))) (fault_first e (line_judged l p) (λ s. terms_judged ls ps) h))

-- a formula, and a typed term in the justification
abbrev pub IsTypedLine : DeductionLine → Type 0
IsTypedLine l = IsFormula l.formula × HasTypedTerms l.why

typed_why_judged : (w : Justification) (p : Placed) → HasTypedTerms w → why_judged w p ≡ Ok tt
typed_why_judged hypothesis p h = refl
typed_why_judged (deduction d k) p h = refl
typed_why_judged (universal_instance d t) p h = rw (typed_judged t (third_of p) h.0 h.1) refl
typed_why_judged (generalization d a) p h = refl
typed_why_judged (existential d t) p h = rw (typed_judged t (third_of p) h.0 h.1) refl
typed_why_judged (choice e k d a) p h = refl
typed_why_judged (conversion d) p h = refl
typed_why_judged (assignments ds) p h = refl
typed_why_judged planned p h = refl

why_judged_typed : (w : Justification) (p : Placed) (done : Unit {0}) → why_judged w p ≡ Ok done → HasTypedTerms w
why_judged_typed hypothesis p done h = tt
why_judged_typed (deduction d k) p done h = tt
why_judged_typed (universal_instance d t) p done h = let one = bind_ok (judged_at t (third_of p)) (λ s. Ok tt) done h in (one.0, judged_typed t (third_of p) one.0 one.1)
why_judged_typed (generalization d a) p done h = tt
why_judged_typed (existential d t) p done h = let one = bind_ok (judged_at t (third_of p)) (λ s. Ok tt) done h in (one.0, judged_typed t (third_of p) one.0 one.1)
why_judged_typed (choice e k d a) p done h = tt
why_judged_typed (conversion d) p done h = tt
why_judged_typed (assignments ds) p done h = tt
why_judged_typed planned p done h = tt

typed_line_judged : (l : DeductionLine) (p : Placed) → IsTypedLine l → line_judged l p ≡ Ok truth_type
typed_line_judged l p h = rw (typed_judged l.formula (third_of p) truth_type h.0, typed_why_judged l.why (fourth_of p) h.1) refl

typed_terms : (ls : List DeductionLine) (ps : PlacedAll) → AllByRecursion IsTypedLine ls → terms_judged ls ps ≡ Ok tt
typed_terms [] ps h = refl
typed_terms (l ∷ ls) none_at h = refl
typed_terms (l ∷ ls) (more_at p ps) h = rw (typed_line_judged l p h.0) (typed_terms ls ps h.1)

typed_formulas : (ls : List DeductionLine) (ps : PlacedAll) → AllByRecursion IsTypedLine ls → formulas_judged ls ps ≡ Ok tt
typed_formulas [] ps h = refl
typed_formulas (l ∷ ls) none_at h = refl
typed_formulas (l ∷ ls) (more_at p ps) h = rw (typed_judged l.formula (third_of p) truth_type h.0.0) (typed_formulas ls ps h.1)

pub typed_lines_judged : (ls : List DeductionLine) (ps : PlacedAll) → AllByRecursion IsTypedLine ls → lines_judged ls ps ≡ Ok tt
typed_lines_judged ls ps h = rw (typed_terms ls ps h) (typed_formulas ls ps h)

-- both judgements of each line
judged_typed_lines : (ls : List DeductionLine) (ps : PlacedAll) (done ended : Unit {0}) → forms ps ≡ line_forms ls → terms_judged ls ps ≡ Ok done → formulas_judged ls ps ≡ Ok ended → AllByRecursion IsTypedLine ls
judged_typed_lines [] ps done ended e h i = tt
judged_typed_lines (l ∷ ls) none_at done ended e h i = cc
judged_typed_lines (l ∷ ls) (more_at p ps) done ended e h i =
    let rest : forms ps ≡ line_forms ls = cc in
    let one = bind_ok (line_judged l p) (λ s. terms_judged ls ps) done h in
    let two = bind_ok (judged_at l.formula (third_of p)) (λ r. why_judged l.why (fourth_of p) >>= λ done. Ok r) one.0 one.1 in
    let three = bind_ok (why_judged l.why (fourth_of p)) (λ done. Ok two.0) one.0 two.2 in
    let a = bind_ok (judged_at l.formula (third_of p)) (λ s. unless_other (other_at s (place_of (third_of p))) >>= λ done. formulas_judged ls ps) ended i in
    let b = bind_ok (unless_other (other_at a.0 (place_of (third_of p)))) (λ done. formulas_judged ls ps) ended a.2 in
    let formula = subst (Typed [] l.formula) (truth_only a.0 (place_of (third_of p)) b.0 b.1) (judged_typed l.formula (third_of p) a.0 a.1) in
    ((formula, why_judged_typed l.why (fourth_of p) three.0 three.1), judged_typed_lines ls ps done ended rest one.2 b.2)

pub lines_judged_typed : (ls : List DeductionLine) (ps : PlacedAll) (done : Unit {0}) → forms ps ≡ line_forms ls → lines_judged ls ps ≡ Ok done → AllByRecursion IsTypedLine ls
lines_judged_typed ls ps done e h =
    let one = bind_ok (terms_judged ls ps) (λ d. formulas_judged ls ps) done h in
    judged_typed_lines ls ps one.0 done e one.1 one.2
