-- Reading a form answers exactly the lines that the table gives it.
use Rattle.std.proofs.Common.{◌≡◌, ℕ, ◌==◌, ◌<◌, Bool, true, false, List, [], ◌∷◌, length, if◌then◌else◌, Option, Some, None, Ok, Err, codes, refl, ◌∙◌, ap, subst, inl, inr, arith}
use Rattle.std.specs.Prelude.{encode_utf8_all}
use Rattle.std.specs.List.{AllByRecursion}
use Rattle.std.proofs.lemmas.Bool.{eqb-true}
use Rattle.std.proofs.lemmas.List.Elements.{All-from_recursion, recursion_from_All}
use Rattle.core_text.specs.CoreForms.{pair_form, triple_form, term_form}
use Rattle.core_text.specs.Forms.{Form, word_form, number_form, list_form, no_forms, more_forms}
use Rattle.core_text.specs.Placed.{Placed, word_at, number_at, list_at, PlacedAll, none_at, more_at, form, forms}
use Rattle.core_text.specs.Reading.{◌>>=◌, name_at, number_in, term_at}
use Rattle.core_text.specs.Words.{same_bytes}
use Rattle.core_text.specs.Judged.{with_fault}
use Rattle.core_text.specs.declared.faults.TextFault.TheVariants.{BadForm}
use Rattle.core_text.proofs.NameLaws.{same_bytes-only}
use Rattle.core_text.proofs.Judgements.{with_fault_ok}
use Rattle.core_text.proofs.Shapes.{number_shape, pair_shape, triple_shape, word_shape}
use Rattle.core_text.proofs.Table.{bind_ok, choice_ok, name_read, name_spelled, number_read, number_spelled, term_read, term_spelled}
use Rattle.nd_rules.specs.Lines.{Justification, hypothesis, deduction, universal_instance, generalization, existential, choice, conversion, assignments, planned, DeductionLine, numbers_of}
use Rattle.nd_rules.specs.Outlines.{IsOutline, IsWellFormed}
use Rattle.nd_check.specs.Forms.{bare_form, derivation_form, line_form, line_forms, number_forms, why_form}
use Rattle.nd_check.specs.Texts.{LineHasNames, LinesHaveNames, WhyHasNames}
use Rattle.nd_check.specs.Reading.{Parts, above_in, bare_in, choice_at, conversion_at, derivation_at, hypotheses_at, line_at, lines_at, lines_in, lines_judged, numbers_at, parts_at, rule_at, two_at, version_at, why_at}
use Rattle.nd_check.proofs.Judged.{IsTypedLine, lines_judged_typed, typed_lines_judged}
use Rattle.nd_check.proofs.Lists.{four_shape, list_shape, more_shape, none_shape}
use Rattle.nd_check.proofs.Rises.{IsAbove, RisesFrom, above_read, above_spelled, numbers_read, numbers_spelled, rises_strictly, rising_read, rising_spelled, strictly_rises}

-- the form stands for the justification, its term typed or not
abbrev IsFormOfWhy : Form → Justification → Type 0
IsFormOfWhy f w = (f ≡ why_form w) × WhyHasNames w

bare_read : (w : List ℕ) (k : ℕ) (y : Justification) → bare_in w k ≡ Ok y → IsFormOfWhy (bare_form w) y
bare_read w k y e = elim (choice_ok (same_bytes w (codes "P")) (Ok hypothesis) _ y e) [
  | inl h ↦ let same : hypothesis ≡ y = let got = h.1 in cc in subst (IsFormOfWhy (bare_form w)) same (ap bare_form (same_bytes-only w (codes "P") h.0), tt)
  | inr e ↦ elim (choice_ok (same_bytes w (codes "PLANNED")) (Ok planned) (Err k) y e) [
    | inl h ↦ let same : planned ≡ y = let got = h.1 in cc in subst (IsFormOfWhy (bare_form w)) same (ap bare_form (same_bytes-only w (codes "PLANNED") h.0), tt)
    | inr e ↦ cc
  ]
]

conversion_read : (w : List ℕ) (x : Placed) (k : ℕ) (y : Justification) → conversion_at w x k ≡ Ok y → IsFormOfWhy (pair_form (word_form w) (form x)) y
conversion_read w x k y e = elim (choice_ok (same_bytes w (codes "LAMBDA")) (number_in x >>= λ d. Ok (conversion d)) (Err k) y e) [
  | inl h ↦
      let one = bind_ok (number_in x) (λ d. Ok (conversion d)) y h.1 in
      let got = one.2 in
      let same : conversion one.0 ≡ y = cc in
      subst (IsFormOfWhy (pair_form (word_form w) (form x))) same (rw (same_bytes-only w (codes "LAMBDA") h.0, number_read x one.0 one.1) refl, tt)
  | inr e ↦ cc
]

deduction_read : (w : List ℕ) (x z : Placed) (y : Justification) → same_bytes w (codes "DEDUCT") ≡ true → (number_in x >>= λ d. number_in z >>= λ h. Ok (deduction d h)) ≡ Ok y → IsFormOfWhy (triple_form (word_form w) (form x) (form z)) y
deduction_read w x z y h e =
    let one = bind_ok (number_in x) (λ d. number_in z >>= λ h. Ok (deduction d h)) y e in
    let two = bind_ok (number_in z) (λ h. Ok (deduction one.0 h)) y one.2 in
    let got = two.2 in
    let same : deduction one.0 two.0 ≡ y = cc in
    subst (IsFormOfWhy (triple_form (word_form w) (form x) (form z))) same (rw (same_bytes-only w (codes "DEDUCT") h, number_read x one.0 one.1, number_read z two.0 two.1) refl, tt)

instance_read : (w : List ℕ) (x z : Placed) (y : Justification) → same_bytes w (codes "UI") ≡ true → (number_in x >>= λ d. term_at z >>= λ t. Ok (universal_instance d t)) ≡ Ok y → IsFormOfWhy (triple_form (word_form w) (form x) (form z)) y
instance_read w x z y h e =
    let one = bind_ok (number_in x) (λ d. term_at z >>= λ t. Ok (universal_instance d t)) y e in
    let two = bind_ok (term_at z) (λ t. Ok (universal_instance one.0 t)) y one.2 in
    let got = two.2 in
    let same : universal_instance one.0 two.0 ≡ y = cc in
    let term = term_read z two.0 two.1 in
    subst (IsFormOfWhy (triple_form (word_form w) (form x) (form z))) same (rw (same_bytes-only w (codes "UI") h, number_read x one.0 one.1, term.0) refl, term.1)

existential_read : (w : List ℕ) (x z : Placed) (y : Justification) → same_bytes w (codes "EGEN") ≡ true → (number_in x >>= λ d. term_at z >>= λ t. Ok (existential d t)) ≡ Ok y → IsFormOfWhy (triple_form (word_form w) (form x) (form z)) y
existential_read w x z y h e =
    let one = bind_ok (number_in x) (λ d. term_at z >>= λ t. Ok (existential d t)) y e in
    let two = bind_ok (term_at z) (λ t. Ok (existential one.0 t)) y one.2 in
    let got = two.2 in
    let same : existential one.0 two.0 ≡ y = cc in
    let term = term_read z two.0 two.1 in
    subst (IsFormOfWhy (triple_form (word_form w) (form x) (form z))) same (rw (same_bytes-only w (codes "EGEN") h, number_read x one.0 one.1, term.0) refl, term.1)

generalization_read : (w : List ℕ) (x z : Placed) (y : Justification) → same_bytes w (codes "UGEN") ≡ true → (number_in x >>= λ d. name_at z >>= λ a. Ok (generalization d a)) ≡ Ok y → IsFormOfWhy (triple_form (word_form w) (form x) (form z)) y
generalization_read w x z y h e =
    let one = bind_ok (number_in x) (λ d. name_at z >>= λ a. Ok (generalization d a)) y e in
    let two = bind_ok (name_at z) (λ a. Ok (generalization one.0 a)) y one.2 in
    let got = two.2 in
    let same : generalization one.0 two.0 ≡ y = cc in
    let name = name_read z two.0 two.1 in
    subst (IsFormOfWhy (triple_form (word_form w) (form x) (form z))) same (rw (same_bytes-only w (codes "UGEN") h, number_read x one.0 one.1, name.0) refl, name.1)

two_read : (w : List ℕ) (x z : Placed) (k : ℕ) (y : Justification) → two_at w x z k ≡ Ok y → IsFormOfWhy (triple_form (word_form w) (form x) (form z)) y
two_read w x z k y e = elim (choice_ok (same_bytes w (codes "DEDUCT")) (number_in x >>= λ d. number_in z >>= λ h. Ok (deduction d h)) _ y e) [
  | inl h ↦ deduction_read w x z y h.0 h.1
  | inr e ↦ elim (choice_ok (same_bytes w (codes "UI")) (number_in x >>= λ d. term_at z >>= λ t. Ok (universal_instance d t)) _ y e) [
    | inl h ↦ instance_read w x z y h.0 h.1
    | inr e ↦ elim (choice_ok (same_bytes w (codes "EGEN")) (number_in x >>= λ d. term_at z >>= λ t. Ok (existential d t)) _ y e) [
      | inl h ↦ existential_read w x z y h.0 h.1
      | inr e ↦ elim (choice_ok (same_bytes w (codes "UGEN")) (number_in x >>= λ d. name_at z >>= λ a. Ok (generalization d a)) (Err k) y e) [
        | inl h ↦ generalization_read w x z y h.0 h.1
        | inr e ↦ cc
      ]
    ]
  ]
]

choice_read : (w : List ℕ) (p q r s : Placed) (k : ℕ) (y : Justification) → choice_at w p q r s k ≡ Ok y → IsFormOfWhy (list_form (more_forms (word_form w) (more_forms (form p) (more_forms (form q) (more_forms (form r) (more_forms (form s) no_forms)))))) y
choice_read w p q r s k y e = elim (choice_ok (same_bytes w (codes "RULEC")) (number_in p >>= λ e. number_in q >>= λ h. number_in r >>= λ d. name_at s >>= λ a. Ok (choice e h d a)) (Err k) y e) [
  | inl t ↦
      let one = bind_ok (number_in p) (λ e. number_in q >>= λ h. number_in r >>= λ d. name_at s >>= λ a. Ok (choice e h d a)) y t.1 in
      let two = bind_ok (number_in q) (λ h. number_in r >>= λ d. name_at s >>= λ a. Ok (choice one.0 h d a)) y one.2 in
      let three = bind_ok (number_in r) (λ d. name_at s >>= λ a. Ok (choice one.0 two.0 d a)) y two.2 in
      let four = bind_ok (name_at s) (λ a. Ok (choice one.0 two.0 three.0 a)) y three.2 in
      let got = four.2 in
      let same : choice one.0 two.0 three.0 four.0 ≡ y = cc in
      let name = name_read s four.0 four.1 in
      subst (IsFormOfWhy (list_form (more_forms (word_form w) (more_forms (form p) (more_forms (form q) (more_forms (form r) (more_forms (form s) no_forms))))))) same
      (rw (same_bytes-only w (codes "RULEC") t.0, number_read p one.0 one.1, number_read q two.0 two.1, number_read r three.0 three.1, name.0) refl, name.1)
  | inr e ↦ cc
]

rule_read : (w : List ℕ) (ps : PlacedAll) (k : ℕ) (y : Justification) → rule_at w ps k ≡ Ok y → IsFormOfWhy (list_form (more_forms (word_form w) (forms ps))) y
rule_read w none_at k y e = bare_read w k y e
rule_read w (more_at x none_at) k y e = conversion_read w x k y e
rule_read w (more_at x (more_at z none_at)) k y e = two_read w x z k y e
rule_read w (more_at p (more_at q (more_at r (more_at s none_at)))) k y e = choice_read w p q r s k y e
rule_read w (more_at p (more_at q (more_at r none_at))) k y e = cc
rule_read w (more_at p (more_at q (more_at r (more_at s (more_at t ps))))) k y e = cc

why_read : (p : Placed) (y : Justification) → why_at p ≡ Ok y → IsFormOfWhy (form p) y
why_read (word_at w k) y e = cc
why_read (number_at n k) y e = cc
why_read (list_at none_at k) y e = cc
why_read (list_at (more_at (number_at n j) ps) k) y e = cc
why_read (list_at (more_at (list_at qs j) ps) k) y e = cc
why_read (list_at (more_at (word_at w j) ps) k) y e = elim (choice_ok (same_bytes w (codes "RULEP")) (numbers_at ps >>= λ ds. Ok (assignments ds)) (rule_at w ps k) y e) [
  | inl h ↦
      let one = bind_ok (numbers_at ps) (λ ds. Ok (assignments ds)) y h.1 in
      let got = one.2 in
      let same : assignments one.0 ≡ y = cc in
      subst (IsFormOfWhy (list_form (more_forms (word_form w) (forms ps)))) same (rw (same_bytes-only w (codes "RULEP") h.0, numbers_read ps one.0 one.1) refl, tt)
  | inr e ↦ rule_read w ps k y e
]

-- a word alone in brackets
bare_shape : (p : Placed) (w : List ℕ) → form p ≡ bare_form w → (j : ℕ) × (k : ℕ) × (p ≡ list_at (more_at (word_at w j) none_at) k)
bare_shape p w e =
    let whole = list_shape p (more_forms (word_form w) no_forms) e in
    let one = more_shape whole.members (word_form w) no_forms whole.is_members in
    let head = word_shape one.first w one.is_first in
    (head.0, whole.place, whole.is ∙ ap (λ ps. list_at ps whole.place) (one.is ∙ ap (λ x. more_at x one.rest) head.1 ∙ ap (λ ps. more_at (word_at w head.0) ps) (none_shape one.rest one.is_rest)))

why_spelled : (y : Justification) (p : Placed) → form p ≡ why_form y → WhyHasNames y → why_at p ≡ Ok y
why_spelled hypothesis p e h = let shape = bare_shape p (codes "P") e in rw shape.2 refl
why_spelled planned p e h = let shape = bare_shape p (codes "PLANNED") e in rw shape.2 refl
why_spelled (deduction d k) p e h =
    let shape = triple_shape p (word_form (codes "DEDUCT")) (number_form d) (number_form k) e in
    let head = word_shape shape.first (codes "DEDUCT") shape.is_first in
    rw (shape.is, head.1, number_spelled d shape.second shape.is_second, number_spelled k shape.third shape.is_third) refl
why_spelled (universal_instance d t) p e h =
    let shape = triple_shape p (word_form (codes "UI")) (number_form d) (term_form t) e in
    let head = word_shape shape.first (codes "UI") shape.is_first in
    rw (shape.is, head.1, number_spelled d shape.second shape.is_second, term_spelled t shape.third shape.is_third h) refl
why_spelled (generalization d a) p e h =
    let shape = triple_shape p (word_form (codes "UGEN")) (number_form d) (word_form (encode_utf8_all a)) e in
    let head = word_shape shape.first (codes "UGEN") shape.is_first in
    rw (shape.is, head.1, number_spelled d shape.second shape.is_second, name_spelled a shape.third shape.is_third h) refl
why_spelled (existential d t) p e h =
    let shape = triple_shape p (word_form (codes "EGEN")) (number_form d) (term_form t) e in
    let head = word_shape shape.first (codes "EGEN") shape.is_first in
    rw (shape.is, head.1, number_spelled d shape.second shape.is_second, term_spelled t shape.third shape.is_third h) refl
why_spelled (choice x k d a) p e h =
    let whole = list_shape p (more_forms (word_form (codes "RULEC")) (more_forms (number_form x) (more_forms (number_form k) (more_forms (number_form d) (more_forms (word_form (encode_utf8_all a)) no_forms))))) e in
    let one = more_shape whole.members (word_form (codes "RULEC")) (more_forms (number_form x) (more_forms (number_form k) (more_forms (number_form d) (more_forms (word_form (encode_utf8_all a)) no_forms)))) whole.is_members in
    let head = word_shape one.first (codes "RULEC") one.is_first in
    let four = four_shape one.rest (number_form x) (number_form k) (number_form d) (word_form (encode_utf8_all a)) one.is_rest in
    rw (
      whole.is ∙ ap (λ ps. list_at ps whole.place) (one.is ∙ ap (λ x. more_at x one.rest) head.1 ∙ ap (λ ps. more_at (word_at (codes "RULEC") head.0) ps) four.is),
      number_spelled x four.first four.is_first,
      number_spelled k four.second four.is_second,
      number_spelled d four.third four.is_third,
      name_spelled a four.fourth four.is_fourth h,
    ) refl
why_spelled (conversion d) p e h =
    let shape = pair_shape p (word_form (codes "LAMBDA")) (number_form d) e in
    let head = word_shape shape.first (codes "LAMBDA") shape.is_first in
    rw (shape.is, head.1, number_spelled d shape.second shape.is_second) refl
why_spelled (assignments ds) p e h =
    let whole = list_shape p (more_forms (word_form (codes "RULEP")) (number_forms ds)) e in
    let one = more_shape whole.members (word_form (codes "RULEP")) (number_forms ds) whole.is_members in
    let head = word_shape one.first (codes "RULEP") one.is_first in
    rw (whole.is ∙ ap (λ ps. list_at ps whole.place) (one.is ∙ ap (λ x. more_at x one.rest) head.1), numbers_spelled ds one.rest one.is_rest) refl

-- lines
record IsFormOfLine (last : Option ℕ) (p : Placed) (l : DeductionLine) : Type 0 where
  pub spelled : form p ≡ line_form l
  pub names : LineHasNames l
  pub above : IsAbove last l.number
  pub rising : RisesFrom None l.hypotheses

hypotheses_read : (p : Placed) (hs : List ℕ) → hypotheses_at p ≡ Ok hs → (form p ≡ list_form (number_forms hs)) × RisesFrom None hs
hypotheses_read (word_at w k) hs e = cc
hypotheses_read (number_at n k) hs e = cc
hypotheses_read (list_at ps k) hs e = let read = rising_read None ps hs e in (ap list_form read.0, read.1)

hypotheses_spelled : (hs : List ℕ) (p : Placed) → form p ≡ list_form (number_forms hs) → RisesFrom None hs → hypotheses_at p ≡ Ok hs
hypotheses_spelled hs p e h =
    let whole = list_shape p (number_forms hs) e in
    rw (whole.is, rising_spelled None hs whole.members whole.is_members h) refl

line_read : (last : Option ℕ) (p : Placed) (l : DeductionLine) → line_at last p ≡ Ok l → IsFormOfLine last p l
line_read last (word_at w k) l e = cc
line_read last (number_at n k) l e = cc
line_read last (list_at none_at k) l e = cc
line_read last (list_at (more_at n none_at) k) l e = cc
line_read last (list_at (more_at n (more_at hs none_at)) k) l e = cc
line_read last (list_at (more_at n (more_at hs (more_at f none_at))) k) l e = cc
line_read last (list_at (more_at n (more_at hs (more_at f (more_at w (more_at x ps))))) k) l e = cc
line_read last (list_at (more_at n (more_at hs (more_at f (more_at w none_at)))) k) l e =
    let a = bind_ok (above_in last n) (λ i. hypotheses_at hs >>= λ js. term_at f >>= λ t. why_at w >>= λ y. Ok (let m : DeductionLine = record { number = i; hypotheses = js; formula = t; why = y } in m)) l e in
    let b = bind_ok (hypotheses_at hs) (λ js. term_at f >>= λ t. why_at w >>= λ y. Ok (let m : DeductionLine = record { number = a.0; hypotheses = js; formula = t; why = y } in m)) l a.2 in
    let c = bind_ok (term_at f) (λ t. why_at w >>= λ y. Ok (let m : DeductionLine = record { number = a.0; hypotheses = b.0; formula = t; why = y } in m)) l b.2 in
    let d = bind_ok (why_at w) (λ y. Ok (let m : DeductionLine = record { number = a.0; hypotheses = b.0; formula = c.0; why = y } in m)) l c.2 in
    let got = d.2 in
    let same : (let m : DeductionLine = record { number = a.0; hypotheses = b.0; formula = c.0; why = d.0 } in m) ≡ l = cc in
    let number = above_read last n a.0 a.1 in
    let hypotheses = hypotheses_read hs b.0 b.1 in
    let formula = term_read f c.0 c.1 in
    let why = why_read w d.0 d.1 in
    let P : DeductionLine → Type 0 = λ l. IsFormOfLine last (list_at (more_at n (more_at hs (more_at f (more_at w none_at)))) k) l in
    subst P same (record { spelled = rw (number.0, hypotheses.0, formula.0, why.0) refl; names = (formula.1, why.1); above = number.1; rising = hypotheses.1 })

line_spelled : (last : Option ℕ) (l : DeductionLine) (p : Placed) → IsFormOfLine last p l → line_at last p ≡ Ok l
line_spelled last l p h =
    let whole = list_shape p (more_forms (number_form l.number) (more_forms (list_form (number_forms l.hypotheses)) (more_forms (term_form l.formula) (more_forms (why_form l.why) no_forms)))) h.spelled in
    let four = four_shape whole.members (number_form l.number) (list_form (number_forms l.hypotheses)) (term_form l.formula) (why_form l.why) whole.is_members in
    rw (
      whole.is ∙ ap (λ ps. list_at ps whole.place) four.is,
      above_spelled last four.first l.number four.is_first h.above,
      hypotheses_spelled l.hypotheses four.second four.is_second h.rising,
      term_spelled l.formula four.third four.is_third h.names.0,
      why_spelled l.why four.fourth four.is_fourth h.names.1,
    ) refl

-- the hypotheses of each line rise
abbrev HypothesesRise : List DeductionLine → Type 0
HypothesesRise ls = AllByRecursion (λ (l : DeductionLine). RisesFrom None l.hypotheses) ls

record AreFormsOfLines (last : Option ℕ) (ps : PlacedAll) (ls : List DeductionLine) : Type 0 where
  pub spelled : forms ps ≡ line_forms ls
  pub names : LinesHaveNames ls
  pub above : RisesFrom last (numbers_of ls)
  pub rising : HypothesesRise ls

lines_read : (last : Option ℕ) (ps : PlacedAll) (ls : List DeductionLine) → lines_at last ps ≡ Ok ls → AreFormsOfLines last ps ls
lines_read last none_at ls e =
    let same : [] ≡ ls = cc in
    subst (AreFormsOfLines last none_at) same (record { spelled = refl; names = tt; above = tt; rising = tt })
lines_read last (more_at p ps) ls e =
    let one = bind_ok (line_at last p) (λ l. lines_at (Some l.number) ps >>= λ more. Ok (l ∷ more)) ls e in
    let two = bind_ok (lines_at (Some one.0.number) ps) (λ more. Ok (one.0 ∷ more)) ls one.2 in
    let got = two.2 in
    let same : one.0 ∷ two.0 ≡ ls = cc in
    let first = line_read last p one.0 one.1 in
    let rest = lines_read (Some one.0.number) ps two.0 two.1 in
    subst (AreFormsOfLines last (more_at p ps)) same (record {
      spelled = rw (first.spelled, rest.spelled) refl;
      names = (first.names, rest.names);
      above = (first.above, rest.above);
      rising = (first.rising, rest.rising);
    })

lines_spelled : (last : Option ℕ) (ls : List DeductionLine) (ps : PlacedAll) → AreFormsOfLines last ps ls → lines_at last ps ≡ Ok ls
lines_spelled last [] none_at h = refl
lines_spelled last [] (more_at p ps) h = let e = h.spelled in cc
lines_spelled last (l ∷ ls) none_at h = let e = h.spelled in cc
lines_spelled last (l ∷ ls) (more_at p ps) h =
    let e = h.spelled in
    let first : form p ≡ line_form l = cc in
    let rest : forms ps ≡ line_forms ls = cc in
    rw (
      line_spelled last l p (record { spelled = first; names = h.names.0; above = h.above.0; rising = h.rising.0 }),
      lines_spelled (Some l.number) ls ps (record { spelled = rest; names = h.names.1; above = h.above.1; rising = h.rising.1 }),
    ) refl

-- lines that were read and judged are an outline, and those of an outline are judged so
formed_line : (ls : List DeductionLine) → HypothesesRise ls → AllByRecursion IsTypedLine ls → AllByRecursion IsWellFormed ls
formed_line [] h t = tt
formed_line (l ∷ ls) h t = ((t.0.0, rises_strictly l.hypotheses h.0, t.0.1), formed_line ls h.1 t.1)

pub outline_from : (ps : PlacedAll) (ls : List DeductionLine) (done : Unit {0}) → lines_at None ps ≡ Ok ls → lines_judged ls ps ≡ Ok done → IsOutline ls
outline_from ps ls done e h =
    let read = lines_read None ps ls e in
    record {
      rising = rises_strictly (numbers_of ls) read.above;
      formed = All-from_recursion IsWellFormed ls (formed_line ls read.rising (lines_judged_typed ls ps done read.spelled h));
    }

rising_hypotheses : (ls : List DeductionLine) → AllByRecursion IsWellFormed ls → HypothesesRise ls
rising_hypotheses [] h = tt
rising_hypotheses (l ∷ ls) h = (strictly_rises l.hypotheses h.0.1, rising_hypotheses ls h.1)

typed_lines : (ls : List DeductionLine) → AllByRecursion IsWellFormed ls → AllByRecursion IsTypedLine ls
typed_lines [] h = tt
typed_lines (l ∷ ls) h = ((h.0.0, h.0.2), typed_lines ls h.1)

version_read : (v : Placed) (one : Unit {0}) → version_at v ≡ Ok one → form v ≡ number_form 1
version_read (word_at w k) one e = cc
version_read (list_at ps k) one e = cc
version_read (number_at n k) one e = go (n == 1) refl e
  where
    go : (b : Bool) → (n == 1) ≡ b → (if b then Ok tt else Err k) ≡ Ok one → number_form n ≡ number_form 1
    go true h e = ap number_form (eqb-true n 1 h)
    go false h e = cc

-- the parts of a derivation
abbrev form_of_parts : Parts → Form
form_of_parts q = list_form (more_forms (word_form (codes "DERIVATION")) (more_forms (form q.version) (forms q.lines)))

abbrev HasLine : PlacedAll → Type 0
HasLine none_at = ⊥
HasLine (more_at p ps) = Unit {0}

parts_read : (p : Placed) (q : Parts) → parts_at p ≡ Ok q → (form p ≡ form_of_parts q) × HasLine q.lines
parts_read (word_at w k) q e = cc
parts_read (number_at n k) q e = cc
parts_read (list_at none_at k) q e = cc
parts_read (list_at (more_at (number_at n j) ps) k) q e = cc
parts_read (list_at (more_at (list_at qs j) ps) k) q e = cc
parts_read (list_at (more_at (word_at w j) none_at) k) q e = cc
parts_read (list_at (more_at (word_at w j) (more_at v none_at)) k) q e = cc
parts_read (list_at (more_at (word_at w j) (more_at v (more_at l ls))) k) q e =
    elim (choice_ok (same_bytes w (codes "DERIVATION")) (Ok (let r : Parts = record { version = v; lines = more_at l ls } in r)) (Err k) q e) [
      | inl h ↦
          let got = h.1 in
          let same : (let r : Parts = record { version = v; lines = more_at l ls } in r) ≡ q = cc in
          let P : Parts → Type 0 = λ q. (list_form (more_forms (word_form w) (more_forms (form v) (more_forms (form l) (forms ls)))) ≡ form_of_parts q) × HasLine q.lines in
          subst P same (ap (λ x. list_form (more_forms (word_form x) (more_forms (form v) (more_forms (form l) (forms ls))))) (same_bytes-only w (codes "DERIVATION") h.0), tt)
      | inr e ↦ cc
    ]

some_line : (ps : PlacedAll) (ls : List DeductionLine) → HasLine ps → forms ps ≡ line_forms ls → 0 < length ls
some_line none_at ls h e = absurd h
some_line (more_at p ps) [] h e = cc
some_line (more_at p ps) (l ∷ ls) h e = omega arith

-- a form is read as lines exactly where it stands for an outline of at least one line
pub record IsFormOfOutline (f : Form) (ls : List DeductionLine) : Type 0 where
  pub spelled : f ≡ derivation_form ls
  pub some : 0 < length ls
  pub names : LinesHaveNames ls
  pub outline : IsOutline ls

pub derivation_read : (p : Placed) (ls : List DeductionLine) → derivation_at p ≡ Ok ls → IsFormOfOutline (form p) ls
derivation_read p ls e =
    let one = bind_ok (with_fault (λ k. BadForm k) (parts_at p)) (λ q. with_fault (λ k. BadForm k) (lines_in q) >>= λ ms. lines_judged ms q.lines >>= λ done. Ok ms) ls e in
    let q = one.0 in
    let two = bind_ok (with_fault (λ k. BadForm k) (lines_in q)) (λ ms. lines_judged ms q.lines >>= λ done. Ok ms) ls one.2 in
    let three = bind_ok (lines_judged two.0 q.lines) (λ done. Ok two.0) ls two.2 in
    let got = three.2 in
    let same : two.0 ≡ ls = cc in
    let outer = parts_read p q (with_fault_ok (λ k. BadForm k) (parts_at p) q one.1) in
    let inner = bind_ok (version_at q.version) (λ u. lines_at None q.lines) two.0 (with_fault_ok (λ k. BadForm k) (lines_in q) two.0 two.1) in
    let version = version_read q.version inner.0 inner.1 in
    let read = lines_read None q.lines two.0 inner.2 in
    let spelled : form_of_parts q ≡ derivation_form two.0 = rw (version, read.spelled) refl in
    subst (IsFormOfOutline (form p)) same (record {
      spelled = outer.0 ∙ spelled;
      some = some_line q.lines two.0 outer.1 read.spelled;
      names = read.names;
      outline = outline_from q.lines two.0 three.0 inner.2 three.1;
    })

parts_in : (ps rest : PlacedAll) (w v : Placed) (j k : ℕ) → HasLine rest → ps ≡ more_at w (more_at v rest) → w ≡ word_at (codes "DERIVATION") j → parts_at (list_at ps k) ≡ Ok (record { version = v; lines = rest })
parts_in ps none_at w v j k h e f = absurd h
parts_in ps (more_at l ls) w v j k h e f = rw (e, f) refl

line_there : (ps : PlacedAll) (ls : List DeductionLine) → 0 < length ls → forms ps ≡ line_forms ls → HasLine ps
line_there none_at [] h e = absurd (omega (arith, h))
line_there none_at (l ∷ ls) h e = cc
line_there (more_at p ps) ls h e = tt

pub derivation_spelled : (ls : List DeductionLine) (p : Placed) → IsFormOfOutline (form p) ls → derivation_at p ≡ Ok ls
derivation_spelled ls p h =
    let whole = list_shape p (more_forms (word_form (codes "DERIVATION")) (more_forms (number_form 1) (line_forms ls))) h.spelled in
    let one = more_shape whole.members (word_form (codes "DERIVATION")) (more_forms (number_form 1) (line_forms ls)) whole.is_members in
    let two = more_shape one.rest (number_form 1) (line_forms ls) one.is_rest in
    let head = word_shape one.first (codes "DERIVATION") one.is_first in
    let version = number_shape two.first 1 two.is_first in
    let formed = recursion_from_All IsWellFormed ls h.outline.formed in
    let parts : parts_at p ≡ Ok (record { version = two.first; lines = two.rest }) =
    ap parts_at whole.is ∙ parts_in whole.members two.rest one.first two.first head.0 whole.place (line_there two.rest ls h.some two.is_rest) (one.is ∙ ap (more_at one.first) two.is) head.1 in
    let lines = lines_spelled None ls two.rest (record { spelled = two.is_rest; names = h.names; above = strictly_rises (numbers_of ls) h.outline.rising; rising = rising_hypotheses ls formed }) in
    rw (parts, version.1, lines, typed_lines_judged ls two.rest (typed_lines ls formed)) refl

-- the lines of the parts, judged
pub parts_outline : (q : Parts) (ls : List DeductionLine) (done : Unit {0}) → lines_in q ≡ Ok ls → lines_judged ls q.lines ≡ Ok done → IsOutline ls
parts_outline q ls done e h =
    let inner = bind_ok (version_at q.version) (λ u. lines_at None q.lines) ls e in
    outline_from q.lines ls done inner.2 h
