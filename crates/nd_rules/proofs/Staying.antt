-- A justified line stays justified by lines that say the same at the numbers that it names.
use Rattle.std.proofs.Common.{◌≡◌, ◌≢◌, ℕ, suc, ◌<◌, ◌≤◌, ◌==◌, nat_lt, List, [], ◌∷◌, ◌++◌, Bool, true, false, not, cond, ◌&&◌, refl, sym, ◌∙◌, ap, ap₂, subst, arith, ◌⊎◌, inl, inr}
use Rattle.std.specs.Prelude.{Option, Some, None, is_none, find, filter, map, All, Contains}
use Rattle.std.specs.List.{AllByRecursion, flat_map}
use Rattle.std.proofs.lemmas.Bool.Decides.{eqb_tells, nat_tests}
use Rattle.std.proofs.lemmas.List.Elements.{recursion_from_All, All-from_recursion}
use Rattle.hol_terms.specs.Terms.{SimpleType, Term, truth_type, free}
use Rattle.hol_terms.specs.FreeVariables.{IsFree, IsBodyOver}
use Rattle.hol_terms.specs.Indices.{instance_of}
use Rattle.hol_terms.specs.Truth.{Follows}
use Rattle.hol_terms.specs.Typing.{Typed}
use Rattle.hol_conv.specs.Conversion.{Conv}
use Rattle.nd_rules.specs.Laws.{SaysTheSame, SayTheSame, IsPlannedAt}
use Rattle.nd_rules.specs.Lines.{Justification, hypothesis, deduction, universal_instance, generalization, existential, choice, conversion, assignments, planned, DeductionLine, cited, named_by, line_of, line_with, IsLine}
use Rattle.nd_rules.specs.Outlines.{with_line, with_why}
use Rattle.nd_rules.specs.Rules.{is_missing, is_late, is_hypothesis, implies, universal, existence, HasShape, hypotheses_in, hypotheses_of, discharged, inherited, IsHypothesisLine, HasHypotheses, IsRuleVariable, barred, IsFreeIn, HasNewVariable, formulas_in, formulas_of, IsConsequence, IsConverted, HasTypedTerm, IsJustified}

-- what holds of each number of two lists
both_each : (P : ℕ → Type 0) (ns ms : List ℕ) → AllByRecursion P (ns ++ ms) → AllByRecursion P ns × AllByRecursion P ms
both_each P [] ms h = (tt, h)
both_each P (n ∷ ns) ms h = let rest = both_each P ns ms h.1 in ((h.0, rest.0), rest.1)

each_weaker : (P Q : ℕ → Type 0) (ns : List ℕ) → ((n : ℕ) → P n → Q n) → AllByRecursion P ns → AllByRecursion Q ns
each_weaker P Q [] f h = tt
each_weaker P Q (n ∷ ns) f h = (f n h.0, each_weaker P Q ns f h.1)

some_isnt_none : (n : ℕ) → Some n ≡ None → ⊥
some_isnt_none n e = cc

-- a search that finds nothing
none_found : (p : ℕ → Bool) (ns : List ℕ) → find p ns ≡ None → AllByRecursion (λ n. p n ≡ false) ns
none_found p [] h = tt
none_found p (n ∷ ns) h = go (p n) refl h (none_found p ns)
  where
    go : (b : Bool) → p n ≡ b → cond b (Some n) (find p ns) ≡ None → (find p ns ≡ None → AllByRecursion (λ n. p n ≡ false) ns) → (p n ≡ false) × AllByRecursion (λ n. p n ≡ false) ns
    go true e h rest = absurd (some_isnt_none n h)
    go false e h rest = (e, rest h)

found_none : (p : ℕ → Bool) (ns : List ℕ) → AllByRecursion (λ n. p n ≡ false) ns → find p ns ≡ None
found_none p [] h = refl
found_none p (n ∷ ns) h = ap (λ b. cond b (Some n) (find p ns)) h.0 ∙ found_none p ns h.1

true_isnt_false : true ≡ false → ⊥
true_isnt_false e = cc

-- a number that isn't late is at most the line's own
early_small : (l : DeductionLine) (n : ℕ) → is_late l n ≡ false → n ≤ l.number
early_small l n h = go (nat_lt n l.number) refl (is_hypothesis l.why) (n == l.number) refl h
  where
    go : (a : Bool) → nat_lt n l.number ≡ a → (b c : Bool) → (n == l.number) ≡ c → (not a && not (b && c)) ≡ false → n ≤ l.number
    go true less b c same e = grind (arith, nat_tests)
    go false less b true same e = elim (eqb_tells n l.number) [ inl here ↦ omega (arith, here.1) | inr other ↦ absurd (true_isnt_false (sym same ∙ other.0)) ]
    go false less true false same e = absurd (true_isnt_false e)
    go false less false false same e = absurd (true_isnt_false e)

module _ (lines others : List DeductionLine) (l : DeductionLine) (Named : ℕ → Type 0) (own : Named l.number) (same : (n : ℕ) → Named n → n ≢ l.number → SayTheSame (line_of lines n) (line_of others n)) where
  -- with l put at its number
  itself : SaysTheSame l l
  itself = record { formula = refl; hypotheses = refl; assumed = λ h. h }

  with_same : (n : ℕ) → Named n → SayTheSame (line_with lines l n) (line_with others l n)
  with_same n small = go (n == l.number) (eqb_tells n l.number)
    where
      go : (b : Bool) → ((b ≡ true) × (n ≡ l.number)) ⊎ ((b ≡ false) × (n ≢ l.number)) → SayTheSame (cond b (Some l) (line_of lines n)) (cond b (Some l) (line_of others n))
      go true tells = itself
      go false (inl here) = absurd (true_isnt_false (sym here.0))
      go false (inr other) = same n small other.1

  -- a line found is found among the others
  abbrev Found : ℕ → DeductionLine → Type 0
  Found n m = (k : DeductionLine) × IsLine others l n k × SaysTheSame m k

  found_in : (o p : Option DeductionLine) (m : DeductionLine) → SayTheSame o p → o ≡ Some m → (k : DeductionLine) × (p ≡ Some k) × SaysTheSame m k
  found_in None p m h e = cc
  found_in (Some a) None m h e = absurd h
  found_in (Some a) (Some k) m h e = let here : a ≡ m = cc in (k, refl, subst (λ (x : DeductionLine). SaysTheSame x k) here h)

  found : (n : ℕ) (m : DeductionLine) → Named n → IsLine lines l n m → Found n m
  found n m small e = found_in (line_with lines l n) (line_with others l n) m (with_same n small) e

  -- and a line of the others was found before
  before_in : (o p : Option DeductionLine) (k : DeductionLine) → SayTheSame o p → p ≡ Some k → (m : DeductionLine) × (o ≡ Some m) × SaysTheSame m k
  before_in None None k h e = cc
  before_in None (Some a) k h e = absurd h
  before_in (Some m) None k h e = cc
  before_in (Some m) (Some a) k h e = let here : a ≡ k = cc in (m, refl, subst (λ (x : DeductionLine). SaysTheSame m x) here h)

  before : (n : ℕ) (k : DeductionLine) → Named n → IsLine others l n k → (m : DeductionLine) × IsLine lines l n m × SaysTheSame m k
  before n k small e = before_in (line_with lines l n) (line_with others l n) k (with_same n small) e

  missing_in : (o p : Option DeductionLine) → SayTheSame o p → is_none o ≡ is_none p
  missing_in None None h = refl
  missing_in None (Some k) h = absurd h
  missing_in (Some m) None h = absurd h
  missing_in (Some m) (Some k) h = refl

  still_there : (n : ℕ) → Named n → is_missing lines l n ≡ false → is_missing others l n ≡ false
  still_there n small e = sym (missing_in (line_with lines l n) (line_with others l n) (with_same n small)) ∙ e

  hypotheses_in-same : (o p : Option DeductionLine) → SayTheSame o p → hypotheses_in p ≡ hypotheses_in o
  hypotheses_in-same None None h = refl
  hypotheses_in-same None (Some k) h = absurd h
  hypotheses_in-same (Some m) None h = absurd h
  hypotheses_in-same (Some m) (Some k) h = h.hypotheses

  hypotheses_same : (n : ℕ) → Named n → hypotheses_of others l n ≡ hypotheses_of lines l n
  hypotheses_same n small = hypotheses_in-same (line_with lines l n) (line_with others l n) (with_same n small)

  formulas_in-same : (o p : Option DeductionLine) → SayTheSame o p → formulas_in p ≡ formulas_in o
  formulas_in-same None None h = refl
  formulas_in-same None (Some k) h = absurd h
  formulas_in-same (Some m) None h = absurd h
  formulas_in-same (Some m) (Some k) h = ap (λ (t : Term). t ∷ []) h.formula

  abbrev Small : List ℕ → Type 0
  Small ns = AllByRecursion Named ns

  formulas_same : (ns : List ℕ) → Small ns → formulas_of others l ns ≡ formulas_of lines l ns
  formulas_same [] h = refl
  formulas_same (n ∷ ns) h = ap₂ (λ (a b : List Term). a ++ b) (formulas_in-same (line_with lines l n) (line_with others l n) (with_same n h.0)) (formulas_same ns h.1)

  each_hypotheses_same : (ns : List ℕ) → Small ns → flat_map (hypotheses_of others l) ns ≡ flat_map (hypotheses_of lines l) ns
  each_hypotheses_same [] h = refl
  each_hypotheses_same (n ∷ ns) h = ap₂ (λ (a b : List ℕ). a ++ b) (hypotheses_same n h.0) (each_hypotheses_same ns h.1)

  inherited_same : (w : Justification) → Small (cited w) → inherited others l w ≡ inherited lines l w
  inherited_same hypothesis h = refl
  inherited_same (deduction d e) h = ap (discharged e) (hypotheses_same d h.0)
  inherited_same (universal_instance d t) h = hypotheses_same d h.0
  inherited_same (generalization d a) h = hypotheses_same d h.0
  inherited_same (existential d t) h = hypotheses_same d h.0
  inherited_same (choice e k d a) h = ap₂ (λ (a b : List ℕ). a ++ discharged k b) (hypotheses_same e h.0) (hypotheses_same d h.1.1.0)
  inherited_same (conversion d) h = hypotheses_same d h.0
  inherited_same (assignments ds) h = each_hypotheses_same ds h
  inherited_same planned h = refl

  shape_stays : (w : Justification) → Small (cited w) → HasShape lines l w → HasShape others l w
  shape_stays hypothesis s h = tt
  shape_stays (deduction d e) s h =
      let source = found d h.0 s.0 h.1 in
      let hyp = found e h.2 s.1.0 h.3 in
      (source.0, source.1, hyp.0, hyp.1, hyp.2.assumed h.4, h.5 ∙ ap₂ implies (sym hyp.2.formula) (sym source.2.formula))
  shape_stays (universal_instance d t) s h =
      let source = found d h.0 s.0 h.1 in
      (source.0, source.1, h.2, h.3, source.2.formula ∙ h.4, h.5)
  shape_stays (generalization d a) s h =
      let source = found d h.0 s.0 h.1 in
      let P : Term → Type 0 = λ t. IsBodyOver a h.2 t h.3 in
      (source.0, source.1, h.2, h.3, h.4, subst P (sym source.2.formula) h.5)
  shape_stays (existential d t) s h =
      let source = found d h.0 s.0 h.1 in
      (source.0, source.1, h.2, h.3, h.4, λ typed. source.2.formula ∙ h.5 typed)
  shape_stays (choice e k d a) s h =
      let some = found e h.0 s.0 h.1 in
      let hyp = found k h.2 s.1.0 h.3 in
      let source = found d h.4 s.1.1.0 h.5 in
      (some.0, some.1, hyp.0, hyp.1, source.0, source.1, h.6, h.7, some.2.formula ∙ h.8, hyp.2.assumed h.9, hyp.2.formula ∙ h.10, h.11 ∙ sym source.2.formula)
  shape_stays (conversion d) s h = tt
  shape_stays (assignments ds) s h = tt
  shape_stays planned s h = tt

  assumed_stay : (ns : List ℕ) → Small ns → AllByRecursion (IsHypothesisLine lines l) ns → AllByRecursion (IsHypothesisLine others l) ns
  assumed_stay [] s h = tt
  assumed_stay (n ∷ ns) s h = let k = found n h.0.0 s.0 h.0.1 in ((k.0, k.1, k.2.assumed h.0.2), assumed_stay ns s.1 h.1)

  hypotheses_stay : Small (cited l.why) → Small l.hypotheses → HasHypotheses lines l → HasHypotheses others l
  hypotheses_stay c s h = (
    h.0,
    subst (All (Contains l.hypotheses)) (sym (inherited_same l.why c)) h.1,
    All-from_recursion (IsHypothesisLine others l) l.hypotheses (assumed_stay l.hypotheses s (recursion_from_All (IsHypothesisLine lines l) l.hypotheses h.2)),
  )

  -- the rule's variable among the others was that of before
  variable_before : (w : Justification) (a : List ℕ) (s : SimpleType) → Small (cited w) → IsRuleVariable others l w a s → IsRuleVariable lines l w a s
  variable_before hypothesis a s c h = absurd h
  variable_before (deduction d e) a s c h = absurd h
  variable_before (universal_instance d t) a s c h = absurd h
  variable_before (generalization d b) a s c h = h
  variable_before (existential d t) a s c h = absurd h
  variable_before (choice e k d b) a s c h = let m = before e h.1.0 c.0 h.1.1 in (h.0, (m.0, m.1, (h.1.2.0, sym m.2.formula ∙ h.1.2.1)))
  variable_before (conversion d) a s c h = absurd h
  variable_before (assignments ds) a s c h = absurd h
  variable_before planned a s c h = absurd h

  free_before : (n : ℕ) → Named n → Small (cited l.why) → IsFreeIn others l n → IsFreeIn lines l n
  free_before n small c h =
      let m = before n h.3.0 small h.3.1 in
      let P : Term → Type 0 = λ t. IsFree h.0 h.1 t in
      (h.0, h.1, variable_before l.why h.0 h.1 c h.2, (m.0, m.1, subst P m.2.formula h.3.2))

  barred_small : (w : Justification) → Small (cited w) → Small l.hypotheses → Small (barred l w)
  barred_small hypothesis c s = tt
  barred_small (deduction d e) c s = tt
  barred_small (universal_instance d t) c s = tt
  barred_small (generalization d a) c s = s
  barred_small (existential d t) c s = tt
  barred_small (choice e k d a) c s = (c.0, (own, s))
  barred_small (conversion d) c s = tt
  barred_small (assignments ds) c s = tt
  barred_small planned c s = tt

  none_free : (ns : List ℕ) → Small ns → Small (cited l.why) → AllByRecursion (λ n. IsFreeIn lines l n → ⊥) ns → AllByRecursion (λ n. IsFreeIn others l n → ⊥) ns
  none_free [] s c h = tt
  none_free (n ∷ ns) s c h = (λ f. h.0 (free_before n s.0 c f), none_free ns s.1 c h.1)

  variable_stays : Small (cited l.why) → Small l.hypotheses → HasNewVariable lines l → HasNewVariable others l
  variable_stays c s h =
      All-from_recursion (λ n. IsFreeIn others l n → ⊥) (barred l l.why) (none_free (barred l l.why) (barred_small l.why c s) c (recursion_from_All (λ n. IsFreeIn lines l n → ⊥) (barred l l.why) h))

  consequence_stays : (w : Justification) → Small (cited w) → IsConsequence lines l w → IsConsequence others l w
  consequence_stays hypothesis s h = tt
  consequence_stays (deduction d e) s h = tt
  consequence_stays (universal_instance d t) s h = tt
  consequence_stays (generalization d a) s h = tt
  consequence_stays (existential d t) s h = tt
  consequence_stays (choice e k d a) s h = tt
  consequence_stays (conversion d) s h = tt
  consequence_stays (assignments ds) s h = let P : List Term → Type 0 = λ ts. Follows ts l.formula in subst P (sym (formulas_same ds s)) h
  consequence_stays planned s h = tt

  converted_stays : (w : Justification) → Small (cited w) → IsConverted lines l w → IsConverted others l w
  converted_stays hypothesis s h = tt
  converted_stays (deduction d e) s h = tt
  converted_stays (universal_instance d t) s h = tt
  converted_stays (generalization d a) s h = tt
  converted_stays (existential d t) s h = tt
  converted_stays (choice e k d a) s h = tt
  converted_stays (conversion d) s h =
      let source = found d h.0 s.0 h.1 in
      let P : Term → Type 0 = λ t. Conv [] truth_type t l.formula in
      (source.0, source.1, subst P (sym source.2.formula) h.2)
  converted_stays (assignments ds) s h = tt
  converted_stays planned s h = tt

  typed_stays : (w : Justification) → Small (cited w) → HasTypedTerm lines l w → HasTypedTerm others l w
  typed_stays hypothesis s h = tt
  typed_stays (deduction d e) s h = tt
  typed_stays (universal_instance d t) s h =
      let source = found d h.0 s.0 h.1 in
      (source.0, source.1, h.2, h.3, source.2.formula ∙ h.4, h.5)
  typed_stays (generalization d a) s h = tt
  typed_stays (existential d t) s h = h
  typed_stays (choice e k d a) s h = tt
  typed_stays (conversion d) s h = tt
  typed_stays (assignments ds) s h = tt
  typed_stays planned s h = tt

  there_stays : (ns : List ℕ) → Small ns → AllByRecursion (λ n. is_missing lines l n ≡ false) ns → AllByRecursion (λ n. is_missing others l n ≡ false) ns
  there_stays [] s h = tt
  there_stays (n ∷ ns) s h = (still_there n s.0 h.0, there_stays ns s.1 h.1)

  stays_by : AllByRecursion Named (named_by l) → IsJustified lines l → IsJustified others l
  stays_by named j =
      let parts = both_each Named (cited l.why) l.hypotheses named in
      record {
        there = found_none (is_missing others l) (named_by l) (there_stays (named_by l) named (none_found (is_missing lines l) (named_by l) j.there));
        earlier = j.earlier;
        shape = shape_stays l.why parts.0 j.shape;
        hypotheses = hypotheses_stay parts.0 parts.1 j.hypotheses;
        variable = variable_stays parts.0 parts.1 j.variable;
        consequence = consequence_stays l.why parts.0 j.consequence;
        converted = converted_stays l.why parts.0 j.converted;
        typed = typed_stays l.why parts.0 j.typed;
      }

-- by lines that say the same up to its number
pub stays : (lines others : List DeductionLine) (l : DeductionLine) → ((n : ℕ) → n ≤ l.number → SayTheSame (line_of lines n) (line_of others n)) → IsJustified lines l → IsJustified others l
stays lines others l same j =
    stays_by lines others l (λ n. n ≤ l.number) (omega arith) (λ n small other. same n small)
    (each_weaker (λ n. is_late l n ≡ false) (λ n. n ≤ l.number) (named_by l) (early_small l) (none_found (is_late l) (named_by l) j.earlier)) j

-- a line put in is the line of its number alone
line_put : (lines : List DeductionLine) (m : DeductionLine) (n : ℕ) → n < m.number → line_of (with_line lines m) n ≡ line_of lines n
line_put [] m n less = elim (eqb_tells m.number n) [ inl same ↦ absurd (omega (arith, same.1)) | inr other ↦ ap (λ b. cond b (Some m) None) other.0 ]
line_put (x ∷ xs) m n less = go (nat_lt x.number m.number) (line_put xs m n less)
  where
    go : (b : Bool) → line_of (with_line xs m) n ≡ line_of xs n → line_of (cond b (x ∷ with_line xs m) (m ∷ x ∷ xs)) n ≡ line_of (x ∷ xs) n
    go true rest = ap (λ o. cond (x.number == n) (Some x) o) rest
    go false rest = elim (eqb_tells m.number n) [ inl same ↦ absurd (omega (arith, same.1)) | inr other ↦ ap (λ b. cond b (Some m) (line_of (x ∷ xs) n)) other.0 ]

pub alike : (o : Option DeductionLine) → SayTheSame o o
alike None = tt
alike (Some m) = record { formula = refl; hypotheses = refl; assumed = λ h. h }

pub stays_under_later : (lines : List DeductionLine) (l m : DeductionLine) → l.number < m.number → IsJustified lines l → IsJustified (with_line lines m) l
stays_under_later lines l m later j =
    stays lines (with_line lines m) l (λ n small. let P : Option DeductionLine → Type 0 = λ o. SayTheSame (line_of lines n) o in subst P (sym (line_put lines m n (omega (arith, later, small)))) (alike (line_of lines n))) j

-- another line is as it was, where one is put in
pub other_put : (lines : List DeductionLine) (m : DeductionLine) (n : ℕ) → n ≢ m.number → line_of (with_line lines m) n ≡ line_of lines n
other_put [] m n differ = elim (eqb_tells m.number n) [ inl same ↦ absurd (differ (sym same.1)) | inr other ↦ ap (λ b. cond b (Some m) None) other.0 ]
other_put (x ∷ xs) m n differ = go (nat_lt x.number m.number) (other_put xs m n differ)
  where
    go : (b : Bool) → line_of (with_line xs m) n ≡ line_of xs n → line_of (cond b (x ∷ with_line xs m) (m ∷ x ∷ xs)) n ≡ line_of (x ∷ xs) n
    go true rest = ap (λ o. cond (x.number == n) (Some x) o) rest
    go false rest = elim (eqb_tells m.number n) [ inl same ↦ absurd (differ (sym same.1)) | inr other ↦ ap (λ b. cond b (Some m) (line_of (x ∷ xs) n)) other.0 ]

-- a line named is none that is missing
named_elsewhere : (lines : List DeductionLine) (l : DeductionLine) (k n : ℕ) → line_of lines k ≡ None → k ≢ l.number → is_missing lines l n ≡ false → n ≢ k
named_elsewhere lines l k n none differ there same =
    let other : (k == l.number) ≡ false = elim (eqb_tells k l.number) [ inl here ↦ absurd (differ here.1) | inr other ↦ other.0 ] in
    let missing : is_none (line_with lines l k) ≡ true = ap (λ b. is_none (cond b (Some l) (line_of lines k))) other ∙ ap is_none none in
    true_isnt_false (sym missing ∙ subst (λ (m : ℕ). is_missing lines l m ≡ false) same there)

pub stays_under_others : (lines : List DeductionLine) (l m : DeductionLine) → line_of lines m.number ≡ None → l.number ≢ m.number → IsJustified lines l → IsJustified (with_line lines m) l
stays_under_others lines l m none differ j =
    stays_by lines (with_line lines m) l (λ n. n ≢ m.number) differ
    (λ n other own. let P : Option DeductionLine → Type 0 = λ o. SayTheSame (line_of lines n) o in subst P (sym (other_put lines m n other)) (alike (line_of lines n)))
    (
    each_weaker (λ n. is_missing lines l n ≡ false) (λ n. n ≢ m.number) (named_by l)
    (λ n there. named_elsewhere lines l m.number n none (λ e. differ (sym e)) there)
    (none_found (is_missing lines l) (named_by l) j.there)
    )
    j

-- and a line that is put in itself
pub stays_put_in : (lines : List DeductionLine) (l : DeductionLine) → IsJustified lines l → IsJustified (with_line lines l) l
stays_put_in lines l j =
    stays_by lines (with_line lines l) l (λ n. Unit {0}) tt
    (λ n any other. let P : Option DeductionLine → Type 0 = λ o. SayTheSame (line_of lines n) o in subst P (sym (other_put lines l n other)) (alike (line_of lines n)))
    (each_weaker (λ n. is_missing lines l n ≡ false) (λ n. Unit {0}) (named_by l) (λ n there. tt) (none_found (is_missing lines l) (named_by l) j.there))
    j

-- another line is as it was, where one gets a justification
pub other_line : (lines : List DeductionLine) (k : ℕ) (w : Justification) (n : ℕ) → n ≢ k → line_of (with_why lines k w) n ≡ line_of lines n
other_line [] k w n differ = refl
other_line (x ∷ xs) k w n differ = go (x.number == k) refl (other_line xs k w n differ)
  where
    go : (a : Bool) → (x.number == k) ≡ a → line_of (with_why xs k w) n ≡ line_of xs n → line_of (cond a (record x { why = w }) x ∷ with_why xs k w) n ≡ line_of (x ∷ xs) n
    go true e rest =
        elim (eqb_tells x.number n) [
          | inl same ↦ elim (eqb_tells x.number k) [ inl here ↦ absurd (differ (sym same.1 ∙ here.1)) | inr other ↦ absurd (true_isnt_false (sym e ∙ other.0)) ]
          | inr other ↦ ap (λ b. cond b (Some (record x { why = w })) (line_of (with_why xs k w) n)) other.0 ∙ rest ∙ ap (λ b. cond b (Some x) (line_of xs n)) (sym other.0)
        ]
    go false e rest = ap (λ o. cond (x.number == n) (Some x) o) rest

same_at : (o q : Option DeductionLine) (m n : DeductionLine) → o ≡ Some m → q ≡ Some n → SaysTheSame m n → SayTheSame o q
same_at o q m n e f h =
    let P : Option DeductionLine → Type 0 = λ p. SayTheSame p q in
    let Q : Option DeductionLine → Type 0 = λ p. SayTheSame (Some m) p in
    subst P (sym e) (subst Q (sym f) h)

planned_isnt : (w : Justification) → w ≡ hypothesis → w ≡ planned → ⊥
planned_isnt w h p = cc

given_here : (x : DeductionLine) (xs : List DeductionLine) (k : ℕ) (w : Justification) → (x.number == k) ≡ true → line_of (with_why (x ∷ xs) k w) k ≡ Some (record x { why = w })
given_here x xs k w e =
    ap (λ b. line_of (cond b (record x { why = w }) x ∷ with_why xs k w) k) e ∙ ap (λ b. cond b (Some (record x { why = w })) (line_of (with_why xs k w) k)) e

given_later : (x : DeductionLine) (xs : List DeductionLine) (k : ℕ) (w : Justification) → (x.number == k) ≡ false → line_of (with_why (x ∷ xs) k w) k ≡ line_of (with_why xs k w) k
given_later x xs k w e = ap (λ b. line_of (cond b (record x { why = w }) x ∷ with_why xs k w) k) e ∙ ap (λ b. cond b (Some x) (line_of (with_why xs k w) k)) e

-- a planned line that gets one says the same
given_line : (lines : List DeductionLine) (k : ℕ) (w : Justification) → IsPlannedAt lines k → SayTheSame (line_of lines k) (line_of (with_why lines k w) k)
given_line [] k w p = tt
given_line (x ∷ xs) k w p =
    elim (eqb_tells x.number k) [
      | inl here ↦
          let found : line_of (x ∷ xs) k ≡ Some x = ap (λ b. cond b (Some x) (line_of xs k)) here.0 in
          let given : line_of (with_why (x ∷ xs) k w) k ≡ Some (record x { why = w }) = given_here x xs k w here.0 in
          same_at (line_of (x ∷ xs) k) (line_of (with_why (x ∷ xs) k w) k) x (record x { why = w }) found given (record { formula = refl; hypotheses = refl; assumed = λ h. absurd (planned_isnt x.why h (p x found)) })
      | inr other ↦
          let found : line_of (x ∷ xs) k ≡ line_of xs k = ap (λ b. cond b (Some x) (line_of xs k)) other.0 in
          let given : line_of (with_why (x ∷ xs) k w) k ≡ line_of (with_why xs k w) k = given_later x xs k w other.0 in
          let P : Option DeductionLine → Type 0 = λ o. SayTheSame o (line_of (with_why (x ∷ xs) k w) k) in
          let Q : Option DeductionLine → Type 0 = λ o. SayTheSame (line_of xs k) o in
          subst P (sym found) (subst Q (sym given) (given_line xs k w (λ m e. p m (found ∙ e))))
    ]

given_same : (lines : List DeductionLine) (k : ℕ) (w : Justification) → IsPlannedAt lines k → (n : ℕ) → SayTheSame (line_of lines n) (line_of (with_why lines k w) n)
given_same lines k w p n =
    elim (eqb_tells n k) [
      | inl here ↦ let P : ℕ → Type 0 = λ m. SayTheSame (line_of lines m) (line_of (with_why lines k w) m) in subst P (sym here.1) (given_line lines k w p)
      | inr other ↦ let P : Option DeductionLine → Type 0 = λ o. SayTheSame (line_of lines n) o in subst P (sym (other_line lines k w n other.1)) (alike (line_of lines n))
    ]

pub stays_under_reasons : (lines : List DeductionLine) (l : DeductionLine) (n : ℕ) (w : Justification) → IsPlannedAt lines n → IsJustified lines l → IsJustified (with_why lines n w) l
stays_under_reasons lines l n w p j = stays lines (with_why lines n w) l (λ k small. given_same lines n w p k) j
