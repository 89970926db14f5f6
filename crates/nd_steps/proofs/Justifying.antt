-- The next line is justified by its rule.
use Rattle.std.proofs.Common.{◌≡◌, ◌≢◌, ℕ, zero, suc, ◌+◌, ◌==◌, ◌<◌, nat_lt, List, [], ◌∷◌, ◌++◌, length, Bool, true, false, not, cond, ◌&&◌, Some, None, refl, sym, ◌∙◌, ap, ap₂, subst, arith, inl, inr}
use Rattle.std.specs.Prelude.{is_none, find, All, Contains}
use Rattle.std.specs.List.{AllByRecursion, flat_map}
use Rattle.std.proofs.lemmas.Bool.{lt-ltb}
use Rattle.std.proofs.lemmas.Bool.Decides.{eqb_tells}
use Rattle.std.proofs.lemmas.List.Elements.{recursion_from_All, All-from_recursion, All-nil, All-cons, All-weaker, All-contains, All-contains_itself}
use Rattle.hol_terms.specs.Terms.{SimpleType, Term, truth_type}
use Rattle.hol_terms.specs.Indices.{instance_of}
use Rattle.hol_terms.specs.FreeVariables.{IsFree, IsBodyOver}
use Rattle.hol_terms.specs.Truth.{Follows}
use Rattle.hol_conv.specs.Conversion.{Conv}
use Rattle.nd_rules.specs.Lines.{Justification, hypothesis, deduction, universal_instance, generalization, existential, choice, conversion, assignments, DeductionLine, cited, named_by, line_of, IsLine}
use Rattle.nd_rules.specs.Rules.{is_missing, is_late, is_hypothesis, implies, universal, existence, HasShape, hypotheses_in, hypotheses_of, discharged, inherited, IsHypothesisLine, HasHypotheses, IsRuleVariable, barred, IsFreeIn, HasNewVariable, formulas_in, formulas_of, IsConsequence, IsConverted, HasTypedTerm}
use Rattle.nd_steps.specs.Deductions.{IsDeduction, Assumes, Proves, ProveAll, AreAssumptions, IsFreeInNone, next_line, IsNextJustified}
use Rattle.nd_steps.specs.Premises.{FollowsFrom, Discharges, Instantiates, Generalizes, Witnesses, Chooses, Converts}
use Rattle.nd_steps.proofs.Numbering.{found_stays, numbered_within}

-- Lists

both : {X : Type 0} (P : X → Type 0) (ns ms : List X) → AllByRecursion P ns → AllByRecursion P ms → AllByRecursion P (ns ++ ms)
both P [] ms h k = k
both P (n ∷ ns) ms h k = (h.0, both P ns ms h.1 k)

weaker : {X : Type 0} (P Q : X → Type 0) (ns : List X) → ((n : X) → P n → Q n) → AllByRecursion P ns → AllByRecursion Q ns
weaker P Q [] f h = tt
weaker P Q (n ∷ ns) f h = (f n h.0, weaker P Q ns f h.1)

found_none : (p : ℕ → Bool) (ns : List ℕ) → AllByRecursion (λ n. p n ≡ false) ns → find p ns ≡ None
found_none p [] h = refl
found_none p (n ∷ ns) h = ap (λ b. cond b (Some n) (find p ns)) h.0 ∙ found_none p ns h.1

-- what is in a list is in its tail or at its head
in_tail : (h n : ℕ) (hyps : List ℕ) → (n ≢ h) → Contains (h ∷ hyps) n → Contains hyps n
in_tail h n hyps other (zero, within, e) = absurd (other (sym e))
in_tail h n hyps other (suc k, within, e) = (k, omega arith, e)

-- where one of the hypotheses is discharged, the others are left
discharged_within : (h : ℕ) (hyps ns : List ℕ) → AllByRecursion (Contains (h ∷ hyps)) ns → AllByRecursion (Contains hyps) (discharged h ns)
discharged_within h hyps [] all = tt
discharged_within h hyps (n ∷ ns) all = elim (eqb_tells n h) [
  | inl same ↦ let P : Bool → Type 0 = λ b. AllByRecursion (Contains hyps) (cond (not b) (n ∷ discharged h ns) (discharged h ns)) in subst P (sym same.0) (discharged_within h hyps ns all.1)
  | inr other ↦ let P : Bool → Type 0 = λ b. AllByRecursion (Contains hyps) (cond (not b) (n ∷ discharged h ns) (discharged h ns)) in subst P (sym other.0) (in_tail h n hyps other.1 all.0, discharged_within h hyps ns all.1)
]

-- The next line l of a deduction
module _ (lines : List DeductionLine) (d : IsDeduction lines) (hyps : List ℕ) (formula : Term) (why : Justification) where
  abbrev l : DeductionLine
  l = next_line lines hyps formula why

  abbrev all : List DeductionLine
  all = lines ++ l ∷ []

  abbrev IsThere : ℕ → Type 0
  IsThere n = (m : DeductionLine) × (line_of lines n ≡ Some m)

  earlier : (n : ℕ) → IsThere n → n < l.number
  earlier n h = let within : n < 1 + length lines = numbered_within 1 lines n h.0 d.numbered h.1 in omega (arith, within)

  -- an earlier line is found
  line : (n : ℕ) (m : DeductionLine) → line_of lines n ≡ Some m → IsLine all l n m
  line n m e = elim (eqb_tells n l.number) [
    | inl same ↦ absurd (let less : n < l.number = earlier n (m, e) in omega (arith, less, same.1))
    | inr other ↦ ap (λ b. cond b (Some l) (line_of all n)) other.0 ∙ found_stays lines (l ∷ []) n m e
  ]

  one_line : (n : ℕ) (m k : DeductionLine) → line_of lines n ≡ Some m → IsLine all l n k → k ≡ m
  one_line n m k e found = let both_found : Some k ≡ Some m = sym found ∙ line n m e in cc

  not_missing : (n : ℕ) → IsThere n → is_missing all l n ≡ false
  not_missing n h = ap is_none (line n h.0 h.1)

  not_late : (n : ℕ) → IsThere n → is_late l n ≡ false
  not_late n h = let test : nat_lt n l.number ≡ true = lt-ltb n l.number (earlier n h) in ap (λ b. not b && not (is_hypothesis l.why && n == l.number)) test

  hypotheses_there : (n : ℕ) (m : DeductionLine) → line_of lines n ≡ Some m → hypotheses_of all l n ≡ m.hypotheses
  hypotheses_there n m e = ap hypotheses_in (line n m e)

  -- a rule without a variable
  none_barred : barred l why ≡ [] → HasNewVariable all l
  none_barred e = subst (All (λ n. IsFreeIn all l n → ⊥)) (sym e) (All-nil (λ n. IsFreeIn all l n → ⊥))

  module _ (assumed : AreAssumptions lines hyps) where
    assumption_there : (n : ℕ) → ((a : Term) × Assumes lines n a) → IsThere n
    assumption_there n h = (h.1.line, h.1.found)

    assumptions : AllByRecursion (λ n. (a : Term) × Assumes lines n a) hyps
    assumptions = recursion_from_All (λ n. (a : Term) × Assumes lines n a) hyps assumed

    named : AllByRecursion IsThere (cited why) → AllByRecursion IsThere (named_by l)
    named there = both IsThere (cited why) hyps there (weaker (λ n. (a : Term) × Assumes lines n a) IsThere hyps assumption_there assumptions)

    hypothesis_line : (n : ℕ) → ((a : Term) × Assumes lines n a) → IsHypothesisLine all l n
    hypothesis_line n h = (h.1.line, line n h.1.line h.1.found, h.1.assumed)

    hypotheses_right : (why ≢ hypothesis) → AllByRecursion (Contains hyps) (inherited all l why) → HasHypotheses all l
    hypotheses_right other within = (
      λ e. absurd (other e),
      All-from_recursion (Contains hyps) (inherited all l why) within,
      All-from_recursion (IsHypothesisLine all l) hyps (weaker (λ n. (a : Term) × Assumes lines n a) (IsHypothesisLine all l) hyps hypothesis_line assumptions),
    )

    justified_by : (why ≢ hypothesis) → AllByRecursion IsThere (cited why) → HasShape all l why → AllByRecursion (Contains hyps) (inherited all l why) → HasNewVariable all l → IsConsequence all l why → IsConverted all l why → HasTypedTerm all l why
        → IsNextJustified lines hyps formula why
    justified_by other there shape within variable consequence converted typed = record {
      there = found_none (is_missing all l) (named_by l) (weaker IsThere (λ n. is_missing all l n ≡ false) (named_by l) not_missing (named there));
      earlier = found_none (is_late l) (named_by l) (weaker IsThere (λ n. is_late l n ≡ false) (named_by l) not_late (named there));
      shape = shape;
      hypotheses = hypotheses_right other within;
      variable = variable;
      consequence = consequence;
      converted = converted;
      typed = typed;
    }

    -- what one source proves
    within_one : (n : ℕ) (a : Term) → Proves lines n hyps a → AllByRecursion (Contains hyps) (hypotheses_of all l n)
    within_one n a p = subst (AllByRecursion (Contains hyps)) (sym (hypotheses_there n p.line p.found)) (recursion_from_All (Contains hyps) p.line.hypotheses p.rests)

    within_but : (h n : ℕ) (a : Term) → Proves lines n (h ∷ hyps) a → AllByRecursion (Contains hyps) (discharged h (hypotheses_of all l n))
    within_but h n a p =
        let P : List ℕ → Type 0 = λ ns. AllByRecursion (Contains hyps) (discharged h ns) in
        subst P (sym (hypotheses_there n p.line p.found)) (discharged_within h hyps p.line.hypotheses (recursion_from_All (Contains (h ∷ hyps)) p.line.hypotheses p.rests))

    -- a variable that is free in none of the hypotheses
    free_in_none : (name : List ℕ) (s : SimpleType) → IsFreeInNone lines hyps name s → (n : ℕ) → Contains hyps n → (m : DeductionLine) → IsLine all l n m → IsFree name s m.formula → ⊥
    free_in_none name s none n held m found f =
        let a = All-contains (λ h. (a : Term) × Assumes lines h a) hyps n assumed held in
        let P : Term → Type 0 = λ t. IsFree name s t in
        let here : m ≡ a.1.line = one_line n a.1.line m a.1.found found in
        let no = All-contains (λ h. (t : Term) → Assumes lines h t → IsFree name s t → ⊥) hyps n none held in
        no a.0 a.1 (subst P (ap (λ (k : DeductionLine). k.formula) here ∙ a.1.says) f)

    own_line : (m : DeductionLine) → IsLine all l l.number m → m ≡ l
    own_line m found = elim (eqb_tells l.number l.number) [
      | inl same ↦ let here : Some l ≡ Some m = sym (ap (λ b. cond b (Some l) (line_of all l.number)) same.0) ∙ found in cc
      | inr other ↦ absurd (other.1 refl)
    ]

  -- P: the line is its own hypothesis
  own_found : IsLine all l l.number l
  own_found = elim (eqb_tells l.number l.number) [ inl same ↦ ap (λ b. cond b (Some l) (line_of all l.number)) same.0 | inr other ↦ absurd (other.1 refl) ]

-- P
pub assume_justified : (lines : List DeductionLine) (d : IsDeduction lines) (n : ℕ) (formula : Term) → n ≡ length lines + 1 → IsNextJustified lines (n ∷ []) formula hypothesis
assume_justified lines d n formula e =
    let P : ℕ → Type 0 = λ k. IsNextJustified lines (k ∷ []) formula hypothesis in
    let own : ℕ = length lines + 1 in
    let m : DeductionLine = next_line lines (own ∷ []) formula hypothesis in
    let found = own_found lines d (own ∷ []) formula hypothesis in
    let whole : List DeductionLine = lines ++ m ∷ [] in
    let missing : is_missing whole m own ≡ false = ap is_none found in
    let late : is_late m own ≡ false = go (nat_lt own own) own in
    let made : IsNextJustified lines (own ∷ []) formula hypothesis = record {
      there = found_none (is_missing whole m) (own ∷ []) (missing, tt);
      earlier = found_none (is_late m) (own ∷ []) (late, tt);
      shape = tt;
      hypotheses = (λ _. refl, All-nil (Contains (own ∷ [])), All-from_recursion (IsHypothesisLine whole m) (own ∷ []) ((m, found, refl), tt));
      variable = All-nil (λ n. IsFreeIn whole m n → ⊥);
      consequence = tt;
      converted = tt;
      typed = tt;
    } in
    subst P (sym e) made
  where
    go : (b : Bool) (k : ℕ) → (not b && not (true && (k == k))) ≡ false
    go true k = refl
    go false k = elim (eqb_tells k k) [ inl same ↦ ap (λ b. not b) same.0 | inr other ↦ absurd (other.1 refl) ]

-- LAMBDA
pub convert_justified : (lines : List DeductionLine) (d : IsDeduction lines) (hyps : List ℕ) (formula : Term) (n : ℕ) → AreAssumptions lines hyps → Converts lines hyps n formula → IsNextJustified lines hyps formula (conversion n)
convert_justified lines d hyps formula n assumed c =
    let why = conversion n in
    let P : Term → Type 0 = λ t. Conv [] truth_type t formula in
    justified_by lines d hyps formula why assumed (λ e. cc) ((c.proved.line, c.proved.found), tt) tt
    (within_one lines d hyps formula why assumed n c.given c.proved) (none_barred lines d hyps formula why refl) tt
    (c.proved.line, line lines d hyps formula why n c.proved.line c.proved.found, subst P (sym c.proved.says) c.converted) tt

-- RULEP
sources_there : (lines : List DeductionLine) (hyps ns : List ℕ) (ts : List Term) → ProveAll lines ns hyps ts → AllByRecursion (λ n. (m : DeductionLine) × (line_of lines n ≡ Some m)) ns
sources_there lines hyps [] ts h = tt
sources_there lines hyps (n ∷ ns) ts h = ((h.1.line, h.1.found), sources_there lines hyps ns h.2 h.3)

sources_within : (lines : List DeductionLine) (d : IsDeduction lines) (hyps : List ℕ) (formula : Term) (why : Justification) (assumed : AreAssumptions lines hyps) (ns : List ℕ) (ts : List Term) → ProveAll lines ns hyps ts
    → AllByRecursion (Contains hyps) (flat_map (hypotheses_of (lines ++ next_line lines hyps formula why ∷ []) (next_line lines hyps formula why)) ns)
sources_within lines d hyps formula why assumed [] ts h = tt
sources_within lines d hyps formula why assumed (n ∷ ns) ts h =
    both (Contains hyps) (hypotheses_of (lines ++ next_line lines hyps formula why ∷ []) (next_line lines hyps formula why) n) (flat_map (hypotheses_of (lines ++ next_line lines hyps formula why ∷ []) (next_line lines hyps formula why)) ns)
    (within_one lines d hyps formula why assumed n h.0 h.1) (sources_within lines d hyps formula why assumed ns h.2 h.3)

sources_formulas : (lines : List DeductionLine) (d : IsDeduction lines) (hyps : List ℕ) (formula : Term) (why : Justification) (ns : List ℕ) (ts : List Term) → ProveAll lines ns hyps ts
    → formulas_of (lines ++ next_line lines hyps formula why ∷ []) (next_line lines hyps formula why) ns ≡ ts
sources_formulas lines d hyps formula why [] ts h = sym h
sources_formulas lines d hyps formula why (n ∷ ns) ts h =
    ap₂ (λ (a b : List Term). a ++ b) (ap formulas_in (line lines d hyps formula why n h.1.line h.1.found) ∙ ap (λ (t : Term). t ∷ []) h.1.says) (sources_formulas lines d hyps formula why ns h.2 h.3)
    ∙ sym h.4

pub follow_justified : (lines : List DeductionLine) (d : IsDeduction lines) (hyps : List ℕ) (formula : Term) (ns : List ℕ) → AreAssumptions lines hyps → FollowsFrom lines hyps ns formula → IsNextJustified lines hyps formula (assignments ns)
follow_justified lines d hyps formula ns assumed f =
    let why = assignments ns in
    let P : List Term → Type 0 = λ ts. Follows ts formula in
    justified_by lines d hyps formula why assumed (λ e. cc) (sources_there lines hyps ns f.premises f.proved) tt
    (sources_within lines d hyps formula why assumed ns f.premises f.proved) (none_barred lines d hyps formula why refl) (subst P (sym (sources_formulas lines d hyps formula why ns f.premises f.proved)) f.follows) tt tt

-- DEDUCT
pub deduct_justified : (lines : List DeductionLine) (d : IsDeduction lines) (hyps : List ℕ) (formula : Term) (n h : ℕ) → AreAssumptions lines hyps → Discharges lines hyps n h formula → IsNextJustified lines hyps formula (deduction n h)
deduct_justified lines d hyps formula n h assumed c =
    let why = deduction n h in
    justified_by lines d hyps formula why assumed (λ e. cc) ((c.proved.line, c.proved.found), ((c.assumed.line, c.assumed.found), tt))
    (c.proved.line, line lines d hyps formula why n c.proved.line c.proved.found, c.assumed.line, line lines d hyps formula why h c.assumed.line c.assumed.found, c.assumed.assumed, c.is ∙ ap₂ implies (sym c.assumed.says) (sym c.proved.says))
    (within_but lines d hyps formula why assumed h n c.conclusion c.proved) (none_barred lines d hyps formula why refl) tt tt tt

-- UI
pub instance_justified : (lines : List DeductionLine) (d : IsDeduction lines) (hyps : List ℕ) (formula : Term) (n : ℕ) (term : Term) → AreAssumptions lines hyps → Instantiates lines hyps n term formula
    → IsNextJustified lines hyps formula (universal_instance n term)
instance_justified lines d hyps formula n term assumed c =
    let why = universal_instance n term in
    let found = line lines d hyps formula why n c.proved.line c.proved.found in
    justified_by lines d hyps formula why assumed (λ e. cc) ((c.proved.line, c.proved.found), tt)
    (c.proved.line, found, c.ty, c.body, c.proved.says, λ _. c.is)
    (within_one lines d hyps formula why assumed n (universal c.ty c.body) c.proved) (none_barred lines d hyps formula why refl) tt tt (c.proved.line, found, c.ty, c.body, c.proved.says, c.typed)

-- EGEN
pub witness_justified : (lines : List DeductionLine) (d : IsDeduction lines) (hyps : List ℕ) (formula : Term) (n : ℕ) (term : Term) → AreAssumptions lines hyps → Witnesses lines hyps n term formula
    → IsNextJustified lines hyps formula (existential n term)
witness_justified lines d hyps formula n term assumed c =
    let why = existential n term in
    justified_by lines d hyps formula why assumed (λ e. cc) ((c.proved.line, c.proved.found), tt)
    (c.proved.line, line lines d hyps formula why n c.proved.line c.proved.found, c.ty, c.body, c.is, λ _. c.proved.says)
    (within_one lines d hyps formula why assumed n (instance_of c.body term) c.proved) (none_barred lines d hyps formula why refl) tt tt (c.ty, c.body, c.is, c.typed)

-- UGEN
universal_type : (s r : SimpleType) (a b : Term) → universal s a ≡ universal r b → s ≡ r
universal_type s r a b e = cc

existence_type : (s r : SimpleType) (a b : Term) → existence s a ≡ existence r b → s ≡ r
existence_type s r a b e = cc

pub generalize_justified : (lines : List DeductionLine) (d : IsDeduction lines) (hyps : List ℕ) (formula : Term) (n : ℕ) (name : List ℕ) → AreAssumptions lines hyps → Generalizes lines hyps n name formula
    → IsNextJustified lines hyps formula (generalization n name)
generalize_justified lines d hyps formula n name assumed c =
    let why = generalization n name in
    let P : Term → Type 0 = λ t. IsBodyOver name c.ty t c.body in
    let l = next_line lines hyps formula why in
    let new : (k : ℕ) → Contains hyps k → IsFreeIn (lines ++ l ∷ []) l k → ⊥ = λ k held f.
    let ty : f.1 ≡ c.ty = universal_type f.1 c.ty f.2.1.0 c.body (sym f.2.1.1 ∙ c.is) in
    let Q : List ℕ → SimpleType → Type 0 = λ a s. IsFree a s f.3.0.formula in
    let R : SimpleType → Type 0 = λ s. IsFree name s f.3.0.formula in
    let S : List ℕ → Type 0 = λ a. IsFree a f.1 f.3.0.formula in
    free_in_none lines d hyps formula why assumed name c.ty c.free_in_none k held f.3.0 f.3.1 (subst R ty (subst S f.2.0 f.3.2)) in
    justified_by lines d hyps formula why assumed (λ e. cc) ((c.proved.line, c.proved.found), tt)
    (c.proved.line, line lines d hyps formula why n c.proved.line c.proved.found, c.ty, c.body, c.is, subst P (sym c.proved.says) c.over)
    (within_one lines d hyps formula why assumed n c.instance c.proved)
    (All-weaker (Contains hyps) (λ k. IsFreeIn (lines ++ l ∷ []) l k → ⊥) new hyps (All-contains_itself hyps)) tt tt tt

-- RULEC
pub choose_justified : (lines : List DeductionLine) (d : IsDeduction lines) (hyps : List ℕ) (formula : Term) (e h n : ℕ) (name : List ℕ) → AreAssumptions lines hyps → Chooses lines hyps e h n name formula
    → IsNextJustified lines hyps formula (choice e h n name)
choose_justified lines d hyps formula e h n name assumed c =
    let why = choice e h n name in
    let l = next_line lines hyps formula why in
    let whole : List DeductionLine = lines ++ l ∷ [] in
    let some = c.exists_one in
    let found_some = line lines d hyps formula why e some.line some.found in
    let variable : (a : List ℕ) (s : SimpleType) (t : Term) → IsRuleVariable whole l why a s → IsFree a s t → IsFree name c.ty t = λ a s t v f.
    let same : v.1.0 ≡ some.line = one_line lines d hyps formula why e some.line v.1.0 some.found v.1.1 in
    let ty : s ≡ c.ty = existence_type s c.ty v.1.2.0 c.body (sym v.1.2.1 ∙ ap (λ (k : DeductionLine). k.formula) same ∙ some.says) in
    let R : SimpleType → Type 0 = λ r. IsFree name r t in
    let S : List ℕ → Type 0 = λ b. IsFree b s t in
    subst R ty (subst S v.0 f) in
    let T : Term → Type 0 = λ t. IsFree name c.ty t in
    let not_in_some : IsFreeIn whole l e → ⊥ = λ f.
    let same : f.3.0 ≡ some.line = one_line lines d hyps formula why e some.line f.3.0 some.found f.3.1 in
    elim (subst T (ap (λ (k : DeductionLine). k.formula) same ∙ some.says) (variable f.0 f.1 f.3.0.formula f.2 f.3.2)) [ inl none ↦ absurd none | inr inside ↦ c.new inside ] in
    let not_in_own : IsFreeIn whole l l.number → ⊥ = λ f.
    let same : f.3.0 ≡ l = own_line lines d hyps formula why assumed f.3.0 f.3.1 in
    c.not_free (subst T (ap (λ (k : DeductionLine). k.formula) same) (variable f.0 f.1 f.3.0.formula f.2 f.3.2)) in
    let not_in_hyps : (k : ℕ) → Contains hyps k → IsFreeIn whole l k → ⊥ = λ k held f.
    free_in_none lines d hyps formula why assumed name c.ty c.free_in_none k held f.3.0 f.3.1 (variable f.0 f.1 f.3.0.formula f.2 f.3.2) in
    let P : ℕ → Type 0 = λ k. IsFreeIn whole l k → ⊥ in
    justified_by lines d hyps formula why assumed (λ e. cc) ((some.line, some.found), ((c.assumed.line, c.assumed.found), ((c.proved.line, c.proved.found), tt)))
    (some.line, found_some, c.assumed.line, line lines d hyps formula why h c.assumed.line c.assumed.found, c.proved.line, line lines d hyps formula why n c.proved.line c.proved.found, c.ty, c.body, some.says, c.assumed.assumed, c.assumed.says, sym c.proved.says)
    (both (Contains hyps) (hypotheses_of whole l e) (discharged h (hypotheses_of whole l n)) (within_one lines d hyps formula why assumed e (existence c.ty c.body) some) (within_but lines d hyps formula why assumed h n formula c.proved))
    (All-cons P e (l.number ∷ hyps) not_in_some (All-cons P l.number hyps not_in_own (All-weaker (Contains hyps) P not_in_hyps hyps (All-contains_itself hyps)))) tt tt tt
