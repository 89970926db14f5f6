-- The mating of all good pairs.
use Rattle.std.proofs.Common.{◌≡◌, ◌≢◌, ◌<◌, ◌≤◌, ◌+◌, ◌-◌, ℕ, List, [], ◌∷◌, ◌++◌, Bool, true, false, not, cond, ◌↔◌, inl, inr, All, Contains, length, refl, sym, ap, subst, ◌∙◌, arith}
use Rattle.std.specs.Prelude.{slice_get, IsTrue, Option, Some, None, IsNone, Result, Ok, Err, OnOk}
use mathlib.Core.Bool.{beq}
use Rattle.std.proofs.lemmas.Bool.{cases_lt}
use Rattle.std.proofs.lemmas.Bool.Decides.{eqb_tells}
use Rattle.std.proofs.lemmas.List.Elements.{All-contains, All-from_recursion, Contains-append_left, Contains-append_right, Contains-append_cases}
use Rattle.std.proofs.lemmas.Option.{slice_get_within}
use Rattle.hol_terms.specs.Terms.{Term}
use Rattle.hol_terms.specs.Typing.{IsFormula}
use Rattle.hol_terms.specs.Truth.{IsAtom, IsTautology}
use Rattle.expansion_tree.specs.declared.faults.FitFault.{FitFault}
use Rattle.expansion_tree.specs.declared.faults.FitFault.TheVariants.{Memory, Misfit, BadTerm, BadVariable}
use Rattle.expansion_tree.specs.Stood.{UnlessMemory}
use Rattle.expansion_tree.specs.Fitted.{FittedTree, IsFitted}
use Rattle.expansion_tree.specs.Faults.{IsTree}
use Rattle.expansion_tree.specs.Standing.{Standing, deep_formula, leaves, paths}
use Rattle.expansion_tree.specs.Trees.{ExpansionTree}
use Rattle.expansion_tree.proofs.Excluding.{tree-unique}
use Rattle.dependency.proofs.Elements.{Contains-first, first_or_later, none_there}
use Rattle.vertical_paths.specs.Matings.{leaf_at, HoldsGoodPairs, IsGood, Spans}
use Rattle.vertical_paths.specs.Tautologies.{HasAtoms, HasTautology}
use Rattle.exp_check.specs.Proofs.{IsProof}
use Rattle.grown_trees.proofs.Every.{every_contained}
use Rattle.plain_search.specs.Trials.{CanBeMated, HasPairs, IsSpannedBy}

-- leaves of a number

leaf_here : (ls : List (Bool × Term)) (n : ℕ) → 1 ≤ n → leaf_at ls n ≡ slice_get ls (n - 1)
leaf_here ls n low = elim (eqb_tells n 0) [
  | inl same ↦ (let e : n ≡ 0 = same.1 in absurd (omega (arith, e, low)))
  | inr other ↦ ap (λ (b : Bool). cond b None (slice_get ls (n - 1))) other.0
]

leaf_within : (ls : List (Bool × Term)) (n : ℕ) (leaf : Bool × Term) → leaf_at ls n ≡ Some leaf → (1 ≤ n) × (n ≤ length ls)
leaf_within ls n leaf e = elim (eqb_tells n 0) [
  | inl same ↦ (let none : leaf_at ls n ≡ None = ap (λ (b : Bool). cond b None (slice_get ls (n - 1))) same.0 in absurd (cc))
  | inr other ↦ (
      let there : slice_get ls (n - 1) ≡ Some leaf = sym (ap (λ (b : Bool). cond b None (slice_get ls (n - 1))) other.0) ∙ e in
      let less = slice_get_within ls (n - 1) leaf there in
      let some : n ≢ 0 = λ zero. other.1 zero in
      (omega (arith, some), omega (arith, less, some)))
]

opposite : (p q : Bool) → not (beq p q) ≡ true → q ≡ not p
opposite true true e = cc
opposite true false e = refl
opposite false true e = refl
opposite false false e = cc

some_same : (x y : Bool × Term) → Some x ≡ Some y → x ≡ y
some_same x y e = cc

pub good_where_same : (ls : List (Bool × Term)) (i j : ℕ) (p q : Bool) (a b : Term) (same : Bool) → 1 ≤ i → 1 ≤ j → slice_get ls (i - 1) ≡ Some (p, a) → slice_get ls (j - 1) ≡ Some (q, b)
    → not (beq p q) ≡ true → (IsTrue same ↔ (a ≡ b)) → IsTrue same ↔ IsGood ls (i, j)
good_where_same ls i j p q a b same first second one other turned tells =
    let here : leaf_at ls i ≡ Some (p, a) = leaf_here ls i first ∙ one in
    let there : leaf_at ls j ≡ Some (q, b) = leaf_here ls j second ∙ other in
    let turn = opposite p q turned in (
      (λ yes. let equal = tells.0 yes in let pair : (q, b) ≡ (not p, a) = (λ i. (turn i, sym equal i)) in (p, a, here, there ∙ ap (λ (leaf : Bool × Term). Some leaf) pair)),
      (λ good. tells.1 (let left : Some (p, a) ≡ Some (good.0, good.1) = sym here ∙ good.2 in let right : Some (q, b) ≡ Some (not good.0, good.1) = sym there ∙ good.3 in ap (λ (leaf : Bool × Term). leaf.1) (some_same (p, a) (good.0, good.1) left) ∙ sym (ap (λ (leaf : Bool × Term). leaf.1) (some_same (q, b) (not good.0, good.1) right)))),
    )

-- pairs that are added

pub on_ok_weaker : {T E : Type 0} (P Q : Type 0) → (P → Q) → (r : Result T E) → OnOk r P → OnOk r Q
on_ok_weaker P Q f (Ok x) h = f h
on_ok_weaker P Q f (Err e) h = tt

pub pair_added : (ls : List (Bool × Term)) (i j : ℕ) (old new : List (ℕ × ℕ)) → IsGood ls (i, j) → new ≡ old ++ (i, j) ∷ [] → HasPairs ls i j (j + 1) old new
pair_added ls i j old new good e = subst (HasPairs ls i j (j + 1) old) (sym e) (record {
  good = λ all. All-from_recursion (IsGood ls) (old ++ (i, j) ∷ []) (every_contained (IsGood ls) (old ++ (i, j) ∷ []) (λ pair there. elim (Contains-append_cases old ((i, j) ∷ []) pair there) [
    | inl left ↦ All-contains (IsGood ls) old pair all left
    | inr right ↦ (elim (first_or_later (i, j) [] pair right) [ inl same ↦ subst (IsGood ls) same good | inr later ↦ absurd (none_there pair later) ])
  ]));
  kept = λ pair there. Contains-append_left old ((i, j) ∷ []) pair there;
  all = λ k low high own. let same : j ≡ k = omega (arith, low, high) in Contains-append_right old ((i, j) ∷ []) (i, k) (subst (λ (k : ℕ). Contains {X = ℕ × ℕ} ((i, j) ∷ []) (i, k)) same (Contains-first (i, j) []));
})

pub pairs_further : (ls : List (Bool × Term)) (i low j : ℕ) (old mid new : List (ℕ × ℕ)) → HasPairs ls i low j old mid → HasPairs ls i j (j + 1) mid new → HasPairs ls i low (j + 1) old new
pairs_further ls i low j old mid new h more = record {
  good = λ all. more.good (h.good all);
  kept = λ pair there. more.kept pair (h.kept pair there);
  all = λ k from to own. elim (cases_lt k j) [ inl less ↦ more.kept (i, k) (h.all k from less own) | inr late ↦ more.all k late to own ];
}

-- the pairs of the leaves up to i with those after them
pub record HasPairsUpTo (ls : List (Bool × Term)) (i : ℕ) (mating : List (ℕ × ℕ)) : Type 0 where
  pub good : All (IsGood ls) mating
  pub all : (a b : ℕ) → a ≤ i → a < b → IsGood ls (a, b) → Contains mating (a, b)

pub pairs_up_to : (ls : List (Bool × Term)) (i : ℕ) (old new : List (ℕ × ℕ)) → HasPairsUpTo ls i old → HasPairs ls (i + 1) (i + 1 + 1) (length ls + 1) old new → HasPairsUpTo ls (i + 1) new
pairs_up_to ls i old new h more = record {
  good = more.good h.good;
  all = λ a b low less own. elim (cases_lt a (i + 1)) [
    | inl early ↦ more.kept (a, b) (h.all a b (omega (arith, early)) less own)
    | inr late ↦ (
        let same : i + 1 ≡ a = omega (arith, low, late) in
        let within = (leaf_within ls b (not own.0, own.1) own.3).1 in
        subst (λ (k : ℕ). Contains new (k, b)) same (more.all b (omega (arith, less, same)) (omega (arith, within)) (subst (λ (k : ℕ). IsGood ls (k, b)) (sym same) own)))
  ];
}

turned_good : (ls : List (Bool × Term)) (i j : ℕ) → IsGood ls (i, j) → IsGood ls (j, i)
turned_good ls i j h = (not h.0, h.1, h.3, h.2 ∙ ap (λ (p : Bool). Some (p, h.1)) (turned_twice h.0))
  where
    turned_twice : (p : Bool) → p ≡ not (not p)
    turned_twice true = refl
    turned_twice false = refl

pub all_good_pairs : (ls : List (Bool × Term)) (i : ℕ) (mating : List (ℕ × ℕ)) → length ls ≤ i → HasPairsUpTo ls i mating → HoldsGoodPairs ls mating
all_good_pairs ls n mating enough h i j good =
    elim (cases_lt i j) [
      | inl less ↦ inl (h.all i j (let within = (leaf_within ls i (good.0, good.1) good.2).1 in omega (arith, within, enough)) less good)
      | inr more ↦ inr (h.all j i (let within = (leaf_within ls j (not good.0, good.1) good.3).1 in omega (arith, within, enough)) (apart more) (turned_good ls i j good))
    ]
  where
    apart : j ≤ i → j < i
    apart more = elim (cases_lt j i) [ inl less ↦ less | inr other ↦ absurd (same_leaf good.0 (let same : i ≡ j = omega (arith, more, other) in sym good.2 ∙ ap (leaf_at ls) same ∙ good.3)) ]
      where
        same_leaf : (p : Bool) → ◌≡◌ {A = Option (Bool × Term)} (Some (p, good.1)) (Some (not p, good.1)) → ⊥
        same_leaf true e = let one : ◌≡◌ {A = Bool × Term} (true, good.1) (false, good.1) = some_same (true, good.1) (false, good.1) e in let turned = ap (λ (leaf : Bool × Term). leaf.0) one in cc
        same_leaf false e = let one : ◌≡◌ {A = Bool × Term} (false, good.1) (true, good.1) = some_same (false, good.1) (true, good.1) e in let turned = ap (λ (leaf : Bool × Term). leaf.0) one in cc

-- matings that span

pub unspanned : (f : FittedTree) (pairs : List (ℕ × ℕ)) (r : Option (List ℕ)) (x : List ℕ) → IsFitted f → All (IsGood f.leaf_list) pairs → HoldsGoodPairs f.leaf_list pairs
    → (All (IsGood f.leaf_list) pairs → HoldsGoodPairs f.leaf_list pairs → HasAtoms f → (IsNone r ↔ HasTautology f)) → r ≡ Some x → CanBeMated f.formula f.tree → ⊥
unspanned f pairs r x fitted good whole decides some h =
    let same : h.standing ≡ fitted.0 = tree-unique f.formula f.tree h.standing fitted.0 h.is_tree fitted.1.is_tree in
    let atoms : HasAtoms f = subst (λ (ls : List (Bool × Term)). All (λ (leaf : Bool × Term). IsAtom leaf.1) ls) (sym (fitted.1.leaf_list ∙ ap leaves (sym same))) h.atoms in
    let tautology : HasTautology f = λ s fits. subst (λ (s : Standing). IsTautology (deep_formula s)) (tree-unique f.formula f.tree h.standing s h.is_tree fits.is_tree) h.tautology in
    let none : IsNone r = (decides good whole atoms).1 tautology in
    let taken : true ≡ false = subst IsNone some none in
    cc

pub spanned : (f : FittedTree) (pairs : List (ℕ × ℕ)) (r : Option (List ℕ)) → IsFitted f → All (IsGood f.leaf_list) pairs → (IsNone r ↔ Spans pairs f.path_list) → r ≡ None → IsSpannedBy f.formula f.tree pairs
spanned f pairs r fitted good spans none =
    let open_none : IsNone r = subst IsNone (sym none) refl in record {
      standing = fitted.0;
      is_tree = fitted.1.is_tree;
      good = subst (λ (ls : List (Bool × Term)). All (IsGood ls) pairs) fitted.1.leaf_list good;
      spans = subst (Spans pairs) fitted.1.path_list (spans.0 open_none);
    }

pub mated_proof : (formula : Term) (tree : ExpansionTree) (mating : List (ℕ × ℕ)) → IsFormula formula → IsSpannedBy formula tree mating → CanBeMated formula tree
    → IsProof (record { formula = formula; tree = tree; mating = mating })
mated_proof formula tree mating is_formula spanned h =
    let same : spanned.standing ≡ h.standing = tree-unique formula tree spanned.standing h.standing spanned.is_tree h.is_tree in (
      h.standing,
      record {
        formula = is_formula;
        is_tree = h.is_tree;
        good = subst (λ (s : Standing). All (IsGood (leaves s)) mating) same spanned.good;
        acyclic = h.acyclic;
        spans = subst (λ (s : Standing). Spans mating (paths s)) same spanned.spans;
      },
    )

-- faults

pub unfit : (formula : Term) (tree : ExpansionTree) (e : FitFault) (wanting : Bool) → wanting ≡ false → (IsTrue wanting ↔ (e ≡ Memory)) → UnlessMemory e ((s : Standing) → IsTree formula tree s → ⊥)
    → CanBeMated formula tree → ⊥
unfit formula tree e wanting no_want tells only h = go e (λ same. let yes : wanting ≡ true = tells.1 same in cc) only
  where
    go : (e : FitFault) → (e ≡ Memory → ⊥) → UnlessMemory e ((s : Standing) → IsTree formula tree s → ⊥) → ⊥
    go Memory none only = none refl
    go (Misfit k) none only = only h.standing h.is_tree
    go (BadTerm k) none only = only h.standing h.is_tree
    go (BadVariable k) none only = only h.standing h.is_tree

pub checked : (formula f : Term) (tree t : ExpansionTree) (mating : List (ℕ × ℕ)) (Wanting : Type 0) (wanting : Bool) → IsFormula formula → f ≡ formula → t ≡ tree → IsSpannedBy formula tree mating
    → wanting ≡ false → (IsTrue wanting ↔ Wanting) → ((Wanting → ⊥) → IsProof (record { formula = f; tree = t; mating = mating }) → ⊥) → CanBeMated formula tree → ⊥
checked formula f tree t mating Wanting wanting is_formula same_formula same_tree spanned no_want tells refused h =
    refused (λ same. let yes : wanting ≡ true = tells.1 same in cc)
    (subst (λ (a : Term). IsProof (record { formula = a; tree = t; mating = mating })) (sym same_formula)
    (subst (λ (t : ExpansionTree). IsProof (record { formula = formula; tree = t; mating = mating })) (sym same_tree) (mated_proof formula tree mating is_formula spanned h)))
