-- Names that are exchanged: what holds of a tree holds of the tree with exchanged names.
use Rattle.std.proofs.Common.{◌≡◌, ◌≤◌, ◌<◌, ◌+◌, ◌↔◌, ℕ, List, [], ◌∷◌, Bool, true, false, cond, nat_eq, All, Contains, map, refl, sym, ap, ap₂, subst, ◌∙◌, arith, inl, inr, ◌⊎◌}
use Rattle.std.specs.List.{IsDistinct, sum_by}
use Rattle.std.proofs.lemmas.List.Elements.{All-contains, All-from_recursion, recursion_from_All}
use Rattle.hol_terms.specs.Terms.{SimpleType, Term, free, bound, constant, application, abstraction, negation, conjunction, disjunction, implication, truth, falsehood, truth_type, Variable}
use Rattle.hol_terms.specs.Computed.{same_variable}
use Rattle.hol_terms.specs.FreeVariables.{IsFree, free_variables_of}
use Rattle.hol_terms.specs.Truth.{Holds, IsTautology}
use Rattle.hol_terms.proofs.FreeLaws.{free_variables-contains}
use Rattle.hol_terms.proofs.Same.{same_variable_only, same_variable_refl}
use Rattle.expansion_tree.specs.Budgets.{Head, variable_head, constant_head, heads_of, IsInSignature, IsSelected, IsFill}
use Rattle.expansion_tree.specs.Faults.{IsTree, AreNew}
use Rattle.expansion_tree.specs.Occurrences.{term_weight}
use Rattle.expansion_tree.specs.Standing.{Standing, IsNormalFormula, deep_formula, leaves, selected_variables}
use Rattle.dependency.specs.Stages.{StagedTree, standing_of, Stage, stages, staged_variables, steps_of, staged_weight, IsInOrder, HasEachStep}
use Rattle.dependency.proofs.Elements.{Contains-image, image_of}
use Rattle.grown_trees.specs.Targets.{IsOverHeads, IsTarget}
use Rattle.grown_trees.proofs.Every.{every_contained}
use Rattle.grown_trees.proofs.Counted.{times, new_counted, counted_new}
use Rattle.grown_trees.proofs.Fitting.{stands_fits, tree_of, fits_stands}
use Rattle.grown_trees.proofs.Bareness.{IsAtomic}
use Rattle.grown_trees.proofs.Renaming.{NewNames, rename, renamed_variable, normal-rename, rename-fixed, renamed_head, heads-rename}
use Rattle.grown_trees.proofs.Renamed.{renamed_standing, renamed_staged, standing-renamed, fits-renamed, deep-renamed, leaves-renamed, selected-renamed, renamed_stage, stages-renamed, renamed_choice, variables-renamed, weights-renamed}

-- new names that can be taken back
pub record Exchange : Type 0 where
  pub to : NewNames
  pub from : NewNames
  pub forth : (n : List ℕ) (s : SimpleType) → from (to n s) s ≡ n
  pub back : (n : List ℕ) (s : SimpleType) → to (from n s) s ≡ n

pub variable_forth : (e : Exchange) (v : Variable) → renamed_variable e.from (renamed_variable e.to v) ≡ v
variable_forth e v = λ i. (e.forth v.0 v.1 i, v.1)

pub variable_back : (e : Exchange) (v : Variable) → renamed_variable e.to (renamed_variable e.from v) ≡ v
variable_back e v = λ i. (e.back v.0 v.1 i, v.1)

term_forth : (e : Exchange) (t : Term) → rename e.from (rename e.to t) ≡ t
term_forth e (free n s) = ap (λ (m : List ℕ). free m s) (e.forth n s)
term_forth e (bound i) = refl
term_forth e (constant c) = refl
term_forth e (application g a) = ap₂ application (term_forth e g) (term_forth e a)
term_forth e (abstraction s b) = ap (abstraction s) (term_forth e b)

term_back : (e : Exchange) (t : Term) → rename e.to (rename e.from t) ≡ t
term_back e (free n s) = ap (λ (m : List ℕ). free m s) (e.back n s)
term_back e (bound i) = refl
term_back e (constant c) = refl
term_back e (application g a) = ap₂ application (term_back e g) (term_back e a)
term_back e (abstraction s b) = ap (abstraction s) (term_back e b)

-- truth

contains_exchanged : (e : Exchange) (l : List Term) (a : Term) → Contains l (rename e.to a) ↔ Contains (map (rename e.from) l) a
contains_exchanged e l a = (
  (λ h. subst (Contains (map (rename e.from) l)) (term_forth e a) (Contains-image (rename e.from) l (rename e.to a) h)),
  (λ h. let q = image_of (rename e.from) l a h in subst (Contains l) (sym (term_back e q.0) ∙ ap (rename e.to) q.2) q.1),
)

holds_exchanged : (e : Exchange) (l : List Term) (a : Term) → Holds l (rename e.to a) ↔ Holds (map (rename e.from) l) a
holds_exchanged e l (application (constant negation) a) = let below = holds_exchanged e l a in ((λ h x. h (below.1 x)), (λ h x. h (below.0 x)))
holds_exchanged e l (application (application (constant conjunction) a) b) =
    let left = holds_exchanged e l a in let right = holds_exchanged e l b in ((λ h. (left.0 h.0, right.0 h.1)), (λ h. (left.1 h.0, right.1 h.1)))
holds_exchanged e l (application (application (constant disjunction) a) b) =
    let left = holds_exchanged e l a in let right = holds_exchanged e l b in
    ((λ h. elim h [ inl x ↦ inl (left.0 x) | inr y ↦ inr (right.0 y) ]), (λ h. elim h [ inl x ↦ inl (left.1 x) | inr y ↦ inr (right.1 y) ]))
holds_exchanged e l (application (application (constant implication) a) b) =
    let left = holds_exchanged e l a in let right = holds_exchanged e l b in ((λ h x. right.0 (h (left.1 x))), (λ h x. right.1 (h (left.0 x))))
holds_exchanged e l (constant truth) = ((λ h. h), (λ h. h))
holds_exchanged e l (constant falsehood) = ((λ h. h), (λ h. h))
holds_exchanged e l atom = contains_exchanged e l atom

tautology_exchanged : (e : Exchange) (a : Term) → IsTautology a → IsTautology (rename e.to a)
tautology_exchanged e a h l given =
    let other : List Term = map (rename e.from) l in (holds_exchanged e l a).1 (h other (All-from_recursion (Holds other) [] tt))

-- variables

free_exchanged : (e : Exchange) (v : Variable) (t : Term) → IsFree (e.to v.0 v.1) v.1 (rename e.to t) → IsFree v.0 v.1 t
free_exchanged e v (free m r) h = (sym (e.forth v.0 v.1) ∙ ap₂ e.from h.0 h.1 ∙ e.forth m r, h.1)
free_exchanged e v (bound i) h = h
free_exchanged e v (constant c) h = h
free_exchanged e v (application f a) (inl h) = inl (free_exchanged e v f h)
free_exchanged e v (application f a) (inr h) = inr (free_exchanged e v a h)
free_exchanged e v (abstraction s b) h = free_exchanged e v b h

same_tests : (b c : Bool) → (b ≡ true → c ≡ true) → (c ≡ true → b ≡ true) → b ≡ c
same_tests true true f g = refl
same_tests true false f g = sym (f refl)
same_tests false true f g = g refl
same_tests false false f g = refl

test_exchanged : (e : Exchange) (v w : Variable) → same_variable v (renamed_variable e.to w) ≡ same_variable (renamed_variable e.from v) w
test_exchanged e v w = same_tests (same_variable v (renamed_variable e.to w)) (same_variable (renamed_variable e.from v) w)
    (λ h. let same : renamed_variable e.from v ≡ w = ap (renamed_variable e.from) (same_variable_only v (renamed_variable e.to w) h) ∙ variable_forth e w in
    ap (same_variable (renamed_variable e.from v)) (sym same) ∙ same_variable_refl (renamed_variable e.from v))
    (λ h. let same : v ≡ renamed_variable e.to w = sym (variable_back e v) ∙ ap (renamed_variable e.to) (same_variable_only (renamed_variable e.from v) w h) in
    ap (same_variable v) (sym same) ∙ same_variable_refl v)

times_exchanged : (e : Exchange) (v : Variable) (vs : List Variable) → times v (map (renamed_variable e.to) vs) ≡ times (renamed_variable e.from v) vs
times_exchanged e v [] = refl
times_exchanged e v (w ∷ vs) = ap₂ (λ (b : Bool) (n : ℕ). cond b 1 0 + n) (test_exchanged e v w) (times_exchanged e v vs)

-- targets

steps_kept : (f : NewNames) (xs : List Stage) → map (λ (x : Stage). x.step) (map (renamed_stage f) xs) ≡ map (λ (x : Stage). x.step) xs
steps_kept f [] = refl
steps_kept f (x ∷ xs) = ap (λ (l : List ℕ). x.step ∷ l) (steps_kept f xs)

pub weight_exchanged : (f : NewNames) (g : StagedTree) → staged_weight (renamed_staged f g) ≡ staged_weight g
weight_exchanged f g = ap (sum_by (λ (x : Stage). term_weight x.term)) (stages-renamed f g 0) ∙ weights-renamed f (stages 0 g)

module _ (formula : Term) (level n : ℕ) (g : StagedTree) (e : Exchange) (target : IsTarget formula level n g)
    (fixed : (v : Variable) → Contains (free_variables_of formula) v → renamed_variable e.to v ≡ v)
    (fill : (v : Variable) → IsFill v → (renamed_variable e.to v ≡ v) ⊎ Contains (selected_variables (standing_of g)) v) where
  abbrev exchanged : Standing
  exchanged = renamed_standing e.to (standing_of g)

  abbrev is_exchanged : exchanged ≡ standing_of (renamed_staged e.to g)
  is_exchanged = sym (standing-renamed e.to g)

  abbrev selects : selected_variables exchanged ≡ map (renamed_variable e.to) (selected_variables (standing_of g))
  selects = selected-renamed e.to (standing_of g)

  formula_fixed : rename e.to formula ≡ formula
  formula_fixed = rename-fixed e.to formula (λ v used. fixed v ((free_variables-contains v.0 v.1 formula).1 used))

  new_exchanged : AreNew (free_variables_of formula) (selected_variables exchanged)
  new_exchanged = counted_new (free_variables_of formula) (selected_variables exchanged) (λ v.
      let same : times v (selected_variables exchanged) ≡ times (renamed_variable e.from v) (selected_variables (standing_of g)) =
      ap (times v) selects ∙ times_exchanged e v (selected_variables (standing_of g)) in
      let all = new_counted (free_variables_of formula) (selected_variables (standing_of g)) target.is_tree.selected (renamed_variable e.from v) in (
        omega (arith, same, all.0),
        λ there.
            let itself : v ≡ renamed_variable e.from v = sym (variable_forth e v) ∙ ap (renamed_variable e.from) (fixed v there) in
            let none = all.1 (subst (Contains (free_variables_of formula)) itself there) in
            omega (arith, same, none),
      ))

  tree_exchanged : IsTree formula (tree_of exchanged) exchanged
  tree_exchanged = record {
    normal = rename e.to target.is_tree.normal;
    is_normal = subst (IsNormalFormula (rename e.to target.is_tree.normal)) formula_fixed (normal-rename e.to [] truth_type target.is_tree.normal formula target.is_tree.is_normal);
    stands = fits_stands exchanged true (rename e.to target.is_tree.normal)
        (fits-renamed e.to (standing_of g) true target.is_tree.normal (stands_fits target.tree true target.is_tree.normal (standing_of g) target.is_tree.stands));
    selected = new_exchanged;
  }

  selected_exchanged : (v : Variable) → Contains (selected_variables (standing_of g)) v → Contains (selected_variables exchanged) (renamed_variable e.to v)
  selected_exchanged v there =
      subst (λ (l : List Variable). Contains l (renamed_variable e.to v)) (sym selects) (Contains-image (renamed_variable e.to) (selected_variables (standing_of g)) v there)

  head_exchanged : (head : Head) → IsInSignature formula level head ⊎ IsSelected (selected_variables (standing_of g)) head
      → IsInSignature formula level (renamed_head e.to head) ⊎ IsSelected (selected_variables exchanged) (renamed_head e.to head)
  head_exchanged (variable_head v) (inl (inl there)) = inl (inl (subst (Contains (free_variables_of formula)) (sym (fixed v there)) there))
  head_exchanged (variable_head v) (inl (inr is_fill)) = elim (fill v is_fill) [
    | inl same ↦ inl (inr (subst IsFill (sym same) is_fill))
    | inr among ↦ inr (selected_exchanged v among)
  ]
  head_exchanged (variable_head v) (inr among) = inr (selected_exchanged v among)
  head_exchanged (constant_head c) (inl known) = inl known
  head_exchanged (constant_head c) (inr among) = absurd among

  over_exchanged : (u : Term) → IsOverHeads formula level (selected_variables (standing_of g)) u → IsOverHeads formula level (selected_variables exchanged) (rename e.to u)
  over_exchanged u h =
      let Q : Head → Type 0 = λ head. IsInSignature formula level head ⊎ IsSelected (selected_variables (standing_of g)) head in
      let R : Head → Type 0 = λ head. IsInSignature formula level head ⊎ IsSelected (selected_variables exchanged) head in
      All-from_recursion R (heads_of (rename e.to u)) (every_contained R (heads_of (rename e.to u)) (λ head there.
      let q = image_of (renamed_head e.to) (heads_of u) head (subst (λ (l : List Head). Contains l head) (heads-rename e.to u) there) in
      subst R q.2 (head_exchanged q.0 (All-contains Q (heads_of u) q.0 h q.1))))

  stage_of : (x : Stage) → Contains (stages 0 (renamed_staged e.to g)) x → (y : Stage) × Contains (stages 0 g) y × (renamed_stage e.to y ≡ x)
  stage_of x there = image_of (renamed_stage e.to) (stages 0 g) x (subst (λ (l : List Stage). Contains l x) (stages-renamed e.to g 0) there)

  heads_exchanged : All (λ (x : Stage). IsOverHeads formula level (selected_variables exchanged) x.term) (stages 0 (renamed_staged e.to g))
  heads_exchanged =
      let Q : Stage → Type 0 = λ x. IsOverHeads formula level (selected_variables (standing_of g)) x.term in
      let R : Stage → Type 0 = λ x. IsOverHeads formula level (selected_variables exchanged) x.term in
      let all : List Stage = stages 0 (renamed_staged e.to g) in
      All-from_recursion R all (every_contained R all (λ x there.
      let q = stage_of x there in
      subst R q.2 (over_exchanged q.0.term (All-contains Q (stages 0 g) q.0 target.heads q.1))))

  order_exchanged : IsInOrder (renamed_staged e.to g)
  order_exchanged = record {
    inside = λ x there. let q = stage_of x there in subst (λ (x : Stage). x.above < x.step) q.2 (target.in_order.inside q.0 q.1);
    used = λ x v step there among.
        let q = stage_of x there in
        let c = image_of (renamed_choice e.to) (staged_variables 0 g) (v, step) (subst (λ (l : List (Variable × ℕ)). Contains l (v, step)) (variables-renamed e.to g 0) among) in
        let P : Stage → Variable × ℕ → Type 0 = λ x d. IsFree d.0.0 d.0.1 x.term → d.1 < x.step in
        let own : P (renamed_stage e.to q.0) (renamed_choice e.to c.0) = λ used. target.in_order.used q.0 c.0.0 c.0.1 q.1 c.1 (free_exchanged e c.0.0 q.0.term used) in
        let here : P x (renamed_choice e.to c.0) = subst (λ (x : Stage). P x (renamed_choice e.to c.0)) q.2 own in
        subst (P x) c.2 here;
  }

  steps_exchanged : HasEachStep n (renamed_staged e.to g)
  steps_exchanged =
      let same : steps_of g ≡ steps_of (renamed_staged e.to g) = sym (ap (map (λ (x : Stage). x.step)) (stages-renamed e.to g 0) ∙ steps_kept e.to (stages 0 g)) in
      record {
        numbers = subst (All (λ step. (1 ≤ step) × (step ≤ n))) same target.steps.numbers;
        all = λ step low high. subst (λ (l : List ℕ). Contains l step) same (target.steps.all step low high);
        once = subst (IsDistinct nat_eq) same target.steps.once;
      }

  pub target_exchanged : IsTarget formula level n (renamed_staged e.to g)
  target_exchanged = record {
    tree = tree_of exchanged;
    is_tree = subst (IsTree formula (tree_of exchanged)) is_exchanged tree_exchanged;
    atoms = subst (λ (s : Standing). All IsAtomic (leaves s)) is_exchanged
        (All-from_recursion IsAtomic (leaves exchanged) (leaves-renamed e.to (standing_of g) (recursion_from_All IsAtomic (leaves (standing_of g)) target.atoms)));
    heads = subst (λ (s : Standing). All (λ (x : Stage). IsOverHeads formula level (selected_variables s) x.term) (stages 0 (renamed_staged e.to g))) is_exchanged heads_exchanged;
    in_order = order_exchanged;
    steps = steps_exchanged;
    tautology = subst (λ (s : Standing). IsTautology (deep_formula s)) is_exchanged
        (subst IsTautology (sym (deep-renamed e.to (standing_of g))) (tautology_exchanged e (deep_formula (standing_of g)) target.tautology));
  }
