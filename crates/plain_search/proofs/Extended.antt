-- The extensions of a candidate by one more branch.
use Rattle.std.proofs.Common.{◌≡◌, ◌<◌, ◌≤◌, ◌+◌, ◌^◌, ◌↔◌, ℕ, List, [], ◌++◌, true, All, Contains, map, refl, sym, subst, arith, inl, inr, ◌⊎◌}
use Rattle.std.proofs.lemmas.List.Elements.{All-contains, All-from_recursion, Contains-append_left, Contains-append_right, Contains-append_cases}
use Rattle.hol_terms.specs.Terms.{Term, plain_term, truth_type}
use Rattle.hol_terms.specs.FreeVariables.{free_variables_of}
use Rattle.hol_conv.proofs.Normals.{one_normal_form}
use Rattle.expansion_tree.specs.Budgets.{Head, heads_of, IsInSignature, IsSelected}
use Rattle.expansion_tree.specs.Standing.{IsNormalFormula, Standing, Stands, selected_variables}
use Rattle.expansion_tree.proofs.Excluding.{tree-unique}
use Rattle.dependency.specs.Stages.{standing_of}
use Rattle.dependency.proofs.Elements.{Contains-image, image_of}
use Rattle.grown_trees.specs.Growths.{AreGrown, IsGrown}
use Rattle.grown_trees.specs.Targets.{IsOverHeads}
use Rattle.grown_trees.proofs.Every.{every_contained}
use Rattle.tree_growth.specs.Extending.{Extend}
use Rattle.tree_growth.specs.Growths.{Allowance, AreExtensions, GrownTree, HasNew, IsAllowed, IsExtension, IsNamesake, New}
use Rattle.plain_search.specs.Levels.{HasGrown, IsCandidate, with_selected}
use Rattle.plain_search.proofs.Keeping.{IsAdded, added_no_fill, added_tree, kept, with_new}
use Rattle.plain_search.specs.Tasks.{IsTask, names_of}
use Rattle.plain_search.specs.declared.tasks.Task.{Task}

-- what may be added to the tree c of the formula: heads of the signature and what c selects, and names from its number on
pub record IsFor (formula : Term) (level : ℕ) (c : GrownTree) (d : Allowance) : Type 0 where
  pub taken : d.taken ≡ names_of (free_variables_of formula)
  pub heads : (h : Head) → Contains d.heads h ↔ (IsInSignature formula level h ⊎ Contains c.1.selected h)
  pub from : d.from ≡ c.1.next

-- each tree has names below 2 ^ 64
abbrev pub AreSmall : List GrownTree → Type 0
AreSmall es = (e : GrownTree) → Contains es e → e.1.next ≤ 2 ^ 64

module _ (formula : Term) (level weight : ℕ) (c : GrownTree) (candidate : IsCandidate formula level weight c) (d : Allowance) (allowed : IsFor formula level c d) (normal : Term) (is_normal : IsNormalFormula normal formula) where
  abbrev old : Standing
  old = standing_of candidate.staged

  allowed_over : (u : Term) → IsAllowed d u → IsOverHeads formula level (selected_variables old) u
  allowed_over u h =
      let R : Head → Type 0 = λ head. IsInSignature formula level head ⊎ IsSelected (selected_variables old) head in
      All-from_recursion R (heads_of u) (every_contained R (heads_of u) (λ head there. elim ((allowed.heads head).0 (All-contains (Contains d.heads) (heads_of u) head h.over there)) [
        | inl known ↦ inl known
        | inr among ↦ inr ((candidate.selected head).0 among)
      ]))

  over_allowed : (u : Term) → IsOverHeads formula level (selected_variables old) u → All (Contains d.heads) (heads_of u)
  over_allowed u h =
      let R : Head → Type 0 = λ head. IsInSignature formula level head ⊎ IsSelected (selected_variables old) head in
      All-from_recursion (Contains d.heads) (heads_of u) (every_contained (Contains d.heads) (heads_of u) (λ head there. elim (All-contains R (heads_of u) head h there) [
        | inl known ↦ (allowed.heads head).1 (inl known)
        | inr among ↦ (allowed.heads head).1 (inr ((candidate.selected head).1 among))
      ]))

  own_new : (b : Standing) (new : New) → HasNew d.taken d.from b new → HasNew (names_of (free_variables_of formula)) c.1.next b new
  own_new b new h =
      subst (λ (taken : List (List ℕ)). HasNew taken c.1.next b new) allowed.taken (subst (λ (from : ℕ). HasNew d.taken from b new) allowed.from h)

  pub extension_kept : (e : GrownTree) → e.1.next ≤ 2 ^ 64 → IsExtension d true normal old e → IsCandidate formula level (weight + d.weight) (with_new c e)
  extension_kept e small h =
      let added : IsAdded formula level c e old h.term h.inner h.inner h.standing h.standing =
      record { normal = normal; is_normal = is_normal; over = allowed_over h.term h.allowed; grown = h.grown; stands = h.stands; new = own_new h.inner e.1 h.new; small = small } in
      subst (λ (w : ℕ). IsCandidate formula level (weight + w) (with_new c e)) h.allowed.weighs (kept formula level weight c e candidate h.term h.inner h.inner h.standing h.standing added)

  pub extensions_kept : (es : List GrownTree) → AreSmall es → AreExtensions d true normal old es → (e : GrownTree) → Contains (map (with_new c) es) e → IsCandidate formula level (weight + d.weight) e
  extensions_kept es small h e there =
      let q = image_of (with_new c) es e there in
      subst (IsCandidate formula level (weight + d.weight)) q.2 (extension_kept q.0 (small q.0 q.1) (All-contains (IsExtension d true normal old) es q.0 h.each q.1))

  pub namesakes_there : (es : List GrownTree) → AreSmall es → AreExtensions d true normal old es → HasGrown formula level c d.weight (map (with_new c) es)
  namesakes_there es small h s u b t tree is_tree grown bare new_tree over weighs =
      let same : s ≡ old = tree-unique formula c.0 s old is_tree candidate.is_tree in
      let over : IsOverHeads formula level (selected_variables old) u = subst (λ (s : Standing). IsOverHeads formula level (selected_variables s) u) same over in
      let grown : IsGrown u b old t = subst (λ (s : Standing). IsGrown u b s t) same grown in
      let form : new_tree.normal ≡ normal = one_normal_form [] formula new_tree.normal normal truth_type new_tree.is_normal is_normal in
      let stands : Stands true normal tree t = subst (λ (a : Term). Stands true a tree t) form new_tree.stands in
      let found = h.all u b t tree (record { weighs = weighs; over = over_allowed u over }) grown bare stands in
      let e : GrownTree = found.0 in
      let namesake : IsNamesake d true normal old u b t e = found.2 in
      let added : IsAdded formula level c e old u namesake.inner b namesake.standing t =
      record { normal = normal; is_normal = is_normal; over = over; grown = namesake.grown; stands = namesake.stands; new = own_new namesake.inner e.1 namesake.new; small = small e found.1 } in (
        with_new c e,
        Contains-image (with_new c) es e found.1,
        namesake.inner,
        namesake.standing,
        subst (λ (s : Standing). AreGrown u namesake.inner b s namesake.standing t) (sym same) namesake.grown,
        added_tree formula level weight c e candidate u namesake.inner b namesake.standing t added,
        namesake.new.bare,
        added_no_fill formula level weight c e candidate u namesake.inner b namesake.standing t added,
      )

-- of a task

abbrev addition_of : Task → GrownTree → ℕ → Allowance
addition_of task c weight = record { taken = task.taken; heads = task.signature ++ c.1.selected; weight = weight; from = c.1.next }

module _ (task : Task) (w weight : ℕ) (c : GrownTree) (es all : List GrownTree) (candidate : IsCandidate (plain_term task.formula) task.level w c) (is_task : IsTask task)
    (same : all ≡ map (with_selected c.1.selected) es) (numbers : All (λ (e : GrownTree). e.1.next < 2 ^ 64) es) (extend : Extend (addition_of task c weight) true (plain_term task.normal) c.0 es) where
  task_for : IsFor (plain_term task.formula) task.level c (addition_of task c weight)
  task_for = record {
    taken = is_task.taken;
    heads = λ h. (
      (λ there. elim (Contains-append_cases task.signature c.1.selected h there) [ inl left ↦ inl ((is_task.signature h).0 left) | inr right ↦ inr right ]),
      (λ either. elim either [ inl known ↦ Contains-append_left task.signature c.1.selected h ((is_task.signature h).1 known) | inr among ↦ Contains-append_right task.signature c.1.selected h among ]),
    );
    from = refl;
  }

  small : AreSmall es
  small e there = let less = All-contains (λ (e : GrownTree). e.1.next < 2 ^ 64) es e numbers there in omega (arith, less)

  extensions : AreExtensions (addition_of task c weight) true (plain_term task.normal) (standing_of candidate.staged) es
  extensions =
      let form = one_normal_form [] (plain_term task.formula) candidate.is_tree.normal (plain_term task.normal) truth_type candidate.is_tree.is_normal is_task.normal in
      extend (standing_of candidate.staged) (subst (λ (a : Term). Stands true a c.0 (standing_of candidate.staged)) form candidate.is_tree.stands)

  pub task_kept : All (IsCandidate (plain_term task.formula) task.level (w + weight)) all
  task_kept =
      subst (λ (l : List GrownTree). All (IsCandidate (plain_term task.formula) task.level (w + weight)) l) (sym same)
      (All-from_recursion (IsCandidate (plain_term task.formula) task.level (w + weight)) (map (with_new c) es) (every_contained (IsCandidate (plain_term task.formula) task.level (w + weight)) (map (with_new c) es)
      (extensions_kept (plain_term task.formula) task.level w c candidate (addition_of task c weight) task_for (plain_term task.normal) is_task.normal es small extensions)))

  pub task_grown : HasGrown (plain_term task.formula) task.level c weight all
  task_grown =
      subst (HasGrown (plain_term task.formula) task.level c weight) (sym same)
      (namesakes_there (plain_term task.formula) task.level w c candidate (addition_of task c weight) task_for (plain_term task.normal) is_task.normal es small extensions)
