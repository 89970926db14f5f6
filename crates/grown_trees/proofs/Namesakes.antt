-- A namesake of a tree that has come to a step has come to it too, but for the names of the target.
use Rattle.std.proofs.Common.{◌≡◌, ◌≤◌, ◌+◌, ℕ, [], true, Contains, sym, arith, inl, inr, ◌⊎◌}
use Rattle.std.specs.List.{AllByRecursion}
use Rattle.std.proofs.lemmas.List.Elements.{All-contains}
use Rattle.hol_terms.specs.Terms.{Term, Variable, truth_type}
use Rattle.hol_terms.specs.Typing.{IsFormula}
use Rattle.hol_terms.specs.FreeVariables.{free_variables_of}
use Rattle.hol_conv.proofs.Normals.{one_normal_form}
use Rattle.expansion_tree.specs.Trees.{ExpansionTree}
use Rattle.expansion_tree.specs.Budgets.{Head, variable_head, heads_of, IsInSignature, IsSelected, IsFill}
use Rattle.expansion_tree.specs.Faults.{IsTree}
use Rattle.expansion_tree.specs.Standing.{Standing, selected_variables}
use Rattle.dependency.specs.Stages.{StagedTree, standing_of, Stage, stages, staged_weight}
use Rattle.grown_trees.specs.Growths.{AreGrown, IsBare}
use Rattle.grown_trees.specs.Targets.{AreNoFill, IsOverHeads, IsTarget, Matches}
use Rattle.grown_trees.proofs.Every.{every_contained}
use Rattle.grown_trees.proofs.Counted.{contains_times, times_contains, AreCounted, new_counted}
use Rattle.grown_trees.proofs.Fitting.{stands_fits}
use Rattle.grown_trees.proofs.Selecting.{matched_times, free_head}
use Rattle.grown_trees.proofs.Next.{selected_before}
use Rattle.grown_trees.proofs.Renaming.{rename-fixed}
use Rattle.grown_trees.proofs.Renamed.{renamed_standing, renamed_staged, matches-renamed}
use Rattle.grown_trees.proofs.Exchanging.{weight_exchanged}
use Rattle.grown_trees.proofs.Alike.{matches_alike, TermsAre, IsWanted, matched_terms, grown_terms, IsKept, IsTermKept, grown_alike}
use Rattle.grown_trees.proofs.Places.{StandTogether, grown_together, grown_times}
use Rattle.grown_trees.proofs.Sending.{Sending, sending, sending_keeps, sending_alike, sending_target, counted_apart}

module _ (formula : Term) (level n k : ℕ) (g : StagedTree) (u : Term) (b b' s r s' : Standing) (target : IsTarget formula level n g) (before : Matches k g s) (after : Matches (k + 1) g s')
    (grown : AreGrown u b b' s r s') (first : AreCounted (free_variables_of formula) (selected_variables s')) (second : AreCounted (free_variables_of formula) (selected_variables r))
    (no_fill : AreNoFill (selected_variables r)) where
  -- the new variables of s' are selected in the target
  new_among : (v : Variable) → Contains (selected_variables b') v → Contains (selected_variables (standing_of g)) v
  new_among v there =
      let some = contains_times v (selected_variables b') there in
      let sum = (grown_times v s r s' u b b' grown).1 in
      let less = matched_times g (k + 1) v s' after in
      times_contains v (selected_variables (standing_of g)) (omega (arith, some, sum, less))

  -- and neither in s, nor are those of r
  first_once : (v : Variable) → Contains (selected_variables s) v → Contains (selected_variables b') v → ⊥
  first_once v old new =
      let one = contains_times v (selected_variables s) old in
      let two = contains_times v (selected_variables b') new in
      let sum = (grown_times v s r s' u b b' grown).1 in
      let all = (first v).0 in
      omega (arith, one, two, sum, all)

  second_once : (v : Variable) → Contains (selected_variables s) v → Contains (selected_variables b) v → ⊥
  second_once v old new =
      let one = contains_times v (selected_variables s) old in
      let two = contains_times v (selected_variables b) new in
      let sum = (grown_times v s r s' u b b' grown).0 in
      let all = (second v).0 in
      omega (arith, one, two, sum, all)

  new_in_second : (v : Variable) → Contains (selected_variables b) v → Contains (selected_variables r) v
  new_in_second v there =
      let some = contains_times v (selected_variables b) there in
      let sum = (grown_times v s r s' u b b' grown).0 in
      times_contains v (selected_variables r) (omega (arith, some, sum))

  new_no_fill : (v : Variable) → Contains (selected_variables b) v → IsFill v → ⊥
  new_no_fill v there = All-contains (λ (v : Variable). IsFill v → ⊥) (selected_variables r) v no_fill (new_in_second v there)

  first_counted : AreCounted (free_variables_of formula) (selected_variables b')
  first_counted v =
      let sum = (grown_times v s r s' u b b' grown).1 in
      let all = first v in
      (omega (arith, sum, all.0), λ there. let none = all.1 there in omega (arith, sum, none))

  second_counted : AreCounted (free_variables_of formula) (selected_variables b)
  second_counted v =
      let sum = (grown_times v s r s' u b b' grown).0 in
      let all = second v in
      (omega (arith, sum, all.0), λ there. let none = all.1 there in omega (arith, sum, none))

  -- the terms up to the step have no new variables
  first_unused : (x : Stage) (v : Variable) → Contains (stages 0 g) x → x.step ≤ k + 1 → Contains (heads_of x.term) (variable_head v) → Contains (selected_variables b') v → ⊥
  first_unused x v there early used new = first_once v (selected_before formula level n k g s x v target before there early used (new_among v new)) new

  second_unused : (x : Stage) (v : Variable) → Contains (stages 0 g) x → x.step ≤ k + 1 → Contains (heads_of x.term) (variable_head v) → Contains (selected_variables b) v → ⊥
  second_unused x v there early used new =
      let Q : Head → Type 0 = λ head. IsInSignature formula level head ⊎ IsSelected (selected_variables (standing_of g)) head in
      let own : IsOverHeads formula level (selected_variables (standing_of g)) x.term =
      All-contains (λ (x : Stage). IsOverHeads formula level (selected_variables (standing_of g)) x.term) (stages 0 g) x target.heads there in
      by_head (All-contains Q (heads_of x.term) (variable_head v) own used)
    where
      by_head : IsInSignature formula level (variable_head v) ⊎ IsSelected (selected_variables (standing_of g)) (variable_head v) → ⊥
      by_head (inl (inl known)) = counted_apart (free_variables_of formula) (selected_variables b) v second_counted known new
      by_head (inl (inr fill)) = new_no_fill v new fill
      by_head (inr among) = second_once v (selected_before formula level n k g s x v target before there early used among) new

  module _ (h : Sending b' b) where
    terms_kept : TermsAre (IsTermKept h.sent.exchange.to) s'
    terms_kept =
        let f = h.sent.exchange.to in
        matched_terms g (IsTermKept f) 0 (k + 1) s'
        (every_contained (IsWanted (IsTermKept f) (k + 1)) (stages 0 g) (λ x there early.
        rename-fixed f x.term (λ v used.
        sending_keeps b' b h v (first_unused x v there early (free_head x.term v used)) (second_unused x v there early (free_head x.term v used)))))
        after

    variables_kept : AllByRecursion (IsKept h.sent.exchange.to) (selected_variables s)
    variables_kept = every_contained (IsKept h.sent.exchange.to) (selected_variables s) (λ v there. sending_keeps b' b h v (first_once v there) (second_once v there))

    pub namesake_sent : (h : StagedTree) × IsTarget formula level n h × (staged_weight h ≡ staged_weight g) × Matches (k + 1) h r
    namesake_sent =
        let f = h.sent.exchange.to in
        let terms = grown_terms s r s' (IsTermKept f) u b b' grown terms_kept in (
          renamed_staged f g,
          sending_target formula level n g b' b h target first_counted second_counted new_among new_no_fill,
          weight_exchanged f g,
          matches_alike (renamed_staged f g) (k + 1) (renamed_standing f s') r (matches-renamed f g (k + 1) s' after)
              (grown_alike f s r s' u b b' grown terms.0 variables_kept terms.1 (sending_alike b' b h)),
        )

  pub namesake_together : StandTogether b b' → IsBare b → IsBare b' → (h : StagedTree) × IsTarget formula level n h × (staged_weight h ≡ staged_weight g) × Matches (k + 1) h r
  namesake_together place bare other =
      namesake_sent (sending b' b place.polarity place.second place.first (sym place.same) place.other place.fits other bare (λ v. (first_counted v).0) (λ v. (second_counted v).0))

pub namesake_comes : (formula : Term) (level n k : ℕ) (g : StagedTree) (u : Term) (b b' s r s' : Standing) (t t' : ExpansionTree) → IsFormula formula
    → IsTarget formula level n g → Matches (k + 1) g s' → AreGrown u b b' s r s' → IsTree formula t r → IsTree formula t' s'
    → AreNoFill (selected_variables r) → IsBare b → IsBare b' → Matches k g s
    → (h : StagedTree) × IsTarget formula level n h × (staged_weight h ≡ staged_weight g) × Matches (k + 1) h r
namesake_comes formula level n k g u b b' s r s' t t' is_formula target after grown tree other no_fill bare second before =
    let taken = free_variables_of formula in
    let same = one_normal_form [] formula tree.normal other.normal truth_type tree.is_normal other.is_normal in
    let place = grown_together s r s' u b b' true tree.normal other.normal same grown (stands_fits t true tree.normal r tree.stands) (stands_fits t' true other.normal s' other.stands) in
    namesake_together formula level n k g u b b' s r s' target before after grown (new_counted taken (selected_variables s') other.selected) (new_counted taken (selected_variables r) tree.selected) no_fill
    place bare second
