-- A target in which the variables of one tree get the names of those of another.
use Rattle.std.proofs.Common.{◌≡◌, ◌≤◌, ℕ, zero, suc, List, [], Bool, true, Contains, refl, sym, subst, arith, inl, inr, ◌⊎◌}
use Rattle.std.proofs.lemmas.List.Elements.{All-contains}
use Rattle.hol_terms.specs.Terms.{Term, Variable, truth_type}
use Rattle.hol_terms.specs.Typing.{IsFormula}
use Rattle.hol_terms.specs.FreeVariables.{free_variables_of}
use Rattle.hol_conv.proofs.Normals.{one_normal_form}
use Rattle.expansion_tree.specs.Trees.{ExpansionTree}
use Rattle.expansion_tree.specs.Budgets.{IsFill}
use Rattle.expansion_tree.specs.Faults.{IsTree}
use Rattle.expansion_tree.specs.Standing.{Standing, selected_variables}
use Rattle.dependency.specs.Stages.{StagedTree, standing_of, Stage, stages, steps_of, staged_weight}
use Rattle.dependency.proofs.Elements.{Contains-image}
use Rattle.grown_trees.specs.Growths.{IsBare}
use Rattle.grown_trees.specs.Targets.{AreNoFill, IsTarget, Matches}
use Rattle.grown_trees.proofs.Every.{every_contained}
use Rattle.grown_trees.proofs.Counted.{times, contains_times, times_contains, AreCounted, new_counted, IsOnce, counted_once}
use Rattle.grown_trees.proofs.Fitting.{Fits, stands_fits}
use Rattle.grown_trees.proofs.Selecting.{IsAfter, matched_times}
use Rattle.grown_trees.proofs.Bareness.{bare_of, bare_is_bare, bare_fits, bare_matches}
use Rattle.grown_trees.proofs.Next.{target_atomic, matched_new}
use Rattle.grown_trees.proofs.Renamed.{renamed_standing, renamed_staged, matches-renamed}
use Rattle.grown_trees.proofs.Exchanging.{target_exchanged, weight_exchanged}
use Rattle.grown_trees.proofs.Swapping.{Exchanged, exchange_for}
use Rattle.grown_trees.proofs.Pairing.{Paired, paired, paired_types, paired_left, paired_right}
use Rattle.grown_trees.proofs.Alike.{Alike, matches_alike, IsSent, paired_alike}

contained_or_not : (v : Variable) (xs : List Variable) → Contains xs v ⊎ (Contains xs v → ⊥)
contained_or_not v xs = go (times v xs) refl
  where
    go : (k : ℕ) → times v xs ≡ k → Contains xs v ⊎ (Contains xs v → ⊥)
    go zero e = inr (λ there. let some = contains_times v xs there in omega (arith, some, e))
    go (suc k) e = inl (times_contains v xs (omega (arith, e)))

pub counted_apart : (taken vs : List Variable) (v : Variable) → AreCounted taken vs → Contains taken v → Contains vs v → ⊥
counted_apart taken vs v h there among = let none = (h v).1 there in let some = contains_times v vs among in omega (arith, none, some)

-- how the names of two trees of the same nodes are exchanged
pub record Sending (b c : Standing) : Type 0 where
  pub pairs : List (Variable × Variable)
  pub is_paired : Paired b c pairs
  pub sent : Exchanged pairs

pub sending : (b c : Standing) (p : Bool) (a d : Term) → a ≡ d → Fits p a b → Fits p d c → IsBare b → IsBare c
    → ((v : Variable) → times v (selected_variables b) ≤ 1) → ((v : Variable) → times v (selected_variables c) ≤ 1) → Sending b c
sending b c p a d e f g bare other once second =
    let q = paired b c p a d e f g bare other in
    record {
      pairs = q.0;
      is_paired = q.1;
      sent = exchange_for q.0 (paired_types b c q.0 q.1) (subst IsOnce (sym (paired_left b c q.0 q.1)) (counted_once (selected_variables b) once))
          (subst IsOnce (sym (paired_right b c q.0 q.1)) (counted_once (selected_variables c) second));
    }

-- what neither of the trees selects is kept
pub sending_keeps : (b c : Standing) (h : Sending b c) (v : Variable) → (Contains (selected_variables b) v → ⊥) → (Contains (selected_variables c) v → ⊥)
    → (let new : Variable = (h.sent.exchange.to v.0 v.1, v.1) in new ≡ v)
sending_keeps b c h v f g =
    h.sent.keeps v (λ there. f (subst (λ (l : List Variable). Contains l v) (paired_left b c h.pairs h.is_paired) there))
    (λ there. g (subst (λ (l : List Variable). Contains l v) (paired_right b c h.pairs h.is_paired) there))

pub sending_alike : (b c : Standing) (h : Sending b c) → Alike (renamed_standing h.sent.exchange.to b) c
sending_alike b c h = paired_alike h.sent.exchange.to b c h.pairs h.is_paired (every_contained (IsSent h.sent.exchange.to) h.pairs h.sent.sends)

pub sending_target : (formula : Term) (level n : ℕ) (g : StagedTree) (b c : Standing) (h : Sending b c) → IsTarget formula level n g
    → AreCounted (free_variables_of formula) (selected_variables b) → AreCounted (free_variables_of formula) (selected_variables c)
    → ((v : Variable) → Contains (selected_variables b) v → Contains (selected_variables (standing_of g)) v) → ((v : Variable) → Contains (selected_variables c) v → IsFill v → ⊥)
    → IsTarget formula level n (renamed_staged h.sent.exchange.to g)
sending_target formula level n g b c h target first second among no_fill =
    let taken = free_variables_of formula in
    target_exchanged formula level n g h.sent.exchange target
    (λ v there. sending_keeps b c h v (counted_apart taken (selected_variables b) v first there) (counted_apart taken (selected_variables c) v second there))
    (λ v fill. elim (contained_or_not v (selected_variables b)) [
      | inl there ↦ inr (among v there)
      | inr none ↦ inl (sending_keeps b c h v none (λ there. no_fill v there fill))
    ])

-- a bare tree has come to step 0
pub bare_comes : (formula : Term) (level n : ℕ) (g : StagedTree) (t : ExpansionTree) (s : Standing) → IsFormula formula → IsTarget formula level n g → IsTree formula t s → IsBare s
    → AreNoFill (selected_variables s) → (h : StagedTree) × IsTarget formula level n h × (staged_weight h ≡ staged_weight g) × Matches 0 h s
bare_comes formula level n g t s is_formula target tree bare no_fill =
    let taken = free_variables_of formula in
    let b : Standing = bare_of g in
    let normal = target.is_tree.normal in
    let same = one_normal_form [] formula normal tree.normal truth_type target.is_tree.is_normal tree.is_normal in
    let matched : Matches 0 g b = bare_matches g 0 0 (every_contained (IsAfter 0) (stages 0 g) (λ x there.
    let low = (All-contains (λ (step : ℕ). (1 ≤ step) × (step ≤ n)) (steps_of g) x.step target.steps.numbers (Contains-image (λ (x : Stage). x.step) (stages 0 g) x there)).0 in
    omega (arith, low))) in
    let first : AreCounted taken (selected_variables b) = new_counted taken (selected_variables b) (matched_new formula level n 0 g b target matched) in
    let second : AreCounted taken (selected_variables s) = new_counted taken (selected_variables s) tree.selected in
    let h : Sending b s = sending b s true normal tree.normal same (bare_fits g true normal (stands_fits target.tree true normal (standing_of g) target.is_tree.stands))
    (stands_fits t true tree.normal s tree.stands) (bare_is_bare g (target_atomic formula level n g target)) bare (λ v. (first v).0) (λ v. (second v).0) in
    let f = h.sent.exchange.to in (
      renamed_staged f g,
      sending_target formula level n g b s h target first second
          (λ v there. let some = contains_times v (selected_variables b) there in let less = matched_times g 0 v b matched in times_contains v (selected_variables (standing_of g)) (omega (arith, some, less)))
          (λ v there. All-contains (λ (v : Variable). IsFill v → ⊥) (selected_variables s) v no_fill there),
      weight_exchanged f g,
      matches_alike (renamed_staged f g) 0 (renamed_standing f b) s (matches-renamed f g 0 b matched) (sending_alike b s h),
    )
