-- The tree of a staged tree without its branches.
use Rattle.std.proofs.Common.{ℕ, Bool, not, refl, inl}
use Rattle.std.specs.List.{AllByRecursion}
use Rattle.hol_terms.specs.Terms.{Term, free}
use Rattle.hol_terms.specs.Indices.{instance_of}
use Rattle.expansion_tree.specs.Budgets.{HasVariableHead}
use Rattle.expansion_tree.specs.Standing.{Standing, at_leaf, at_constant, at_negation, at_connective, at_selection, at_expansion, none_standing, left_polarity, leaves}
use Rattle.dependency.specs.Stages.{StagedTree, staged_leaf, staged_constant, staged_negation, staged_connective, staged_selection, staged_expansion, StagedBranches, none_staged, branch_staged, standing_of, stages, branch_stages}
use Rattle.grown_trees.specs.Growths.{IsBare}
use Rattle.grown_trees.specs.Targets.{Matches, BranchesMatch}
use Rattle.grown_trees.proofs.Every.{every_left, every_right}
use Rattle.grown_trees.proofs.Fitting.{Fits}
use Rattle.grown_trees.proofs.Selecting.{IsAfter}

abbrev pub bare_of : StagedTree → Standing
bare_of (staged_leaf p a) = at_leaf p a
bare_of (staged_constant p v) = at_constant p v
bare_of (staged_negation g) = at_negation (bare_of g)
bare_of (staged_connective op p g h) = at_connective op p (bare_of g) (bare_of h)
bare_of (staged_selection v g) = at_selection v (bare_of g)
bare_of (staged_expansion p bs) = at_expansion p none_standing

-- the leaf's formula has a variable as its head
abbrev pub IsAtomic : Bool × Term → Type 0
IsAtomic leaf = HasVariableHead leaf.1

pub bare_is_bare : (g : StagedTree) → AllByRecursion IsAtomic (leaves (standing_of g)) → IsBare (bare_of g)
bare_is_bare (staged_leaf p a) h = h.0
bare_is_bare (staged_constant p v) h = tt
bare_is_bare (staged_negation g) h = bare_is_bare g h
bare_is_bare (staged_connective op p g f) h =
    let left = leaves (standing_of g) in
    let right = leaves (standing_of f) in
    (bare_is_bare g (every_left IsAtomic left right h), bare_is_bare f (every_right IsAtomic left right h))
bare_is_bare (staged_selection v g) h = bare_is_bare g h
bare_is_bare (staged_expansion p bs) h = refl

pub bare_fits : (g : StagedTree) (p : Bool) (a : Term) → Fits p a (standing_of g) → Fits p a (bare_of g)
bare_fits (staged_leaf q b) p a h = h
bare_fits (staged_constant q v) p a h = h
bare_fits (staged_negation g) p a h = (h.0, h.1, bare_fits g (not p) h.0 h.2)
bare_fits (staged_connective op q g f) p a h = (h.0, h.1, h.2, h.3, bare_fits g (left_polarity op p) h.1 h.4, bare_fits f p h.2 h.5)
bare_fits (staged_selection v g) p a h = (h.0, h.1, bare_fits g p (instance_of h.0 (free v.0 v.1)) h.2)
bare_fits (staged_expansion q bs) p a h = (h.0, h.1, h.2, h.3, tt)

-- before all of its steps nothing has grown
none_match : (bs : StagedBranches) (above k : ℕ) → AllByRecursion (IsAfter k) (branch_stages above bs) → BranchesMatch k bs none_standing
none_match none_staged above k h = refl
none_match (branch_staged u step g bs) above k h = inl (h.0, none_match bs above k (every_right (IsAfter k) (stages step g) (branch_stages above bs) h.1))

pub bare_matches : (g : StagedTree) (above k : ℕ) → AllByRecursion (IsAfter k) (stages above g) → Matches k g (bare_of g)
bare_matches (staged_leaf p a) above k h = (a, refl)
bare_matches (staged_constant p v) above k h = (v, refl)
bare_matches (staged_negation g) above k h = (bare_of g, bare_matches g above k h, refl)
bare_matches (staged_connective op p g f) above k h =
    (bare_of g, bare_of f, bare_matches g above k (every_left (IsAfter k) (stages above g) (stages above f) h), bare_matches f above k (every_right (IsAfter k) (stages above g) (stages above f) h), refl)
bare_matches (staged_selection v g) above k h = (bare_of g, bare_matches g above k h, refl)
bare_matches (staged_expansion p bs) above k h = (none_standing, none_match bs above k h, refl)
