-- The deep formula of a fitted tree as a tautology (Miller 1987).
use Rattle.std.specs.Prelude.{Bool, All}
use Rattle.hol_terms.specs.Terms.{Term}
use Rattle.hol_terms.specs.Truth.{IsAtom, IsTautology}
use Rattle.expansion_tree.specs.Fitted.{FittedTree, FitsAs}
use Rattle.expansion_tree.specs.Standing.{Standing, deep_formula}

-- the deep formula is a tautology, in the way in which the tree stands
abbrev pub HasTautology : FittedTree → Type 0
HasTautology f = (s : Standing) → FitsAs f s → IsTautology (deep_formula s)

-- the formula of each leaf is an atom
abbrev pub HasAtoms : FittedTree → Type 0
HasAtoms f = All (λ (leaf : Bool × Term). IsAtom leaf.1) f.leaf_list
