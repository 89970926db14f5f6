-- Branches from a list of terms with their trees.
use Rattle.std.specs.Prelude.{List, [], ◌∷◌}
use Rattle.hol_terms.specs.Terms.{plain_term}
use Rattle.hol_terms.specs.declared.terms.Tm.{Tm}
use Rattle.expansion_tree.specs.declared.trees.Tree.{Tree}
use Rattle.expansion_tree.specs.Trees.{ExpansionBranches, branch, plain_tree}

-- the items as branches, before the given ones
abbrev pub branches_from : List (Tm × Tree) → ExpansionBranches → ExpansionBranches
branches_from [] bs = bs
branches_from (item ∷ items) bs = branch (plain_term item.0) (plain_tree item.1) (branches_from items bs)
