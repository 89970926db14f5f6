use Rattle.std.proofs.Common.{◌+◌, ◌*◌}
use Rattle.hol_terms.specs.Terms.{plain_term}
use Rattle.expansion_tree.specs.Occurrences.{term_weight}
use Rattle.tree_growth.proofs.bare.+bare.Given as goal

-- twice the weight of the formula, and one more where the formula isn't taken apart yet
abbrev pub decreases-bare : goal.decreases-bare
decreases-bare l = 2 * term_weight (plain_term l.formula) + 1

abbrev pub decreases-bare_negation : goal.decreases-bare_negation
decreases-bare_negation l = 2 * term_weight (plain_term l.formula)

abbrev pub decreases-bare_compound : goal.decreases-bare_compound
decreases-bare_compound l = 2 * term_weight (plain_term l.formula)

abbrev pub decreases-bare_selection : goal.decreases-bare_selection
decreases-bare_selection l = 2 * term_weight (plain_term l.formula)
