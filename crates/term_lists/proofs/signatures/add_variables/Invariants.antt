use Rattle.std.proofs.Common.{◌≡◌, ◌++◌, map, take}
use Rattle.hol_terms.specs.Terms.{plain_variable}
use Rattle.expansion_tree.specs.Budgets.{variable_head}
use Rattle.term_lists.specs.Heads.{plain_head}
use Rattle.term_lists.proofs.signatures.add_variables.Given as goal

abbrev pub invariant-loop-variable : goal.invariant-loop-variable
invariant-loop-variable l =
    map plain_head l.heads.items ≡ map plain_head l.fn.heads.items ++ map variable_head (map plain_variable (take l.variable-index l.variable-items))
