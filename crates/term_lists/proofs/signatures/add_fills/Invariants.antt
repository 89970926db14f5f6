use Rattle.std.proofs.Common.{◌≡◌, ◌-◌, ◌++◌, map}
use Rattle.std.specs.List.{range_with_len}
use Rattle.hol_terms.specs.Terms.{plain_term}
use Rattle.hol_terms.specs.FreeVariables.{free_variables_of}
use Rattle.expansion_tree.specs.Budgets.{variable_head}
use Rattle.term_lists.specs.Heads.{plain_head}
use Rattle.term_lists.specs.Signatures.{fill_at, new_variables}
use Rattle.term_lists.proofs.signatures.add_fills.Given as goal

abbrev pub invariant-loop-byte : goal.invariant-loop-byte
invariant-loop-byte l =
    map plain_head l.heads.items
    ≡ map plain_head l.fn.heads.items ++ map variable_head (new_variables (free_variables_of (plain_term l.formula)) (map fill_at (range_with_len 65 (l.byte - 65))))
