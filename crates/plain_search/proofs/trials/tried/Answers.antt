use Rattle.std.proofs.Common.{◌≡◌}
use Rattle.hol_terms.specs.Terms.{plain_term}
use Rattle.expansion_tree.specs.Trees.{plain_tree}
use Rattle.exp_check.specs.declared.faults.CheckFault.TheVariants.{Memory}
use Rattle.plain_search.proofs.Mated.{checked}
use Rattle.plain_search.proofs.trials.tried.Goals as goal

pub returns-else-check_wants_memory-clause-none : goal.returns-else-check_wants_memory-clause-none
returns-else-check_wants_memory-clause-none c =
    checked (plain_term c.args.formula.now) (plain_term c.in_ok-copy.field-0) (plain_tree c.args.tree.now) (plain_tree c.in_ok-copy-2.field-0) c.in-Some.mating (c.in-Err.fault ≡ Memory) c.check_wants_memory.result
    c.requires c.in_ok-copy.ensures c.in_ok-copy-2.ensures (rw c.in-Some.is at c.in_ok-mating.ensures.some) c.if-check_wants_memory.false c.check_wants_memory.ensures c.in-Err.ensures.refused
