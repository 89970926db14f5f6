use Rattle.hol_terms.specs.Terms.{plain_term}
use Rattle.expansion_tree.specs.Trees.{plain_tree}
use Rattle.plain_search.proofs.Mated.{unfit}
use Rattle.plain_search.proofs.trials.spanning.Goals as goal

pub returns-else-wants_memory-clause-none : goal.returns-else-wants_memory-clause-none
returns-else-wants_memory-clause-none c =
    unfit (plain_term c.args.formula.now) (plain_tree c.args.tree.now) c.in-Err.fault c.wants_memory.result c.if-wants_memory.false c.wants_memory.ensures c.in-Err.ensures.only
