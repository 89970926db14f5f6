use Rattle.std.proofs.Common.{map}
use Rattle.tree_growth.specs.Growths.{plain_growth}
use Rattle.plain_search.proofs.Extended.{task_grown, task_kept}
use Rattle.plain_search.proofs.tasks.Task.grown.Goals as goal

pub returns-clause-candidates : goal.returns-clause-candidates
returns-clause-candidates c w candidate =
    task_kept c.args.self.now w c.args.weight (plain_growth c.args.growth.now) (map plain_growth c.in_ok-extended.extended.items) (map plain_growth c.in_ok-all.all.items) candidate c.requires.task
    (rw c.deref.ensures.value at c.in_ok-all.ensures.trees) c.in_ok-all.ensures.numbers c.in_ok-extended.ensures

pub returns-clause-grown : goal.returns-clause-grown
returns-clause-grown c =
    task_grown c.args.self.now c.requires.candidate.0 c.args.weight (plain_growth c.args.growth.now) (map plain_growth c.in_ok-extended.extended.items) (map plain_growth c.in_ok-all.all.items) c.requires.candidate.1 c.requires.task
    (rw c.deref.ensures.value at c.in_ok-all.ensures.trees) c.in_ok-all.ensures.numbers c.in_ok-extended.ensures
