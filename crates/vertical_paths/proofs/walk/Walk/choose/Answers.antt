use Rattle.std.proofs.Common.{◌∙◌, ap, ◌∷◌}
use Rattle.vertical_paths.specs.Walks.{chain}
use Rattle.vertical_paths.proofs.Passing.{on_ok_both, untried-either}
use Rattle.vertical_paths.proofs.walk.Walk.choose.Goals as goal

pub returns-clause-paths : goal.returns-clause-paths
returns-clause-paths c =
    let put = c.in_ok-put.ensures in
    let left = c.in_ok-leave.ensures in
    let last = c.put-2.ensures in
    on_ok_both c.put-2.result
    (λ next. untried-either c.args.self.now c.put.new.self c.leave.new.self c.put-2.new.self c.args.rest c.args.first.now c.args.second.now put.prefix put.next put.choice_paths left.choice_paths left.prefix last.prefix
    (next ∙ ap (λ tasks. c.args.first.now ∷ chain tasks.items c.args.rest) left.tasks ∙ ap (λ l. c.args.first.now ∷ l) (put.older c.args.rest c.requires.rest)))
    last.next last.choice_paths
