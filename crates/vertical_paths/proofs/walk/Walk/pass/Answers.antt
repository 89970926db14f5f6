use Rattle.vertical_paths.proofs.Passing.{on_ok_both, untried-both}
use Rattle.vertical_paths.proofs.walk.Walk.pass.Goals as goal

pub returns-clause-paths : goal.returns-clause-paths
returns-clause-paths c =
    let put = c.in_ok-put.ensures in
    let last = c.put-2.ensures in
    on_ok_both c.put-2.result (untried-both c.args.self.now c.put.new.self c.put-2.new.self c.args.rest c.args.first.now c.args.second.now put.prefix put.next put.choice_paths last.prefix) last.next last.choice_paths
