use Rattle.std.proofs.Common.{Bool, cond, Some, None, ap, ◌∙◌}
use Rattle.rulep_decide.specs.Circuits.{nodes_of}
use Rattle.rulep_decide.specs.Trails.{steps_of}
use Rattle.rulep_decide.proofs.Searching.{advances_by_turn}
use Rattle.rulep_decide.proofs.search.turned_back.Goals as goal

pub returns-then-branch : goal.returns-then-branch
returns-then-branch c =
    advances_by_turn (nodes_of c.args.circuit.now) c.args.trail.now c.turn_back.new.self c.requires.good c.requires.refuted
    c.in_ok-turn_back.ensures.trail c.in_ok-turn_back.ensures.count
    (c.in_ok-turn_back.ensures.turned ∙ ap (λ (b : Bool). cond b (Some (steps_of c.turn_back.new.self)) None) c.if-branch.true)
