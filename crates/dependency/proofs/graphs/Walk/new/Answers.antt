use Rattle.dependency.proofs.Marks.{unseen_all}
use Rattle.dependency.proofs.graphs.Walk.new.Goals as goal

pub returns-clause-walk : goal.returns-clause-walk
returns-clause-walk c graph many =
    rw (c.in_ok-vec.ensures.items_if_clones_equal (λ y e. e), c.new.ensures.items, c.new-2.ensures.items) (unseen_all graph c.args.vertices many)
