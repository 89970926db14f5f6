use Rattle.hol_terms.specs.Terms.{plain_term, truth_type}
use Rattle.hol_conv.proofs.Uniqueness.{equal_normals}
use Rattle.nd_rules.proofs.converting.different_normals.Goals as goal

pub returns-then-same : goal.returns-then-same
returns-then-same c =
    (equal_normals truth_type (plain_term c.args.s.now) (plain_term c.args.t.now) (plain_term c.in_ok-first.first) (plain_term c.in_ok-second.second) (c.in_ok-first.ensures.normal truth_type c.requires.first) (c.in_ok-second.ensures.normal truth_type c.requires.second)).0 (c.same.ensures.0 c.if-same.true)
