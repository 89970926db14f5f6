use Rattle.std.proofs.Common.{◌+◌, arith}
use Rattle.hol_terms.specs.Terms.{plain_term}
use Rattle.nd_steps.proofs.Deriving.{own_justified, ok_assumes}
use Rattle.nd_steps.proofs.deductions.Deduction.assume.Goals as goal

pub add-requires-clause-justified : goal.add-requires-clause-justified
add-requires-clause-justified c =
    λ d. own_justified c.args.self.now d (c.len.result + 1) c.in_ok-own.own (plain_term c.args.formula) (omega (arith, c.len.ensures.count)) c.in_ok-own.ensures

pub returns-clause-assumes : goal.returns-clause-assumes
returns-clause-assumes c = ok_assumes c.add.result c.args.self.now c.add.new.self c.in_ok-own.own (plain_term c.args.formula) c.len.ensures.deduction c.add.ensures.line
