use Rattle.hol_terms.specs.Terms.{plain_term}
use Rattle.nd_steps.proofs.Deriving.{from_three}
use Rattle.nd_steps.proofs.deductions.Deduction.follow_three.Goals as goal

pub follow-requires-clause-premises : goal.follow-requires-clause-premises
follow-requires-clause-premises c = from_three c.args.self.now c.args.hyps.now c.in_ok-sources.sources c.args.first c.args.second c.args.third (plain_term c.args.formula) c.in_ok-sources.ensures c.requires.premises
