use Rattle.hol_terms.specs.Terms.{plain_term}
use Rattle.nd_steps.proofs.Deriving.{from_one}
use Rattle.nd_steps.proofs.deductions.Deduction.follow_one.Goals as goal

pub follow-requires-clause-premises : goal.follow-requires-clause-premises
follow-requires-clause-premises c = from_one c.args.self.now c.args.hyps.now c.in_ok-sources.sources c.args.source (plain_term c.args.formula) c.in_ok-sources.ensures c.requires.premises
