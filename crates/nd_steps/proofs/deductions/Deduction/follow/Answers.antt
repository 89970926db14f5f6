use Rattle.hol_terms.specs.Terms.{plain_term}
use Rattle.nd_steps.proofs.Justifying.{follow_justified}
use Rattle.nd_steps.proofs.deductions.Deduction.follow.Goals as goal

pub add-requires-clause-justified : goal.add-requires-clause-justified
add-requires-clause-justified c = λ d. follow_justified c.args.self.now d c.args.hyps.now (plain_term c.args.formula) c.args.sources c.requires.assumptions c.requires.premises
