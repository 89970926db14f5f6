use Rattle.hol_terms.specs.Terms.{plain_term}
use Rattle.nd_steps.proofs.Forming.{deduct_formed}
use Rattle.nd_steps.proofs.Justifying.{deduct_justified}
use Rattle.nd_steps.proofs.deductions.Deduction.deduct.Goals as goal

pub add-requires-clause-formula : goal.add-requires-clause-formula
add-requires-clause-formula c = λ d. deduct_formed c.args.self.now d c.args.hyps.now (plain_term c.args.formula) c.args.source c.args.hyp c.requires.premises

pub add-requires-clause-justified : goal.add-requires-clause-justified
add-requires-clause-justified c = λ d. deduct_justified c.args.self.now d c.args.hyps.now (plain_term c.args.formula) c.args.source c.args.hyp c.requires.assumptions c.requires.premises
