use Rattle.hol_terms.specs.Terms.{plain_term}
use Rattle.nd_steps.proofs.Forming.{generalize_formed}
use Rattle.nd_steps.proofs.Justifying.{generalize_justified}
use Rattle.nd_steps.proofs.deductions.Deduction.generalize.Goals as goal

pub add-requires-clause-formula : goal.add-requires-clause-formula
add-requires-clause-formula c = λ d. generalize_formed c.args.self.now d c.args.hyps.now (plain_term c.args.formula) c.args.source c.args.name c.requires.premises

pub add-requires-clause-justified : goal.add-requires-clause-justified
add-requires-clause-justified c = λ d. generalize_justified c.args.self.now d c.args.hyps.now (plain_term c.args.formula) c.args.source c.args.name c.requires.assumptions c.requires.premises
