use Rattle.hol_terms.specs.Terms.{plain_term}
use Rattle.nd_steps.proofs.Forming.{choose_formed}
use Rattle.nd_steps.proofs.Justifying.{choose_justified}
use Rattle.nd_steps.proofs.deductions.Deduction.choose.Goals as goal

pub add-requires-clause-formula : goal.add-requires-clause-formula
add-requires-clause-formula c = λ d. choose_formed c.args.self.now d c.args.hyps.now (plain_term c.args.formula) c.args.some_line c.args.hyp c.args.source c.args.name c.requires.premises

pub add-requires-clause-justified : goal.add-requires-clause-justified
add-requires-clause-justified c = λ d. choose_justified c.args.self.now d c.args.hyps.now (plain_term c.args.formula) c.args.some_line c.args.hyp c.args.source c.args.name c.requires.assumptions c.requires.premises
