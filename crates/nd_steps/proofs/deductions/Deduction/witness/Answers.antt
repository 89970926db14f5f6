use Rattle.hol_terms.specs.Terms.{plain_term}
use Rattle.nd_steps.proofs.Justifying.{witness_justified}
use Rattle.nd_steps.proofs.deductions.Deduction.witness.Goals as goal

pub add-requires-clause-justified : goal.add-requires-clause-justified
add-requires-clause-justified c = λ d. witness_justified c.args.self.now d c.args.hyps.now (plain_term c.args.formula) c.args.source (plain_term c.args.term) c.requires.assumptions c.requires.premises
