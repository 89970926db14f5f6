use Rattle.hol_conv.proofs.Normals.{normal_application, normal_abstraction, normal_negation, normal_conjunction, normal_disjunction, normal_implication, normal_forall, normal_exists}
use Rattle.hol_conv.proofs.laws.parts.Goals as goal

pub returns : goal.returns
returns c = record {
  application = normal_application;
  abstraction = normal_abstraction;
  negation = normal_negation;
  conjunction = normal_conjunction;
  disjunction = normal_disjunction;
  implication = normal_implication;
  universal = normal_forall;
  existential = normal_exists;
}
