use Rattle.beta_eta.proofs.BeyondLoose.{normal_by_loose_types, normal_of_closed}
use Rattle.beta_eta.proofs.laws.normal_forms.Goals as goal

pub returns : goal.returns
returns c = record {
  types = normal_by_loose_types;
  closed = normal_of_closed;
}
