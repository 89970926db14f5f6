use Rattle.beta_eta.proofs.BeyondLoose.{put_beyond_loose, hereditary_beyond_loose}
use Rattle.beta_eta.proofs.laws.beyond_loose.Goals as goal

pub returns : goal.returns
returns c = record {
  put = put_beyond_loose;
  hereditary = hereditary_beyond_loose;
}
