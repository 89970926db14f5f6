use Rattle.hol_terms.proofs.IndexLaws.{raise-raise, raise-swap, put-raised, raise-put_above, raise-put_below, put-put, raise-closed, put-closed}
use Rattle.hol_terms.proofs.laws.indices.Goals as goal

pub returns : goal.returns
returns c = record {
  joined = raise-raise;
  raises = raise-swap;
  put_of_raised = put-raised;
  above = raise-put_above;
  below = raise-put_below;
  puts = put-put;
  raise_of_closed = raise-closed;
  put_of_closed = put-closed;
}
