use Rattle.type_infer.proofs.Annotated.{annotates_assigned, annotates_typed}
use Rattle.type_infer.proofs.laws.annotations.Goals as goal

pub returns-clause-typed : goal.returns-clause-typed
returns-clause-typed c = annotates_typed

pub returns-clause-assigned : goal.returns-clause-assigned
returns-clause-assigned c = annotates_assigned
