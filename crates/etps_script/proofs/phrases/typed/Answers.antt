use Rattle.etps_script.proofs.phrases.typed.Goals as goal

pub returns-in-Err-clause-fault : goal.returns-in-Err-clause-fault
returns-in-Err-clause-fault c = c.untyped.ensures _ _ _ c.in-Err.ensures.fault
