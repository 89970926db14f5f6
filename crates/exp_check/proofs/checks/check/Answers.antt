use Rattle.std.proofs.Common.{refl}
use Rattle.proof_text.specs.Texts.{plain_proof}
use Rattle.exp_check.proofs.Deciding.{judged_accepted, fault_found, fit_fault_found, fault_refuses}
use Rattle.exp_check.proofs.checks.check.Goals as goal

pub new-requires : goal.new-requires
new-requires c =
    let fits = c.in-Ok.ensures.fits in
    (judged_accepted (plain_proof c.args.text) (record { fitted = c.in-Ok.fitted; mating = c.args.text.mating; order = c.in-Ok-judged.order }) c.requires fits.0 fits.1 fits.2 refl c.in-Ok-judged.ensures.order).0

pub returns-in-Err-clause-refused : goal.returns-in-Err-clause-refused
returns-in-Err-clause-refused c = fault_refuses (plain_proof c.args.text) c.in-Err.fault (fit_fault_found (plain_proof c.args.text) c.in-Err.fault c.in-Err.ensures.fault)

pub returns-in-Err-judged-clause-fault : goal.returns-in-Err-judged-clause-fault
returns-in-Err-judged-clause-fault c =
    let fits = c.in-Ok.ensures.fits in
    fault_found (plain_proof c.args.text) c.in-Ok.fitted c.in-Err-judged.fault fits.0 fits.1 fits.2 c.in-Err-judged.ensures.fault

pub returns-in-Err-judged-clause-refused : goal.returns-in-Err-judged-clause-refused
returns-in-Err-judged-clause-refused c =
    let fits = c.in-Ok.ensures.fits in
    fault_refuses (plain_proof c.args.text) c.in-Err-judged.fault (fault_found (plain_proof c.args.text) c.in-Ok.fitted c.in-Err-judged.fault fits.0 fits.1 fits.2 c.in-Err-judged.ensures.fault)
