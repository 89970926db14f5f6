use Rattle.hol_terms.specs.Terms.{plain_term}
use Rattle.exp_check.specs.Accepted.{proof_of}
use Rattle.proof_text.specs.Texts.{plain_proof}
use Rattle.tps_cli.proofs.Writing.{proof_written}
use Rattle.tps_cli.proofs.prove.prove.Goals as goal

pub returns-in-Some-2 : goal.returns-in-Some-2
returns-in-Some-2 c =
    let stands = rw c.in-Some.is at c.in_ok-formula.ensures.found in
    let least = rw c.in-Some-2.is at c.in_ok-accepted.ensures.least in
    proof_written c.args.budget c.args.bytes.now c.in_ok-write_proof-in-Some-2.field-0 (plain_term c.in-Some.formula) (proof_of c.in-Some-2.accepted) (plain_proof c.into_text.result) stands least c.into_text.ensures
    c.in_ok-write_proof-in-Some-2.ensures.written
