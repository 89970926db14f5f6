use Rattle.tps_cli.proofs.verify.verify.Goals as goal

pub returns-in-Ok : goal.returns-in-Ok
returns-in-Ok c =
    let found = rw c.in-Some.is at c.in_ok-outline.ensures in
    let said = c.in_ok-verified-in-Ok.ensures in
    (c.in-Some.outline, said.0, record { text = found; derivation = c.in-Ok.ensures.derivation said.0 said.1 }, said.2)

pub returns : goal.returns
returns c =
    let found = rw c.in-Some.is at c.in_ok-outline.ensures in
    let told = c.in_ok-refused-in-Err.ensures in
    record { lines = c.in-Some.outline; text = found; refused = c.in-Err.ensures.refused told.named; fault = c.in-Err.fault; named = told.named; first = c.in-Err.ensures.fault; output = told.text }
