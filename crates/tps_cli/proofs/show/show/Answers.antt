use Rattle.tps_cli.proofs.Showing.{has_conclusion}
use Rattle.tps_cli.proofs.show.show.Goals as goal

pub returns-in-Ok : goal.returns-in-Ok
returns-in-Ok c =
    let found = rw c.in-Some.is at c.in_ok-outline.ensures in
    let last = has_conclusion c.in-Some.outline found.some in
    (c.in-Some.outline, last.0, record { text = found; derivation = c.in-Ok.ensures.derivation last.0 last.1 }, c.in_ok-printed-in-Ok.ensures)

pub returns : goal.returns
returns c =
    let found = rw c.in-Some.is at c.in_ok-outline.ensures in
    let told = c.in_ok-refused-in-Err.ensures in
    record { lines = c.in-Some.outline; text = found; refused = c.in-Err.ensures.refused told.named; fault = c.in-Err.fault; named = told.named; first = c.in-Err.ensures.fault; output = told.text }
