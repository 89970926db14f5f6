use Rattle.std.proofs.lemmas.Result.{IfOk-weaker}
use Rattle.tps_reader.specs.Raws.{plain_raw}
use Rattle.tps_cli.proofs.Formulas.{text_found}
use Rattle.tps_cli.proofs.prove.read.Goals as goal

pub returns-in_default-clause-found : goal.returns-in_default-clause-found
returns-in_default-clause-found c = λ formula stands.
    let none = rw c.in_default.is at c.in_ok-raw.ensures.found in none stands.0 stands.1

pub returns-clause-found : goal.returns-clause-found
returns-clause-found c =
    let text = rw c.in-Some.is at c.in_ok-raw.ensures.found in
    let only = rw c.in-Some.is at c.in_ok-raw.ensures.only in
    IfOk-weaker c.typed.result _ _ (λ found h. text_found c.args.bytes.now (plain_raw c.in-Some.raw) found text only h) c.typed.ensures.found
