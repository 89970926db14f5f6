use Rattle.std.proofs.Common.{◌≡◌, map, string_bytes}
use Rattle.tps_cli.specs.declared.command.Command.{Command}
use Rattle.tps_cli.proofs.Deciding.{words_one}
use Rattle.tps_cli.proofs.run.run.Goals as goal

pub returns-in-Some-clause-ran : goal.returns-in-Some-clause-ran
returns-in-Some-clause-ran g c = λ d h.
    let same : c.in-Some.command ≡ d = words_one c.in-Some.command d (map string_bytes c.args.words.now) c.in-Some.ensures h in rw same at c.run_command.ensures.ran
