use Rattle.std.proofs.Common.{◌≡◌, List, ℕ, map, string_bytes}
use Rattle.tps_cli.proofs.Deciding.{no_budget}
use Rattle.tps_cli.proofs.command.proving.Goals as goal

pub returns-in-None : goal.returns-in-None
returns-in-None c = λ d words. no_budget (map string_bytes c.args.options.now) c.in-None.ensures d words
