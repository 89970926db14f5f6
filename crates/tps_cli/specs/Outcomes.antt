-- The status and the output of an answer.
use Rattle.std.specs.Prelude.{ℕ, List, []}
use Rattle.tps_cli.specs.declared.answer.Answer.{Answer}
use Rattle.tps_cli.specs.declared.answer.Answer.TheVariants.{Unreadable, Yes as Affirmed, No as Denied}
use Rattle.tps_cli.specs.declared.status.Status.{Status}
use Rattle.tps_cli.specs.declared.status.Status.TheVariants.{Done, No, BadText}

abbrev pub status_of : Answer → Status
status_of Unreadable = BadText
status_of (Affirmed text) = Done
status_of (Denied text) = No

abbrev pub output_of : Answer → List ℕ
output_of Unreadable = []
output_of (Affirmed text) = text
output_of (Denied text) = text
