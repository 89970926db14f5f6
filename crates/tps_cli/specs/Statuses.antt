-- The exit codes.
use Rattle.std.specs.Prelude.{ℕ}
use Rattle.tps_cli.specs.declared.status.Status.{Status}
use Rattle.tps_cli.specs.declared.status.Status.TheVariants.{Done, No, Words, BadText, TooLong, ReadFault, WriteFault, Memory}

abbrev pub code_of : Status → ℕ
code_of Done = 0
code_of No = 1
code_of Words = 2
code_of BadText = 3
code_of TooLong = 4
code_of ReadFault = 5
code_of WriteFault = 6
code_of Memory = 7
