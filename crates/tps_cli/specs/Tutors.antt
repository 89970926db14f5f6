-- What `etps` answers to its input.
use Rattle.std.specs.Prelude.{ℕ, List}
use Rattle.etps_script.specs.Scripts.{Replies}
use Rattle.tps_cli.specs.declared.status.Status.{Status}
use Rattle.tps_cli.specs.declared.status.Status.TheVariants.{Done, No, Words, BadText, TooLong, ReadFault, WriteFault, Memory}

-- always done, with a reply to each line of the script
abbrev pub TutorsTo : List ℕ → Status → List ℕ → Type 0
TutorsTo bytes Done out = Replies bytes out
TutorsTo bytes No out = ⊥
TutorsTo bytes BadText out = ⊥
TutorsTo bytes Words out = ⊥
TutorsTo bytes TooLong out = ⊥
TutorsTo bytes ReadFault out = ⊥
TutorsTo bytes WriteFault out = ⊥
TutorsTo bytes Memory out = ⊥
