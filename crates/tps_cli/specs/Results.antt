-- What a command answers to its input.
use Rattle.std.specs.Prelude.{ℕ, List}
use Rattle.tps_cli.specs.declared.command.Command.{Command}
use Rattle.tps_cli.specs.declared.command.Command.TheVariants.{Prove, Check, Translate, Verify, Show, Etps, Generate}
use Rattle.tps_cli.specs.declared.status.Status.{Status}
use Rattle.tps_cli.specs.Checks.{ChecksTo}
use Rattle.tps_cli.specs.Generates.{GeneratesTo}
use Rattle.tps_cli.specs.Proves.{ProvesTo}
use Rattle.tps_cli.specs.Shows.{ShowsTo}
use Rattle.tps_cli.specs.Translates.{TranslatesTo}
use Rattle.tps_cli.specs.Tutors.{TutorsTo}
use Rattle.tps_cli.specs.Verifies.{VerifiesTo}

-- the command reads its input
abbrev pub ReadsInput : Command → Type 0
ReadsInput (Prove b) = Unit {0}
ReadsInput Check = Unit {0}
ReadsInput Translate = Unit {0}
ReadsInput Verify = Unit {0}
ReadsInput Show = Unit {0}
ReadsInput Etps = Unit {0}
ReadsInput (Generate n) = ⊥

-- the command answers the status to the bytes, and writes this output
abbrev pub Answers : Command → List ℕ → Status → List ℕ → Type 0
Answers (Prove b) bytes status out = ProvesTo b bytes status out
Answers Check bytes status out = ChecksTo bytes status out
Answers Translate bytes status out = TranslatesTo bytes status out
Answers Verify bytes status out = VerifiesTo bytes status out
Answers Show bytes status out = ShowsTo bytes status out
Answers Etps bytes status out = TutorsTo bytes status out
Answers (Generate n) bytes status out = GeneratesTo n status out
