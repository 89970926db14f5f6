-- What a run of the program does to its source and its sink.
use Rattle.std.specs.Prelude.{◌≡◌, ℕ, ◌≤◌, List, [], length, Option, ◌⊎◌}
use Rattle.std.specs.Io.KnownBytes.{Appends}
use Rattle.tps_io.specs.Causes.{Rose}
use Rattle.tps_io.specs.Stream.{TakesAll, HeldMore, AppendsFront}
use Rattle.tps_cli.specs.declared.command.Command.{Command}
use Rattle.tps_cli.specs.declared.status.Status.{Status}
use Rattle.tps_cli.specs.declared.status.Status.TheVariants.{Done, No, Words, BadText, TooLong, ReadFault, WriteFault, Memory}
use Rattle.tps_cli.specs.Results.{Answers, ReadsInput}

-- one end of a run: what the source has left and the sink has taken, where they tell it, and how many of their calls failed
pub record Ends : Type 0 where
  pub left : Option (List ℕ)
  pub read_faults : ℕ
  pub written : Option (List ℕ)
  pub write_faults : ℕ

abbrev pub NoReadFault : Ends → Ends → Type 0
NoReadFault old new = new.read_faults ≡ old.read_faults

-- all bytes that the source had were read, at most 1,048,576 and with no fault
pub record IsWholeInput (left left' : Option (List ℕ)) (faults faults' : ℕ) (bytes : List ℕ) : Type 0 where
  pub read : TakesAll left left' bytes
  pub within : length bytes ≤ 1048576
  pub calm : faults' ≡ faults

-- what was read of the input, where these were left and counted before and after it: all of it where the command reads it, and nothing
-- where it doesn't
abbrev pub WasRead : Command → Option (List ℕ) → Option (List ℕ) → ℕ → ℕ → List ℕ → Type 0
WasRead c left left' faults faults' bytes =
    (ReadsInput c → IsWholeInput left left' faults faults' bytes) × ((ReadsInput c → ⊥) → (left' ≡ left) × (faults' ≡ faults))

-- the command answers this status and this output to what was read
pub record Answered (c : Command) (old new : Ends) (status : Status) (out : List ℕ) : Type 0 where
  pub bytes : List ℕ
  pub read : WasRead c old.left new.left old.read_faults new.read_faults bytes
  pub answer : Answers c bytes status out

-- nothing was written, and the sink didn't fail
abbrev pub NothingWritten : Ends → Ends → Type 0
NothingWritten old new = (new.written ≡ old.written) × (new.write_faults ≡ old.write_faults)

-- the whole output was written
abbrev pub Finished : Command → Ends → Ends → Status → Type 0
Finished c old new status = (out : List ℕ) × Answered c old new status out × Appends old.written new.written out × (new.write_faults ≡ old.write_faults)

-- a prefix of the output was written, and the sink failed
abbrev pub CutShort : Command → Ends → Ends → Status → Type 0
CutShort c old new status = (out : List ℕ) × Answered c old new status out × AppendsFront old.written new.written out × Rose old.write_faults new.write_faults

-- a run of the command, from one end to the other, may answer this status
abbrev pub Ran : Command → Ends → Ends → Status → Type 0
Ran c old new Done = Finished c old new Done
Ran c old new No = Finished c old new No
Ran c old new Words = ⊥
Ran c old new BadText = Answered c old new BadText [] × NothingWritten old new
Ran c old new TooLong = ReadsInput c × HeldMore old.left 1048576 × NothingWritten old new × NoReadFault old new
Ran c old new ReadFault = ReadsInput c × Rose old.read_faults new.read_faults × NothingWritten old new
Ran c old new WriteFault = CutShort c old new Done ⊎ CutShort c old new No
Ran c old new Memory = NothingWritten old new
