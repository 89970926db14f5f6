-- Which command a line of a script is, and why a line is refused.
use Rattle.std.specs.Prelude.{ℕ, ◌<◌, List, length, IsUtf8}
use Rattle.tps_reader.specs.Groups.{HasDepth, IsWithinDepth}
use Rattle.tps_reader.specs.Tokens.{AreTokensOf, IsBadCharacter, Token}
use Rattle.tps_reader.specs.declared.faults.RawFault.TheVariants as raw_fault
use Rattle.script_text.specs.Commands.{ScriptRequest}
use Rattle.script_text.specs.Grammar.{IsCommand, IsKnown, IsLine, IsUnknown}
use Rattle.script_text.specs.Languages.{LeavesFirst}
use Rattle.script_text.specs.declared.faults.CommandFault.{CommandFault}
use Rattle.script_text.specs.declared.faults.CommandFault.TheVariants.{Raw as InPhrase, Unknown, Memory}

-- the line is that of the command
abbrev pub IsCommandLine : List ℕ → ScriptRequest → Type 0
IsCommandLine line r = (ts : List Token) × AreTokensOf line ts × IsWithinDepth ts 1000 × IsCommand ts r

-- The fault of tokens of which no command's line is made. That the first isn't the word of a command comes before all others.
abbrev pub IsTokensFault : List Token → ℕ → CommandFault → Type 0
IsTokensFault ts last (InPhrase raw_fault.NotUtf8) = ⊥
IsTokensFault ts last (InPhrase (raw_fault.BadCharacter place)) = ⊥
IsTokensFault ts last (InPhrase (raw_fault.TooDeep depth)) = ⊥
IsTokensFault ts last (InPhrase (raw_fault.Unexpected place)) = IsKnown ts × LeavesFirst IsLine ts last place
IsTokensFault ts last (InPhrase raw_fault.Memory) = ⊥
IsTokensFault ts last Unknown = IsUnknown ts
IsTokensFault ts last Memory = Unit {0}

-- The first fault of a line that isn't that of a command. That no token begins somewhere comes before the depth, and the depth before
-- tokens that make no command. Want of memory is none of the line's, and free.
abbrev pub IsCommandFault : List ℕ → CommandFault → Type 0
IsCommandFault line (InPhrase raw_fault.NotUtf8) = IsUtf8 line → ⊥
IsCommandFault line (InPhrase (raw_fault.BadCharacter place)) = IsBadCharacter line place
IsCommandFault line (InPhrase (raw_fault.TooDeep depth)) = (ts : List Token) × AreTokensOf line ts × HasDepth ts depth × (1000 < depth)
IsCommandFault line (InPhrase (raw_fault.Unexpected place)) =
    (ts : List Token) × AreTokensOf line ts × IsWithinDepth ts 1000 × IsTokensFault ts (length line) (InPhrase (raw_fault.Unexpected place))
IsCommandFault line (InPhrase raw_fault.Memory) = ⊥
IsCommandFault line Unknown = (ts : List Token) × AreTokensOf line ts × IsWithinDepth ts 1000 × IsTokensFault ts (length line) Unknown
IsCommandFault line Memory = Unit {0}
