-- Why a text is refused.
use Rattle.std.specs.Prelude.{◌≡◌, ◌⊎◌, ℕ, ◌<◌, List, length, IsUtf8}
use Rattle.tps_reader.specs.Grammar.{IsFormula, OnlyBegins, StopsAt}
use Rattle.tps_reader.specs.Groups.{HasDepth, IsWithinDepth}
use Rattle.tps_reader.specs.Raws.{RawFormula}
use Rattle.tps_reader.specs.Tokens.{AreTokensOf, IsBadCharacter, Token}
use Rattle.tps_reader.specs.declared.faults.RawFault.{RawFault}
use Rattle.tps_reader.specs.declared.faults.RawFault.TheVariants.{NotUtf8, BadCharacter, TooDeep, Unexpected, Memory}

-- the fault of a text that isn't cut into tokens
abbrev pub IsTokenFault : List ℕ → RawFault → Type 0
IsTokenFault bytes NotUtf8 = IsUtf8 bytes → ⊥
IsTokenFault bytes (BadCharacter place) = IsBadCharacter bytes place
IsTokenFault bytes (TooDeep depth) = ⊥
IsTokenFault bytes (Unexpected place) = ⊥
IsTokenFault bytes Memory = Unit {0}

-- the fault of tokens that aren't a phrase
abbrev pub IsPhraseFault : List Token → ℕ → RawFault → Type 0
IsPhraseFault ts last NotUtf8 = ⊥
IsPhraseFault ts last (BadCharacter place) = ⊥
IsPhraseFault ts last (TooDeep depth) = ⊥
IsPhraseFault ts last (Unexpected place) = StopsAt ts place ⊎ ((place ≡ last) × OnlyBegins ts)
IsPhraseFault ts last Memory = Unit {0}

-- the text is a formula text of depth at most 1,000, which is this raw formula
abbrev pub IsFormulaText : List ℕ → RawFormula → Type 0
IsFormulaText bytes v = (ts : List Token) × AreTokensOf bytes ts × IsWithinDepth ts 1000 × IsFormula ts v

-- The fault of a text that is no formula text. That no token begins somewhere comes before the depth, and the depth before tokens that
-- make no phrase.
abbrev pub IsRawFault : List ℕ → RawFault → Type 0
IsRawFault bytes NotUtf8 = IsUtf8 bytes → ⊥
IsRawFault bytes (BadCharacter place) = IsBadCharacter bytes place
IsRawFault bytes (TooDeep depth) = (ts : List Token) × AreTokensOf bytes ts × HasDepth ts depth × (1000 < depth)
IsRawFault bytes (Unexpected place) = (ts : List Token) × AreTokensOf bytes ts × IsWithinDepth ts 1000 × IsPhraseFault ts (length bytes) (Unexpected place)
IsRawFault bytes Memory = Unit {0}
