-- Laws of formula texts. Each is the clause of a function of the module `laws`.
use Rattle.std.specs.Prelude.{◌≡◌, ◌↔◌, ℕ, List}
use Rattle.tps_reader.specs.Depth.{depth_of}
use Rattle.tps_reader.specs.Faults.{IsFormulaText}
use Rattle.tps_reader.specs.Groups.{HasDepth}
use Rattle.tps_reader.specs.Raws.{RawFormula}
use Rattle.tps_reader.specs.Tokens.{AreTokensOf, Token}

-- a text is made of one list of tokens at most
abbrev pub HasOneCut : Type 0
HasOneCut = (bytes : List ℕ) (ts us : List Token) → AreTokensOf bytes ts → AreTokensOf bytes us → ts ≡ us

-- a formula text says one raw formula
abbrev pub SaysOneFormula : Type 0
SaysOneFormula = (bytes : List ℕ) (v w : RawFormula) → IsFormulaText bytes v → IsFormulaText bytes w → v ≡ w

-- tokens have one depth, which is the counted one
abbrev pub HasOneDepth : Type 0
HasOneDepth = (ts : List Token) (depth : ℕ) → HasDepth ts depth ↔ (depth ≡ depth_of ts)
