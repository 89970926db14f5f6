-- The words of the commands.
use Rattle.std.specs.Prelude.{◌≡◌, ◌≤◌, ℕ, List, [], ◌∷◌, map, codes, string_bytes, String, Some}
use Rattle.std.specs.declared.alloc.Global.{Global}
use Rattle.core_text.specs.Words.{numeral_of}
use Rattle.tps_cli.specs.Options.{AreOptions}
use Rattle.tps_cli.specs.declared.command.Command.{Command}
use Rattle.tps_cli.specs.declared.command.Command.TheVariants.{Prove, Check, Translate, Verify, Show, Etps, Generate}

-- a budget has a weight up to 64 and a level up to 2, and a chain has 1 to 100 instances
abbrev pub IsCommand : Command → Type 0
IsCommand (Prove b) = (b.weight ≤ 64) × (b.level ≤ 2)
IsCommand Check = Unit {0}
IsCommand Translate = Unit {0}
IsCommand Verify = Unit {0}
IsCommand Show = Unit {0}
IsCommand Etps = Unit {0}
IsCommand (Generate n) = (1 ≤ n) × (n ≤ 100)

-- the words ask for the command
abbrev pub AreWordsOf : Command → List (List ℕ) → Type 0
AreWordsOf (Prove b) words = (options : List (List ℕ)) × (words ≡ codes "prove" ∷ options) × AreOptions b options × IsCommand (Prove b)
AreWordsOf Check words = words ≡ codes "check" ∷ []
AreWordsOf Translate words = words ≡ codes "translate" ∷ []
AreWordsOf Verify words = words ≡ codes "verify" ∷ []
AreWordsOf Show words = words ≡ codes "show" ∷ []
AreWordsOf Etps words = words ≡ codes "etps" ∷ []
AreWordsOf (Generate n) words = (word : List ℕ) × (words ≡ codes "generate" ∷ word ∷ []) × (numeral_of word ≡ Some n) × IsCommand (Generate n)

-- the words are those of a command
abbrev pub AreWords : List (String Global) → Type 0
AreWords words = (c : Command) × AreWordsOf c (map string_bytes words)
