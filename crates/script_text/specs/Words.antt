-- The words of commands.
use Rattle.std.specs.Prelude.{ℕ, if◌then◌else◌, List, codes, Option, Some, None}
use Rattle.core_text.specs.Words.{same_bytes}
use Rattle.tps_reader.specs.Tokens.{Sign, open_square, close_square, open_round, close_round, dot, tilde, semicolon, number, word}
use Rattle.script_text.specs.declared.words.CommandWord.{CommandWord}
use Rattle.script_text.specs.declared.words.CommandWord.TheVariants as verb

abbrev pub word_text : CommandWord → List ℕ
word_text verb.Prove = codes "PROVE"
word_text verb.Plan = codes "PLAN"
word_text verb.P = codes "P"
word_text verb.Deduct = codes "DEDUCT"
word_text verb.Ui = codes "UI"
word_text verb.Ugen = codes "UGEN"
word_text verb.Egen = codes "EGEN"
word_text verb.Rulec = codes "RULEC"
word_text verb.Lambda = codes "LAMBDA"
word_text verb.Rulep = codes "RULEP"
word_text verb.Undo = codes "UNDO"
word_text verb.Done = codes "DONE"

-- the command of which the characters are the word
abbrev pub word_of : List ℕ → Option CommandWord
word_of w =
    if same_bytes w (codes "PROVE") then Some verb.Prove else (if same_bytes w (codes "PLAN") then Some verb.Plan else (if same_bytes w (codes "P") then Some verb.P
    else (if same_bytes w (codes "DEDUCT") then Some verb.Deduct else (if same_bytes w (codes "UI") then Some verb.Ui else (if same_bytes w (codes "UGEN") then Some verb.Ugen
    else (if same_bytes w (codes "EGEN") then Some verb.Egen else (if same_bytes w (codes "RULEC") then Some verb.Rulec else (if same_bytes w (codes "LAMBDA") then Some verb.Lambda
    else (if same_bytes w (codes "RULEP") then Some verb.Rulep else (if same_bytes w (codes "UNDO") then Some verb.Undo else (if same_bytes w (codes "DONE") then Some verb.Done
    else None)))))))))))

-- the command of which a token that says this is the word
abbrev pub command_word : Sign → Option CommandWord
command_word open_square = None
command_word close_square = None
command_word open_round = None
command_word close_round = None
command_word dot = None
command_word tilde = None
command_word semicolon = None
command_word (number n) = None
command_word (word w) = word_of w

-- how many numerals always stand after the word
abbrev pub numeral_count : CommandWord → ℕ
numeral_count verb.Prove = 1
numeral_count verb.Plan = 1
numeral_count verb.P = 1
numeral_count verb.Deduct = 3
numeral_count verb.Ui = 2
numeral_count verb.Ugen = 2
numeral_count verb.Egen = 2
numeral_count verb.Rulec = 4
numeral_count verb.Lambda = 2
numeral_count verb.Rulep = 1
numeral_count verb.Undo = 0
numeral_count verb.Done = 0
