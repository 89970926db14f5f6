-- What stands after the word of a command and the numerals that always follow it, and how that is left.
use Rattle.std.specs.Prelude.{◌≡◌, ℕ, ◌+◌, ◌^◌, ◌<◌, ◌≤◌, Bool, true, false, List, [], ◌∷◌, ◌++◌, length, map, Option, Some, None}
use Rattle.std.specs.List.Sorted.{IsStrictlyIncreasing}
use Rattle.hol_terms.specs.Names.{IsName}
use Rattle.tps_reader.specs.Raws.{RawFormula}
use Rattle.tps_reader.specs.Tokens.{Sign, open_square, close_square, open_round, close_round, dot, tilde, semicolon, number, word, Token, sign_of, token_place}
use Rattle.tps_reader.specs.declared.faults.RawFault.{RawFault}
use Rattle.tps_reader.specs.declared.faults.RawFault.TheVariants as raw_fault
use Rattle.script_text.specs.Grammar.{IsPhraseOf, IsVariableOf, Leads}
use Rattle.script_text.specs.Languages.{LeavesFirst}
use Rattle.script_text.specs.declared.faults.CommandFault.{CommandFault}
use Rattle.script_text.specs.declared.faults.CommandFault.TheVariants.{Raw as InPhrase, Unknown, Memory}
use Rattle.script_text.specs.declared.words.CommandWord.{CommandWord}
use Rattle.script_text.specs.declared.words.CommandWord.TheVariants as verb

-- Nothing, a phrase, numerals (rising or in any order) and then a phrase, two phrases with a semicolon between them, a variable, or a
-- name.
pub data Tail : Type 0 where
  no_more : Tail
  one_phrase : Tail
  numbered : Bool → Tail
  two_phrases : Tail
  variable : Tail
  bare_name : Tail

abbrev pub tail_of : CommandWord → Tail
tail_of verb.Prove = one_phrase
tail_of verb.Plan = numbered true
tail_of verb.P = one_phrase
tail_of verb.Deduct = no_more
tail_of verb.Ui = one_phrase
tail_of verb.Ugen = variable
tail_of verb.Egen = two_phrases
tail_of verb.Rulec = bare_name
tail_of verb.Lambda = one_phrase
tail_of verb.Rulep = numbered false
tail_of verb.Undo = no_more
tail_of verb.Done = no_more

-- the numbers are in the order that is asked for
abbrev pub InOrder : Bool → List ℕ → Type 0
InOrder true ns = IsStrictlyIncreasing ns
InOrder false ns = Unit {0}

abbrev pub HasTail : Tail → List Token → Type 0
HasTail no_more ts = ts ≡ []
HasTail one_phrase ts = (v : RawFormula) × IsPhraseOf ts v
HasTail (numbered rising) ts = (ns : List ℕ) × (back : List Token) × (v : RawFormula) × Leads (map number ns) back ts × InOrder rising ns × IsPhraseOf back v
HasTail two_phrases ts =
    (front : List Token) × (t : Token) × (back : List Token) × (v : RawFormula) × (w : RawFormula) × (ts ≡ front ++ (t ∷ back))
    × (sign_of t ≡ semicolon) × IsPhraseOf front v × IsPhraseOf back w
HasTail variable ts = (v : RawFormula) × IsVariableOf ts v
HasTail bare_name ts = (name : List ℕ) × Leads (word name ∷ []) [] ts × IsName name

-- so many numerals, and then the tail
abbrev pub HasBody : ℕ → Tail → List Token → Type 0
HasBody count tail ts = (ns : List ℕ) × (rest : List Token) × Leads (map number ns) rest ts × (length ns ≡ count) × HasTail tail rest

-- the fault of tokens that don't belong to the language
abbrev pub IsFaultIn : (List Token → Type 0) → List Token → ℕ → CommandFault → Type 0
IsFaultIn L ts last (InPhrase raw_fault.NotUtf8) = ⊥
IsFaultIn L ts last (InPhrase (raw_fault.BadCharacter place)) = ⊥
IsFaultIn L ts last (InPhrase (raw_fault.TooDeep depth)) = ⊥
IsFaultIn L ts last (InPhrase (raw_fault.Unexpected place)) = LeavesFirst L ts last place
IsFaultIn L ts last (InPhrase raw_fault.Memory) = ⊥
IsFaultIn L ts last Unknown = ⊥
IsFaultIn L ts last Memory = Unit {0}

-- no token says a number first
abbrev pub BeginsNoNumber : List Token → Type 0
BeginsNoNumber [] = Unit {0}
BeginsNoNumber (t ∷ ts) = (n : ℕ) → sign_of t ≡ number n → ⊥

-- the places of the tokens don't fall, from the first place to the last
abbrev pub Rises : ℕ → List Token → ℕ → Type 0
Rises first [] last = first ≤ last
Rises first (t ∷ ts) last = (first ≤ token_place t) × Rises (token_place t) ts last

-- the number that a token says, and the first of tokens
abbrev pub number_in : Sign → Option ℕ
number_in open_square = None
number_in close_square = None
number_in open_round = None
number_in close_round = None
number_in dot = None
number_in tilde = None
number_in semicolon = None
number_in (number n) = Some n
number_in (word w) = None

abbrev pub first_number : List Token → Option ℕ
first_number [] = None
first_number (t ∷ ts) = number_in (sign_of t)

-- where the tokens begin, or the end where there are none
abbrev pub first_or : List Token → ℕ → ℕ
first_or [] last = last
first_or (t ∷ ts) last = token_place t

-- no token is a semicolon
abbrev pub NoSemicolon : List Token → Type 0
NoSemicolon [] = Unit {0}
NoSemicolon (t ∷ ts) = (sign_of t ≡ semicolon → ⊥) × NoSemicolon ts

-- the first token, if there is one, is a semicolon
abbrev pub SemicolonFirst : List Token → Type 0
SemicolonFirst [] = Unit {0}
SemicolonFirst (t ∷ ts) = sign_of t ≡ semicolon

-- the fault of a text that is the line or a part of it: running out of memory is no fault of the text
abbrev pub of_text : RawFault → CommandFault
of_text raw_fault.NotUtf8 = InPhrase raw_fault.NotUtf8
of_text (raw_fault.BadCharacter place) = InPhrase (raw_fault.BadCharacter place)
of_text (raw_fault.TooDeep depth) = InPhrase (raw_fault.TooDeep depth)
of_text (raw_fault.Unexpected place) = InPhrase (raw_fault.Unexpected place)
of_text raw_fault.Memory = Memory

-- the fault of a phrase, its place counted from the start of the line
abbrev pub moved_fault : ℕ → RawFault → CommandFault
moved_fault origin raw_fault.NotUtf8 = InPhrase raw_fault.NotUtf8
moved_fault origin (raw_fault.BadCharacter place) = InPhrase (raw_fault.BadCharacter place)
moved_fault origin (raw_fault.TooDeep depth) = InPhrase (raw_fault.TooDeep depth)
moved_fault origin (raw_fault.Unexpected place) = InPhrase (raw_fault.Unexpected (origin + place))
moved_fault origin raw_fault.Memory = Memory

-- the place of the fault, counted from the start of the line, has 64 bits
abbrev pub FitsBehind : ℕ → RawFault → Type 0
FitsBehind origin raw_fault.NotUtf8 = Unit {0}
FitsBehind origin (raw_fault.BadCharacter place) = Unit {0}
FitsBehind origin (raw_fault.TooDeep depth) = Unit {0}
FitsBehind origin (raw_fault.Unexpected place) = origin + place < 2 ^ 64
FitsBehind origin raw_fault.Memory = Unit {0}
