-- The grammar of the lines of scripts: which tokens spell which command.
use Rattle.std.specs.Prelude.{◌≡◌, ◌⊎◌, ℕ, List, [], ◌∷◌, ◌++◌, map}
use Rattle.std.specs.List.Sorted.{IsStrictlyIncreasing}
use Rattle.hol_terms.specs.Names.{IsName}
use Rattle.tps_reader.specs.Grammar.{IsFormula, Says, Spot, Written, named, spelled}
use Rattle.tps_reader.specs.Raws.{RawFormula}
use Rattle.tps_reader.specs.Tokens.{Sign, number, semicolon, word, Token, sign_of, token_place, tokens_from}
use Rattle.script_text.specs.Commands.{ScriptRequest, say_nothing, say_prove, say_plan, say_suppose, say_deduce, say_instantiate, say_generalize, say_witness, say_choose, say_convert, say_follow, say_undo, say_done}
use Rattle.script_text.specs.Words.{word_text}
use Rattle.script_text.specs.declared.words.CommandWord.{CommandWord}
use Rattle.script_text.specs.declared.words.CommandWord.TheVariants as verb

-- the tokens are such that say these signs, and then the rest
abbrev pub Leads : List Sign → List Token → List Token → Type 0
Leads [] rest ts = ts ≡ rest
Leads (s ∷ signs) rest [] = ⊥
Leads (s ∷ signs) rest (t ∷ ts) = (sign_of t ≡ s) × Leads signs rest ts

-- where the tokens begin
abbrev pub first_place : List Token → ℕ
first_place [] = 0
first_place (t ∷ ts) = token_place t

-- the tokens are a phrase, whose places are counted from its start
abbrev pub IsPhraseOf : List Token → RawFormula → Type 0
IsPhraseOf ts v = IsFormula (tokens_from (first_place ts) ts) v

-- the tokens are a name, with or without a written type
abbrev pub IsVariableOf : List Token → RawFormula → Type 0
IsVariableOf ts v =
    (s : Spot) × (name : List ℕ) × (written : Written) × (spelled (named s name written) ≡ tokens_from (first_place ts) ts)
    × Says (named s name written) v

-- The word, the numerals that always stand after it, and then the tokens ask for this.
abbrev pub Asks : CommandWord → List ℕ → List Token → ScriptRequest → Type 0
Asks verb.Prove ns ts r = (n : ℕ) × (v : RawFormula) × (ns ≡ n ∷ []) × IsPhraseOf ts v × (r ≡ say_prove n v)
Asks verb.Plan ns ts r =
    (n : ℕ) × (hs : List ℕ) × (back : List Token) × (v : RawFormula) × (ns ≡ n ∷ []) × Leads (map number hs) back ts
    × IsStrictlyIncreasing hs × IsPhraseOf back v × (r ≡ say_plan n hs v)
Asks verb.P ns ts r = (n : ℕ) × (v : RawFormula) × (ns ≡ n ∷ []) × IsPhraseOf ts v × (r ≡ say_suppose n v)
Asks verb.Deduct ns ts r = (n : ℕ) × (d : ℕ) × (h : ℕ) × (ns ≡ n ∷ d ∷ h ∷ []) × (ts ≡ []) × (r ≡ say_deduce n d h)
Asks verb.Ui ns ts r = (n : ℕ) × (d : ℕ) × (v : RawFormula) × (ns ≡ n ∷ d ∷ []) × IsPhraseOf ts v × (r ≡ say_instantiate n d v)
Asks verb.Ugen ns ts r = (n : ℕ) × (d : ℕ) × (v : RawFormula) × (ns ≡ n ∷ d ∷ []) × IsVariableOf ts v × (r ≡ say_generalize n d v)
Asks verb.Egen ns ts r =
    (n : ℕ) × (d : ℕ) × (front : List Token) × (t : Token) × (back : List Token) × (v : RawFormula) × (w : RawFormula)
    × (ns ≡ n ∷ d ∷ []) × (ts ≡ front ++ (t ∷ back)) × (sign_of t ≡ semicolon) × IsPhraseOf front v × IsPhraseOf back w
    × (r ≡ say_witness n d v w)
Asks verb.Rulec ns ts r =
    (n : ℕ) × (e : ℕ) × (h : ℕ) × (d : ℕ) × (name : List ℕ) × (ns ≡ n ∷ e ∷ h ∷ d ∷ []) × Leads (word name ∷ []) [] ts
    × IsName name × (r ≡ say_choose n e h d name)
Asks verb.Lambda ns ts r = (n : ℕ) × (d : ℕ) × (v : RawFormula) × (ns ≡ n ∷ d ∷ []) × IsPhraseOf ts v × (r ≡ say_convert n d v)
Asks verb.Rulep ns ts r =
    (n : ℕ) × (ds : List ℕ) × (back : List Token) × (v : RawFormula) × (ns ≡ n ∷ []) × Leads (map number ds) back ts
    × IsPhraseOf back v × (r ≡ say_follow n ds v)
Asks verb.Undo ns ts r = (ns ≡ []) × (ts ≡ []) × (r ≡ say_undo)
Asks verb.Done ns ts r = (ns ≡ []) × (ts ≡ []) × (r ≡ say_done)

-- a command's line is its word, numerals, and what the command has after them
abbrev pub IsCommandOf : CommandWord → List Token → ScriptRequest → Type 0
IsCommandOf k ts r = (ns : List ℕ) × (rest : List Token) × Leads (word (word_text k) ∷ map number ns) rest ts × Asks k ns rest r

-- the tokens spell what the line asks for: none are a blank line, and others are those of a command
abbrev pub IsCommand : List Token → ScriptRequest → Type 0
IsCommand ts r = ((ts ≡ []) × (r ≡ say_nothing)) ⊎ ((k : CommandWord) × IsCommandOf k ts r)

-- the tokens spell some command or a blank line
abbrev pub IsLine : List Token → Type 0
IsLine ts = (r : ScriptRequest) × IsCommand ts r

-- the first token is the word of a command
abbrev pub IsKnown : List Token → Type 0
IsKnown [] = ⊥
IsKnown (t ∷ ts) = (k : CommandWord) × (sign_of t ≡ word (word_text k))

-- there is a first token, and it isn't the word of a command
abbrev pub IsUnknown : List Token → Type 0
IsUnknown [] = ⊥
IsUnknown (t ∷ ts) = (k : CommandWord) → sign_of t ≡ word (word_text k) → ⊥
