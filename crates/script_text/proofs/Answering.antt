-- The answer for a whole line.
use Rattle.std.proofs.Common.{◌≡◌, ◌≢◌, ℕ, ◌<◌, ◌≤◌, List, [], ◌∷◌, length, map, refl, sym, ◌∙◌, ap, subst, arith, inl, inr}
use Rattle.tps_reader.specs.Depth.{depth_of}
use Rattle.tps_reader.specs.Faults.{IsTokenFault}
use Rattle.tps_reader.specs.Tokens.{AreTokensOf, Token, number, sign_of, word}
use Rattle.tps_reader.specs.declared.faults.RawFault.{RawFault}
use Rattle.tps_reader.specs.declared.faults.RawFault.TheVariants as raw_fault
use Rattle.script_text.specs.Commands.{ScriptRequest, say_nothing}
use Rattle.script_text.specs.Grammar.{Asks, IsCommand, Leads}
use Rattle.script_text.specs.Lines.{IsCommandFault, IsCommandLine, IsTokensFault}
use Rattle.script_text.specs.Tails.{HasBody, HasTail, IsFaultIn, Tail, of_text, tail_of}
use Rattle.script_text.specs.Words.{numeral_count, word_text}
use Rattle.script_text.specs.declared.faults.CommandFault.{CommandFault}
use Rattle.script_text.specs.declared.faults.CommandFault.TheVariants.{Raw as InPhrase, Unknown, Memory}
use Rattle.script_text.specs.declared.words.CommandWord.{CommandWord}
use Rattle.tps_reader.proofs.Grouping.{counted_within, within_depth}
use Rattle.script_text.proofs.Asking.{body_fault, known_fault, line_fault, no_command, one_command}

-- a line without tokens
pub blank_line : (ts : List Token) → ts ≡ [] → IsCommand ts say_nothing
blank_line ts e = inl (e, refl)

-- fewer numerals than the command wants
pub numerals_missing : (k : CommandWord) (ts : List Token) (t : Token) (rest : List Token) (last : ℕ) (fault : CommandFault) → ts ≡ t ∷ rest → sign_of t ≡ word (word_text k)
    → ((tail : Tail) → IsFaultIn (HasBody (numeral_count k) tail) rest last fault) → IsTokensFault ts last fault
numerals_missing k ts t rest last fault e is h =
    subst (λ (l : List Token). IsTokensFault l last fault) (sym e) (known_fault k t rest last fault is (line_fault k t rest last fault is (h (tail_of k))))

-- what stands after the numerals isn't what the command wants
pub tail_missing : (k : CommandWord) (ts : List Token) (t : Token) (ns : List ℕ) (rest back : List Token) (last : ℕ) (fault : CommandFault) → ts ≡ t ∷ rest → sign_of t ≡ word (word_text k)
    → Leads (map number ns) back rest → length ns ≡ numeral_count k → IsFaultIn (HasTail (tail_of k)) back last fault → IsTokensFault ts last fault
tail_missing k ts t ns rest back last fault e is leads long h =
    subst (λ (l : List Token). IsTokensFault l last fault) (sym e) (known_fault k t rest last fault is (line_fault k t rest last fault is (body_fault k ns back rest last fault leads long h)))

-- a whole command
pub whole_command : (k : CommandWord) (ts : List Token) (t : Token) (ns : List ℕ) (rest back : List Token) (r : ScriptRequest) → ts ≡ t ∷ rest → sign_of t ≡ word (word_text k) → Leads (map number ns) back rest → Asks k ns back r → IsCommand ts r
whole_command k ts t ns rest back r e is leads h = subst (λ (l : List Token). IsCommand l r) (sym e) (inr (k, (ns, back, (is, leads), h)))

-- what holds of the tokens of a text holds of the line
pub line_command : (line : List ℕ) (tokens ts : List Token) (r : ScriptRequest) → AreTokensOf line tokens → depth_of tokens ≤ 1000 → ts ≡ tokens → IsCommand ts r → IsCommandLine line r
line_command line tokens ts r are low same h = (tokens, are, within_depth tokens 1000 low, subst (λ (l : List Token). IsCommand l r) same h)

pub line_only : (line : List ℕ) (tokens ts : List Token) (r : ScriptRequest) → ((others : List Token) → AreTokensOf line others → others ≡ tokens) → ts ≡ tokens → IsCommand ts r → (q : ScriptRequest) → IsCommandLine line q → q ≡ r
line_only line tokens ts r one same h q g = one_command ts r q h (subst (λ (l : List Token). IsCommand l q) (one g.0 g.1 ∙ sym same) g.3)

pub line_deep : (line : List ℕ) (tokens : List Token) (depth : ℕ) → ((others : List Token) → AreTokensOf line others → others ≡ tokens) → depth ≡ depth_of tokens → 1000 < depth → (q : ScriptRequest) → IsCommandLine line q → ⊥
line_deep line tokens depth one is deep q g =
    let same : depth_of g.0 ≡ depth = ap depth_of (one g.0 g.1) ∙ sym is in
    let low : depth_of g.0 ≤ 1000 = counted_within g.0 1000 g.2 in
    omega (arith, same, deep, low)

pub line_none : (line : List ℕ) (tokens ts : List Token) (last : ℕ) (fault : CommandFault) → ((others : List Token) → AreTokensOf line others → others ≡ tokens) → ts ≡ tokens → IsTokensFault ts last fault → fault ≢ Memory
    → (q : ScriptRequest) → IsCommandLine line q → ⊥
line_none line tokens ts last fault one same h real q g = no_command ts last fault q h real (subst (λ (l : List Token). IsCommand l q) (one g.0 g.1 ∙ sym same) g.3)

pub line_fault_of : (line : List ℕ) (tokens ts : List Token) (fault : CommandFault) → AreTokensOf line tokens → depth_of tokens ≤ 1000 → ts ≡ tokens → IsTokensFault ts (length line) fault → IsCommandFault line fault
line_fault_of line tokens ts (InPhrase raw_fault.NotUtf8) are low same h = absurd h
line_fault_of line tokens ts (InPhrase (raw_fault.BadCharacter place)) are low same h = absurd h
line_fault_of line tokens ts (InPhrase (raw_fault.TooDeep depth)) are low same h = absurd h
line_fault_of line tokens ts (InPhrase (raw_fault.Unexpected place)) are low same h =
    (tokens, are, within_depth tokens 1000 low, subst (λ (l : List Token). IsTokensFault l (length line) (InPhrase (raw_fault.Unexpected place))) same h)
line_fault_of line tokens ts (InPhrase raw_fault.Memory) are low same h = absurd h
line_fault_of line tokens ts Unknown are low same h = (tokens, are, within_depth tokens 1000 low, subst (λ (l : List Token). IsTokensFault l (length line) Unknown) same h)
line_fault_of line tokens ts Memory are low same h = tt

-- a text that isn't cut into tokens
pub token_fault : (line : List ℕ) (fault : RawFault) → IsTokenFault line fault → IsCommandFault line (of_text fault)
token_fault line raw_fault.NotUtf8 h = h
token_fault line (raw_fault.BadCharacter place) h = h
token_fault line (raw_fault.TooDeep depth) h = absurd h
token_fault line (raw_fault.Unexpected place) h = absurd h
token_fault line raw_fault.Memory h = tt

-- the fault of a text is no running out of memory in it
no_memory_in : (fault : RawFault) → of_text fault ≢ InPhrase raw_fault.Memory
no_memory_in raw_fault.NotUtf8 e = cc
no_memory_in (raw_fault.BadCharacter place) e = cc
no_memory_in (raw_fault.TooDeep depth) e = cc
no_memory_in (raw_fault.Unexpected place) e = cc
no_memory_in raw_fault.Memory e = cc

pub text_memory : (fault : RawFault) (told : CommandFault) → told ≡ of_text fault → told ≢ InPhrase raw_fault.Memory
text_memory fault told e f = no_memory_in fault (sym e ∙ f)

pub tokens_memory : (ts : List Token) (last : ℕ) (fault : CommandFault) → IsTokensFault ts last fault → fault ≢ InPhrase raw_fault.Memory
tokens_memory ts last fault h e = subst (IsTokensFault ts last) e h
