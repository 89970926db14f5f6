-- Variables as they are collected: a list that holds each once, and a set of texts that tells which ones it holds.
use Rattle.std.specs.Prelude.{ℕ, List, [], ◌∷◌, ◌++◌, cond, encode_utf8_all, ◌≡◌}
use Rattle.std.specs.List.{list_any}
use Rattle.std.specs.HashSet.{HashSet, contains_text}
use Rattle.std.specs.declared.string.String.{String}
use Rattle.hol_terms.specs.Terms.{SimpleType, base_type, function_type, Variable}
use Rattle.hol_terms.specs.Computed.{same_variable}

abbrev pub with_variable : List Variable → Variable → List Variable
with_variable collected v = cond (list_any (same_variable v) collected) collected (collected ++ v ∷ [])

abbrev pub with_variables : List Variable → List Variable → List Variable
with_variables collected [] = collected
with_variables collected (v ∷ rest) = with_variables (with_variable collected v) rest

-- a type in characters: b and the letter, or f, the result and the argument
abbrev pub type_characters : SimpleType → List ℕ
type_characters (base_type l) = 98 ∷ l ∷ []
type_characters (function_type r s) = 102 ∷ (type_characters r ++ type_characters s)

-- the text by which a variable is found: its type, and then its name
abbrev pub key_of : Variable → List ℕ
key_of v = encode_utf8_all (type_characters v.1 ++ v.0)

-- the set has exactly the keys of the variables
abbrev pub AreKeysOf : {Y S : Type 0} → HashSet (String Y) S → List Variable → Type 0
AreKeysOf keys variables = (v : Variable) → contains_text keys (key_of v) ≡ list_any (same_variable v) variables
