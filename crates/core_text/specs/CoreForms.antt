-- The core form of types and terms: a table of forms and values.
use Rattle.std.specs.Prelude.{◌≡◌, ℕ, ◌≤◌, List, [], ◌∷◌, codes, encode_utf8_all}
use Rattle.hol_terms.specs.Names.{IsName}
use Rattle.hol_terms.specs.Terms.{SimpleType, base_type, function_type, Constant, negation, conjunction, disjunction, implication, truth, falsehood, forall, exists, Term, free, bound, constant, application, abstraction}
use Rattle.hol_terms.specs.Typing.{Typed}
use Rattle.core_text.specs.Tokens.{Token}
use Rattle.core_text.specs.Forms.{Form, word_form, number_form, list_form, no_forms, more_forms, spelling}

-- (f g)
abbrev pub pair_form : Form → Form → Form
pair_form f g = list_form (more_forms f (more_forms g no_forms))

-- (f g h)
abbrev pub triple_form : Form → Form → Form → Form
triple_form f g h = list_form (more_forms f (more_forms g (more_forms h no_forms)))

-- a letter, or the result and the argument of a function type in brackets
abbrev pub type_form : SimpleType → Form
type_form (base_type letter) = word_form (letter ∷ [])
type_form (function_type r s) = pair_form (type_form r) (type_form s)

abbrev pub constant_form : Constant → Form
constant_form negation = word_form (codes "NOT")
constant_form conjunction = word_form (codes "AND")
constant_form disjunction = word_form (codes "OR")
constant_form implication = word_form (codes "IMPLIES")
constant_form truth = word_form (codes "TRUTH")
constant_form falsehood = word_form (codes "FALSEHOOD")
constant_form (forall s) = pair_form (word_form (codes "ALL")) (type_form s)
constant_form (exists s) = pair_form (word_form (codes "SOME")) (type_form s)

abbrev pub term_form : Term → Form
term_form (free name s) = triple_form (word_form (codes "V")) (word_form (encode_utf8_all name)) (type_form s)
term_form (bound index) = pair_form (word_form (codes "B")) (number_form index)
term_form (constant c) = constant_form c
term_form (application f a) = triple_form (word_form (codes "A")) (term_form f) (term_form a)
term_form (abstraction s b) = triple_form (word_form (codes "L")) (type_form s) (term_form b)

-- the tokens of the core form
abbrev pub type_tokens : SimpleType → List Token
type_tokens s = spelling (type_form s)

abbrev pub term_tokens : Term → List Token
term_tokens t = spelling (term_form t)

-- each letter is one from A to Z
abbrev pub HasLetters : SimpleType → Type 0
HasLetters (base_type letter) = (65 ≤ letter) × (letter ≤ 90)
HasLetters (function_type r s) = HasLetters r × HasLetters s

abbrev pub ConstantHasLetters : Constant → Type 0
ConstantHasLetters negation = Unit {0}
ConstantHasLetters conjunction = Unit {0}
ConstantHasLetters disjunction = Unit {0}
ConstantHasLetters implication = Unit {0}
ConstantHasLetters truth = Unit {0}
ConstantHasLetters falsehood = Unit {0}
ConstantHasLetters (forall s) = HasLetters s
ConstantHasLetters (exists s) = HasLetters s

-- each name is a name and each letter is one from A to Z, as in each term that the program holds
abbrev pub HasNames : Term → Type 0
HasNames (free name s) = IsName name × HasLetters s
HasNames (bound index) = Unit {0}
HasNames (constant c) = ConstantHasLetters c
HasNames (application f a) = HasNames f × HasNames a
HasNames (abstraction s b) = HasLetters s × HasNames b

-- the form is the name
abbrev pub IsFormOfName : Form → List ℕ → Type 0
IsFormOfName f name = (f ≡ word_form (encode_utf8_all name)) × IsName name

-- the form stands for the type
abbrev pub IsFormOfType : Form → SimpleType → Type 0
IsFormOfType f s = (f ≡ type_form s) × HasLetters s

-- the form stands for the term, typed or not
abbrev pub IsFormOfTerm : Form → Term → Type 0
IsFormOfTerm f t = (f ≡ term_form t) × HasNames t

-- the form stands for the term, which has a type and no loose index
abbrev pub IsFormOfTyped : Form → Term → Type 0
IsFormOfTyped f t = (f ≡ term_form t) × HasNames t × ((s : SimpleType) × Typed [] t s)
