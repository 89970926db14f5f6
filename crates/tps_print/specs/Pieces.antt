-- How formulas are printed: as logicians write them, after the form that TPS prints.
use Rattle.std.specs.Prelude.{ℕ, ◌+◌, ◌-◌, Bool, true, false, cond, List, [], ◌∷◌, ◌++◌, get_or, codes, encode_utf8_all}
use Rattle.std.specs.List.{list_any}
use Rattle.hol_terms.specs.Terms.{SimpleType, base_type, function_type, Constant, negation, conjunction, disjunction, implication, truth, falsehood, forall, exists, Term, free, bound, constant, application, abstraction, Variable}
use Rattle.hol_terms.specs.Computed.{same_variable}
use Rattle.hol_terms.specs.Collected.{with_variable}
use Rattle.tps_print.specs.declared.levels.Level.{Level}
use Rattle.tps_print.specs.declared.levels.Level.TheVariants as level

-- types

-- an argument's text stands in parentheses where it is a function type
abbrev pub as_argument : SimpleType → List ℕ → List ℕ
as_argument (base_type l) text = text
as_argument (function_type r s) text = codes "(" ++ (text ++ codes ")")

-- the letter of a base type; the result of a function type, and then its argument
abbrev pub printed_type : SimpleType → List ℕ
printed_type (base_type l) = l ∷ []
printed_type (function_type r s) = printed_type r ++ as_argument s (printed_type s)

abbrev pub in_parentheses : SimpleType → List ℕ
in_parentheses s = codes "(" ++ (printed_type s ++ codes ")")

-- words

-- a constant with missing arguments, and TRUTH and FALSEHOOD
abbrev pub constant_text : Constant → List ℕ
constant_text negation = codes "[~]"
constant_text conjunction = codes "[AND]"
constant_text disjunction = codes "[OR]"
constant_text implication = codes "[IMPLIES]"
constant_text truth = codes "TRUTH"
constant_text falsehood = codes "FALSEHOOD"
constant_text (forall s) = codes "[FORALL" ++ (in_parentheses s ++ codes "]")
constant_text (exists s) = codes "[EXISTS" ++ (in_parentheses s ++ codes "]")

-- a binder's word, its variable with the type, and the dot
abbrev pub binder_text : List ℕ → List ℕ → SimpleType → List ℕ
binder_text word name s = word ++ (codes " " ++ (name ++ (in_parentheses s ++ codes ". ")))

-- name k, counted from 0
abbrev pub name_at : List (List ℕ) → ℕ → List ℕ
name_at names k = get_or names k []

-- brackets

-- A term stands at the top, as a side of a connective, as the function of an application, or as an argument. A negation is
-- bracketed as a function and as an argument; a connective with its sides, a quantifier with its scope and an abstraction are
-- bracketed anywhere but at the top; an application is bracketed as an argument.
abbrev pub brackets_negation : Level → Bool
brackets_negation level.Top = false
brackets_negation level.Operand = false
brackets_negation level.Function = true
brackets_negation level.Argument = true

abbrev pub brackets_compound : Level → Bool
brackets_compound level.Top = false
brackets_compound level.Operand = true
brackets_compound level.Function = true
brackets_compound level.Argument = true

abbrev pub brackets_application : Level → Bool
brackets_application level.Top = false
brackets_application level.Operand = false
brackets_application level.Function = false
brackets_application level.Argument = true

-- pieces of a text

-- bytes that stand as they are, or an occurrence of a free variable
pub data Piece : Type 0 where
  fixed : List ℕ → Piece
  occurrence : Variable → Piece

abbrev pub bracketed : Bool → List Piece → List Piece
bracketed false ps = ps
bracketed true ps = fixed (codes "[") ∷ (ps ++ fixed (codes "]") ∷ [])

-- The pieces of a term at a level, where the binders around it, of which there are d, have the first d of the names.
abbrev pub pieces : List (List ℕ) → ℕ → Level → Term → List Piece
pieces names d l (free n s) = occurrence (n, s) ∷ []
pieces names d l (bound i) = fixed (name_at names (d - i - 1)) ∷ []
pieces names d l (constant c) = fixed (constant_text c) ∷ []
pieces names d l (application (constant negation) s) =
    bracketed (brackets_negation l) (fixed (codes "~ ") ∷ pieces names d level.Operand s)
pieces names d l (application (constant (forall q)) (abstraction s b)) =
    bracketed (brackets_compound l) (fixed (binder_text (codes "FORALL") (name_at names d) s) ∷ pieces names (d + 1) level.Top b)
pieces names d l (application (constant (exists q)) (abstraction s b)) =
    bracketed (brackets_compound l) (fixed (binder_text (codes "EXISTS") (name_at names d) s) ∷ pieces names (d + 1) level.Top b)
pieces names d l (application (application (constant conjunction) s) t) =
    bracketed (brackets_compound l) (pieces names d level.Operand s ++ (fixed (codes " AND ") ∷ pieces names d level.Operand t))
pieces names d l (application (application (constant disjunction) s) t) =
    bracketed (brackets_compound l) (pieces names d level.Operand s ++ (fixed (codes " OR ") ∷ pieces names d level.Operand t))
pieces names d l (application (application (constant implication) s) t) =
    bracketed (brackets_compound l) (pieces names d level.Operand s ++ (fixed (codes " IMPLIES ") ∷ pieces names d level.Operand t))
pieces names d l (application f a) =
    bracketed (brackets_application l) (pieces names d level.Function f ++ (fixed (codes " ") ∷ pieces names d level.Argument a))
pieces names d l (abstraction s b) =
    bracketed (brackets_compound l) (fixed (binder_text (codes "LAMBDA") (name_at names d) s) ∷ pieces names (d + 1) level.Top b)

-- the type of a variable in parentheses, where the variable doesn't stand earlier
abbrev pub first_type : List Variable → Variable → List ℕ
first_type earlier v = cond (list_any (same_variable v) earlier) [] (in_parentheses v.1)

-- the text of pieces, where these variables stand earlier
abbrev pub written : List Variable → List Piece → List ℕ
written earlier [] = []
written earlier (fixed bytes ∷ ps) = bytes ++ written earlier ps
written earlier (occurrence v ∷ ps) = encode_utf8_all v.0 ++ (first_type earlier v ++ written (with_variable earlier v) ps)
