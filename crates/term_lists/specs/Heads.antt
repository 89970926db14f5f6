-- Heads as plain values, and the terms and the types that they are.
use Rattle.std.specs.Prelude.{◌≡◌, refl}
use package.base.Stored.{Gv, Coded}
use denote.Struct.Codes.{itself, code_by}
use mathlib.Core.Path.{ap}
use Rattle.hol_terms.specs.Terms.{SimpleType, Term, free, bound, constant, application, abstraction, negation, plain_type, plain_constant}
use Rattle.hol_terms.specs.Typing.{type_of_constant}
use Rattle.hol_terms.specs.Codes.{term_to, term_from, term_back}
use Rattle.expansion_tree.specs.Budgets.{Head as PlainHead, variable_head, constant_head}
use Rattle.term_lists.specs.declared.heads.Head.{Head}
use Rattle.term_lists.specs.declared.heads.Head.TheVariants.{Free, Con}

-- the plain value of a head
abbrev pub plain_head : Head → PlainHead
plain_head (Free name ty) = variable_head (name, plain_type ty)
plain_head (Con con) = constant_head (plain_constant con)

-- the head as a term
abbrev pub head_term : PlainHead → Term
head_term (variable_head v) = free v.0 v.1
head_term (constant_head c) = constant c

-- the type of the head
abbrev pub head_type : PlainHead → SimpleType
head_type (variable_head v) = v.1
head_type (constant_head c) = type_of_constant c

-- a code of heads, by which a type whose model holds them tells its values apart

abbrev pub term_head : Term → PlainHead
term_head (free n s) = variable_head (n, s)
term_head (bound i) = constant_head negation
term_head (constant c) = constant_head c
term_head (application f a) = constant_head negation
term_head (abstraction s b) = constant_head negation

term_head_back : (h : PlainHead) → term_head (head_term h) ≡ h
term_head_back (variable_head v) = refl
term_head_back (constant_head c) = refl

abbrev pub head_to : PlainHead → Gv
head_to h = term_to (head_term h)

abbrev pub head_from : Gv → PlainHead
head_from code = term_head (term_from code)

pub head_back : (h : PlainHead) → head_from (head_to h) ≡ h
head_back (variable_head v) = ap term_head (term_back (free v.0 v.1))
head_back (constant_head c) = ap term_head (term_back (constant c))

abbrev pub head_code : Coded PlainHead
head_code = code_by Gv itself head_to head_from head_back
