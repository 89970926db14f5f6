-- Simple types and terms as plain trees, without the pointers that the program's own have. Each definition and each clause of
-- this program speaks of these. After Church 1940, with numbered bound variables.
use Rattle.std.specs.Prelude.{ℕ, List}
use Rattle.hol_terms.specs.declared.types.Ty.{Ty}
use Rattle.hol_terms.specs.declared.types.Ty.TheVariants.{Base, Fun'}
use Rattle.hol_terms.specs.declared.terms.Con.{Con}
use Rattle.hol_terms.specs.declared.terms.Con.TheVariants.{Not, And, Or, Implies, Truth, Falsehood, All, Ex}
use Rattle.hol_terms.specs.declared.terms.Tm.{Tm}
use Rattle.hol_terms.specs.declared.terms.Tm.TheVariants.{Free, Bound, Con as Logical, App', Lam'}

-- a base letter by its byte, or the functions to a result from an argument, the result first
pub data SimpleType : Type 0 where
  base_type : ℕ → SimpleType
  function_type : SimpleType → SimpleType → SimpleType

-- the logical constants; the quantifiers stand at each type
pub data Constant : Type 0 where
  negation conjunction disjunction implication truth falsehood : Constant
  forall exists : SimpleType → Constant

-- a free variable (its name's characters, and its type), a bound index (from 0 at the innermost abstraction), a constant,
-- a function applied to an argument, or an abstraction over a variable of a type
pub data Term : Type 0 where
  free : List ℕ → SimpleType → Term
  bound : ℕ → Term
  constant : Constant → Term
  application : Term → Term → Term
  abstraction : SimpleType → Term → Term

-- the type of truth values, O
abbrev pub truth_type : SimpleType
truth_type = base_type 79

-- the plain tree of a type
abbrev pub plain_type : Ty → SimpleType
plain_type (Base letter) = base_type letter.byte
plain_type (Fun' p r q a) = function_type (plain_type r) (plain_type a)

-- the plain tree of a constant
abbrev pub plain_constant : Con → Constant
plain_constant Not = negation
plain_constant And = conjunction
plain_constant Or = disjunction
plain_constant Implies = implication
plain_constant Truth = truth
plain_constant Falsehood = falsehood
plain_constant (All ty) = forall (plain_type ty)
plain_constant (Ex ty) = exists (plain_type ty)

-- the plain tree of a term
abbrev pub plain_term : Tm → Term
plain_term (Free name ty) = free name (plain_type ty)
plain_term (Bound index) = bound index
plain_term (Logical con) = constant (plain_constant con)
plain_term (App' p f q a) = application (plain_term f) (plain_term a)
plain_term (Lam' ty p b) = abstraction (plain_type ty) (plain_term b)

-- a variable: a name together with a type
abbrev pub Variable : Type 0
Variable = List ℕ × SimpleType

-- the plain pair of a variable
abbrev pub plain_variable : List ℕ × Ty → Variable
plain_variable variable = (variable.0, plain_type variable.1)
