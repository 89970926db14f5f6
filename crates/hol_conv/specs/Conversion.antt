-- Conversion by beta and eta, and long normal terms.
use Rattle.std.specs.Prelude.{List, ◌∷◌, slice_get, ◌≡◌, ◌⊎◌, Some}
use Rattle.hol_terms.specs.Terms.{SimpleType, base_type, function_type, Term, free, bound, constant, application, abstraction}
use Rattle.hol_terms.specs.Typing.{Typed, type_of_constant}
use Rattle.hol_terms.specs.Indices.{raise, put}

-- one step at one place: beta turns an abstraction, applied to u, into the instance of its body with u; eta turns the abstraction
-- of f, applied to the abstracted variable, into f
pub data Step : Term → Term → Type 0 where
  beta : (s : SimpleType) (b u : Term) → Step (application (abstraction s b) u) (put 0 u b)
  eta : (s : SimpleType) (f : Term) → Step (abstraction s (application (raise 1 0 f) (bound 0))) f
  in_function : (f g a : Term) → Step f g → Step (application f a) (application g a)
  in_argument : (f a b : Term) → Step a b → Step (application f a) (application f b)
  in_body : (s : SimpleType) (b c : Term) → Step b c → Step (abstraction s b) (abstraction s c)

-- one of the two becomes the other by one step
abbrev pub AreNeighbours : Term → Term → Type 0
AreNeighbours a b = Step a b ⊎ Step b a

-- a list of typed terms of one type that begins with the first term and ends with the second, with neighbours side by side
pub data Conv (types : List SimpleType) (t : SimpleType) : Term → Term → Type 0 where
  done : (a : Term) → Typed types a t → Conv types t a a
  next : (a b c : Term) → Typed types a t → AreNeighbours a b → Conv types t b c → Conv types t a c

abbrev pub IsBase : SimpleType → Type 0
IsBase (base_type l) = Unit {0}
IsBase (function_type r s) = ⊥

-- neutral: a head (a free variable, a bound index or a constant) with some of the arguments that its type asks for, each long
-- long: at a function type an abstraction with a long body, at a base letter a head with all its arguments
pub data Form : Type 0 where
  neutral long : Form

abbrev pub Ends : Form → SimpleType → Type 0
Ends neutral t = Unit {0}
Ends long t = IsBase t

abbrev pub HasForm : Form → List SimpleType → Term → SimpleType → Type 0
HasForm form types (free n s) t = Ends form t × (s ≡ t)
HasForm form types (bound i) t = Ends form t × (slice_get types i ≡ Some t)
HasForm form types (constant c) t = Ends form t × (type_of_constant c ≡ t)
HasForm form types (application f a) t = Ends form t × ((s : SimpleType) × HasForm neutral types f (function_type t s) × HasForm long types a s)
HasForm neutral types (abstraction s b) t = ⊥
HasForm long types (abstraction s b) t = (r : SimpleType) × HasForm long (s ∷ types) b r × (function_type r s ≡ t)

-- the term is long of that type where its loose indices have the types of the list
abbrev pub Long : List SimpleType → Term → SimpleType → Type 0
Long = HasForm long

abbrev pub Neutral : List SimpleType → Term → SimpleType → Type 0
Neutral = HasForm neutral

-- n is a long normal form of t
abbrev pub IsNormalOf : List SimpleType → SimpleType → Term → Term → Type 0
IsNormalOf types s n t = Long types n s × Conv types s n t
