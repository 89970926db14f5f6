-- Laws of conversion, which the layers above rest on. Each is a clause of a function of the module `laws`. Where they speak of
-- typed terms, the loose indices have the types of the list.
use Rattle.std.specs.Prelude.{ℕ, List, ◌∷◌, ◌≡◌, ◌↔◌}
use Rattle.hol_terms.specs.Terms.{SimpleType, function_type, Term, free, bound, constant, application, abstraction, negation, conjunction, disjunction, implication, forall, exists}
use Rattle.hol_terms.specs.Typing.{Typed}
use Rattle.hol_terms.specs.Indices.{raise, put}
use Rattle.hol_terms.specs.FreeVariables.{IsFree, replace_free}
use Rattle.hol_conv.specs.Conversion.{Step, Conv, Long, IsNormalOf}
use Rattle.hol_conv.specs.NormalForms.{hereditary, long_form, apply_abstraction, normal_form}
use Rattle.hol_conv.specs.Values.{variables, around, eval}

-- one long normal form

-- each typed term has a long normal form
abbrev pub HasNormalForm : Type 0
HasNormalForm = (types : List SimpleType) (t : Term) (s : SimpleType) → Typed types t s → IsNormalOf types s (normal_form types t) t

-- and no other one
abbrev pub HasOneNormalForm : Type 0
HasOneNormalForm = (types : List SimpleType) (t n m : Term) (s : SimpleType) → IsNormalOf types s n t → IsNormalOf types s m t → n ≡ m

-- two typed terms of one type are convertible exactly where their long normal forms are equal
abbrev pub ConvertibleByNormalForms : Type 0
ConvertibleByNormalForms =
    (types : List SimpleType) (t u : Term) (s : SimpleType) → Typed types t s → Typed types u s → Conv types s t u ↔ (normal_form types t ≡ normal_form types u)

-- and exactly where their values are equal
abbrev pub ConvertibleByValues : Type 0
ConvertibleByValues =
    (types : List SimpleType) (t u : Term) (s : SimpleType) → Typed types t s → Typed types u s
    → Conv types s t u ↔ (eval variables (around types) t ≡ eval variables (around types) u)

-- a step between typed terms keeps the long normal form
abbrev pub StepKeepsNormalForm : Type 0
StepKeepsNormalForm =
    (types : List SimpleType) (t u : Term) (s : SimpleType) → Typed types t s → Typed types u s → Step t u → normal_form types t ≡ normal_form types u

-- a long term is its own long normal form
abbrev pub LongIsNormal : Type 0
LongIsNormal = (types : List SimpleType) (t : Term) (s : SimpleType) → Long types t s → normal_form types t ≡ t

-- hereditary substitution

-- two hereditary substitutions commute
abbrev pub HereditaryCommutes : Type 0
HereditaryCommutes =
    (q s r : SimpleType) (v u b : Term) (types : List SimpleType) → Long types v q → Long (q ∷ types) u s → Long (s ∷ q ∷ types) b r
    → hereditary q 0 v (hereditary s 0 u b) ≡ hereditary s 0 (hereditary q 0 v u) (hereditary q 1 v b)

-- the long form of an index, put for that index, changes nothing
abbrev pub LongFormPut : Type 0
LongFormPut = (types : List SimpleType) (s r : SimpleType) (b : Term) → Long (s ∷ types) b r → hereditary s 0 (long_form s (bound 0)) (raise 1 1 b) ≡ b

-- a long term, put for an index in that index's long form, gives the term
abbrev pub PutInLongForm : Type 0
PutInLongForm = (types : List SimpleType) (s : SimpleType) (u : Term) → Long types u s → hereditary s 0 u (long_form s (bound 0)) ≡ u

-- the parts of a term

abbrev pub NormalApplication : Type 0
NormalApplication =
    (types : List SimpleType) (f a : Term) (t s : SimpleType) → Typed types f (function_type t s) → Typed types a s
    → normal_form types (application f a) ≡ apply_abstraction (normal_form types f) (normal_form types a)

abbrev pub NormalAbstraction : Type 0
NormalAbstraction = (types : List SimpleType) (s : SimpleType) (b : Term) → normal_form types (abstraction s b) ≡ abstraction s (normal_form (s ∷ types) b)

-- a formula's long normal form has the connective of the formula's head
abbrev pub NormalNegation : Type 0
NormalNegation =
    (types : List SimpleType) (a : Term) → normal_form types (application (constant negation) a) ≡ application (constant negation) (normal_form types a)

abbrev pub NormalConjunction : Type 0
NormalConjunction =
    (types : List SimpleType) (a b : Term)
    → normal_form types (application (application (constant conjunction) a) b)
    ≡ application (application (constant conjunction) (normal_form types a)) (normal_form types b)

abbrev pub NormalDisjunction : Type 0
NormalDisjunction =
    (types : List SimpleType) (a b : Term)
    → normal_form types (application (application (constant disjunction) a) b)
    ≡ application (application (constant disjunction) (normal_form types a)) (normal_form types b)

abbrev pub NormalImplication : Type 0
NormalImplication =
    (types : List SimpleType) (a b : Term)
    → normal_form types (application (application (constant implication) a) b)
    ≡ application (application (constant implication) (normal_form types a)) (normal_form types b)

-- and its quantifier
abbrev pub NormalForall : Type 0
NormalForall =
    (types : List SimpleType) (s : SimpleType) (p : Term) → normal_form types (application (constant (forall s)) p)
    ≡ application (constant (forall s)) (normal_form types p)

abbrev pub NormalExists : Type 0
NormalExists =
    (types : List SimpleType) (s : SimpleType) (p : Term) → normal_form types (application (constant (exists s)) p)
    ≡ application (constant (exists s)) (normal_form types p)

-- instances, and terms put for free variables

abbrev pub NormalInstance : Type 0
NormalInstance =
    (types : List SimpleType) (s r : SimpleType) (u b : Term) → Typed types u s → Typed (s ∷ types) b r
    → normal_form types (put 0 u b) ≡ hereditary s 0 (normal_form types u) (normal_form (s ∷ types) b)

-- the instance with a variable
abbrev pub NormalInstanceWithVariable : Type 0
NormalInstanceWithVariable =
    (types : List SimpleType) (n : List ℕ) (s r : SimpleType) (b : Term) → Typed (s ∷ types) b r
    → normal_form types (put 0 (free n s) b) ≡ put 0 (free n s) (normal_form (s ∷ types) b)

-- another variable put for a free variable
abbrev pub NormalRenamed : Type 0
NormalRenamed =
    (types : List SimpleType) (n m : List ℕ) (s r : SimpleType) (t : Term) → Typed types t r
    → normal_form types (replace_free n s (free m s) t) ≡ replace_free n s (free m s) (normal_form types t)

-- a term put for a free variable: its long normal form will do
abbrev pub NormalReplaced : Type 0
NormalReplaced =
    (types : List SimpleType) (n : List ℕ) (s r : SimpleType) (u t : Term) → Typed types u s → Typed types t r
    → normal_form types (replace_free n s u t) ≡ normal_form types (replace_free n s (normal_form types u) (normal_form types t))

-- two terms put for two free variables, with long normal forms taken at each turn
abbrev pub NormalReplacementsCommute : Type 0
NormalReplacementsCommute =
    (types : List SimpleType) (n m : List ℕ) (s q r : SimpleType) (u v t : Term) → Typed types u s → Typed types v q → Typed types t r
    → ((n ≡ m) × (s ≡ q) → ⊥) → (IsFree n s v → ⊥)
    → normal_form types (replace_free m q v (normal_form types (replace_free n s u t)))
    ≡ normal_form types (replace_free n s (normal_form types (replace_free m q v u)) (normal_form types (replace_free m q v t)))
