-- Annotations of a raw phrase: the typed terms that it can stand for.
use Rattle.std.specs.Prelude.{ℕ, ◌+◌, List, [], ◌∷◌, cond, Some, None, ◌≡◌}
use Rattle.std.specs.declared.option.Option.{Option}
use Rattle.hol_terms.specs.Terms.{SimpleType, function_type, truth_type, Constant, negation, conjunction, disjunction, implication, forall, exists, Term, free, bound, constant, application, abstraction, Variable}
use Rattle.hol_terms.specs.Computed.{same_name}
use Rattle.hol_terms.specs.Typing.{type_of_constant}
use Rattle.tps_reader.specs.Raws.{RawFormula, raw_variable, raw_constant, raw_application, raw_binding, raw_connective, raw_negation}
use Rattle.tps_reader.specs.declared.raws.Binder.{Binder}
use Rattle.tps_reader.specs.declared.raws.Binder.TheVariants.{Forall, Exists, Lambda}
use Rattle.tps_reader.specs.declared.raws.Infix.{Infix}
use Rattle.tps_reader.specs.declared.raws.Infix.TheVariants.{And, Or, Implies, Equiv}

-- one binder further out
abbrev pub further : {A : Type 0} → Option (ℕ × A) → Option (ℕ × A)
further None = None
further (Some found) = Some (found.0 + 1, found.1)

-- the innermost binder of a name among those around, which are listed from the innermost on: how many others stand inside it, and
-- what is kept of its variable
abbrev pub innermost : {A : Type 0} → List ℕ → List (List ℕ × A) → Option (ℕ × A)
innermost name [] = None
innermost name (binder ∷ around) = cond (same_name name binder.0) (Some (0, binder.1)) (further (innermost name around))

-- the type of a known name
abbrev pub known_type : List Variable → List ℕ → Option SimpleType
known_type [] name = None
known_type (variable ∷ known) name = cond (same_name name variable.0) (Some variable.1) (known_type known name)

-- the type is the given one, where one is given
abbrev pub IsAsked : Option SimpleType → SimpleType → Type 0
IsAsked None s = Unit {0}
IsAsked (Some asked) s = s ≡ asked

-- an occurrence of a name: an index with its binder's type, or a free variable with the name's type
abbrev pub IsOccurrence : (List ℕ → SimpleType) → List Variable → List ℕ → Option (ℕ × SimpleType) → Term → SimpleType → Type 0
IsOccurrence names known name (Some binder) t s = (t ≡ bound binder.0) × (s ≡ binder.1)
IsOccurrence names known name None t s = (t ≡ free name s) × (s ≡ names name) × IsAsked (known_type known name) s

-- a binder over a variable of the type q, with a scope b of the type r
abbrev pub IsBound : Binder → SimpleType → Term → SimpleType → Term → SimpleType → Type 0
IsBound Forall q b r t s = (r ≡ truth_type) × (t ≡ application (constant (forall q)) (abstraction q b)) × (s ≡ truth_type)
IsBound Exists q b r t s = (r ≡ truth_type) × (t ≡ application (constant (exists q)) (abstraction q b)) × (s ≡ truth_type)
IsBound Lambda q b r t s = (t ≡ abstraction q b) × (s ≡ function_type r q)

-- a constant with two arguments
abbrev pub compound : Constant → Term → Term → Term
compound c a b = application (application (constant c) a) b

-- the term of a connective between two sides; EQUIV is the conjunction of both implications
abbrev pub connected : Infix → Term → Term → Term
connected And a b = compound conjunction a b
connected Or a b = compound disjunction a b
connected Implies a b = compound implication a b
connected Equiv a b = compound conjunction (compound implication a b) (compound implication b a)

-- the term t of the type s has the shape of the phrase, which stands under binders with the listed types, the innermost first,
-- where the free names have the given types
abbrev pub Annotation : (List ℕ → SimpleType) → List Variable → List Variable → RawFormula → Term → SimpleType → Type 0
Annotation names known around (raw_variable name written place) t s =
    IsAsked written s × IsOccurrence names known name (innermost name around) t s
Annotation names known around (raw_constant c place) t s = (t ≡ constant c) × (s ≡ type_of_constant c)
Annotation names known around (raw_application f a place) t s =
    (g : Term) × (r : SimpleType) × (b : Term) × (q : SimpleType) × Annotation names known around f g r × Annotation names known around a b q
    × (r ≡ function_type s q) × (t ≡ application g b)
Annotation names known around (raw_binding binder name written body place) t s =
    (q : SimpleType) × (b : Term) × (r : SimpleType) × Annotation names known ((name, q) ∷ around) body b r × IsAsked written q × IsBound binder q b r t s
Annotation names known around (raw_connective op left right place) t s =
    (a : Term) × (q : SimpleType) × (b : Term) × (r : SimpleType) × Annotation names known around left a q × Annotation names known around right b r
    × (q ≡ truth_type) × (r ≡ truth_type) × (s ≡ truth_type) × (t ≡ connected op a b)
Annotation names known around (raw_negation below place) t s =
    (a : Term) × (q : SimpleType) × Annotation names known around below a q
    × (q ≡ truth_type) × (s ≡ truth_type) × (t ≡ application (constant negation) a)

-- the term is an annotation of the phrase: it has the phrase's shape, each written type is the type of what it is written at, all free
-- occurrences of a name have one type, the known one where the name is known, a bound occurrence has its binder's type, and the whole
-- has the wanted type
abbrev pub Annotates : RawFormula → Option SimpleType → List Variable → Term → Type 0
Annotates raw wanted known t = (names : List ℕ → SimpleType) × (s : SimpleType) × Annotation names known [] raw t s × IsAsked wanted s
