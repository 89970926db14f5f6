-- What the nodes of a phrase ask of an assignment of types, node by node, parts before wholes and left before right; and the first
-- node that asks too much. Types are numbered in the same order: each node has a number for its type, and each binder another one for
-- the type of its variable, which comes before those of its scope.
use Rattle.std.specs.Prelude.{ℕ, ◌+◌, List, [], ◌∷◌, ◌++◌, Some, None, ◌≡◌}
use Rattle.std.specs.declared.option.Option.{Option}
use Rattle.hol_terms.specs.Terms.{SimpleType, function_type, truth_type, Variable}
use Rattle.hol_terms.specs.Typing.{type_of_constant}
use Rattle.tps_reader.specs.Raws.{RawFormula, raw_variable, raw_constant, raw_application, raw_binding, raw_connective, raw_negation, place_of}
use Rattle.tps_reader.specs.declared.raws.Binder.{Binder}
use Rattle.tps_reader.specs.declared.raws.Binder.TheVariants.{Forall, Exists, Lambda}
use Rattle.type_infer.specs.Annotations.{innermost, known_type}

-- type i is type j; type i is that of a free name; type i is a given one; type i is that of the functions to type j from type k
pub data PlainEquation : Type 0 where
  is_type : ℕ → ℕ → PlainEquation
  is_named : ℕ → List ℕ → PlainEquation
  is_given : ℕ → SimpleType → PlainEquation
  is_function : ℕ → ℕ → ℕ → PlainEquation

-- the assignment of types to names and numbers meets the equation
abbrev pub Meets : (List ℕ → SimpleType) → (ℕ → SimpleType) → PlainEquation → Type 0
Meets names types (is_type i j) = types i ≡ types j
Meets names types (is_named i name) = types i ≡ names name
Meets names types (is_given i s) = types i ≡ s
Meets names types (is_function i j k) = types i ≡ function_type (types j) (types k)

-- an equation with the place of the node that asks it
abbrev pub PlainCondition : Type 0
PlainCondition = ℕ × PlainEquation

abbrev pub MeetsAll : (List ℕ → SimpleType) → (ℕ → SimpleType) → List PlainCondition → Type 0
MeetsAll names types [] = Unit {0}
MeetsAll names types (condition ∷ conditions) = Meets names types condition.1 × MeetsAll names types conditions

-- some assignment of types meets all of the conditions
pub record CanBeMet (conditions : List PlainCondition) : Type 0 where
  pub names : List ℕ → SimpleType
  pub types : ℕ → SimpleType
  pub met : MeetsAll names types conditions

-- the place is that of the first condition which can't be met together with those before it
pub record IsFirstUnmet (conditions : List PlainCondition) (place : ℕ) : Type 0 where
  pub before : List PlainCondition
  pub equation : PlainEquation
  pub after : List PlainCondition
  pub parts : conditions ≡ before ++ (place, equation) ∷ after
  pub met : CanBeMet before
  pub unmet : CanBeMet (before ++ (place, equation) ∷ []) → ⊥

-- the number of a phrase's own type, which is the last of its numbers, where they begin with the given one
abbrev pub own_type : ℕ → RawFormula → ℕ
own_type first (raw_variable name written place) = first
own_type first (raw_constant c place) = first
own_type first (raw_application f a place) = own_type (own_type first f + 1) a + 1
own_type first (raw_binding binder name written body place) = own_type (first + 1) body + 1
own_type first (raw_connective op left right place) = own_type (own_type first left + 1) right + 1
own_type first (raw_negation below place) = own_type first below + 1

-- the type is the given one, where one is given
abbrev pub asked : ℕ → ℕ → Option SimpleType → List PlainCondition
asked place i None = []
asked place i (Some s) = (place, is_given i s) ∷ []

abbrev pub occurrence_conditions : List Variable → ℕ → List ℕ → ℕ → Option (ℕ × ℕ) → List PlainCondition
occurrence_conditions known place name i (Some binder) = (place, is_type i binder.1) ∷ []
occurrence_conditions known place name i None = (place, is_named i name) ∷ asked place i (known_type known name)

-- the scope and the whole of a binder, from the number of its variable's type and that of its scope's
abbrev pub binder_conditions : Binder → ℕ → ℕ → ℕ → List PlainCondition
binder_conditions Forall place q r = (place, is_given r truth_type) ∷ (place, is_given (r + 1) truth_type) ∷ []
binder_conditions Exists place q r = (place, is_given r truth_type) ∷ (place, is_given (r + 1) truth_type) ∷ []
binder_conditions Lambda place q r = (place, is_function (r + 1) r q) ∷ []

-- the conditions of the nodes of a phrase, which stands under binders with the listed numbers for their variables, the innermost first
abbrev pub conditions_of : List Variable → List (List ℕ × ℕ) → ℕ → RawFormula → List PlainCondition
conditions_of known around first (raw_variable name written place) =
    asked place first written ++ occurrence_conditions known place name first (innermost name around)
conditions_of known around first (raw_constant c place) = (place, is_given first (type_of_constant c)) ∷ []
conditions_of known around first (raw_application f a place) =
    conditions_of known around first f ++ (conditions_of known around (own_type first f + 1) a
    ++ (place, is_function (own_type first f) (own_type (own_type first f + 1) a + 1) (own_type (own_type first f + 1) a)) ∷ [])
conditions_of known around first (raw_binding binder name written body place) =
    conditions_of known ((name, first) ∷ around) (first + 1) body ++ (asked place first written ++ binder_conditions binder place first (own_type (first + 1) body))
conditions_of known around first (raw_connective op left right place) =
    conditions_of known around first left ++ (conditions_of known around (own_type first left + 1) right
    ++ (place, is_given (own_type first left) truth_type) ∷ (place, is_given (own_type (own_type first left + 1) right) truth_type)
    ∷ (place, is_given (own_type (own_type first left + 1) right + 1) truth_type) ∷ [])
conditions_of known around first (raw_negation below place) =
    conditions_of known around first below ++ (place, is_given (own_type first below) truth_type) ∷ (place, is_given (own_type first below + 1) truth_type) ∷ []

-- all conditions of a phrase; the wanted type is a condition of its last node
abbrev pub all_conditions : RawFormula → Option SimpleType → List Variable → List PlainCondition
all_conditions raw wanted known = conditions_of known [] 0 raw ++ asked (place_of raw) (own_type 0 raw) wanted
