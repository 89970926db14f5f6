-- The term that an assignment of types gives to a phrase.
use Rattle.std.specs.Prelude.{ℕ, ◌+◌, List, ◌∷◌, Some, None}
use Rattle.std.specs.declared.option.Option.{Option}
use Rattle.hol_terms.specs.Terms.{SimpleType, negation, forall, exists, Term, free, bound, constant, application, abstraction}
use Rattle.tps_reader.specs.Raws.{RawFormula, raw_variable, raw_constant, raw_application, raw_binding, raw_connective, raw_negation}
use Rattle.tps_reader.specs.declared.raws.Binder.{Binder}
use Rattle.tps_reader.specs.declared.raws.Binder.TheVariants.{Forall, Exists, Lambda}
use Rattle.type_infer.specs.Annotations.{innermost, connected}
use Rattle.type_infer.specs.Conditions.{own_type}

-- an index, or a free variable of the type
abbrev pub occurrence : Option (ℕ × ℕ) → List ℕ → SimpleType → Term
occurrence (Some binder) name s = bound binder.0
occurrence None name s = free name s

abbrev pub bound_over : Binder → SimpleType → Term → Term
bound_over Forall q b = application (constant (forall q)) (abstraction q b)
bound_over Exists q b = application (constant (exists q)) (abstraction q b)
bound_over Lambda q b = abstraction q b

-- the phrase with the types that the assignment gives to its numbers
abbrev pub annotated : (ℕ → SimpleType) → List (List ℕ × ℕ) → ℕ → RawFormula → Term
annotated types around first (raw_variable name written place) = occurrence (innermost name around) name (types first)
annotated types around first (raw_constant c place) = constant c
annotated types around first (raw_application f a place) =
    application (annotated types around first f) (annotated types around (own_type first f + 1) a)
annotated types around first (raw_binding binder name written body place) =
    bound_over binder (types first) (annotated types ((name, first) ∷ around) (first + 1) body)
annotated types around first (raw_connective op left right place) =
    connected op (annotated types around first left) (annotated types around (own_type first left + 1) right)
annotated types around first (raw_negation below place) = application (constant negation) (annotated types around first below)
