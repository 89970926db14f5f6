-- The types of the abstractions around a term.
use Rattle.std.specs.Prelude.{List, [], ◌∷◌}
use Rattle.hol_terms.specs.Terms.{SimpleType}

-- the list without its first type
abbrev pub inner_types : List SimpleType → List SimpleType
inner_types [] = []
inner_types (s ∷ types) = types
