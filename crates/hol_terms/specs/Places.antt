-- The places of variables in a list, as a map from their keys tells them.
use Rattle.std.specs.Prelude.{ℕ, List, ◌≡◌}
use Rattle.std.specs.declared.option.Option.{Option}
use Rattle.std.specs.List.{position_from}
use Rattle.std.specs.HashMap.{HashMap, get_by_text}
use Rattle.std.specs.declared.string.String.{String}
use Rattle.hol_terms.specs.Terms.{Variable}
use Rattle.hol_terms.specs.Computed.{same_variable}
use Rattle.hol_terms.specs.Collected.{key_of}

-- the first place, from 0, at which the variable stands
abbrev pub place_of : Variable → List Variable → Option ℕ
place_of v variables = position_from (same_variable v) 0 variables

-- the map has at the key of each variable its place
abbrev pub ArePlacesIn : {Y S : Type 0} → HashMap (String Y) ℕ S → List Variable → Type 0
ArePlacesIn places variables = (v : Variable) → get_by_text places (key_of v) ≡ place_of v variables
