-- Types as they are found on the way through a term.
use Rattle.std.specs.Prelude.{◌≡◌, Some, None}
use Rattle.std.specs.declared.option.Option.{Option}
use Rattle.hol_terms.specs.Terms.{SimpleType, base_type, function_type, plain_type}
use Rattle.hol_terms.specs.declared.typing.Found.{Found}
use Rattle.hol_terms.specs.declared.typing.Found.TheVariants.{Lent, Made}
use Rattle.hol_terms.specs.declared.typing.FoundFunction.{FoundFunction}

abbrev pub found_type : Found → SimpleType
found_type (Lent ty) = plain_type ty.now
found_type (Made ty) = plain_type ty

-- the parts are the result and the argument of the type, and there are none where it is a letter
abbrev pub split_found : Option FoundFunction → SimpleType → Type 0
split_found None (base_type l) = Unit {0}
split_found None (function_type r s) = ⊥
split_found (Some parts) (base_type l) = ⊥
split_found (Some parts) (function_type r s) = (found_type parts.result_type ≡ r) × (found_type parts.argument ≡ s)
