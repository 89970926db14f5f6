-- The long form of a head as it is computed: the head is raised once, by the number of the arguments that are missing.
use Rattle.std.specs.Prelude.{ℕ, ◌+◌}
use Rattle.hol_terms.specs.Terms.{SimpleType, base_type, function_type, Term, bound, application, abstraction}
use Rattle.hol_conv.specs.NormalForms.{long_form}

abbrev pub missing_arguments : SimpleType → ℕ
missing_arguments (base_type l) = 0
missing_arguments (function_type r s) = missing_arguments r + 1

-- the long form of a head, which was raised by that number
abbrev pub filled_form : SimpleType → Term → Term
filled_form (base_type l) f = f
filled_form (function_type r s) f = abstraction s (filled_form r (application f (long_form s (bound (missing_arguments r)))))
