-- Types that are lent in part.
use Rattle.hol_terms.specs.Terms.{SimpleType, function_type, plain_type}
use Rattle.core_text.specs.declared.typings.Known.{Known}
use Rattle.core_text.specs.declared.typings.Known.TheVariants as known

-- the type without its pointers
abbrev pub known_type : Known → SimpleType
known_type (known.Lent ty) = plain_type ty.now
known_type (known.Made ty) = plain_type ty
known_type (known.Over' ty p body) = function_type (known_type body) (plain_type ty.now)
