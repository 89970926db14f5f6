-- The type of an index as the code looks it up.
use Rattle.std.proofs.Common.{ℕ, zero, suc, List, [], ◌∷◌, ◌≡◌, refl, slice_get, Some, None}
use Rattle.hol_terms.specs.Terms.{SimpleType, truth_type}
use Rattle.hol_conv.specs.NormalForms.{type_of_index}

pub lookup_some : (types : List SimpleType) (i : ℕ) (t : SimpleType) → slice_get types i ≡ Some t → type_of_index types i ≡ t
lookup_some [] i t e = cc
lookup_some (s ∷ types) zero t e = cc
lookup_some (s ∷ types) (suc i) t e = lookup_some types i t e

pub lookup_none : (types : List SimpleType) (i : ℕ) → slice_get types i ≡ None → type_of_index types i ≡ truth_type
lookup_none [] i e = refl
lookup_none (s ∷ types) zero e = cc
lookup_none (s ∷ types) (suc i) e = lookup_none types i e
