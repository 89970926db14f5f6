-- How a long term is made: abstractions over a head, a free variable, a constant or a bound index, with long arguments for all that
-- the head's type asks for. The weight is one for the head and that of the arguments.
use Rattle.std.specs.Prelude.{◌≡◌, ◌↔◌, ◌⊎◌, ◌+◌, ◌-◌, ◌<◌, ◌≤◌, ℕ, List, ◌∷◌, Contains, Some, slice_get, flat_map, map}
use Rattle.hol_terms.specs.Terms.{SimpleType, base_type, function_type, Term, bound, application, abstraction}
use Rattle.hol_terms.specs.Splits.{letter_of}
use Rattle.hol_terms.specs.Scopes.{inner_types}
use Rattle.hol_conv.specs.LongForms.{missing_arguments}
use Rattle.expansion_tree.specs.Budgets.{Head}
use Rattle.term_lists.specs.Heads.{head_term, head_type}
use Rattle.term_lists.specs.LongTerms.{IsLongTerm}

-- the types of the loose indices below an abstraction over each argument of a type
abbrev pub types_below : SimpleType → List SimpleType → List SimpleType
types_below (base_type l) types = types
types_below (function_type r s) types = types_below r (s ∷ types)

-- the types without those of these abstractions
abbrev pub types_above : SimpleType → List SimpleType → List SimpleType
types_above (base_type l) types = types
types_above (function_type r s) types = inner_types (types_above r types)

-- the abstraction over each argument of a type
abbrev pub abstraction_over : SimpleType → Term → Term
abstraction_over (base_type l) body = body
abstraction_over (function_type r s) body = abstraction s (abstraction_over r body)

-- t is f, which has the type s, with a long argument for each that s asks for; they have the weight together
abbrev pub IsApplied : List SimpleType → List Head → SimpleType → ℕ → Term → Term → Type 0
IsApplied types given (base_type l) weight f t = (weight ≡ 0) × (t ≡ f)
IsApplied types given (function_type r s) weight f t =
    (a : Term) × (k : ℕ) × (m : ℕ) × IsLongTerm types given s k a × (weight ≡ k + m) × IsApplied types given r m (application f a) t

-- arguments for all that the type asks for can have the weight together: there are none and it is nothing, or it is one for each
abbrev pub CanWeigh : SimpleType → ℕ → Type 0
CanWeigh (base_type l) weight = weight ≡ 0
CanWeigh (function_type r s) weight = missing_arguments (function_type r s) ≤ weight

-- t is one of the terms, which have the type s, with its arguments
abbrev pub IsOneApplied : List SimpleType → List Head → SimpleType → ℕ → List Term → Term → Type 0
IsOneApplied types given s weight functions t = (f : Term) × Contains functions f × IsApplied types given s weight f t

-- t is one of the terms with a first argument of the type s and of the first weight, and then those that the type r asks for
abbrev pub IsOneWithArgument : List SimpleType → List Head → SimpleType → SimpleType → ℕ → ℕ → List Term → Term → Type 0
IsOneWithArgument types given r s weight rest functions t =
    (f : Term) × Contains functions f × (a : Term) × IsLongTerm types given s weight a × IsApplied types given r rest (application f a) t

-- t is the head f, whose type s ends in the letter, with its arguments
abbrev pub IsFrom : List SimpleType → List Head → ℕ → ℕ → SimpleType → Term → Term → Type 0
IsFrom types given letter left s f t = (letter_of s ≡ letter) × IsApplied types given s left f t

-- t is one of the heads with its arguments
abbrev pub IsFromHeads : List SimpleType → List Head → ℕ → ℕ → List Head → Term → Type 0
IsFromHeads types given letter left heads t = (h : Head) × Contains heads h × IsFrom types given letter left (head_type h) (head_term h) t

-- t is a bound index with its arguments
abbrev pub IsFromIndex : List SimpleType → List Head → ℕ → ℕ → Term → Type 0
IsFromIndex types given letter left t = (i : ℕ) × (s : SimpleType) × (slice_get types i ≡ Some s) × IsFrom types given letter left s (bound i) t

-- t is such an index below n
abbrev pub IsFromIndexBelow : List SimpleType → List Head → ℕ → ℕ → ℕ → Term → Type 0
IsFromIndexBelow types given letter left n t =
    (i : ℕ) × (i < n) × (s : SimpleType) × (slice_get types i ≡ Some s) × IsFrom types given letter left s (bound i) t

-- t is one of the terms with a first argument that leaves the rest of the weight, which is below n
abbrev pub IsOneWithRestBelow : List SimpleType → List Head → SimpleType → SimpleType → ℕ → List Term → ℕ → Term → Type 0
IsOneWithRestBelow types given r s left functions n t = (rest : ℕ) × (rest < n) × IsOneWithArgument types given r s (left - rest) rest functions t

-- the second list has the items of the first and all terms of the kind
pub record IsExtendedBy (old new : List Term) (IsKind : Term → Type 0) : Type 0 where
  pub each : (t : Term) → Contains new t ↔ (Contains old t ⊎ IsKind t)

-- each of the functions applied to each of the arguments
abbrev pub applications_of : List Term → List Term → List Term
applications_of functions arguments = flat_map (λ f. map (application f) arguments) functions
