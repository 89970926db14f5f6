-- Whether the term of a form has a type and no loose index, or the first fault with its place.
use Rattle.std.specs.Prelude.{◌≡◌, ℕ, ◌+◌, nat_lt, if◌then◌else◌, List, [], ◌∷◌, slice_get, Option, Some, None, Result, Ok, Err}
use Rattle.hol_terms.specs.Terms.{SimpleType, base_type, function_type, Term, free, bound, constant, application, abstraction}
use Rattle.hol_terms.specs.Typing.{type_of_constant}
use Rattle.hol_terms.specs.Computed.{same_type}
use Rattle.core_text.specs.Faults.{IsFaultUnlessMemory, or_else}
use Rattle.core_text.specs.Placed.{Placed, place_of, second_of, third_of}
use Rattle.core_text.specs.Reading.{◌>>=◌, term_at}
use Rattle.core_text.specs.declared.faults.TextFault.{TextFault}
use Rattle.core_text.specs.declared.faults.TextFault.TheVariants.{BadForm, IllTyped, LooseIndex}

-- the place of the first bound index of a term, in the order of its form, with no more abstractions around it than its number
abbrev pub loose_index_at : ℕ → Term → Placed → Option ℕ
loose_index_at around (free name s) p = None
loose_index_at around (bound i) p = if nat_lt i around then None else Some (place_of p)
loose_index_at around (constant c) p = None
loose_index_at around (application f a) p = or_else (loose_index_at around f (second_of p)) (loose_index_at around a (third_of p))
loose_index_at around (abstraction s b) p = loose_index_at (around + 1) b (third_of p)

-- the result type of a function of the first type at an argument of the second, or the place of the application
abbrev pub applied_at : SimpleType → SimpleType → ℕ → Result SimpleType ℕ
applied_at (base_type l) q k = Err k
applied_at (function_type r s) q k = if same_type s q then Ok r else Err k

abbrev pub found_at : Option SimpleType → ℕ → Result SimpleType ℕ
found_at None k = Err k
found_at (Some s) k = Ok s

-- the type of a term whose indices have the types of the list, the innermost first, or the place of the application that fails
-- first, parts before wholes and left before right
abbrev pub typing_at : List SimpleType → Term → Placed → Result SimpleType ℕ
typing_at types (free name s) p = Ok s
typing_at types (bound i) p = found_at (slice_get types i) (place_of p)
typing_at types (constant c) p = Ok (type_of_constant c)
typing_at types (application f a) p = typing_at types f (second_of p) >>= λ s. typing_at types a (third_of p) >>= λ q. applied_at s q (place_of p)
typing_at types (abstraction s b) p = typing_at (s ∷ types) b (third_of p) >>= λ r. Ok (function_type r s)

-- a fault of this kind, where reading answers a place
abbrev pub with_fault : {A : Type 0} → (ℕ → TextFault) → Result A ℕ → Result A TextFault
with_fault fault (Ok x) = Ok x
with_fault fault (Err k) = Err (fault k)

abbrev pub unless_loose : {A : Type 0} → Option ℕ → Result A TextFault → Result A TextFault
unless_loose None other = other
unless_loose (Some k) other = Err (LooseIndex k)

-- the type of a term that the form gave, or its first fault: a loose index, and then an application that fails
abbrev pub judged_at : Term → Placed → Result SimpleType TextFault
judged_at t p = unless_loose (loose_index_at 0 t p) (with_fault (λ k. IllTyped k) (typing_at [] t p))

-- the term of a form that has a type and no loose index, or the first fault: a form without a place in the table, a loose index,
-- and then an application that fails
abbrev pub reading_at : Placed → Result Term TextFault
reading_at p = with_fault (λ k. BadForm k) (term_at p) >>= λ t. judged_at t p >>= λ s. Ok t

abbrev pub fault_in : {A : Type 0} → Result A TextFault → Option TextFault
fault_in (Ok x) = None
fault_in (Err e) = Some e

-- what the program answers, seen by view, is what reading answers, a value or a fault, unless memory ran out
abbrev pub Answers : {X A : Type 0} → (X → A) → Result X TextFault → Result A TextFault → Type 0
Answers view (Ok x) read = read ≡ Ok (view x)
Answers view (Err e) read = IsFaultUnlessMemory e (fault_in read)
