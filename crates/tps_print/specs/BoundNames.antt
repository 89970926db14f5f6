-- The names that bound variables have in a printed text: x1, x2 and so on, without those that are free there.
use Rattle.std.specs.Prelude.{ℕ, ◌+◌, max, ◌||◌, List, ◌∷◌, not, filter, map, length, decimal, encode_utf8_all, ◌≡◌}
use Rattle.std.specs.HashSet.{HashSet, contains_text}
use Rattle.std.specs.List.{list_any, range_with_len}
use Rattle.std.specs.declared.string.String.{String}
use Rattle.hol_terms.specs.Terms.{Term, free, bound, constant, application, abstraction, Variable}
use Rattle.hol_terms.specs.Computed.{same_name}
use Rattle.hol_terms.specs.FreeVariables.{occurrences}

-- x and the number in decimal
abbrev pub numbered_name : ℕ → List ℕ
numbered_name n = 120 ∷ decimal n

-- the names of the free variables of a term, at each of their occurrences
abbrev pub free_names : Term → List (List ℕ)
free_names t = map (λ (v : Variable). v.0) (occurrences t)

-- how many binders stand inside each other at most
abbrev pub binder_depth : Term → ℕ
binder_depth (free n s) = 0
binder_depth (bound i) = 0
binder_depth (constant c) = 0
binder_depth (application f a) = max (binder_depth f) (binder_depth a)
binder_depth (abstraction s b) = binder_depth b + 1

-- the names from x1 to the one with the last number, without those that are taken
abbrev pub names_without : List (List ℕ) → ℕ → List (List ℕ)
names_without taken last = filter (λ (name : List ℕ). not (list_any (same_name name) taken)) (map numbered_name (range_with_len 1 last))

-- The names for binders that stand inside each other: first that of the outermost one. Of each name that is taken one number may be
-- left out, so these are as many as the binders or more.
abbrev pub bound_names : List (List ℕ) → ℕ → List (List ℕ)
bound_names taken depth = names_without taken (depth + length taken)

-- A set of texts: which names it has.

-- the new set has these names beside those of the old one
abbrev pub TakesNames : {Y S Z T : Type 0} → HashSet (String Y) S → HashSet (String Z) T → List (List ℕ) → Type 0
TakesNames old new names =
    (name : List ℕ) → contains_text new (encode_utf8_all name) ≡ (contains_text old (encode_utf8_all name) || list_any (same_name name) names)

-- the names from x1 to the one with the last number, without those of the set
abbrev pub names_outside : {Y S : Type 0} → HashSet (String Y) S → ℕ → List (List ℕ)
names_outside taken last = filter (λ (name : List ℕ). not (contains_text taken name)) (map numbered_name (range_with_len 1 last))
