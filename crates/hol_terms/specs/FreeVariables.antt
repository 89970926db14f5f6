-- The free variables of a term, and the body of the abstraction over one of them.
use Rattle.std.specs.Prelude.{ℕ, ◌+◌, List, [], ◌∷◌, ◌++◌, not, filter, cond, Contains, ◌≡◌, ◌⊎◌}
use Rattle.hol_terms.specs.Terms.{SimpleType, Term, free, bound, constant, application, abstraction, Variable}
use Rattle.hol_terms.specs.Computed.{same_variable}
use Rattle.hol_terms.specs.Indices.{put, raise}

-- the variable of that name and type is free in the term
abbrev pub IsFree : List ℕ → SimpleType → Term → Type 0
IsFree n s (free m r) = (n ≡ m) × (s ≡ r)
IsFree n s (bound i) = ⊥
IsFree n s (constant c) = ⊥
IsFree n s (application f a) = IsFree n s f ⊎ IsFree n s a
IsFree n s (abstraction r b) = IsFree n s b

-- the free variables of a term at each of their occurrences, from left to right
abbrev pub occurrences : Term → List Variable
occurrences (free n s) = (n, s) ∷ []
occurrences (bound i) = []
occurrences (constant c) = []
occurrences (application f a) = occurrences f ++ occurrences a
occurrences (abstraction s b) = occurrences b

-- the list without a variable
abbrev pub without : Variable → List Variable → List Variable
without v = filter (λ w. not (same_variable v w))

-- each variable of the list once, where it stands first
abbrev pub first_occurrences : List Variable → List Variable
first_occurrences [] = []
first_occurrences (v ∷ rest) = v ∷ without v (first_occurrences rest)

-- the free variables of a term, each once, in the order of first occurrence
abbrev pub free_variables_of : Term → List Variable
free_variables_of t = first_occurrences (occurrences t)

-- the first of the two variables stands in the list before the other one does
abbrev pub StandsFirst : List Variable → Variable → Variable → Type 0
StandsFirst variables v w = (before : List Variable) × (after : List Variable) × (variables ≡ before ++ v ∷ after) × (Contains (before ++ v ∷ []) w → ⊥)

-- the term u put for a free variable; under each abstraction its loose indices are raised
abbrev pub replace_free : List ℕ → SimpleType → Term → Term → Term
replace_free n s u (free m r) = cond (same_variable (n, s) (m, r)) u (free m r)
replace_free n s u (bound i) = bound i
replace_free n s u (constant c) = constant c
replace_free n s u (application f a) = application (replace_free n s u f) (replace_free n s u a)
replace_free n s u (abstraction r b) = abstraction r (replace_free n s (raise 1 0 u) b)

-- the body of the abstraction of t over a variable: the variable isn't free in it, and its instance with the variable is t
abbrev pub IsBodyOver : List ℕ → SimpleType → Term → Term → Type 0
IsBodyOver n s t body = (put 0 (free n s) body ≡ t) × (IsFree n s body → ⊥)

-- that body, as it is computed: the variable becomes index k, which is one higher under each abstraction
abbrev pub body_over : List ℕ → SimpleType → ℕ → Term → Term
body_over n s k (free m r) = cond (same_variable (n, s) (m, r)) (bound k) (free m r)
body_over n s k (bound i) = bound i
body_over n s k (constant c) = constant c
body_over n s k (application f a) = application (body_over n s k f) (body_over n s k a)
body_over n s k (abstraction r b) = abstraction r (body_over n s (k + 1) b)
