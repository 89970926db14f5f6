-- Loose indices: raised, replaced by a term, and put for a free variable. An index n points to the n-th abstraction around it,
-- counted from 0 at the innermost one; it is loose where there are not that many.
use Rattle.std.specs.Prelude.{ℕ, ◌+◌, ◌-◌, ◌<◌, eqb, nat_lt, cond, ◌≡◌, ◌⊎◌}
use Rattle.hol_terms.specs.Terms.{Term, free, bound, constant, application, abstraction}

-- d is added to an index that is at least c
abbrev pub raise_index : ℕ → ℕ → ℕ → ℕ
raise_index d c i = cond (nat_lt i c) i (i + d)

-- d is added to each loose index that is at least c
abbrev pub raise : ℕ → ℕ → Term → Term
raise d c (free n s) = free n s
raise d c (bound i) = bound (raise_index d c i)
raise d c (constant k) = constant k
raise d c (application f a) = application (raise d c f) (raise d c a)
raise d c (abstraction s b) = abstraction s (raise d (c + 1) b)

-- what stands for index i where index k is replaced by u
abbrev pub put_index : ℕ → Term → ℕ → Term
put_index k u i = cond (eqb i k) (raise k 0 u) (cond (nat_lt i k) (bound i) (bound (i - 1)))

-- index k is replaced by u, and each index above k is lowered by one
abbrev pub put : ℕ → Term → Term → Term
put k u (free n s) = free n s
put k u (bound i) = put_index k u i
put k u (constant c) = constant c
put k u (application f a) = application (put k u f) (put k u a)
put k u (abstraction s b) = abstraction s (put (k + 1) u b)

-- the instance of an abstraction's body with a term
abbrev pub instance_of : Term → Term → Term
instance_of body t = put 0 t body

-- each loose index of the term is below k
abbrev pub IsClosedBelow : ℕ → Term → Type 0
IsClosedBelow k (free n s) = Unit {0}
IsClosedBelow k (bound i) = i < k
IsClosedBelow k (constant c) = Unit {0}
IsClosedBelow k (application f a) = IsClosedBelow k f × IsClosedBelow k a
IsClosedBelow k (abstraction s b) = IsClosedBelow (k + 1) b

-- index k is loose in the term
abbrev pub HasIndex : ℕ → Term → Type 0
HasIndex k (free n s) = ⊥
HasIndex k (bound i) = i ≡ k
HasIndex k (constant c) = ⊥
HasIndex k (application f a) = HasIndex k f ⊎ HasIndex k a
HasIndex k (abstraction s b) = HasIndex (k + 1) b

-- the term has no loose index
abbrev pub IsClosed : Term → Type 0
IsClosed t = IsClosedBelow 0 t
