-- How large a term is, for recursions whose calls go down in it.
use Rattle.std.proofs.Common.{ℕ, ◌+◌}
use Rattle.hol_terms.specs.Terms.{Term, free, bound, constant, application, abstraction}

-- room for a call at the same term before one at a part
abbrev pub twice_size : Term → ℕ
twice_size (free n s) = 0
twice_size (bound i) = 0
twice_size (constant c) = 0
twice_size (application f a) = twice_size f + twice_size a + 2
twice_size (abstraction s b) = twice_size b + 2
