-- A number that is computed from a term, by which equal atoms are found.
use Rattle.std.specs.Prelude.{ℕ, ◌+◌, ◌*◌, ◌%◌, fold}
use Rattle.hol_terms.specs.Terms.{Term, free, bound, constant, application, abstraction}

abbrev pub mixed : ℕ → ℕ → ℕ
mixed a b = (a % 4294967296 * 65599 + b % 4294967296) % 4294967296

abbrev pub fingerprint_of : Term → ℕ
fingerprint_of (free n s) = fold mixed 1 n
fingerprint_of (bound i) = mixed 2 i
fingerprint_of (constant c) = 3
fingerprint_of (application f a) = mixed (mixed 5 (fingerprint_of f)) (fingerprint_of a)
fingerprint_of (abstraction s b) = mixed 7 (fingerprint_of b)
