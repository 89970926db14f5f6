-- Printed types without a run of more than 64 letters.
use Rattle.std.specs.Prelude.{ℕ, suc, ◌≤◌}
use Rattle.hol_terms.specs.Terms.{SimpleType, base_type, function_type, Constant, negation, conjunction, disjunction, implication, truth, falsehood, forall, exists, Term, free, bound, constant, application, abstraction}

-- how many letters stand directly after the result of a function type with this argument, where n stand directly after the whole
abbrev pub run_behind : SimpleType → ℕ → ℕ
run_behind (base_type l) n = suc n
run_behind (function_type r s) n = 0

-- an argument in parentheses has short runs, and the letters after it are one
abbrev pub HasShortArgument : SimpleType → ℕ → Type 0 → Type 0
HasShortArgument (base_type l) n inside = Unit {0}
HasShortArgument (function_type r s) n inside = inside × (n ≤ 64)

-- no run of letters is longer than 64, where n letters stand directly after the printed type
abbrev pub HasShortRuns : SimpleType → ℕ → Type 0
HasShortRuns (base_type l) n = suc n ≤ 64
HasShortRuns (function_type r s) n = HasShortRuns r (run_behind s n) × HasShortArgument s n (HasShortRuns s 0)

abbrev pub ConstantHasShortRuns : Constant → Type 0
ConstantHasShortRuns negation = Unit {0}
ConstantHasShortRuns conjunction = Unit {0}
ConstantHasShortRuns disjunction = Unit {0}
ConstantHasShortRuns implication = Unit {0}
ConstantHasShortRuns truth = Unit {0}
ConstantHasShortRuns falsehood = Unit {0}
ConstantHasShortRuns (forall s) = HasShortRuns s 0
ConstantHasShortRuns (exists s) = HasShortRuns s 0

-- the types in the term have no run of more than 64 letters
abbrev pub HasShortWords : Term → Type 0
HasShortWords (free n s) = HasShortRuns s 0
HasShortWords (bound i) = Unit {0}
HasShortWords (constant c) = ConstantHasShortRuns c
HasShortWords (application f a) = HasShortWords f × HasShortWords a
HasShortWords (abstraction s b) = HasShortRuns s 0 × HasShortWords b
