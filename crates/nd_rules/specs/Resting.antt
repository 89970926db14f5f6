-- Hypotheses among others, as tests.
use Rattle.std.specs.Prelude.{ℕ, ◌==◌, ◌||◌, ◌&&◌, List, Bool, true, false, Option, Some, None}
use Rattle.std.specs.List.{list_any, list_all}
use Rattle.nd_rules.specs.Lines.{Justification, hypothesis, deduction, universal_instance, generalization, existential, choice, conversion, assignments, planned, DeductionLine, line_with}
use Rattle.nd_rules.specs.Rules.{is_hypothesis, hypotheses_of}

-- the number is in the list
abbrev pub is_among : List ℕ → ℕ → Bool
is_among hypotheses n = list_any (λ m. m == n) hypotheses

-- so are all of these
abbrev pub are_covered : List ℕ → List ℕ → Bool
are_covered hypotheses numbers = list_all (is_among hypotheses) numbers

-- and all of these but one
abbrev pub are_covered_but : List ℕ → List ℕ → ℕ → Bool
are_covered_but hypotheses numbers discharged = list_all (λ n. (n == discharged) || is_among hypotheses n) numbers

-- the line, where there is one, is a hypothesis
abbrev pub is_hypothesis_in : Option DeductionLine → Bool
is_hypothesis_in None = false
is_hypothesis_in (Some m) = is_hypothesis m.why

abbrev pub is_hypothesis_number : List DeductionLine → DeductionLine → ℕ → Bool
is_hypothesis_number lines l n = is_hypothesis_in (line_with lines l n)

-- the hypotheses on which the rule lets l rest are among its own
abbrev pub covers_inherited : List DeductionLine → DeductionLine → Justification → Bool
covers_inherited lines l hypothesis = true
covers_inherited lines l (deduction d h) = are_covered_but l.hypotheses (hypotheses_of lines l d) h
covers_inherited lines l (universal_instance d t) = are_covered l.hypotheses (hypotheses_of lines l d)
covers_inherited lines l (generalization d a) = are_covered l.hypotheses (hypotheses_of lines l d)
covers_inherited lines l (existential d t) = are_covered l.hypotheses (hypotheses_of lines l d)
covers_inherited lines l (choice e h d a) = are_covered l.hypotheses (hypotheses_of lines l e) && are_covered_but l.hypotheses (hypotheses_of lines l d) h
covers_inherited lines l (conversion d) = are_covered l.hypotheses (hypotheses_of lines l d)
covers_inherited lines l (assignments ds) = list_all (λ d. are_covered l.hypotheses (hypotheses_of lines l d)) ds
covers_inherited lines l planned = true
