-- The truth value of a formula, where a test says which atoms are true.
use Rattle.std.specs.Prelude.{List, [], ◌∷◌, Bool, true, false, not, ◌&&◌, ◌||◌}
use Rattle.hol_terms.specs.Terms.{Term, negation, conjunction, disjunction, implication, truth, falsehood, application, constant}

abbrev pub truth_value : (Term → Bool) → Term → Bool
truth_value is_true (application (constant negation) a) = not (truth_value is_true a)
truth_value is_true (application (application (constant conjunction) a) b) = truth_value is_true a && truth_value is_true b
truth_value is_true (application (application (constant disjunction) a) b) = truth_value is_true a || truth_value is_true b
truth_value is_true (application (application (constant implication) a) b) = not (truth_value is_true a) || truth_value is_true b
truth_value is_true (constant truth) = true
truth_value is_true (constant falsehood) = false
truth_value is_true atom = is_true atom

-- all of the formulas are true
abbrev pub are_true : (Term → Bool) → List Term → Bool
are_true is_true [] = true
are_true is_true (t ∷ rest) = truth_value is_true t && are_true is_true rest
