-- Equations as they are listed.
use Rattle.hol_terms.specs.Terms.{plain_type}
use Rattle.type_infer.specs.Conditions.{PlainEquation, is_type, is_named, is_given, is_function, PlainCondition}
use Rattle.type_infer.specs.declared.conditions.Equation.{Equation}
use Rattle.type_infer.specs.declared.conditions.Equation.TheVariants.{Same, Named, Given, Function}
use Rattle.type_infer.specs.declared.conditions.Condition.{Condition}

-- the plain tree of an equation
abbrev pub plain_equation : Equation → PlainEquation
plain_equation (Same i j) = is_type i j
plain_equation (Named i name) = is_named i name.now
plain_equation (Given i ty) = is_given i (plain_type ty)
plain_equation (Function i j k) = is_function i j k

-- the plain pair of a condition
abbrev pub plain_condition : Condition → PlainCondition
plain_condition condition = (condition.place, plain_equation condition.equation)
