-- The line that a request makes, by the lines that it cites. After Andrews 2002.
use Rattle.std.specs.Prelude.{◌==◌, ℕ, nat_lt, if◌then◌else◌, List, [], ◌∷◌, ◌++◌, Option, Some, None}
use Rattle.std.specs.List.{flat_map}
use Rattle.hol_terms.specs.Computed.{is_found, same_type, type_in}
use Rattle.hol_terms.specs.FreeVariables.{body_over}
use Rattle.hol_terms.specs.Indices.{instance_of}
use Rattle.hol_terms.specs.Terms.{SimpleType, Term, Variable, constant, application, abstraction, forall, truth}
use Rattle.nd_rules.specs.Lines.{DeductionLine, line_of}
use Rattle.nd_rules.specs.Rules.{discharged, hypotheses_in, implies, universal}
use Rattle.etps_session.specs.Commands.{Request, suppose, plan, deduce, instantiate, generalize, witness, choose, convert, follow, number_of, why_of}

-- Hypotheses

-- rising numbers with one more, each once
abbrev pub with_number : List ℕ → ℕ → List ℕ
with_number [] n = n ∷ []
with_number (m ∷ rest) n = if nat_lt m n then m ∷ with_number rest n else (if m == n then m ∷ rest else n ∷ m ∷ rest)

abbrev pub with_numbers : List ℕ → List ℕ → List ℕ
with_numbers rising [] = rising
with_numbers rising (n ∷ ns) = with_numbers (with_number rising n) ns

-- the numbers, rising and each once
abbrev pub in_order : List ℕ → List ℕ
in_order ns = with_numbers [] ns

-- the hypotheses of the line of a number
abbrev pub hypotheses_at : List DeductionLine → ℕ → List ℕ
hypotheses_at lines n = hypotheses_in (line_of lines n)

-- the hypotheses on which the line rests: itself, those under which it is planned, or those of the lines cited, but for the one that is
-- discharged
abbrev pub rests_on : List DeductionLine → Request → List ℕ
rests_on lines (suppose n a) = n ∷ []
rests_on lines (plan n hs a) = hs
rests_on lines (deduce n d h) = discharged h (hypotheses_at lines d)
rests_on lines (instantiate n d t) = hypotheses_at lines d
rests_on lines (generalize n d v) = hypotheses_at lines d
rests_on lines (witness n d t a) = hypotheses_at lines d
rests_on lines (choose n e h d a) = hypotheses_at lines e ++ discharged h (hypotheses_at lines d)
rests_on lines (convert n d a) = hypotheses_at lines d
rests_on lines (follow n ds a) = flat_map (hypotheses_at lines) ds

-- Formulas

-- the formula of a line
abbrev pub formula_in : Option DeductionLine → Option Term
formula_in None = None
formula_in (Some l) = Some l.formula

abbrev pub formula_at : List DeductionLine → ℕ → Option Term
formula_at lines n = formula_in (line_of lines n)

-- A IMPLIES B
abbrev pub implication_of : Option Term → Option Term → Option Term
implication_of None b = None
implication_of (Some a) None = None
implication_of (Some a) (Some b) = Some (implies a b)

-- the type and the body of a universal formula
abbrev pub universal_parts : Term → Option (SimpleType × Term)
universal_parts (application (constant (forall s)) (abstraction r b)) = if same_type s r then Some (s, b) else None
universal_parts a = None

abbrev pub universal_in : Option Term → Option (SimpleType × Term)
universal_in None = None
universal_in (Some a) = universal_parts a

-- the instance with a term, where this has the type
abbrev pub instance_in : Option (SimpleType × Term) → Term → Option Term
instance_in None t = None
instance_in (Some q) t = if is_found (type_in [] t) q.0 then Some (instance_of q.1 t) else None

-- ALL over the variable
abbrev pub generalization_of : Variable → Option Term → Option Term
generalization_of v None = None
generalization_of v (Some a) = Some (universal v.1 (body_over v.0 v.1 0 a))

-- the formula that the request has, or that its rule gives, where the lines cited give one
abbrev pub table_formula : List DeductionLine → Request → Option Term
table_formula lines (suppose n a) = Some a
table_formula lines (plan n hs a) = Some a
table_formula lines (deduce n d h) = implication_of (formula_at lines h) (formula_at lines d)
table_formula lines (instantiate n d t) = instance_in (universal_in (formula_at lines d)) t
table_formula lines (generalize n d v) = generalization_of v (formula_at lines d)
table_formula lines (witness n d t a) = Some a
table_formula lines (choose n e h d a) = formula_at lines d
table_formula lines (convert n d a) = Some a
table_formula lines (follow n ds a) = Some a

abbrev pub or_truth : Option Term → Term
or_truth None = constant truth
or_truth (Some a) = a

-- The line of the table. Where the table has no formula TRUTH stands for it: the line is then refused, whatever its formula.
abbrev pub table_line : List DeductionLine → Request → DeductionLine
table_line lines r = record { number = number_of r; hypotheses = in_order (rests_on lines r); formula = or_truth (table_formula lines r); why = why_of r }
