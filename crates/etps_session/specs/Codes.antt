-- A code of what a session holds, by which its type tells its values apart.
use Rattle.std.specs.Prelude.{◌≡◌, ℕ, List, [], ◌∷◌, Option, refl}
use Rattle.std.specs.Coded.{coded_list, coded×, coded_ℕ, coded_option}
use package.base.Stored.{Coded}
use denote.Struct.Codes.{code_by}
use Rattle.hol_terms.specs.Codes.{term_code, type_code}
use Rattle.hol_terms.specs.Terms.{SimpleType, Term, constant, truth, truth_type}
use Rattle.nd_rules.specs.Codes.{lines_code}
use Rattle.nd_rules.specs.Lines.{DeductionLine, Justification, hypothesis, deduction, universal_instance, generalization, existential, choice, conversion, assignments, planned}
use Rattle.etps_session.specs.Commands.{Request, suppose, plan, deduce, instantiate, generalize, witness, choose, convert, follow}
use Rattle.etps_session.specs.Replays.{Goal, SessionState}

-- a request as a line with a type
abbrev request_line : Request → DeductionLine
request_line (suppose n a) = record { number = n; hypotheses = []; formula = a; why = hypothesis }
request_line (plan n hs a) = record { number = n; hypotheses = hs; formula = a; why = planned }
request_line (deduce n d h) = record { number = n; hypotheses = []; formula = constant truth; why = deduction d h }
request_line (instantiate n d t) = record { number = n; hypotheses = []; formula = constant truth; why = universal_instance d t }
request_line (generalize n d v) = record { number = n; hypotheses = []; formula = constant truth; why = generalization d v.0 }
request_line (witness n d t a) = record { number = n; hypotheses = []; formula = a; why = existential d t }
request_line (choose n e h d a) = record { number = n; hypotheses = []; formula = constant truth; why = choice e h d a }
request_line (convert n d a) = record { number = n; hypotheses = []; formula = a; why = conversion d }
request_line (follow n ds a) = record { number = n; hypotheses = []; formula = a; why = assignments ds }

abbrev request_type : Request → SimpleType
request_type (suppose n a) = truth_type
request_type (plan n hs a) = truth_type
request_type (deduce n d h) = truth_type
request_type (instantiate n d t) = truth_type
request_type (generalize n d v) = v.1
request_type (witness n d t a) = truth_type
request_type (choose n e h d a) = truth_type
request_type (convert n d a) = truth_type
request_type (follow n ds a) = truth_type

abbrev request_by : ℕ → List ℕ → Term → SimpleType → Justification → Request
request_by n hs a s hypothesis = suppose n a
request_by n hs a s (deduction d h) = deduce n d h
request_by n hs a s (universal_instance d t) = instantiate n d t
request_by n hs a s (generalization d v) = generalize n d (v, s)
request_by n hs a s (existential d t) = witness n d t a
request_by n hs a s (choice e h d v) = choose n e h d v
request_by n hs a s (conversion d) = convert n d a
request_by n hs a s (assignments ds) = follow n ds a
request_by n hs a s planned = plan n hs a

abbrev request_from : List DeductionLine × SimpleType → Request
request_from ([], s) = suppose 0 (constant truth)
request_from (l ∷ ls, s) = request_by l.number l.hypotheses l.formula s l.why

pub request_back : (r : Request) → request_from (request_line r ∷ [], request_type r) ≡ r
request_back (suppose n a) = refl
request_back (plan n hs a) = refl
request_back (deduce n d h) = refl
request_back (instantiate n d t) = refl
request_back (generalize n d v) = refl
request_back (witness n d t a) = refl
request_back (choose n e h d a) = refl
request_back (convert n d a) = refl
request_back (follow n ds a) = refl

abbrev request_code : Coded Request
request_code = code_by (List DeductionLine × SimpleType) (coded× lines_code type_code) (λ r. (request_line r ∷ [], request_type r)) request_from request_back

abbrev goal_code : Coded Goal
goal_code = code_by (ℕ × Term) (coded× coded_ℕ term_code) (λ g. (g.number, g.formula)) (λ t. record { number = t.0; formula = t.1 }) (λ _. refl)

abbrev pub state_code : Coded SessionState
state_code =
    code_by (Option Goal × List Request) (coded× (coded_option goal_code) (coded_list request_code)) (λ s. (s.goal, s.requests))
    (λ t. record { goal = t.0; requests = t.1 }) (λ _. refl)
