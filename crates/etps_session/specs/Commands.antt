-- What a session is asked for. After ETPS (Andrews and others 1996).
use Rattle.std.specs.Prelude.{ℕ, List}
use Rattle.hol_terms.specs.Terms.{Term, Variable, plain_term, plain_type}
use Rattle.hol_terms.specs.Typing.{IsFormula}
use Rattle.nd_rules.specs.Lines.{Justification, hypothesis, deduction, universal_instance, generalization, existential, choice, conversion, assignments, planned}
use Rattle.nd_rules.specs.Outlines.{HasTypedTerms}
use Rattle.etps_session.specs.declared.commands.Command.{Command}
use Rattle.etps_session.specs.declared.commands.Command.TheVariants as command

-- a hypothesis (P), a line that is planned under hypotheses, or a line by a rule: from a line and the hypothesis that it discharges
-- (DEDUCT), the instance of a line with a term (UI), a line generalized over a variable (UGEN), a formula whose instance with a term is a
-- line (EGEN), from an existential line, a hypothesis and a line, with a name (RULEC), a formula that is convertible with a line
-- (LAMBDA), or that follows from lines (RULEP). The number of the line comes first.
pub data Request : Type 0 where
  suppose : ℕ → Term → Request
  plan : ℕ → List ℕ → Term → Request
  deduce : ℕ → ℕ → ℕ → Request
  instantiate : ℕ → ℕ → Term → Request
  generalize : ℕ → ℕ → Variable → Request
  witness : ℕ → ℕ → Term → Term → Request
  choose : ℕ → ℕ → ℕ → ℕ → List ℕ → Request
  convert : ℕ → ℕ → Term → Request
  follow : ℕ → List ℕ → Term → Request

-- the request of a command, without its pointers
abbrev pub plain_command : Command → Request
plain_command (command.P n a) = suppose n (plain_term a)
plain_command (command.Plan n hs a) = plan n hs (plain_term a)
plain_command (command.Deduct n d h) = deduce n d h
plain_command (command.Ui n d t) = instantiate n d (plain_term t)
plain_command (command.Ugen n d a s) = generalize n d (a, plain_type s)
plain_command (command.Egen n d t a) = witness n d (plain_term t) (plain_term a)
plain_command (command.Rulec n e h d a) = choose n e h d a
plain_command (command.Lambda n d a) = convert n d (plain_term a)
plain_command (command.Rulep n ds a) = follow n ds (plain_term a)

-- the number of its line
abbrev pub number_of : Request → ℕ
number_of (suppose n a) = n
number_of (plan n hs a) = n
number_of (deduce n d h) = n
number_of (instantiate n d t) = n
number_of (generalize n d v) = n
number_of (witness n d t a) = n
number_of (choose n e h d a) = n
number_of (convert n d a) = n
number_of (follow n ds a) = n

-- what its line is inferred by
abbrev pub why_of : Request → Justification
why_of (suppose n a) = hypothesis
why_of (plan n hs a) = planned
why_of (deduce n d h) = deduction d h
why_of (instantiate n d t) = universal_instance d t
why_of (generalize n d v) = generalization d v.0
why_of (witness n d t a) = existential d t
why_of (choose n e h d a) = choice e h d a
why_of (convert n d a) = conversion d
why_of (follow n ds a) = assignments ds

-- the formula that it has is a formula
abbrev pub HasFormula : Request → Type 0
HasFormula (suppose n a) = IsFormula a
HasFormula (plan n hs a) = IsFormula a
HasFormula (deduce n d h) = Unit {0}
HasFormula (instantiate n d t) = Unit {0}
HasFormula (generalize n d v) = Unit {0}
HasFormula (witness n d t a) = IsFormula a
HasFormula (choose n e h d a) = Unit {0}
HasFormula (convert n d a) = IsFormula a
HasFormula (follow n ds a) = IsFormula a

-- its formula is a formula, and its term has a type
abbrev pub IsTyped : Request → Type 0
IsTyped r = HasFormula r × HasTypedTerms (why_of r)
