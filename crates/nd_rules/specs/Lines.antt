-- Lines of natural deduction. After Andrews 2002.
use Rattle.std.specs.Prelude.{◌≡◌, ℕ, ◌==◌, if◌then◌else◌, List, [], ◌∷◌, ◌++◌, Option, Some, find, map}
use Rattle.hol_terms.specs.Terms.{Term, plain_term}
use Rattle.nd_rules.specs.declared.lines.Why.{Why}
use Rattle.nd_rules.specs.declared.lines.Why.TheVariants as why
use Rattle.nd_rules.specs.declared.lines.Line.{Line}

-- what a line is inferred by, with the numbers of the lines that it cites: a hypothesis of its own (P), the deduction theorem from a line
-- and the hypothesis that it discharges (DEDUCT), an instance of a universal line with a term (UI), a universal line over a variable of
-- a line (UGEN), an existential line whose instance with a term is a line (EGEN), a line that follows from an existential line, from
-- the hypothesis that its instance with a variable holds (RULEC), a convertible line (LAMBDA), lines from which it follows by
-- assignments (RULEP), or nothing yet
pub data Justification : Type 0 where
  hypothesis : Justification
  deduction : ℕ → ℕ → Justification
  universal_instance : ℕ → Term → Justification
  generalization : ℕ → List ℕ → Justification
  existential : ℕ → Term → Justification
  choice : ℕ → ℕ → ℕ → List ℕ → Justification
  conversion : ℕ → Justification
  assignments : List ℕ → Justification
  planned : Justification

-- a line: its number, the numbers of its hypotheses, its formula, and what it is inferred by
pub record DeductionLine : Type 0 where
  pub number : ℕ
  pub hypotheses : List ℕ
  pub formula : Term
  pub why : Justification

-- the justification without its pointers
abbrev pub plain_why : Why → Justification
plain_why why.Hyp = hypothesis
plain_why (why.Deduct source hyp) = deduction source hyp
plain_why (why.Ui source term) = universal_instance source (plain_term term)
plain_why (why.Ugen source name) = generalization source name
plain_why (why.Egen source term) = existential source (plain_term term)
plain_why (why.Rulec some_line hyp source name) = choice some_line hyp source name
plain_why (why.Lambda source) = conversion source
plain_why (why.Rulep sources) = assignments sources
plain_why why.Planned = planned

-- the line without its pointers
abbrev pub plain_line : Line → DeductionLine
plain_line l = record { number = l.number; hypotheses = l.hyps; formula = plain_term l.formula; why = plain_why l.why }

-- the lines cited, in the order in which they are written
abbrev pub cited : Justification → List ℕ
cited hypothesis = []
cited (deduction d h) = d ∷ h ∷ []
cited (universal_instance d t) = d ∷ []
cited (generalization d a) = d ∷ []
cited (existential d t) = d ∷ []
cited (choice e h d a) = e ∷ h ∷ d ∷ []
cited (conversion d) = d ∷ []
cited (assignments ds) = ds
cited planned = []

-- the lines that a line names: those that it cites, and then its hypotheses
abbrev pub named_by : DeductionLine → List ℕ
named_by l = cited l.why ++ l.hypotheses

-- the line of a number
abbrev pub line_of : List DeductionLine → ℕ → Option DeductionLine
line_of lines n = find (λ (l : DeductionLine). l.number == n) lines

-- the line of a number, where l is put at its own
abbrev pub line_with : List DeductionLine → DeductionLine → ℕ → Option DeductionLine
line_with lines l n = if n == l.number then Some l else line_of lines n

-- line n is m, where l is put at its own number
abbrev pub IsLine : List DeductionLine → DeductionLine → ℕ → DeductionLine → Type 0
IsLine lines l n m = line_with lines l n ≡ Some m

-- the numbers of the lines
abbrev pub numbers_of : List DeductionLine → List ℕ
numbers_of lines = map (λ (l : DeductionLine). l.number) lines
