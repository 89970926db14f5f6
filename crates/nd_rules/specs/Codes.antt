-- A code of lines, by which a type whose model holds them tells its values apart.
use Rattle.std.specs.Prelude.{ℕ, zero, suc, List, ◌≡◌, refl}
use Rattle.std.specs.Coded.{coded_list}
use mathlib.Core.Path.{ap, ap₂}
use package.base.Stored.{Gv, gnil, gnum, gcons, Coded}
use denote.Struct.Codes.{itself, code_by}
use Rattle.hol_terms.specs.Codes.{name_to, name_from, name_back, term_to, term_from, term_back}
use Rattle.nd_rules.specs.Lines.{Justification, hypothesis, deduction, universal_instance, generalization, existential, choice, conversion, assignments, planned, DeductionLine}

abbrev why_to : Justification → Gv
why_to hypothesis = gnum 0
why_to planned = gnum 1
why_to (deduction d h) = gcons (gnum 0) (gcons (gnum d) (gnum h))
why_to (universal_instance d t) = gcons (gnum 1) (gcons (gnum d) (term_to t))
why_to (generalization d a) = gcons (gnum 2) (gcons (gnum d) (name_to a))
why_to (existential d t) = gcons (gnum 3) (gcons (gnum d) (term_to t))
why_to (choice e h d a) = gcons (gnum 4) (gcons (gcons (gnum e) (gnum h)) (gcons (gnum d) (name_to a)))
why_to (conversion d) = gcons (gnum 5) (gnum d)
why_to (assignments ds) = gcons (gnum 6) (name_to ds)

abbrev number_from : Gv → ℕ
number_from (gnum n) = n
number_from _ = 0

abbrev first_from : Gv → Gv
first_from (gcons a b) = a
first_from _ = gnil

abbrev second_from : Gv → Gv
second_from (gcons a b) = b
second_from _ = gnil

abbrev rule_from : ℕ → Gv → Justification
rule_from zero x = deduction (number_from (first_from x)) (number_from (second_from x))
rule_from (suc zero) x = universal_instance (number_from (first_from x)) (term_from (second_from x))
rule_from (suc (suc zero)) x = generalization (number_from (first_from x)) (name_from (second_from x))
rule_from (suc (suc (suc zero))) x = existential (number_from (first_from x)) (term_from (second_from x))
rule_from (suc (suc (suc (suc zero)))) x =
    choice (number_from (first_from (first_from x))) (number_from (second_from (first_from x))) (number_from (first_from (second_from x))) (name_from (second_from (second_from x)))
rule_from (suc (suc (suc (suc (suc zero))))) x = conversion (number_from x)
rule_from (suc (suc (suc (suc (suc (suc n)))))) x = assignments (name_from x)

abbrev why_from : Gv → Justification
why_from gnil = hypothesis
why_from (gnum zero) = hypothesis
why_from (gnum (suc n)) = planned
why_from (gcons rule x) = rule_from (number_from rule) x

pub why_back : (w : Justification) → why_from (why_to w) ≡ w
why_back hypothesis = refl
why_back planned = refl
why_back (deduction d h) = refl
why_back (universal_instance d t) = ap (universal_instance d) (term_back t)
why_back (generalization d a) = ap (generalization d) (name_back a)
why_back (existential d t) = ap (existential d) (term_back t)
why_back (choice e h d a) = ap (choice e h d) (name_back a)
why_back (conversion d) = refl
why_back (assignments ds) = ap assignments (name_back ds)

abbrev line_to : DeductionLine → Gv
line_to l = gcons (gcons (gnum l.number) (name_to l.hypotheses)) (gcons (term_to l.formula) (why_to l.why))

abbrev line_from : Gv → DeductionLine
line_from x =
    record {
      number = number_from (first_from (first_from x));
      hypotheses = name_from (second_from (first_from x));
      formula = term_from (first_from (second_from x));
      why = why_from (second_from (second_from x));
    }

pub line_back : (l : DeductionLine) → line_from (line_to l) ≡ l
line_back l =
    ap₂ (λ (hs : List ℕ) (r : DeductionLine). record { number = l.number; hypotheses = hs; formula = r.formula; why = r.why }) (name_back l.hypotheses)
    (ap₂ (λ t w. record { number = l.number; hypotheses = l.hypotheses; formula = t; why = w }) (term_back l.formula) (why_back l.why))

abbrev line_code : Coded DeductionLine
line_code = code_by Gv itself line_to line_from line_back

-- of lists of lines
abbrev pub lines_code : Coded (List DeductionLine)
lines_code = coded_list line_code
