-- The forms that spell a justification, a line and a derivation.
use Rattle.std.specs.Prelude.{ℕ, List, [], ◌∷◌, codes, encode_utf8_all}
use Rattle.core_text.specs.CoreForms.{pair_form, triple_form, term_form}
use Rattle.core_text.specs.Forms.{Form, word_form, number_form, list_form, Forms, no_forms, more_forms}
use Rattle.nd_rules.specs.Lines.{Justification, hypothesis, deduction, universal_instance, generalization, existential, choice, conversion, assignments, planned, DeductionLine}

-- numbers, one after the other
abbrev pub number_forms : List ℕ → Forms
number_forms [] = no_forms
number_forms (n ∷ ns) = more_forms (number_form n) (number_forms ns)

-- (W)
abbrev pub bare_form : List ℕ → Form
bare_form w = list_form (more_forms (word_form w) no_forms)

-- (RULEC e h d name)
abbrev pub choice_form : Form → Form → Form → Form → Form
choice_form e h d a = list_form (more_forms (word_form (codes "RULEC")) (more_forms e (more_forms h (more_forms d (more_forms a no_forms)))))

-- (P), (PLANNED), (DEDUCT d h), (UI d term), (UGEN d name), (EGEN d term), (RULEC e h d name), (LAMBDA d), (RULEP d1 d2 ..)
abbrev pub why_form : Justification → Form
why_form hypothesis = bare_form (codes "P")
why_form (deduction d h) = triple_form (word_form (codes "DEDUCT")) (number_form d) (number_form h)
why_form (universal_instance d t) = triple_form (word_form (codes "UI")) (number_form d) (term_form t)
why_form (generalization d a) = triple_form (word_form (codes "UGEN")) (number_form d) (word_form (encode_utf8_all a))
why_form (existential d t) = triple_form (word_form (codes "EGEN")) (number_form d) (term_form t)
why_form (choice e h d a) = choice_form (number_form e) (number_form h) (number_form d) (word_form (encode_utf8_all a))
why_form (conversion d) = pair_form (word_form (codes "LAMBDA")) (number_form d)
why_form (assignments ds) = list_form (more_forms (word_form (codes "RULEP")) (number_forms ds))
why_form planned = bare_form (codes "PLANNED")

-- (f g h i)
abbrev pub quadruple_form : Form → Form → Form → Form → Form
quadruple_form f g h i = list_form (more_forms f (more_forms g (more_forms h (more_forms i no_forms))))

-- (n (h1 h2 ..) formula why)
abbrev pub line_form : DeductionLine → Form
line_form l = quadruple_form (number_form l.number) (list_form (number_forms l.hypotheses)) (term_form l.formula) (why_form l.why)

abbrev pub line_forms : List DeductionLine → Forms
line_forms [] = no_forms
line_forms (l ∷ ls) = more_forms (line_form l) (line_forms ls)

-- (DERIVATION 1 l1 l2 ..)
abbrev pub derivation_form : List DeductionLine → Form
derivation_form lines = list_form (more_forms (word_form (codes "DERIVATION")) (more_forms (number_form 1) (line_forms lines)))
