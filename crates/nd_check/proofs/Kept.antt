-- What is written is read again.
use Rattle.std.proofs.Common.{◌≡◌, ℕ, ◌^◌, ◌<◌, ◌≤◌, List, [], ◌∷◌, ◌++◌, length, codes, Result, Ok, refl, sym, ◌∙◌, ap, subst, arith, length-append}
use Rattle.std.specs.List.{AllByRecursion}
use Rattle.std.proofs.lemmas.List.Elements.{recursion_from_All}
use Rattle.hol_terms.specs.Terms.{truth_type}
use Rattle.core_text.specs.Forms.{AreWellSpelled, IsWellSpelled, nesting, nesting_of_all}
use Rattle.core_text.specs.Tokens.{depth_of}
use Rattle.core_text.specs.Written.{written}
use Rattle.core_text.specs.declared.faults.TextFault.{TextFault}
use Rattle.core_text.proofs.Depths.{nesting_short, written_depth}
use Rattle.core_text.proofs.Kept.{keyword, term_spelled_well, written_text}
use Rattle.core_text.proofs.NameLaws.{is_word-encoded}
use Rattle.core_text.proofs.Table.{somewhere}
use Rattle.core_text.proofs.Texts.{one_form}
use Rattle.nd_rules.specs.Lines.{Justification, hypothesis, deduction, universal_instance, generalization, existential, choice, conversion, assignments, planned, DeductionLine, cited}
use Rattle.nd_rules.specs.Outlines.{HasTypedTerms, IsOutline, IsWellFormed}
use Rattle.nd_check.specs.Forms.{derivation_form, line_form, line_forms, number_forms, why_form}
use Rattle.nd_check.specs.Texts.{AreNumerals, IsDerivationText, IsWrittenDerivation, LineHasNames, LineHasNumerals, LinesHaveNames, LinesHaveNumerals, WhyHasNames}
use Rattle.nd_check.proofs.Table.{derivation_spelled}

numbers_spelled_well : (ns : List ℕ) → AreNumerals ns → AreWellSpelled (number_forms ns)
numbers_spelled_well [] h = tt
numbers_spelled_well (n ∷ ns) h = (h.0, numbers_spelled_well ns h.1)

why_spelled_well : (k : ℕ) (w : Justification) → k ≤ 2 ^ 64 → WhyHasNames w → AreNumerals (cited w) → HasTypedTerms w → nesting (why_form w) ≤ k → IsWellSpelled (why_form w)
why_spelled_well k hypothesis most names numbers typed low = (keyword 80 [] refl refl, tt)
why_spelled_well k (deduction d h) most names numbers typed low = (keyword 68 (codes "EDUCT") refl refl, (numbers.0, (numbers.1.0, tt)))
why_spelled_well k (universal_instance d t) most names numbers typed low = (keyword 85 (codes "I") refl refl, (numbers.0, (term_spelled_well k [] t typed.0 most names typed.1 (omega arith), tt)))
why_spelled_well k (generalization d a) most names numbers typed low = (keyword 85 (codes "GEN") refl refl, (numbers.0, (is_word-encoded a names.0, tt)))
why_spelled_well k (existential d t) most names numbers typed low = (keyword 69 (codes "GEN") refl refl, (numbers.0, (term_spelled_well k [] t typed.0 most names typed.1 (omega arith), tt)))
why_spelled_well k (choice e h d a) most names numbers typed low = (keyword 82 (codes "ULEC") refl refl, (numbers.0, (numbers.1.0, (numbers.1.1.0, (is_word-encoded a names.0, tt)))))
why_spelled_well k (conversion d) most names numbers typed low = (keyword 76 (codes "AMBDA") refl refl, (numbers.0, tt))
why_spelled_well k (assignments ds) most names numbers typed low = (keyword 82 (codes "ULEP") refl refl, numbers_spelled_well ds numbers)
why_spelled_well k planned most names numbers typed low = (keyword 80 (codes "LANNED") refl refl, tt)

line_spelled_well : (k : ℕ) (l : DeductionLine) → k ≤ 2 ^ 64 → LineHasNames l → LineHasNumerals l → IsWellFormed l → nesting (line_form l) ≤ k → IsWellSpelled (line_form l)
line_spelled_well k l most names numbers formed low = (
  numbers.0,
  (numbers_spelled_well l.hypotheses numbers.1, (term_spelled_well k [] l.formula truth_type most names.0 formed.0 (omega arith), (why_spelled_well k l.why most names.1 numbers.2 formed.2 (omega arith), tt))),
)

lines_spelled_well : (k : ℕ) (ls : List DeductionLine) → k ≤ 2 ^ 64 → LinesHaveNames ls → LinesHaveNumerals ls → AllByRecursion IsWellFormed ls → nesting_of_all (line_forms ls) ≤ k → AreWellSpelled (line_forms ls)
lines_spelled_well k [] most names numbers formed low = tt
lines_spelled_well k (l ∷ ls) most names numbers formed low = (line_spelled_well k l most names.0 numbers.0 formed.0 (omega arith), lines_spelled_well k ls most names.1 numbers.1 formed.1 (omega arith))

-- the form of lines is well spelled where its nesting, and so each index, has 64 bits
derivation_spelled_well : (k : ℕ) (ls : List DeductionLine) → k ≤ 2 ^ 64 → LinesHaveNames ls → LinesHaveNumerals ls → IsOutline ls → nesting (derivation_form ls) ≤ k → IsWellSpelled (derivation_form ls)
derivation_spelled_well k ls most names numbers outline low =
    let lines = lines_spelled_well k ls most names numbers (recursion_from_All IsWellFormed ls outline.formed) (omega arith) in
    (keyword 68 (codes "ERIVATION") refl refl, (omega arith, lines))

pub written_is_text : (ls : List DeductionLine) → 0 < length ls → LinesHaveNames ls → LinesHaveNumerals ls → IsOutline ls → nesting (derivation_form ls) ≤ 5000 → IsDerivationText (written (derivation_form ls) ++ 10 ∷ []) ls
written_is_text ls some names numbers outline low =
    let words = derivation_spelled_well 5000 ls (omega arith) names numbers outline low in
    record { text = (written_text (derivation_form ls) words low).1; some = some; names = names; outline = outline }

pub one_outline : (bytes : List ℕ) (ls ms : List DeductionLine) → IsDerivationText bytes ls → IsDerivationText bytes ms → ls ≡ ms
one_outline bytes ls ms h i =
    let place = somewhere (derivation_form ls) in
    let one = derivation_spelled ls place.0 (record { spelled = place.1; some = h.some; names = h.names; outline = h.outline }) in
    let two = derivation_spelled ms place.0 (record { spelled = place.1 ∙ one_form bytes (derivation_form ls) (derivation_form ms) h.text i.text; some = i.some; names = i.names; outline = i.outline }) in
    let both : ◌≡◌ {A = Result (List DeductionLine) TextFault} (Ok ls) (Ok ms) = sym one ∙ two in cc

-- what is written for lines is a text of them alone
pub written_is_read : (bytes : List ℕ) (ls : List DeductionLine) → IsWrittenDerivation bytes ls → length bytes ≤ 1048576 → depth_of bytes ≤ 5000
    → IsDerivationText bytes ls × ((ms : List DeductionLine) → IsDerivationText bytes ms → ms ≡ ls)
written_is_read bytes ls h short shallow =
    let f = derivation_form ls in
    let within : nesting f ≤ 1048576 = omega (arith, short, nesting_short f, length-append (written f) (10 ∷ []), ap length h.same) in
    let words = derivation_spelled_well 1048576 ls (omega arith) h.names h.numbers h.outline within in
    let low : nesting f ≤ 5000 = omega (arith, shallow, (written_depth f words).1, ap depth_of h.same) in
    let text = subst (λ (l : List ℕ). IsDerivationText l ls) (sym h.same) (written_is_text ls h.some h.names h.numbers h.outline low) in
    (text, λ ms other. one_outline bytes ms ls other text)
