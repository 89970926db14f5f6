-- A deduction with the next line is a deduction.
use Rattle.std.proofs.Common.{◌≡◌, ◌≢◌, ℕ, ◌+◌, ◌<◌, List, [], ◌∷◌, ◌++◌, length, None, refl, sym, ◌∙◌, ap, ap₂, subst, arith, length-append}
use Rattle.std.specs.List.{AllByRecursion}
use Rattle.std.proofs.lemmas.List.Elements.{recursion_from_All, All-from_recursion, All-push, All-contains_itself}
use Rattle.std.specs.List.Sorted.{IsStrictlyIncreasing}
use Rattle.hol_terms.specs.Terms.{Term}
use Rattle.hol_terms.specs.Typing.{IsFormula}
use Rattle.nd_rules.specs.Lines.{Justification, planned, DeductionLine, line_of}
use Rattle.nd_rules.specs.Outlines.{IsOutline, IsWellFormed, HasTypedTerms, with_line}
use Rattle.nd_rules.specs.Rules.{IsJustified}
use Rattle.nd_rules.proofs.Edits.{outline_with}
use Rattle.nd_rules.proofs.Staying.{stays_under_later}
use Rattle.nd_steps.specs.Deductions.{IsDeduction, next_line, IsNextJustified, AddsLine, Derives}
use Rattle.nd_steps.proofs.Numbering.{found_last, numbered_absent, numbered_with, numbered_each, with_line_last}

module _ (lines : List DeductionLine) (d : IsDeduction lines) (l : DeductionLine) (number : l.number ≡ length lines + 1) where
  next : l.number ≡ 1 + length lines
  next = omega (arith, number)

  pub absent : line_of lines l.number ≡ None
  absent = numbered_absent 1 lines l.number d.numbered (omega (arith, number))

  pub put_last : with_line lines l ≡ lines ++ l ∷ []
  put_last = with_line_last 1 lines l d.numbered next

  earlier_stay : (xs : List DeductionLine) → AllByRecursion (λ (m : DeductionLine). m.number < 1 + length lines) xs → AllByRecursion (IsJustified lines) xs → AllByRecursion (IsJustified (lines ++ l ∷ [])) xs
  earlier_stay [] small h = tt
  earlier_stay (x ∷ xs) small h =
      let P : List DeductionLine → Type 0 = λ ms. IsJustified ms x in
      let less : x.number < 1 + length lines = small.0 in
      (subst P put_last (stays_under_later lines x l (omega (arith, next, less)) h.0), earlier_stay xs small.1 h.1)

  pub deduction_with : IsWellFormed l → l.why ≢ planned → IsJustified (lines ++ l ∷ []) l → IsDeduction (lines ++ l ∷ [])
  deduction_with formed finished justified = record {
    numbered = numbered_with 1 lines l d.numbered next;
    outline = subst IsOutline put_last (outline_with lines l d.outline formed absent);
    justified =
        All-push (IsJustified (lines ++ l ∷ [])) lines l
        (All-from_recursion (IsJustified (lines ++ l ∷ [])) lines (earlier_stay lines (numbered_each 1 lines d.numbered) (recursion_from_All (IsJustified lines) lines d.justified)))
        justified;
    finished = All-push (λ (m : DeductionLine). m.why ≢ planned) lines l d.finished finished;
  }

-- what the next line proves
pub added_derives : (old new : List DeductionLine) (n : ℕ) (hyps : List ℕ) (formula : Term) (why : Justification) → IsDeduction old → AddsLine old new n hyps formula why → Derives 1 old new n hyps formula
added_derives old new n hyps formula why d a =
    let l = next_line old hyps formula why in
    let size : length (old ++ l ∷ []) ≡ length old + 1 = length-append old (l ∷ []) in
    let longer : length new ≡ length old + 1 = ap (λ (ls : List DeductionLine). length ls) a.lines ∙ size in
    record {
      grown = (l ∷ [], a.lines);
      longer = longer;
      last = omega (arith, a.number, longer);
      proves = record {
        line = l;
        found = ap (λ (ls : List DeductionLine). line_of ls n) a.lines ∙ found_last 1 old l n d.numbered (sym a.number) (omega (arith, a.number));
        rests = All-contains_itself hyps;
        says = refl;
      };
    }

-- the line that was put in
pub added_line : (old new : List DeductionLine) (n : ℕ) (copy hyps : List ℕ) (formula : Term) (why : Justification) → IsDeduction old → n ≡ length old + 1 → copy ≡ hyps
    → new ≡ with_line old (record { number = n; hypotheses = copy; formula = formula; why = why }) → AddsLine old new n hyps formula why
added_line old new n copy hyps formula why d number same put =
    let l : DeductionLine = record { number = n; hypotheses = copy; formula = formula; why = why } in
    let P : ℕ → List ℕ → List DeductionLine = λ k hs. old ++ record { number = k; hypotheses = hs; formula = formula; why = why } ∷ [] in
    record { number = number; lines = put ∙ put_last old d l number ∙ ap₂ P number same }

pub added_deduction : (old new : List DeductionLine) (n : ℕ) (hyps : List ℕ) (formula : Term) (why : Justification) → IsDeduction old → AddsLine old new n hyps formula why
    → IsFormula formula → IsStrictlyIncreasing hyps → HasTypedTerms why → why ≢ planned → IsNextJustified old hyps formula why → IsDeduction new
added_deduction old new n hyps formula why d a formed rising typed finished justified =
    subst IsDeduction (sym a.lines) (deduction_with old d (next_line old hyps formula why) refl (formed, rising, typed) finished justified)
