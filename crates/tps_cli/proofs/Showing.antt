-- Printed lines, and the last line of a derivation.
use Rattle.std.proofs.Common.{◌≡◌, ◌<◌, ◌+◌, ◌∙◌, ◌++◌, ◌∷◌, ℕ, zero, suc, List, [], Some, ap, append_assoc, arith, drop, length, refl, slice_get, sym}
use Rattle.hol_terms.specs.Terms.{Term}
use Rattle.nd_rules.specs.Lines.{DeductionLine}
use Rattle.nd_check.specs.Verifying.{IsConclusion, IsLast}
use Rattle.tps_print.specs.Printed.{printed_line}
use Rattle.tps_cli.specs.Shows.{printed_lines}

-- lines of which there is one have a last one
last_behind : (l : DeductionLine) (ls : List DeductionLine) → (m : DeductionLine) × IsLast (l ∷ ls) m
last_behind l [] = (l, ([], refl))
last_behind l (m ∷ ls) = let last = last_behind m ls in (last.0, (l ∷ last.1.0, ap (λ (rest : List DeductionLine). l ∷ rest) last.1.1))

pub has_conclusion : (lines : List DeductionLine) → 0 < length lines → (formula : Term) × IsConclusion lines formula
has_conclusion [] some = absurd (omega (arith, some))
has_conclusion (l ∷ ls) some = let last = last_behind l ls in (last.0.formula, (last.0, last.1, refl))

-- the lines from one on are that one and those after it
pub printed_at : (lines : List DeductionLine) (i : ℕ) (l : DeductionLine) → slice_get lines i ≡ Some l → printed_lines (drop i lines) ≡ printed_line l ++ 10 ∷ printed_lines (drop (suc i) lines)
printed_at [] i l e = cc
printed_at (m ∷ lines) zero l e = let same : m ≡ l = cc in ap (λ (k : DeductionLine). printed_line k ++ 10 ∷ printed_lines lines) same
printed_at (m ∷ lines) (suc i) l e = printed_at lines i l e

-- one more line is printed
pub printed_more :
    (lines : List DeductionLine) (i : ℕ) (l : DeductionLine) (old text longer new : List ℕ) → slice_get lines i ≡ Some l → text ≡ printed_line l
    → longer ≡ old ++ text → new ≡ longer ++ 10 ∷ [] → old ++ printed_lines (drop i lines) ≡ printed_lines lines
    → new ++ printed_lines (drop (i + 1) lines) ≡ printed_lines lines
printed_more lines i l old text longer new there printed appended pushed before =
    let rest : List ℕ = printed_lines (drop (suc i) lines) in
    let further : i + 1 ≡ suc i = omega arith in
    ap (λ k. new ++ printed_lines (drop k lines)) further ∙ ap (λ o. o ++ rest) (pushed ∙ ap (λ o. o ++ 10 ∷ []) appended) ∙ append_assoc (old ++ text) (10 ∷ []) rest ∙ append_assoc old text (10 ∷ rest)
    ∙ ap (λ t. old ++ (t ++ 10 ∷ rest)) printed ∙ ap (λ o. old ++ o) (sym (printed_at lines i l there)) ∙ before
