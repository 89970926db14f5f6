-- Duties stay where lines grow, and are taken from the last one on.
use Rattle.std.proofs.Common.{◌≡◌, ℕ, List, [], ◌∷◌, ◌++◌, refl, subst}
use Rattle.std.proofs.lemmas.List.Elements.{All-cons, All-from_recursion, recursion_from_All}
use Rattle.hol_terms.specs.Terms.{Term}
use Rattle.nd_rules.specs.Lines.{DeductionLine}
use Rattle.nd_steps.specs.Deductions.{Assumes, AreAssumptions, Grows}
use Rattle.nd_steps.proofs.Growing.{proves_stays, assumes_stays, free_in_none_stays}
use Rattle.nd_steps.proofs.Deriving.{contradicts_stays}
use Rattle.refutations.specs.declared.duties.Duty.{Duty}
use Rattle.refutations.specs.declared.duties.Duty.TheVariants.{Choice, Second}
use Rattle.refutations.specs.Duties.{IsDuty, hyp_of, AreDuties}

pub duty_stays : (old new : List DeductionLine) (hyps : List ℕ) (d : Duty) → Grows old new → AreAssumptions old hyps → IsDuty old hyps d → IsDuty new hyps d
duty_stays old new hyps (Choice positive source hyp name) g held d = record {
  ty = d.ty;
  body = d.body;
  typed = d.typed;
  proved = proves_stays old new source hyps _ g d.proved;
  assumed = assumes_stays old new hyp _ g d.assumed;
  new = d.new;
  free_in_none = free_in_none_stays old new hyps name.now d.ty g held d.free_in_none;
}
duty_stays old new hyps (Second source first hyp) g held d = record {
  formula = d.formula;
  first = d.first;
  second = d.second;
  proved = proves_stays old new source hyps d.formula g d.proved;
  cases = d.cases;
  not_first = contradicts_stays old new hyps first.hyp first.source d.first g d.not_first;
  assumed = assumes_stays old new hyp d.second g d.assumed;
}

pub duty_assumed : (lines : List DeductionLine) (hyps : List ℕ) (d : Duty) → IsDuty lines hyps d → (a : Term) × Assumes lines (hyp_of d) a
duty_assumed lines hyps (Choice positive source hyp name) d = (_, d.assumed)
duty_assumed lines hyps (Second source first hyp) d = (_, d.assumed)

pub one_more_assumed : (lines : List DeductionLine) (hyps : List ℕ) (d : Duty) → AreAssumptions lines hyps → IsDuty lines hyps d → AreAssumptions lines (hyp_of d ∷ hyps)
one_more_assumed lines hyps d held duty = All-cons (λ h. (a : Term) × Assumes lines h a) (hyp_of d) hyps (duty_assumed lines hyps d duty) held

pub duties_stay : (old new : List DeductionLine) (hyps : List ℕ) (ds : List Duty) (more : List ℕ) → Grows old new → AreAssumptions old hyps → AreDuties old hyps ds more → AreDuties new hyps ds more
duties_stay old new hyps [] more g held h = h
duties_stay old new hyps (d ∷ ds) more g held h = (duty_stays old new hyps d g held h.0, duties_stay old new (hyp_of d ∷ hyps) ds more g (one_more_assumed old hyps d held h.0) h.1)

pub duties_on : (lines : List DeductionLine) (hyps : List ℕ) (ds es : List Duty) (mid more : List ℕ) → AreDuties lines hyps ds mid → AreDuties lines mid es more → AreDuties lines hyps (ds ++ es) more
duties_on lines hyps [] es mid more h k = let P : List ℕ → Type 0 = λ hs. AreDuties lines hs es more in subst P h k
duties_on lines hyps (d ∷ ds) es mid more h k = (h.0, duties_on lines (hyp_of d ∷ hyps) ds es mid more h.1 k)

-- the last one
pub duties_last : (lines : List DeductionLine) (hyps : List ℕ) (ds : List Duty) (d : Duty) (more : List ℕ) → AreDuties lines hyps (ds ++ d ∷ []) more → (mid : List ℕ) × AreDuties lines hyps ds mid × IsDuty lines mid d × (more ≡ hyp_of d ∷ mid)
duties_last lines hyps [] d more h = (hyps, refl, h.0, h.1)
duties_last lines hyps (x ∷ ds) d more h = let rest = duties_last lines (hyp_of x ∷ hyps) ds d more h.1 in (rest.0, (h.0, rest.1), rest.2, rest.3)

-- the hypotheses before duties
pub assumed_before : (lines : List DeductionLine) (hyps : List ℕ) (ds : List Duty) (more : List ℕ) → AreDuties lines hyps ds more → AreAssumptions lines more → AreAssumptions lines hyps
assumed_before lines hyps [] more h held = subst (AreAssumptions lines) h held
assumed_before lines hyps (d ∷ ds) more h held =
    All-from_recursion (λ k. (a : Term) × Assumes lines k a) hyps (recursion_from_All (λ k. (a : Term) × Assumes lines k a) (hyp_of d ∷ hyps) (assumed_before lines (hyp_of d ∷ hyps) ds more h.1 held)).1
