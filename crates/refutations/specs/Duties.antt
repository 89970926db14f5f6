-- Hypotheses that are to be discharged where a case is closed.
use Rattle.std.specs.Prelude.{◌≡◌, ℕ, List, [], ◌∷◌, Bool}
use Rattle.hol_terms.specs.Terms.{SimpleType, Term, free, truth_type}
use Rattle.hol_terms.specs.Typing.{Typed}
use Rattle.hol_terms.specs.Indices.{instance_of}
use Rattle.hol_terms.specs.FreeVariables.{IsFree}
use Rattle.hol_terms.specs.Truth.{Follows}
use Rattle.expansion_tree.specs.Standing.{quantified, selecting}
use Rattle.nd_rules.specs.Lines.{DeductionLine}
use Rattle.nd_steps.specs.Deductions.{Assumes, Proves, IsFreeInNone}
use Rattle.nd_steps.specs.Premises.{Contradicts, either}
use Rattle.refutations.specs.declared.duties.Duty.{Duty}
use Rattle.refutations.specs.declared.duties.Duty.TheVariants.{Choice, Second}
use Rattle.refutations.specs.Opens.{said}

-- the hypothesis is that what the source says of a quantified formula holds of a variable, which is new
pub record IsChoice (lines : List DeductionLine) (hyps : List ℕ) (positive : Bool) (source hyp : ℕ) (name : List ℕ) : Type 0 where
  pub ty : SimpleType
  pub body : Term
  pub typed : Typed (ty ∷ []) body truth_type
  pub proved : Proves lines source hyps (said positive (quantified (selecting positive ty) ty body))
  pub assumed : Assumes lines hyp (said positive (instance_of body (free name ty)))
  pub new : IsFree name ty body → ⊥
  pub free_in_none : IsFreeInNone lines hyps name ty

-- the hypothesis is the second of two cases that the source leaves, and the first is contradicted
pub record IsSecondCase (lines : List DeductionLine) (hyps : List ℕ) (source first_hyp first_line hyp : ℕ) : Type 0 where
  pub formula : Term
  pub first : Term
  pub second : Term
  pub proved : Proves lines source hyps formula
  pub cases : Follows (formula ∷ []) (either first second)
  pub not_first : Contradicts lines hyps first_hyp first_line first
  pub assumed : Assumes lines hyp second

abbrev pub IsDuty : List DeductionLine → List ℕ → Duty → Type 0
IsDuty lines hyps (Choice positive source hyp name) = IsChoice lines hyps positive source hyp name.now
IsDuty lines hyps (Second source first hyp) = IsSecondCase lines hyps source first.hyp first.source hyp

abbrev pub hyp_of : Duty → ℕ
hyp_of (Choice positive source hyp name) = hyp
hyp_of (Second source first hyp) = hyp

-- each of the duties is one beside the hypotheses and those of the duties before it; all hypotheses are the last list
abbrev pub AreDuties : List DeductionLine → List ℕ → List Duty → List ℕ → Type 0
AreDuties lines hyps [] more = more ≡ hyps
AreDuties lines hyps (d ∷ ds) more = IsDuty lines hyps d × AreDuties lines (hyp_of d ∷ hyps) ds more
