-- A refusal excludes that the line is justified.
use Rattle.std.proofs.Common.{◌≡◌, ℕ, List, [], ◌∷◌, ◌++◌, ◌<◌, ◌+◌, suc, length, refl, subst, arith, length-append}
use Rattle.std.specs.Prelude.{◌≢◌, All, Result, Ok, Err, IfErr}
use Rattle.std.proofs.Math.Seq.{get_or-append_seam}
use Rattle.std.proofs.lemmas.List.Elements.{All-get_or}
use Rattle.hol_terms.specs.Terms.{Term, plain_term, truth_type}
use Rattle.hol_conv.specs.Conversion.{Conv}
use Rattle.hol_conv.proofs.Model.{unique}
use Rattle.hol_conv.proofs.Steps.{conv-trans}
use Rattle.hol_conv.proofs.Uniqueness.{conv-sym}
use Rattle.nd_rules.specs.Lines.{Justification, hypothesis, deduction, universal_instance, generalization, existential, choice, conversion, assignments, planned, DeductionLine}
use Rattle.nd_rules.specs.Rules.{IsFirstFree, IsFreeIn, HasNewVariable, HasNormals, IsConverted, IsFalsified, IsConsequence, IsFirstRefusal, IsJustified}
use Rattle.nd_rules.specs.declared.faults.RuleFault.{RuleFault}
use Rattle.nd_rules.specs.declared.faults.RuleFault.TheVariants.{Memory, NoLine, NotEarlier, Shape, Hyps, VariableFree, NotFollows, NotConvertible, WrongType}

all_at : (P : ℕ → Type 0) (before after : List ℕ) (k : ℕ) → All P (before ++ k ∷ after) → P k
all_at P before after k h =
    let sum : length (before ++ k ∷ after) ≡ length before + suc (length after) = length-append before (k ∷ after) in
    let within : length before < length (before ++ k ∷ after) = omega (arith, sum) in
    subst P (get_or-append_seam before k after 0) (All-get_or P (before ++ k ∷ after) (length before) 0 within h)

pub free_excluded : (lines : List DeductionLine) (l : DeductionLine) (k : ℕ) → IsFirstFree lines l k → HasNewVariable lines l → ⊥
free_excluded lines l k first new =
    let P : ℕ → Type 0 = λ n. IsFreeIn lines l n → ⊥ in
    all_at P first.before first.after k (subst (All P) first.split new) first.free

normals_excluded : (lines : List DeductionLine) (l : DeductionLine) (w : Justification) (s t : Term) → HasNormals lines l w s t → IsConverted lines l w → ⊥
normals_excluded lines l hypothesis s t h c = absurd h
normals_excluded lines l (deduction d e) s t h c = absurd h
normals_excluded lines l (universal_instance d u) s t h c = absurd h
normals_excluded lines l (generalization d a) s t h c = absurd h
normals_excluded lines l (existential d u) s t h c = absurd h
normals_excluded lines l (choice e k d a) s t h c = absurd h
normals_excluded lines l (conversion d) s t h c =
    let same : c.0 ≡ h.0 = cc (h.1, c.1) in
    let P : DeductionLine → Type 0 = λ m. Conv [] truth_type m.formula l.formula in
    let converted = subst P same c.2 in
    let toward = conv-trans [] truth_type s h.0.formula l.formula h.2.1 converted in
    h.4 (unique [] truth_type s t h.2.0 h.3.0 (conv-trans [] truth_type s l.formula t toward (conv-sym [] truth_type t l.formula h.3.1)))
normals_excluded lines l (assignments ds) s t h c = absurd h
normals_excluded lines l planned s t h c = absurd h

falsified_excluded : (lines : List DeductionLine) (l : DeductionLine) (w : Justification) (atoms : List Term) → IsFalsified lines l w atoms → IsConsequence lines l w → ⊥
falsified_excluded lines l hypothesis atoms h c = absurd h
falsified_excluded lines l (deduction d e) atoms h c = absurd h
falsified_excluded lines l (universal_instance d u) atoms h c = absurd h
falsified_excluded lines l (generalization d a) atoms h c = absurd h
falsified_excluded lines l (existential d u) atoms h c = absurd h
falsified_excluded lines l (choice e k d a) atoms h c = absurd h
falsified_excluded lines l (conversion d) atoms h c = absurd h
falsified_excluded lines l (assignments ds) atoms h c = h.conclusion_fails (c atoms h.given_hold)
falsified_excluded lines l planned atoms h c = absurd h

pub refusal_excludes : (lines : List DeductionLine) (l : DeductionLine) (e : RuleFault) → IsFirstRefusal lines l e → e ≢ Memory → IsJustified lines l → ⊥
refusal_excludes lines l Memory h other j = other refl
refusal_excludes lines l (NoLine k) h other j = let there = j.there in cc
refusal_excludes lines l (NotEarlier k) h other j = let late = h.1 in let earlier = j.earlier in cc
refusal_excludes lines l Shape h other j = h.1 j.shape
refusal_excludes lines l Hyps h other j = h.2 j.hypotheses
refusal_excludes lines l (VariableFree k) h other j = free_excluded lines l k h.1 j.variable
refusal_excludes lines l (NotFollows atoms) h other j = falsified_excluded lines l l.why atoms h.2 j.consequence
refusal_excludes lines l (NotConvertible s t) h other j = normals_excluded lines l l.why (plain_term s) (plain_term t) h.2 j.converted
refusal_excludes lines l WrongType h other j = h.2 j.typed

-- so of an answer
pub answer_excludes : (lines : List DeductionLine) (l : DeductionLine) (r : Result Unit RuleFault) → IfErr r (IsFirstRefusal lines l) → IfErr r (λ e. e ≢ Memory → IsJustified lines l → ⊥)
answer_excludes lines l (Ok u) h = _
answer_excludes lines l (Err e) h = refusal_excludes lines l e h
