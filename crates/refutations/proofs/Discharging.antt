-- Duties that are done from the last one on.
use Rattle.std.proofs.Common.{◌≡◌, ◌≤◌, ℕ, ◌+◌, ◌*◌, List, [], ◌∷◌, ◌++◌, length, length-append, append-nil, refl, sym, ◌∙◌, subst, ap, ap₂, arith}
use Rattle.hol_terms.specs.Terms.{constant, falsehood}
use Rattle.nd_rules.specs.Lines.{DeductionLine}
use Rattle.nd_steps.specs.Deductions.{Proves, AreAssumptions, Grows}
use Rattle.nd_steps.proofs.Growing.{grows_on, assumptions_stay}
use Rattle.refutations.specs.declared.duties.Duty.{Duty}
use Rattle.refutations.specs.Duties.{IsDuty, hyp_of, AreDuties}
use Rattle.refutations.specs.Reaching.{Reaches}
use Rattle.refutations.proofs.Owing.{duties_last, duties_stay, assumed_before}

-- Some duties are left of those that were added to the ones that are kept, and each of the others cost at most four lines: FALSEHOOD is
-- proved from the hypotheses and those of the duties that are left.
pub record Owes (old new : List DeductionLine) (hyps : List ℕ) (kept added duties : List Duty) (line : ℕ) : Type 0 where
  pub left : List Duty
  pub mid : List ℕ
  pub duties_are : duties ≡ kept ++ left
  pub are_duties : AreDuties new hyps left mid
  pub assumptions : AreAssumptions new mid
  pub few : length new + 4 * length left ≤ length old + 4 * length added
  pub grown : Grows old new
  pub proves : Proves new line mid (constant falsehood)

-- whatever the hypotheses are
abbrev pub OwesAlways : List DeductionLine → List DeductionLine → List Duty → ℕ → ℕ → List Duty → ℕ → Type 0
OwesAlways old new duties count line duties' line' =
    (hyps more : List ℕ) (kept added : List Duty) → duties ≡ kept ++ added → count ≡ length kept → AreDuties old hyps added more → AreAssumptions old more → Proves old line more (constant falsehood)
    → Owes old new hyps kept added duties' line'

-- a list that goes on after its front has its last element there
last_behind : (kept left before : List Duty) (d : Duty) → before ++ d ∷ [] ≡ kept ++ left → length kept ≤ length before → (first : List Duty) × (left ≡ first ++ d ∷ []) × (before ≡ kept ++ first)
last_behind [] left before d e most = (before, sym e, refl)
last_behind (k ∷ kept) left [] d e most = absurd (omega (arith, most))
last_behind (k ∷ kept) left (b ∷ before) d e most =
    let head : b ≡ k = cc in
    let tail : before ++ d ∷ [] ≡ kept ++ left = cc in
    let rest = last_behind kept left before d tail (omega (arith, most)) in
    (rest.0, rest.1, ap₂ (λ (x : Duty) xs. x ∷ xs) head rest.2)

-- the last duty, the hypotheses beside its own, and what is left before it
pub record OwesLast (new : List DeductionLine) (hyps : List ℕ) (kept before : List Duty) (d : Duty) (line : ℕ) (left : List Duty) : Type 0 where
  pub first : List Duty
  pub mid : List ℕ
  pub left_is : left ≡ first ++ d ∷ []
  pub before_is : before ≡ kept ++ first
  pub are_duties : AreDuties new hyps first mid
  pub assumptions : AreAssumptions new mid
  pub duty : IsDuty new mid d
  pub proves : Proves new line (hyp_of d ∷ mid) (constant falsehood)

module _ (old new : List DeductionLine) (hyps : List ℕ) (kept added before : List Duty) (d : Duty) (line : ℕ) where
  pub owes_last : (h : Owes old new hyps kept added (before ++ d ∷ []) line) → length kept ≤ length before → OwesLast new hyps kept before d line h.left
  owes_last h most =
      let split = last_behind kept h.left before d h.duties_are most in
      let all : AreDuties new hyps (split.0 ++ d ∷ []) h.mid = subst (λ (ds : List Duty). AreDuties new hyps ds h.mid) split.1 h.are_duties in
      let last = duties_last new hyps split.0 d h.mid all in
      record {
        first = split.0;
        mid = last.0;
        left_is = split.1;
        before_is = split.2;
        are_duties = last.1;
        assumptions = assumed_before new last.0 (d ∷ []) h.mid (last.2, last.3) h.assumptions;
        duty = last.2;
        proves = subst (λ (hs : List ℕ). Proves new line hs (constant falsehood)) last.3 h.proves;
      }

  -- the last duty is done
  pub owes_less : (newer : List DeductionLine) (n : ℕ) → Owes old new hyps kept added (before ++ d ∷ []) line → length kept ≤ length before
      → ((hs : List ℕ) → AreAssumptions new hs → IsDuty new hs d → Proves new line (hyp_of d ∷ hs) (constant falsehood) → Reaches 4 new newer n hs (constant falsehood))
      → Owes old newer hyps kept added before n
  owes_less newer n h most done =
      let last = owes_last h most in
      let reached = done last.mid last.assumptions last.duty last.proves in
      let many : length h.left ≡ length last.first + 1 = ap length last.left_is ∙ length-append last.first (d ∷ []) in
      record {
        left = last.first;
        mid = last.mid;
        duties_are = last.before_is;
        are_duties = duties_stay new newer hyps last.first last.mid reached.grown (assumed_before new hyps last.first last.mid last.are_duties last.assumptions) last.are_duties;
        assumptions = assumptions_stay new newer last.mid reached.grown last.assumptions;
        few = let one = h.few in let two = reached.few in omega (arith, one, two, many);
        grown = grows_on old new newer h.grown reached.grown;
        proves = reached.proves;
      }

-- what kept duties are left with at last
pub owes_none : (old new : List DeductionLine) (hyps : List ℕ) (kept added duties : List Duty) (line : ℕ) → Owes old new hyps kept added duties line → length duties ≤ length kept
    → Reaches (4 * length added) old new line hyps (constant falsehood) × (duties ≡ kept)
owes_none old new hyps kept added duties line h most = go h.left refl
  where
    go : (left : List Duty) → h.left ≡ left → Reaches (4 * length added) old new line hyps (constant falsehood) × (duties ≡ kept)
    go [] e =
        let same : h.mid ≡ hyps = subst (λ (ds : List Duty). AreDuties new hyps ds h.mid) e h.are_duties in
        let none : length h.left ≡ 0 = ap length e in (
          record {
            grown = h.grown;
            few = let few = h.few in omega (arith, few, none);
            proves = subst (λ (hs : List ℕ). Proves new line hs (constant falsehood)) same h.proves;
          },
          h.duties_are ∙ ap (λ ds. kept ++ ds) e ∙ append-nil kept,
        )
    go (d ∷ left) e =
        let many = ap length e in
        let all = ap length h.duties_are ∙ length-append kept h.left in
        absurd (omega (arith, many, all, most))
