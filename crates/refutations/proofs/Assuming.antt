-- A hypothesis more, what lines say then, and where a variable is selected.
use Rattle.std.proofs.Common.{◌≡◌, ℕ, List, [], ◌∷◌, ◌++◌, Bool, true, false, not, Some, refl, sym, ◌∙◌, subst, ap}
use Rattle.std.specs.Prelude.{Contains, slice_get}
use Rattle.std.proofs.lemmas.List.{append-nil, map-append}
use Rattle.std.proofs.lemmas.List.Elements.{All-cons}
use Rattle.hol_terms.specs.Terms.{Term}
use Rattle.hol_terms.specs.FreeVariables.{IsFree}
use Rattle.expansion_tree.specs.Standing.{Selection}
use Rattle.dependency.proofs.Elements.{Contains-first, where_contained}
use Rattle.dependency.specs.Nesting.{AreSelections}
use Rattle.nd_rules.specs.Lines.{DeductionLine}
use Rattle.nd_steps.specs.Deductions.{IsDeduction, Assumes, Proves, AreAssumptions, Grows}
use Rattle.nd_steps.proofs.Growing.{assumptions_stay, assumes_one, free_in_none_stays, assumes_proves}
use Rattle.refutations.specs.Opens.{said, OpenNode, at_node}
use Rattle.refutations.specs.Cases.{leaves_of, IsUnassumed, IsUnsaid}
use Rattle.refutations.proofs.Saying.{proves_says, says_one}
use Rattle.refutations.proofs.Descending.{free_in_said}

-- nothing was added
pub not_grown : (lines : List DeductionLine) → Grows lines lines
not_grown lines = ([], sym (append-nil lines))

pub not_twice : (p : Bool) → not (not p) ≡ p
not_twice true = refl
not_twice false = refl

pub item_of : (x y : Bool × Term) → Some x ≡ Some y → x ≡ y
item_of x y e = cc

pub held_with : (held : List (ℕ × ℕ)) (n m : ℕ) → leaves_of (held ++ (n, m) ∷ []) ≡ leaves_of held ++ n ∷ []
held_with held n m = map-append (λ (e : ℕ × ℕ). e.0) held ((n, m) ∷ [])

-- a variable is selected at one node
pub one_node : (all : List Selection) (s v : Selection) → AreSelections all → Contains all s → Contains all v → s.variable ≡ v.variable → s.node ≡ v.node
one_node all s v once there among same =
    let i = where_contained all s there in
    let j = where_contained all v among in
    let place : i.0 ≡ j.0 = once.once i.0 j.0 s v i.1 j.1 same in
    let both : Some s ≡ Some v = sym i.1 ∙ ap (slice_get all) place ∙ j.1 in
    let one : s ≡ v = cc in
    ap (λ (x : Selection). x.node) one

-- the hypotheses with one more
pub more_assumptions : (old new : List DeductionLine) (hyps : List ℕ) (h : ℕ) (a : Term) → Grows old new → AreAssumptions old hyps → Assumes new h a → AreAssumptions new (h ∷ hyps)
more_assumptions old new hyps h a grown assumptions assumed = All-cons (λ n. (formula : Term) × Assumes new n formula) h hyps (a, assumed) (assumptions_stay old new hyps grown assumptions)

pub more_unassumed : (old new : List DeductionLine) (hyps : List ℕ) (h : ℕ) (a : Term) (s : Selection) → Grows old new → AreAssumptions old hyps → Assumes new h a → IsUnassumed old hyps s
    → (IsFree s.variable.0 s.variable.1 a → ⊥) → IsUnassumed new (h ∷ hyps) s
more_unassumed old new hyps h a s grown assumptions assumed none not_free =
    All-cons (λ n. (formula : Term) → Assumes new n formula → IsFree s.variable.0 s.variable.1 formula → ⊥) h hyps
    (λ formula here used. not_free (subst (λ (t : Term). IsFree s.variable.0 s.variable.1 t) (assumes_one new h formula a here assumed) used))
    (free_in_none_stays old new hyps s.variable.0 s.variable.1 grown assumptions none)

-- the new hypothesis proves its formula
pub hypothesis_proves : (lines : List DeductionLine) (hyps : List ℕ) (h : ℕ) (a : Term) → IsDeduction lines → Assumes lines h a → Proves lines h (h ∷ hyps) a
hypothesis_proves lines hyps h a deduction assumed = assumes_proves lines h (h ∷ hyps) a deduction (Contains-first h hyps) assumed

-- what isn't free in the formula of a node isn't in its line
pub unsaid_at : (lines : List DeductionLine) (hyps : List ℕ) (s : Selection) (n : OpenNode) (b : Term) → Proves lines n.line hyps (said n.positive b) → (IsFree s.variable.0 s.variable.1 b → ⊥) → IsUnsaid lines s (at_node n)
unsaid_at lines hyps s n b proves not_free a says used =
    let same : a ≡ said n.positive b = says_one lines n.line a (said n.positive b) says (proves_says lines n.line hyps (said n.positive b) proves) in
    not_free (free_in_said s.variable.0 s.variable.1 n.positive b (subst (λ (t : Term). IsFree s.variable.0 s.variable.1 t) same used))
