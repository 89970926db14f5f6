-- A case of a refutation: what is open in it and which leaves it holds.
use Rattle.std.specs.Prelude.{◌≡◌, ℕ, ◌≤◌, ◌+◌, List, Bool, false, true, Some, All, Contains, map, slice_get}
use Rattle.std.specs.List.{AllByRecursion}
use Rattle.hol_terms.specs.Terms.{Term}
use Rattle.hol_terms.specs.FreeVariables.{IsFree}
use Rattle.expansion_tree.specs.Standing.{Selection}
use Rattle.vertical_paths.specs.Matings.{leaf_at, is_closed}
use Rattle.exp_check.specs.Accepted.{AcceptedProof}
use Rattle.nd_rules.specs.Lines.{DeductionLine}
use Rattle.nd_steps.specs.Deductions.{IsDeduction, Proves, AreAssumptions, IsFreeInNone}
use Rattle.refutations.specs.Opens.{said, Says, Open, at_node, at_term, node_of, occurrence_total, times_inside, HasLine}
use Rattle.refutations.specs.Covering.{IsCovered}

-- a leaf and its line
pub record HoldsLeaf (g : AcceptedProof) (lines : List DeductionLine) (hyps : List ℕ) (entry : ℕ × ℕ) : Type 0 where
  pub positive : Bool
  pub formula : Term
  pub leaf : leaf_at g.fitted.leaf_list entry.0 ≡ Some (positive, formula)
  pub proves : Proves lines entry.1 hyps (said positive formula)

abbrev pub leaves_of : List (ℕ × ℕ) → List ℕ
leaves_of held = map (λ (e : ℕ × ℕ). e.0) held

-- the selected variable is free in none of the hypotheses
abbrev pub IsUnassumed : List DeductionLine → List ℕ → Selection → Type 0
IsUnassumed lines hyps selection = IsFreeInNone lines hyps selection.variable.0 selection.variable.1

-- nor in the formula of one of these lines
abbrev pub IsUnsaid : List DeductionLine → Selection → Open → Type 0
IsUnsaid lines selection o = (a : Term) → Says lines (node_of o).line a → IsFree selection.variable.0 selection.variable.1 a → ⊥

-- neither of these
pub record IsNew (lines : List DeductionLine) (hyps : List ℕ) (opens : List Open) (selection : Selection) : Type 0 where
  pub unassumed : IsUnassumed lines hyps selection
  pub unsaid : AllByRecursion (IsUnsaid lines selection) opens

-- an occurrence stands in the order at this place or after it
abbrev pub HasTurnFrom : List ℕ → ℕ → ℕ → Type 0
HasTurnFrom order done e = (i : ℕ) → slice_get order i ≡ Some e → done ≤ i

-- the number of the first occurrence that is open with it: that of a term, and the first one below a node
abbrev pub first_occurrence : Open → ℕ
first_occurrence (at_node n) = n.place.occurrences + 1
first_occurrence (at_term u n) = n.place.occurrences

-- this occurrence and those below have their turn then
abbrev pub WaitsFrom : List ℕ → ℕ → Open → Type 0
WaitsFrom order done o = (e : ℕ) → first_occurrence o ≤ e → e ≤ (node_of o).place.occurrences + occurrence_total (node_of o).tree → HasTurnFrom order done e

-- A case: what is open has lines, from the hypotheses, and so have the leaves that are held, no two of which are mated. No node stands
-- in two that are open, the variable that is selected at such a node is new, and no occurrence that is open has its turn before the given
-- place of the order. Leaves that are held and cover what is open hold a pair.
pub record IsCase (g : AcceptedProof) (lines : List DeductionLine) (hyps : List ℕ) (opens : List Open) (held : List (ℕ × ℕ)) (done : ℕ) : Type 0 where
  pub deduction : IsDeduction lines
  pub assumptions : AreAssumptions lines hyps
  pub lines_are : AllByRecursion (HasLine g lines hyps) opens
  pub held_are : AllByRecursion (HoldsLeaf g lines hyps) held
  pub unmated : is_closed g.mating (leaves_of held) ≡ false
  pub once : (k : ℕ) → times_inside k opens ≤ 1
  pub fresh : (x : Selection) → Contains g.fitted.selection_list x → 1 ≤ times_inside x.node opens → IsNew lines hyps opens x
  pub waiting : AllByRecursion (WaitsFrom g.order done) opens
  pub spanned : (found : List ℕ) → All (Contains found) (leaves_of held) → AllByRecursion (IsCovered lines found) opens → is_closed g.mating found ≡ true
