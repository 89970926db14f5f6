-- A case as the program keeps it, and how a step leads from one to the next.
use Rattle.std.specs.Prelude.{◌≡◌, ℕ, ◌+◌, ◌*◌, ◌^◌, ◌≤◌, List, ◌∷◌, ◌++◌, length, map, true, Option, Some, None}
use Rattle.std.specs.List.{AllByRecursion}
use Rattle.hol_terms.specs.Terms.{constant, falsehood}
use Rattle.exp_check.specs.Accepted.{AcceptedProof}
use Rattle.nd_rules.specs.Lines.{DeductionLine}
use Rattle.nd_steps.specs.Deductions.{Proves, AreAssumptions}
use Rattle.expansion_tree.specs.declared.trees.Op.{Op}
use Rattle.expansion_tree.specs.Trees.{ExpansionTree, connective_node, plain_tree}
use Rattle.refutations.specs.declared.nodes.Node.{Node}
use Rattle.refutations.specs.declared.nodes.Front.{Front}
use Rattle.refutations.specs.declared.duties.Duty.{Duty}
use Rattle.refutations.specs.declared.cases.Case.{Case}
use Rattle.refutations.specs.Opens.{Open, open_node, gives_cases, all_unwritten}
use Rattle.refutations.specs.Cases.{IsCase}
use Rattle.refutations.specs.Duties.{AreDuties}
use Rattle.refutations.specs.Fronts.{terms_of}
use Rattle.refutations.specs.Stacks.{stacked, IsStack, HasMoreCells}

-- what is open: the nodes on the stack, and the terms whose turn isn't over
abbrev pub opens_of : List ℕ → ℕ → Case → List Open
opens_of order done case = map open_node (stacked case.splits) ++ terms_of order done case.fronts.entries

-- a compound that gives two cases
abbrev pub IsSplit : Node → Type 0
IsSplit n = (op : Op) × (t : ExpansionTree) × (u : ExpansionTree) × (plain_tree n.tree.now ≡ connective_node op t u) × (gives_cases op n.positive ≡ true)

-- with what a case has, others are open
pub record IsState (g : AcceptedProof) (lines : List DeductionLine) (case : Case) (hyps : List ℕ) (others : List Open) (done : ℕ) : Type 0 where
  pub stack : IsStack case.splits
  pub splits : AllByRecursion IsSplit (stacked case.splits)
  pub keys : AllByRecursion (λ (entry : ℕ × Front). entry.1.node.place.occurrences ≡ entry.0) case.fronts.entries
  pub is_case : IsCase g lines hyps (others ++ opens_of g.order done case) case.held.entries done

-- nothing was taken from a case but the tops of its stack
pub record HasMore (old new : Case) : Type 0 where
  pub splits : HasMoreCells old.splits new.splits
  pub fronts : (more : List (ℕ × Front)) × (new.fronts.entries ≡ old.fronts.entries ++ more)
  pub held : (more : List (ℕ × ℕ)) × (new.held.entries ≡ old.held.entries ++ more)

-- a case as it was
pub record IsSame (old new : Case) : Type 0 where
  pub cells : new.splits.cells.items ≡ old.splits.cells.items
  pub top : new.splits.top ≡ old.splits.top
  pub fronts : new.fronts.entries ≡ old.fronts.entries
  pub held : new.held.entries ≡ old.held.entries
  pub duties : new.duties.items ≡ old.duties.items

-- the lines, and those that duties may cost
abbrev pub spent : List DeductionLine → List Duty → ℕ
spent lines duties = length lines + 4 * length duties

-- the most lines that it takes to close a case
abbrev pub room : List Open → ℕ
room opens = 24 * 2 ^ all_unwritten opens

-- FALSEHOOD is proved from the hypotheses and those of further duties, within the budget
pub record IsClosed (old : List DeductionLine) (duties : List Duty) (new : List DeductionLine) (all : List Duty) (hyps : List ℕ) (budget n : ℕ) : Type 0 where
  pub added : List Duty
  pub all_are : all ≡ duties ++ added
  pub more : List ℕ
  pub are_duties : AreDuties new hyps added more
  pub assumptions : AreAssumptions new more
  pub few : spent new all ≤ spent old duties + budget
  pub proves : Proves new n more (constant falsehood)

-- the case goes on, with further duties, and has room within the budget
pub record GoesOn (g : AcceptedProof) (old : List DeductionLine) (case : Case) (new : List DeductionLine) (next : Case) (hyps : List ℕ) (others : List Open) (done budget : ℕ) (most : ℕ) : Type 0 where
  pub added : List Duty
  pub all_are : next.duties.items ≡ case.duties.items ++ added
  pub more : List ℕ
  pub are_duties : AreDuties new hyps added more
  pub state : IsState g new next more others done
  pub few : spent new next.duties.items + room (others ++ opens_of g.order done next) ≤ spent old case.duties.items + budget
  pub fewer : all_unwritten (others ++ opens_of g.order done next) ≤ most

abbrev pub IsSpreadBy : AcceptedProof → List DeductionLine → Case → List DeductionLine → Case → List ℕ → List Open → ℕ → ℕ → ℕ → Option ℕ → Type 0
IsSpreadBy g old case new next hyps others done budget most None = GoesOn g old case new next hyps others done budget most
IsSpreadBy g old case new next hyps others done budget most (Some n) = IsClosed old case.duties.items new next.duties.items hyps budget n

-- where x was open too, what comes of it is open, or the case is closed by a line
abbrev pub IsSpread : AcceptedProof → List DeductionLine → Case → List DeductionLine → Case → List ℕ → Open → List Open → ℕ → Option ℕ → Type 0
IsSpread g old case new next hyps x others done r =
    IsSpreadBy g old case new next hyps others done (room (x ∷ others ++ opens_of g.order done case)) (all_unwritten (x ∷ others ++ opens_of g.order done case)) r

-- x is open in the case, maybe beside others
abbrev pub IsOpenIn : AcceptedProof → List DeductionLine → Case → Open → Type 0
IsOpenIn g lines case x = (hyps : List ℕ) × (others : List Open) × (done : ℕ) × IsState g lines case hyps (x ∷ others) done

-- whatever else is open, x is spread
abbrev pub Spreads : AcceptedProof → List DeductionLine → Case → List DeductionLine → Case → Open → Option ℕ → Type 0
Spreads g old case new next x r = (hyps : List ℕ) (others : List Open) (done : ℕ) → IsState g old case hyps (x ∷ others) done → IsSpread g old case new next hyps x others done r
