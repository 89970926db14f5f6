-- Cases that differ only in their duties.
use Rattle.std.proofs.Common.{◌≡◌, ℕ, List, ◌++◌, length, reverse, map, sym, subst, ap, arith}
use Rattle.std.specs.List.{AllByRecursion}
use Rattle.exp_check.specs.Accepted.{AcceptedProof}
use Rattle.nd_rules.specs.Lines.{DeductionLine}
use Rattle.refutations.specs.declared.nodes.Front.{Front}
use Rattle.refutations.specs.declared.stacks.Cell.{Cell}
use Rattle.refutations.specs.declared.cases.Case.{Case}
use Rattle.refutations.specs.Opens.{Open, open_node}
use Rattle.refutations.specs.Cases.{IsCase}
use Rattle.refutations.specs.Fronts.{terms_of}
use Rattle.refutations.specs.Stacks.{chain_in, AreCells}
use Rattle.refutations.specs.States.{IsSplit, IsState, opens_of}

-- the same lists of what is open and held
pub record IsAlike (case next : Case) : Type 0 where
  pub cells : next.splits.cells.items ≡ case.splits.cells.items
  pub top : next.splits.top ≡ case.splits.top
  pub fronts : next.fronts.entries ≡ case.fronts.entries
  pub held : next.held.entries ≡ case.held.entries

pub alike_opens : (order : List ℕ) (done : ℕ) (case next : Case) → IsAlike case next → opens_of order done next ≡ opens_of order done case
alike_opens order done case next alike = λ i. map open_node (chain_in (reverse (alike.cells i)) (alike.top i)) ++ terms_of order done (alike.fronts i)

pub alike_state : (g : AcceptedProof) (lines : List DeductionLine) (case next : Case) (hyps : List ℕ) (others : List Open) (done : ℕ) → IsAlike case next → IsState g lines case hyps others done → IsState g lines next hyps others done
alike_state g lines case next hyps others done alike state = record {
  stack = record {
    cells = subst (λ (cells : List Cell). AreCells (reverse cells)) (sym alike.cells) state.stack.cells;
    within = let many = ap length alike.cells in omega (arith, alike.top, many, state.stack.within);
  };
  splits = subst (AllByRecursion IsSplit) (λ i. chain_in (reverse (sym alike.cells i)) (sym alike.top i)) state.splits;
  keys = subst (AllByRecursion (λ (entry : ℕ × Front). entry.1.node.place.occurrences ≡ entry.0)) (sym alike.fronts) state.keys;
  is_case =
      let P : List Open → Type 0 = λ opens. IsCase g lines hyps (others ++ opens) next.held.entries done in
      let Q : List (ℕ × ℕ) → Type 0 = λ entries. IsCase g lines hyps (others ++ opens_of g.order done case) entries done in
      subst P (sym (alike_opens g.order done case next alike)) (subst Q (sym alike.held) state.is_case);
}
