-- How cases are closed, one after the other.
use Rattle.std.proofs.Common.{◌≡◌, ◌≤◌, ℕ, ◌+◌, ◌*◌, List, [], ◌∷◌, ◌++◌, length, length-append, append-nil, map, Option, Some, None, refl, sym, ◌∙◌, subst, ap, arith}
use Rattle.std.specs.Prelude.{Result, Ok, Err, IfOk, OnOk, IsSome}
use Rattle.std.specs.List.{AllByRecursion}
use Rattle.hol_terms.specs.Terms.{Term, constant, falsehood}
use Rattle.expansion_tree.specs.Trees.{ExpansionTree, connective_node, node_count, plain_tree}
use Rattle.expansion_tree.specs.declared.trees.Op.{Op}
use Rattle.exp_check.specs.Accepted.{AcceptedProof}
use Rattle.nd_rules.specs.Lines.{DeductionLine, line_of}
use Rattle.nd_steps.specs.Deductions.{Proves, Grows}
use Rattle.nd_steps.proofs.Growing.{grows_on}
use Rattle.refutations.specs.declared.nodes.Node.{Node}
use Rattle.refutations.specs.declared.duties.Duty.{Duty}
use Rattle.refutations.specs.declared.stacks.Stack.{Stack}
use Rattle.refutations.specs.declared.cases.Case.{Case}
use Rattle.refutations.specs.Opens.{Open, open_node, below, all_unwritten}
use Rattle.refutations.specs.Cases.{IsCase}
use Rattle.refutations.specs.Fronts.{terms_of}
use Rattle.refutations.specs.Reaching.{Reaches}
use Rattle.refutations.specs.Stacks.{IsStack, stacked}
use Rattle.refutations.specs.States.{IsSplit, IsState, opens_of, room, HasMore, IsClosed, GoesOn, IsSpreadBy, Spreads}
use Rattle.refutations.proofs.Spreading.{goes_on_then}
use Rattle.refutations.proofs.Descents.{node_and_below}

-- where the duties are done, the budget covers them
pub closed_reaches : (old mid new : List DeductionLine) (kept all : List Duty) (hyps : List ℕ) (budget line n : ℕ) (h : IsClosed old kept mid all hyps budget line) → Grows old mid → Reaches (4 * length h.added) mid new n hyps (constant falsehood) → Reaches budget old new n hyps (constant falsehood)
closed_reaches old mid new kept all hyps budget line n h grown reached = record {
  grown = grows_on old mid new grown reached.grown;
  few = let many = ap length h.all_are ∙ length-append kept h.added in omega (arith, many, h.few, reached.few);
  proves = reached.proves;
}

pub proves_some : (lines : List DeductionLine) (n : ℕ) (hyps : List ℕ) (a : Term) → Proves lines n hyps a → IsSome (line_of lines n)
proves_some lines n hyps a p = subst IsSome (sym p.found) refl

-- nothing was done yet
pub goes_on_here : (g : AcceptedProof) (lines : List DeductionLine) (case : Case) (hyps : List ℕ) (done : ℕ) → IsState g lines case hyps [] done → GoesOn g lines case lines case hyps [] done (room (opens_of g.order done case)) (all_unwritten (opens_of g.order done case))
goes_on_here g lines case hyps done state = record { added = []; all_are = sym (append-nil case.duties.items); more = hyps; are_duties = refl; state = state; few = omega arith; fewer = omega arith }

pub more_here : (case : Case) → HasMore case case
more_here case = record { splits = ([], sym (append-nil case.splits.cells.items)); fronts = ([], sym (append-nil case.fronts.entries)); held = ([], sym (append-nil case.held.entries)) }

-- the top of the stack, taken off
module _ (g : AcceptedProof) (lines : List DeductionLine) (case : Case) (hyps : List ℕ) (done : ℕ) (popped : Stack) (node : Node) (stack : IsStack popped) (top : stacked case.splits ≡ node ∷ stacked popped) where
  abbrev pub without_top : Case
  without_top = record { splits = popped; fronts = case.fronts; held = case.held; duties = case.duties }

  pub top_opens : opens_of g.order done case ≡ open_node node ∷ opens_of g.order done without_top
  top_opens = ap (λ (ns : List Node). map open_node ns ++ terms_of g.order done case.fronts.entries) top

  pub top_state : IsState g lines case hyps [] done → IsState g lines without_top hyps (open_node node ∷ []) done
  top_state state = record {
    stack = stack;
    splits = (subst (AllByRecursion IsSplit) top state.splits).1;
    keys = state.keys;
    is_case = let P : List Open → Type 0 = λ opens. IsCase g lines hyps opens case.held.entries done in subst P top_opens state.is_case;
  }

  pub top_split : IsState g lines case hyps [] done → IsSplit node
  top_split state = (subst (AllByRecursion IsSplit) top state.splits).0

-- a split has nodes below it
pub split_below : (node : Node) → IsSplit node → (k : ℕ) × (below (plain_tree node.tree.now) ≡ k + 1)
split_below node (op, t, u, is, cases) =
    let size : below (plain_tree node.tree.now) ≡ node_count t + node_count u = ap below is in
    (below t + node_count u, omega (arith, size, node_and_below t))

-- a case that went on, and is closed then
pub ok_closed_then : {E : Type 0} (r : Result ℕ E) (g : AcceptedProof) (old mid new : List DeductionLine) (case between next : Case) (x : List Open) (done reached budget : ℕ) (most : ℕ) → OnOk r (Grows mid new)
    → ((hyps : List ℕ) → IsState g old case hyps x done → GoesOn g old case mid between hyps [] reached budget most)
    → IfOk r (λ n. (hs : List ℕ) → IsState g mid between hs [] reached → IsClosed mid between.duties.items new next.duties.items hs (room (opens_of g.order reached between)) n)
    → IfOk r (λ n. (hyps : List ℕ) → IsState g old case hyps x done → IsClosed old case.duties.items new next.duties.items hyps budget n)
ok_closed_then (Ok n) g old mid new case between next x done reached budget most grown first h = λ hyps state.
    let goes = first hyps state in
    goes_on_then g old mid new case between next hyps [] reached reached budget most [] (Some n) goes grown (h goes.more goes.state)
ok_closed_then (Err e) g old mid new case between next x done reached budget most grown first h = tt

-- the second case
pub ok_second_then : {E : Type 0} (r : Result (Option ℕ) E) (g : AcceptedProof) (old mid new : List DeductionLine) (case between next : Case) (x y : Open) (done budget here : ℕ) → OnOk r (Grows mid new) → IfOk r (Spreads g mid between new next y)
    → ((hyps : List ℕ) (most : ℕ) → IsState g old case hyps (x ∷ []) done → here ≡ most + 1 → GoesOn g old case mid between hyps (y ∷ []) done budget most)
    → IfOk r (λ o. (hyps : List ℕ) (most : ℕ) → IsState g old case hyps (x ∷ []) done → here ≡ most + 1 → IsSpreadBy g old case new next hyps [] done budget most o)
ok_second_then (Ok o) g old mid new case between next x y done budget here grown h first = λ hyps most state strict.
    let goes = first hyps most state strict in
    goes_on_then g old mid new case between next hyps [] done done budget most (y ∷ []) o goes grown (h goes.more [] done goes.state)
ok_second_then (Err e) g old mid new case between next x y done budget here grown h first = tt

-- fewer nodes without a line are fewer, and of the case where it began only the duties are told
pub spread_weaker : (g : AcceptedProof) (old new : List DeductionLine) (case other next : Case) (hyps : List ℕ) (others : List Open) (done budget most more : ℕ) (r : Option ℕ) → case.duties.items ≡ other.duties.items → most ≤ more
    → IsSpreadBy g old case new next hyps others done budget most r → IsSpreadBy g old other new next hyps others done budget more r
spread_weaker g old new case other next hyps others done budget most more None same less h = record {
  added = h.added;
  all_are = h.all_are ∙ ap (λ (ds : List Duty). ds ++ h.added) same;
  more = h.more;
  are_duties = h.are_duties;
  state = h.state;
  few = let some = h.few in let many = ap length same in omega (arith, some, many);
  fewer = let some = h.fewer in omega (arith, some, less);
}
spread_weaker g old new case other next hyps others done budget most more (Some n) same less h = let P : List Duty → Type 0 = λ ds. IsClosed old ds new next.duties.items hyps budget n in subst P same h

pub one_op : (op op' : Op) (t u t' u' : ExpansionTree) → connective_node op t u ≡ connective_node op' t' u' → op ≡ op'
one_op op op' t u t' u' e = cc
