use Rattle.std.proofs.Common.{◌≡◌, ◌∷◌, ◌++◌, ◌+◌, ℕ, [], true, not, refl, sym, ◌∙◌, ap, ap₂, subst, arith, List}
use Rattle.std.specs.Prelude.{Option, Some, None}
use Rattle.hol_terms.specs.Terms.{Term}
use Rattle.expansion_tree.specs.declared.trees.Op.{Op}
use Rattle.expansion_tree.specs.Trees.{ExpansionTree, connective_node, plain_tree}
use Rattle.expansion_tree.specs.Standing.{compound_of}
use Rattle.nd_steps.proofs.Growing.{grows_on, proves_stays}
use Rattle.refutations.specs.declared.cases.Case.{Case}
use Rattle.refutations.specs.declared.duties.Duty.{Duty}
use Rattle.refutations.specs.declared.duties.Duty.TheVariants.{Second}
use Rattle.refutations.specs.Opens.{Open, said, gives_cases, open_node, all_unwritten}
use Rattle.refutations.specs.States.{IsState, IsSpread, IsSpreadBy, opens_of, room}
use Rattle.refutations.proofs.Assuming.{not_grown}
use Rattle.refutations.proofs.Saying.{proves_says}
use Rattle.refutations.proofs.Spreading.{goes_on_then, has_more_then, on_ok_grows}
use Rattle.refutations.proofs.Descents.{compound_said}
use Rattle.refutations.proofs.Splitting.{first_state, first_smaller, second_on, first_closes}
use Rattle.refutations.proofs.Ending.{closed_reaches, proves_some, goes_on_here, more_here, top_opens, top_state, top_split, split_below, ok_closed_then, ok_second_then, spread_weaker, one_op}
use Rattle.refutations.proofs.refute.+close.Goals as goal

-- closing a case

pub close-reach-requires : goal.close-reach-requires
close-reach-requires t c = (omega (arith, c.decreases), (c.requires.read, c.requires.state))

pub close-discharge_to-requires : goal.close-discharge_to-requires
close-discharge_to-requires t c =
    let closed = c.in_ok-line.ensures.closed c.requires.state.0 c.requires.state.1 in
    (c.requires.state.0, closed.more, c.args.case.now.duties.items, closed.added, c.in_ok-line.ensures.deduction, closed.all_are, c.mark-mark.ensures.duties, closed.are_duties, closed.assumptions, closed.proves)

pub close-returns-clause-reaches : goal.close-returns-clause-reaches
close-returns-clause-reaches t c hyps state =
    let closed = c.in_ok-line.ensures.closed hyps state in
    let reached = (c.in_ok-line-2.ensures.reaches hyps closed.more c.args.case.now.duties.items closed.added closed.all_are c.mark-mark.ensures.duties closed.are_duties closed.assumptions closed.proves).0 in
    closed_reaches c.args.deduction.now c.reach.new.deduction c.discharge_to.new.deduction c.args.case.now.duties.items c.reach.new.case.duties.items hyps (room (open_node c.args.node ∷ opens_of c.args.reading.now.accepted.now.order c.args.done c.args.case.now)) c.in_ok-line.line c.in_ok-line-2.line closed
    c.in_ok-line.ensures.grown reached

pub close-returns-clause-same : goal.close-returns-clause-same
close-returns-clause-same t c =
    let closed = c.in_ok-line.ensures.closed c.requires.state.0 c.requires.state.1 in
    let done = (c.in_ok-line-2.ensures.reaches c.requires.state.0 closed.more c.args.case.now.duties.items closed.added closed.all_are c.mark-mark.ensures.duties closed.are_duties closed.assumptions closed.proves).1 in
    let marked = c.mark-mark.ensures in
    let more = c.in_ok-line.ensures.more in
    c.take_back.ensures c.args.case.now (record { splits = more.splits; fronts = more.fronts; held = more.held }) done marked.cells marked.top marked.fronts marked.held

-- reaching a closed case

pub reach-go_on-requires : goal.reach-go_on-requires
reach-go_on-requires t c =
    let P : Option ℕ → Type 0 = λ o. IsSpread c.args.reading.now.accepted.now c.args.deduction.now c.args.case.now c.spread.new.deduction c.spread.new.case c.requires.state.0 (open_node c.args.node) [] c.args.done o in
    let goes = subst P c.in-None.is (c.in_ok-line.ensures.spread c.requires.state.0 [] c.args.done c.requires.state.1) in
    (omega (arith, c.decreases, goes.fewer), (c.requires.read, (goes.more, goes.state)))

pub reach-returns-in-Some-clause-closed : goal.reach-returns-in-Some-clause-closed
reach-returns-in-Some-clause-closed t c hyps state =
    let P : Option ℕ → Type 0 = λ o. IsSpread c.args.reading.now.accepted.now c.args.deduction.now c.args.case.now c.spread.new.deduction c.spread.new.case hyps (open_node c.args.node) [] c.args.done o in
    subst P c.in-Some.is (c.in_ok-line.ensures.spread hyps [] c.args.done state)

pub reach-returns-in-None-clause-closed : goal.reach-returns-in-None-clause-closed
reach-returns-in-None-clause-closed t c =
    let g = c.args.reading.now.accepted.now in
    let here : List Open = open_node c.args.node ∷ opens_of g.order c.args.done c.args.case.now in
    let P : List ℕ → Option ℕ → Type 0 = λ hyps o. IsSpread g c.args.deduction.now c.args.case.now c.spread.new.deduction c.spread.new.case hyps (open_node c.args.node) [] c.args.done o in
    ok_closed_then c.go_on.result g c.args.deduction.now c.spread.new.deduction c.go_on.new.deduction c.args.case.now c.spread.new.case c.go_on.new.case (open_node c.args.node ∷ []) c.args.done c.args.done (room here) (all_unwritten here) c.go_on.ensures.grown
    (λ hyps state. subst (P hyps) c.in-None.is (c.in_ok-line.ensures.spread hyps [] c.args.done state)) c.go_on.ensures.closed

-- going on

pub go_on-loop-stepped-init : goal.go_on-loop-stepped-init
go_on-loop-stepped-init t c = record {
  goes_on = λ hyps state. goes_on_here c.args.reading.now.accepted.now c.args.deduction.now c.args.case.now hyps c.args.done state;
  grown = not_grown c.args.deduction.now;
  more = more_here c.args.case.now;
  deduction = c.requires.state.1.is_case.deduction;
}

pub go_on-step-requires : goal.go_on-step-requires
go_on-step-requires t c =
    let goes = c.loop-stepped.invariant.goes_on c.requires.state.0 c.requires.state.1 in
    (omega (arith, c.decreases, goes.fewer), (c.requires.read, (goes.more, goes.state)))

pub go_on-returns-in-Some-clause-closed : goal.go_on-returns-in-Some-clause-closed
go_on-returns-in-Some-clause-closed t c hyps state =
    let g = c.args.reading.now.accepted.now in
    let here : List Open = opens_of g.order c.args.done c.args.case.now in
    let goes = c.loop-stepped.invariant.goes_on hyps state in
    let P : Option ℕ → Type 0 = λ o. IsSpreadBy g c.loop-stepped.deduction c.loop-stepped.case c.step.new.deduction c.step.new.case goes.more [] c.in_ok-stepped.stepped.done (room (opens_of g.order c.loop-stepped.done c.loop-stepped.case)) (all_unwritten (opens_of g.order c.loop-stepped.done c.loop-stepped.case)) o in
    goes_on_then g c.args.deduction.now c.loop-stepped.deduction c.step.new.deduction c.args.case.now c.loop-stepped.case c.step.new.case hyps [] c.loop-stepped.done c.in_ok-stepped.stepped.done (room here) (all_unwritten here) [] (Some c.in-Some.line) goes c.in_ok-stepped.ensures.grown
    (subst P c.in-Some.is (c.in_ok-stepped.ensures.spread goes.more goes.state))

pub go_on-returns-in-Some-clause-grown : goal.go_on-returns-in-Some-clause-grown
go_on-returns-in-Some-clause-grown t c = grows_on c.args.deduction.now c.loop-stepped.deduction c.step.new.deduction c.loop-stepped.invariant.grown c.in_ok-stepped.ensures.grown

pub go_on-returns-in-Some-clause-more : goal.go_on-returns-in-Some-clause-more
go_on-returns-in-Some-clause-more t c = has_more_then c.args.case.now c.loop-stepped.case c.step.new.case c.loop-stepped.invariant.more c.in_ok-stepped.ensures.more

pub go_on-loop-stepped-smaller : goal.go_on-loop-stepped-smaller
go_on-loop-stepped-smaller t c = c.in_ok-stepped.ensures.falls c.in_default.is

pub go_on-loop-stepped-preserved : goal.go_on-loop-stepped-preserved
go_on-loop-stepped-preserved t c =
    let g = c.args.reading.now.accepted.now in
    let here : List Open = opens_of g.order c.args.done c.args.case.now in
    let P : List ℕ → Option ℕ → Type 0 = λ hs o. IsSpreadBy g c.loop-stepped.deduction c.loop-stepped.case c.step.new.deduction c.step.new.case hs [] c.in_ok-stepped.stepped.done (room (opens_of g.order c.loop-stepped.done c.loop-stepped.case)) (all_unwritten (opens_of g.order c.loop-stepped.done c.loop-stepped.case)) o in
    record {
      goes_on = λ hyps state.
          let goes = c.loop-stepped.invariant.goes_on hyps state in
          goes_on_then g c.args.deduction.now c.loop-stepped.deduction c.step.new.deduction c.args.case.now c.loop-stepped.case c.step.new.case hyps [] c.loop-stepped.done c.in_ok-stepped.stepped.done (room here) (all_unwritten here) [] None goes c.in_ok-stepped.ensures.grown
          (subst (P goes.more) c.in_default.is (c.in_ok-stepped.ensures.spread goes.more goes.state));
      grown = grows_on c.args.deduction.now c.loop-stepped.deduction c.step.new.deduction c.loop-stepped.invariant.grown c.in_ok-stepped.ensures.grown;
      more = has_more_then c.args.case.now c.loop-stepped.case c.step.new.case c.loop-stepped.invariant.more c.in_ok-stepped.ensures.more;
      deduction = c.in_ok-stepped.ensures.deduction;
    }

-- one step

pub step-split-requires : goal.step-split-requires
step-split-requires t c =
    let g = c.args.reading.now.accepted.now in
    let state = c.requires.state.1 in
    let top = c.in-Some.ensures.some in
    let popped = c.in-Some.ensures.stack in
    let opens = top_opens g c.args.deduction.now c.args.case.now c.requires.state.0 c.args.done c.pop.new.self c.in-Some.node popped top in
    (omega (arith, c.decreases, ap all_unwritten opens), (c.requires.read, (top_split g c.args.deduction.now c.args.case.now c.requires.state.0 c.args.done c.pop.new.self c.in-Some.node popped top state, (c.requires.state.0, top_state g c.args.deduction.now c.args.case.now c.requires.state.0 c.args.done c.pop.new.self c.in-Some.node popped top state))))

pub step-returns-in_ok-closed-in-Some-clause-spread : goal.step-returns-in_ok-closed-in-Some-clause-spread
step-returns-in_ok-closed-in-Some-clause-spread t c hyps state =
    let g = c.args.reading.now.accepted.now in
    let top = c.in-Some.ensures.some in
    let popped = c.in-Some.ensures.stack in
    let opens = top_opens g c.args.deduction.now c.args.case.now hyps c.args.done c.pop.new.self c.in-Some.node popped top in
    let split = top_split g c.args.deduction.now c.args.case.now hyps c.args.done c.pop.new.self c.in-Some.node popped top state in
    let some = split_below c.in-Some.node split in
    let below_top : Case = record { splits = c.pop.new.self; fronts = c.args.case.now.fronts; held = c.args.case.now.held; duties = c.args.case.now.duties } in
    let rest : List Open = opens_of g.order c.args.done below_top in
    let most : ℕ = some.0 + all_unwritten rest in
    let spread = c.in_ok-closed-in-Some.ensures.spread hyps most (top_state g c.args.deduction.now c.args.case.now hyps c.args.done c.pop.new.self c.in-Some.node popped top state) (omega (arith, some.1)) in
    let Q : List Open → Type 0 = λ os. IsSpreadBy g c.args.deduction.now c.args.case.now c.split.new.deduction c.split.new.case hyps [] c.args.done (room os) (all_unwritten os) c.in_ok-closed-in-Some.closed in
    subst Q (sym opens) (spread_weaker g c.args.deduction.now c.split.new.deduction below_top c.args.case.now c.split.new.case hyps [] c.args.done (room (open_node c.in-Some.node ∷ rest)) most (all_unwritten (open_node c.in-Some.node ∷ rest)) c.in_ok-closed-in-Some.closed refl (omega (arith, some.1)) spread)

pub step-returns-in_ok-closed-in-Some-clause-falls : goal.step-returns-in_ok-closed-in-Some-clause-falls
step-returns-in_ok-closed-in-Some-clause-falls t c none =
    let g = c.args.reading.now.accepted.now in
    let hyps = c.requires.state.0 in
    let state = c.requires.state.1 in
    let top = c.in-Some.ensures.some in
    let popped = c.in-Some.ensures.stack in
    let opens = top_opens g c.args.deduction.now c.args.case.now hyps c.args.done c.pop.new.self c.in-Some.node popped top in
    let split = top_split g c.args.deduction.now c.args.case.now hyps c.args.done c.pop.new.self c.in-Some.node popped top state in
    let some = split_below c.in-Some.node split in
    let below_top : Case = record { splits = c.pop.new.self; fronts = c.args.case.now.fronts; held = c.args.case.now.held; duties = c.args.case.now.duties } in
    let rest : List Open = opens_of g.order c.args.done below_top in
    let most : ℕ = some.0 + all_unwritten rest in
    let P : Option ℕ → Type 0 = λ o. IsSpreadBy g c.args.deduction.now below_top c.split.new.deduction c.split.new.case hyps [] c.args.done (room (open_node c.in-Some.node ∷ rest)) most o in
    let goes = subst P none (c.in_ok-closed-in-Some.ensures.spread hyps most (top_state g c.args.deduction.now c.args.case.now hyps c.args.done c.pop.new.self c.in-Some.node popped top state) (omega (arith, some.1))) in
    let size = ap all_unwritten opens in
    omega (arith, some.1, size, goes.fewer)

pub step-returns-in_ok-closed-in-None-clause-spread : goal.step-returns-in_ok-closed-in-None-clause-spread
step-returns-in_ok-closed-in-None-clause-spread t c hyps state =
    let g = c.args.reading.now.accepted.now in
    let popped : Case = record { splits = c.pop.new.self; fronts = c.args.case.now.fronts; held = c.args.case.now.held; duties = c.args.case.now.duties } in
    let same : popped ≡ c.args.case.now = λ i. record { splits = c.in-None.ensures.unchanged i; fronts = c.args.case.now.fronts; held = c.args.case.now.held; duties = c.args.case.now.duties } in
    let P : Case → Type 0 = λ k. IsState g c.args.deduction.now k hyps [] c.args.done in
    let Q : Case → Type 0 = λ k. IsSpreadBy g c.args.deduction.now k c.take_turn.new.deduction c.take_turn.new.case hyps [] (c.args.done + 1) (room (opens_of g.order c.args.done k)) (all_unwritten (opens_of g.order c.args.done k)) c.in_ok-closed-in-None.closed in
    let R : ℕ → Type 0 = λ n. IsSpreadBy g c.args.deduction.now c.args.case.now c.take_turn.new.deduction c.take_turn.new.case hyps [] n (room (opens_of g.order c.args.done c.args.case.now)) (all_unwritten (opens_of g.order c.args.done c.args.case.now)) c.in_ok-closed-in-None.closed in
    subst R (sym c.in_ok-next-in-None.ensures) (subst Q same (c.in_ok-closed-in-None.ensures.spread hyps (subst P (sym same) state)))

pub step-returns-in_ok-closed-in-None-clause-falls : goal.step-returns-in_ok-closed-in-None-clause-falls
step-returns-in_ok-closed-in-None-clause-falls t c none =
    let g = c.args.reading.now.accepted.now in
    let hyps = c.requires.state.0 in
    let popped : Case = record { splits = c.pop.new.self; fronts = c.args.case.now.fronts; held = c.args.case.now.held; duties = c.args.case.now.duties } in
    let same : popped ≡ c.args.case.now = λ i. record { splits = c.in-None.ensures.unchanged i; fronts = c.args.case.now.fronts; held = c.args.case.now.held; duties = c.args.case.now.duties } in
    let P : Case → Type 0 = λ k. IsState g c.args.deduction.now k hyps [] c.args.done in
    let Q : Option ℕ → Type 0 = λ o. IsSpreadBy g c.args.deduction.now popped c.take_turn.new.deduction c.take_turn.new.case hyps [] (c.args.done + 1) (room (opens_of g.order c.args.done popped)) (all_unwritten (opens_of g.order c.args.done popped)) o in
    let goes = subst Q none (c.in_ok-closed-in-None.ensures.spread hyps (subst P (sym same) c.requires.state.1)) in
    let size = ap (λ (k : Case). all_unwritten (opens_of g.order c.args.done k)) same in
    let next = ap (λ (n : ℕ). all_unwritten (opens_of g.order n c.take_turn.new.case)) c.in_ok-next-in-None.ensures in
    omega (arith, size, next, goes.fewer, c.in_ok-closed-in-None.ensures.turn, c.in_ok-next-in-None.ensures)

-- a split

pub split-close-requires : goal.split-close-requires
split-close-requires t c =
    let g = c.args.reading.now.accepted.now in
    let hyps = c.requires.state.0 in
    let state = c.requires.state.1 in
    let l : ExpansionTree = plain_tree c.deref.result.now in
    let r : ExpansionTree = plain_tree c.deref-2.result.now in
    let is : plain_tree c.args.node.tree.now ≡ connective_node c.in-Bin.op l r = ap plain_tree c.in-Bin.is ∙ ap₂ (λ t u. connective_node c.in-Bin.op (plain_tree t) (plain_tree u)) (sym c.deref.ensures) (sym c.deref-2.ensures) in
    let split = c.requires.split in
    let cases : gives_cases c.in-Bin.op c.args.node.positive ≡ true = subst (λ (op : Op). gives_cases op c.args.node.positive ≡ true) (one_op split.0 c.in-Bin.op split.1 split.2 l r (sym split.3 ∙ is)) split.4 in
    let first = c.in_ok-first.ensures in
    let here = first_state g c.args.deduction.now c.args.case.now hyps c.args.node c.args.done state c.in-Bin.op l r is cases (not c.closes_at_once-left.result) c.side_node.new.deduction c.in_ok-first.first first.grown first.deduction first.assumes first.positive first.tree first.place in
    let smaller = first_smaller g c.args.deduction.now c.args.case.now hyps c.args.node c.args.done state c.in-Bin.op l r is cases (not c.closes_at_once-left.result) c.side_node.new.deduction c.in_ok-first.first first.grown first.deduction first.assumes first.positive first.tree first.place in
    (omega (arith, c.decreases, smaller), (c.requires.read, (c.in_ok-first.first.line ∷ hyps, here)))

pub split-rests_on-requires : goal.split-rests_on-requires
split-rests_on-requires t c =
    let g = c.args.reading.now.accepted.now in
    let hyps = c.requires.state.0 in
    let state = c.requires.state.1 in
    let l : ExpansionTree = plain_tree c.deref.result.now in
    let r : ExpansionTree = plain_tree c.deref-2.result.now in
    let is : plain_tree c.args.node.tree.now ≡ connective_node c.in-Bin.op l r = ap plain_tree c.in-Bin.is ∙ ap₂ (λ t u. connective_node c.in-Bin.op (plain_tree t) (plain_tree u)) (sym c.deref.ensures) (sym c.deref-2.ensures) in
    let split = c.requires.split in
    let cases : gives_cases c.in-Bin.op c.args.node.positive ≡ true = subst (λ (op : Op). gives_cases op c.args.node.positive ≡ true) (one_op split.0 c.in-Bin.op split.1 split.2 l r (sym split.3 ∙ is)) split.4 in
    let first = c.in_ok-first.ensures in
    let here = first_state g c.args.deduction.now c.args.case.now hyps c.args.node c.args.done state c.in-Bin.op l r is cases (not c.closes_at_once-left.result) c.side_node.new.deduction c.in_ok-first.first first.grown first.deduction first.assumes first.positive first.tree first.place in
    let reached = c.in_ok-line.ensures.reaches (c.in_ok-first.first.line ∷ hyps) here in
    proves_some c.close.new.deduction c.in_ok-line.line (c.in_ok-first.first.line ∷ hyps) _ reached.proves

pub split-returns-then-not-rests_on-clause-spread : goal.split-returns-then-not-rests_on-clause-spread
split-returns-then-not-rests_on-clause-spread t c hyps most state strict =
    let g = c.args.reading.now.accepted.now in
    let l : ExpansionTree = plain_tree c.deref.result.now in
    let r : ExpansionTree = plain_tree c.deref-2.result.now in
    let is : plain_tree c.args.node.tree.now ≡ connective_node c.in-Bin.op l r = ap plain_tree c.in-Bin.is ∙ ap₂ (λ t u. connective_node c.in-Bin.op (plain_tree t) (plain_tree u)) (sym c.deref.ensures) (sym c.deref-2.ensures) in
    let split = c.requires.split in
    let cases : gives_cases c.in-Bin.op c.args.node.positive ≡ true = subst (λ (op : Op). gives_cases op c.args.node.positive ≡ true) (one_op split.0 c.in-Bin.op split.1 split.2 l r (sym split.3 ∙ is)) split.4 in
    let first = c.in_ok-first.ensures in
    let here = first_state g c.args.deduction.now c.args.case.now hyps c.args.node c.args.done state c.in-Bin.op l r is cases (not c.closes_at_once-left.result) c.side_node.new.deduction c.in_ok-first.first first.grown first.deduction first.assumes first.positive first.tree first.place in
    let reached = c.in_ok-line.ensures.reaches (c.in_ok-first.first.line ∷ hyps) here in
    first_closes g c.args.deduction.now c.args.case.now hyps c.args.node c.args.done state c.in-Bin.op l r is cases (not c.closes_at_once-left.result) c.side_node.new.deduction c.close.new.deduction c.close.new.case c.in_ok-first.first c.in_ok-line.line first.grown reached.grown first.one first.tree reached
    (c.rests_on.ensures hyps _ c.if-not-rests_on.true reached.proves) c.in_ok-line.ensures.same.duties

pub split-returns-then-not-rests_on-clause-grown : goal.split-returns-then-not-rests_on-clause-grown
split-returns-then-not-rests_on-clause-grown t c =
    let g = c.args.reading.now.accepted.now in
    let hyps = c.requires.state.0 in
    let state = c.requires.state.1 in
    let l : ExpansionTree = plain_tree c.deref.result.now in
    let r : ExpansionTree = plain_tree c.deref-2.result.now in
    let is : plain_tree c.args.node.tree.now ≡ connective_node c.in-Bin.op l r = ap plain_tree c.in-Bin.is ∙ ap₂ (λ t u. connective_node c.in-Bin.op (plain_tree t) (plain_tree u)) (sym c.deref.ensures) (sym c.deref-2.ensures) in
    let split = c.requires.split in
    let cases : gives_cases c.in-Bin.op c.args.node.positive ≡ true = subst (λ (op : Op). gives_cases op c.args.node.positive ≡ true) (one_op split.0 c.in-Bin.op split.1 split.2 l r (sym split.3 ∙ is)) split.4 in
    let first = c.in_ok-first.ensures in
    let here = first_state g c.args.deduction.now c.args.case.now hyps c.args.node c.args.done state c.in-Bin.op l r is cases (not c.closes_at_once-left.result) c.side_node.new.deduction c.in_ok-first.first first.grown first.deduction first.assumes first.positive first.tree first.place in
    let reached = c.in_ok-line.ensures.reaches (c.in_ok-first.first.line ∷ hyps) here in
    grows_on c.args.deduction.now c.side_node.new.deduction c.close.new.deduction first.grown reached.grown

pub split-side_node-requires-2 : goal.split-side_node-requires-2
split-side_node-requires-2 t c =
    let g = c.args.reading.now.accepted.now in
    let hyps = c.requires.state.0 in
    let state = c.requires.state.1 in
    let l : ExpansionTree = plain_tree c.deref.result.now in
    let r : ExpansionTree = plain_tree c.deref-2.result.now in
    let is : plain_tree c.args.node.tree.now ≡ connective_node c.in-Bin.op l r = ap plain_tree c.in-Bin.is ∙ ap₂ (λ t u. connective_node c.in-Bin.op (plain_tree t) (plain_tree u)) (sym c.deref.ensures) (sym c.deref-2.ensures) in
    let split = c.requires.split in
    let cases : gives_cases c.in-Bin.op c.args.node.positive ≡ true = subst (λ (op : Op). gives_cases op c.args.node.positive ≡ true) (one_op split.0 c.in-Bin.op split.1 split.2 l r (sym split.3 ∙ is)) split.4 in
    let first = c.in_ok-first.ensures in
    let here = first_state g c.args.deduction.now c.args.case.now hyps c.args.node c.args.done state c.in-Bin.op l r is cases (not c.closes_at_once-left.result) c.side_node.new.deduction c.in_ok-first.first first.grown first.deduction first.assumes first.positive first.tree first.place in
    let reached = c.in_ok-line.ensures.reaches (c.in_ok-first.first.line ∷ hyps) here in
    let grown = grows_on c.args.deduction.now c.side_node.new.deduction c.close.new.deduction first.grown reached.grown in
    let parent = compound_said g c.args.deduction.now c.close.new.deduction c.args.case.now hyps c.args.node [] c.args.done state c.in_ok-line.ensures.deduction c.in-Bin.op l r is in
    let whole : Term = said c.args.node.positive (compound_of c.in-Bin.op parent.0 parent.1) in
    (parent.0, parent.1, c.in_ok-line.ensures.deduction, proves_says c.close.new.deduction c.args.node.line hyps whole (proves_stays c.args.deduction.now c.close.new.deduction c.args.node.line hyps whole grown parent.2))

pub split-spread-requires-clause-is_open : goal.split-spread-requires-clause-is_open
split-spread-requires-clause-is_open t c =
    let g = c.args.reading.now.accepted.now in
    let hyps = c.requires.state.0 in
    let state = c.requires.state.1 in
    let l : ExpansionTree = plain_tree c.deref.result.now in
    let r : ExpansionTree = plain_tree c.deref-2.result.now in
    let is : plain_tree c.args.node.tree.now ≡ connective_node c.in-Bin.op l r = ap plain_tree c.in-Bin.is ∙ ap₂ (λ t u. connective_node c.in-Bin.op (plain_tree t) (plain_tree u)) (sym c.deref.ensures) (sym c.deref-2.ensures) in
    let split = c.requires.split in
    let cases : gives_cases c.in-Bin.op c.args.node.positive ≡ true = subst (λ (op : Op). gives_cases op c.args.node.positive ≡ true) (one_op split.0 c.in-Bin.op split.1 split.2 l r (sym split.3 ∙ is)) split.4 in
    let first = c.in_ok-first.ensures in
    let here = first_state g c.args.deduction.now c.args.case.now hyps c.args.node c.args.done state c.in-Bin.op l r is cases (not c.closes_at_once-left.result) c.side_node.new.deduction c.in_ok-first.first first.grown first.deduction first.assumes first.positive first.tree first.place in
    let reached = c.in_ok-line.ensures.reaches (c.in_ok-first.first.line ∷ hyps) here in
    let same = c.in_ok-line.ensures.same in
    let duty : Duty = Second c.args.node.line (record { hyp = c.in_ok-first.first.line; source = c.in_ok-line.line }) c.in_ok-second.second.line in
    let next : Case = record { splits = c.close.new.case.splits; fronts = c.close.new.case.fronts; held = c.close.new.case.held; duties = c.push.new.self } in
    let some = split_below c.args.node split in
    let most : ℕ = some.0 + all_unwritten (opens_of g.order c.args.done c.args.case.now) in
    let goes = second_on g c.args.deduction.now c.args.case.now hyps c.args.node c.args.done state c.in-Bin.op l r is cases (not c.closes_at_once-left.result) c.side_node.new.deduction c.close.new.deduction c.side_node-2.new.deduction next c.in_ok-first.first c.in_ok-second.second c.in_ok-line.line most duty
    first.grown reached.grown c.in_ok-second.ensures.grown c.in_ok-second.ensures.deduction first.one c.in_ok-second.ensures.one first.tree c.in_ok-second.ensures.tree c.in_ok-second.ensures.positive c.in_ok-second.ensures.place first.assumes c.in_ok-second.ensures.assumes reached (λ hs x. x) refl
    (record { cells = same.cells; top = same.top; fronts = same.fronts; held = same.held }) (c.in_ok-push.ensures.items ∙ ap (λ (ds : List Duty). ds ++ duty ∷ []) same.duties) (omega (arith, some.1)) in
    (goes.more, [], c.args.done, goes.state)

pub split-returns-clause-spread : goal.split-returns-clause-spread
split-returns-clause-spread t c =
    let g = c.args.reading.now.accepted.now in
    let l : ExpansionTree = plain_tree c.deref.result.now in
    let r : ExpansionTree = plain_tree c.deref-2.result.now in
    let is : plain_tree c.args.node.tree.now ≡ connective_node c.in-Bin.op l r = ap plain_tree c.in-Bin.is ∙ ap₂ (λ t u. connective_node c.in-Bin.op (plain_tree t) (plain_tree u)) (sym c.deref.ensures) (sym c.deref-2.ensures) in
    let split = c.requires.split in
    let cases : gives_cases c.in-Bin.op c.args.node.positive ≡ true = subst (λ (op : Op). gives_cases op c.args.node.positive ≡ true) (one_op split.0 c.in-Bin.op split.1 split.2 l r (sym split.3 ∙ is)) split.4 in
    let first = c.in_ok-first.ensures in
    let same = c.in_ok-line.ensures.same in
    let duty : Duty = Second c.args.node.line (record { hyp = c.in_ok-first.first.line; source = c.in_ok-line.line }) c.in_ok-second.second.line in
    let next : Case = record { splits = c.close.new.case.splits; fronts = c.close.new.case.fronts; held = c.close.new.case.held; duties = c.push.new.self } in
    let whole : List Open = open_node c.args.node ∷ opens_of g.order c.args.done c.args.case.now in
    ok_second_then c.spread.result g c.args.deduction.now c.side_node-2.new.deduction c.spread.new.deduction c.args.case.now next c.spread.new.case (open_node c.args.node) (open_node c.in_ok-second.second) c.args.done (room whole) (all_unwritten whole) c.spread.ensures.grown c.spread.ensures.spread
    (λ hyps most state strict.
    let here = first_state g c.args.deduction.now c.args.case.now hyps c.args.node c.args.done state c.in-Bin.op l r is cases (not c.closes_at_once-left.result) c.side_node.new.deduction c.in_ok-first.first first.grown first.deduction first.assumes first.positive first.tree first.place in
    let reached = c.in_ok-line.ensures.reaches (c.in_ok-first.first.line ∷ hyps) here in
    second_on g c.args.deduction.now c.args.case.now hyps c.args.node c.args.done state c.in-Bin.op l r is cases (not c.closes_at_once-left.result) c.side_node.new.deduction c.close.new.deduction c.side_node-2.new.deduction next c.in_ok-first.first c.in_ok-second.second c.in_ok-line.line most duty
    first.grown reached.grown c.in_ok-second.ensures.grown c.in_ok-second.ensures.deduction first.one c.in_ok-second.ensures.one first.tree c.in_ok-second.ensures.tree c.in_ok-second.ensures.positive c.in_ok-second.ensures.place first.assumes c.in_ok-second.ensures.assumes reached (λ hs x. x) refl
    (record { cells = same.cells; top = same.top; fronts = same.fronts; held = same.held }) (c.in_ok-push.ensures.items ∙ ap (λ (ds : List Duty). ds ++ duty ∷ []) same.duties) strict)

pub split-returns-clause-grown : goal.split-returns-clause-grown
split-returns-clause-grown t c =
    let g = c.args.reading.now.accepted.now in
    let hyps = c.requires.state.0 in
    let state = c.requires.state.1 in
    let l : ExpansionTree = plain_tree c.deref.result.now in
    let r : ExpansionTree = plain_tree c.deref-2.result.now in
    let is : plain_tree c.args.node.tree.now ≡ connective_node c.in-Bin.op l r = ap plain_tree c.in-Bin.is ∙ ap₂ (λ t u. connective_node c.in-Bin.op (plain_tree t) (plain_tree u)) (sym c.deref.ensures) (sym c.deref-2.ensures) in
    let split = c.requires.split in
    let cases : gives_cases c.in-Bin.op c.args.node.positive ≡ true = subst (λ (op : Op). gives_cases op c.args.node.positive ≡ true) (one_op split.0 c.in-Bin.op split.1 split.2 l r (sym split.3 ∙ is)) split.4 in
    let first = c.in_ok-first.ensures in
    let here = first_state g c.args.deduction.now c.args.case.now hyps c.args.node c.args.done state c.in-Bin.op l r is cases (not c.closes_at_once-left.result) c.side_node.new.deduction c.in_ok-first.first first.grown first.deduction first.assumes first.positive first.tree first.place in
    let reached = c.in_ok-line.ensures.reaches (c.in_ok-first.first.line ∷ hyps) here in
    on_ok_grows c.spread.result c.args.deduction.now c.side_node-2.new.deduction c.spread.new.deduction
    (grows_on c.args.deduction.now c.close.new.deduction c.side_node-2.new.deduction (grows_on c.args.deduction.now c.side_node.new.deduction c.close.new.deduction first.grown reached.grown) c.in_ok-second.ensures.grown) c.spread.ensures.grown
