use Rattle.std.proofs.Common.{◌+◌, [], ◌∷◌, ℕ, List, sym, ◌∙◌, ap}
use Rattle.std.specs.Prelude.{slice_get}
use Rattle.std.specs.Option.{option_copied}
use Rattle.std.proofs.lemmas.Map.{none_passes_from_lookup}
use Rattle.std.proofs.lemmas.Result.{on_ok_weaker}
use Rattle.nd_steps.specs.Deductions.{Grows}
use Rattle.nd_steps.proofs.Growing.{grows_on}
use Rattle.refutations.specs.declared.nodes.Node.{Node}
use Rattle.refutations.specs.Opens.{open_node, all_unwritten}
use Rattle.refutations.specs.States.{IsState, IsSpreadBy, Spreads, opens_of, room}
use Rattle.refutations.proofs.Spreading.{goes_on_then}
use Rattle.refutations.proofs.Turning.{turn_within, turn_passes, turn_found, turn_line, turn_reaches, turn_goes_on, ok_both}
use Rattle.refutations.proofs.refute.take_turn.Goals as goal

pub at-occurrence-requires : goal.at-occurrence-requires
at-occurrence-requires c =
    let within = turn_within c.args.reading.now.accepted.now c.requires.read.accepted c.args.deduction.now c.args.case.now c.requires.state.0 c.args.done c.requires.state.1 c.requires.none in
    rw c.order.ensures within

pub returns-in_default-clause-spread : goal.returns-in_default-clause-spread
returns-in_default-clause-spread c hyps state =
    let here = ap (λ (order : List ℕ). slice_get order c.args.done) (sym c.order.ensures) ∙ c.at-occurrence.ensures in
    let absent = sym c.get.ensures.value ∙ ap option_copied c.in_default.is in
    turn_passes c.args.reading.now.accepted.now c.requires.read.accepted c.args.deduction.now c.args.case.now hyps c.args.done state c.requires.none c.at-occurrence.result here (none_passes_from_lookup _ _ absent)

pub returns-in_default-clause-turn : goal.returns-in_default-clause-turn
returns-in_default-clause-turn c = turn_within c.args.reading.now.accepted.now c.requires.read.accepted c.args.deduction.now c.args.case.now c.requires.state.0 c.args.done c.requires.state.1 c.requires.none

pub expanded_line-requires : goal.expanded_line-requires
expanded_line-requires c =
    let g = c.args.reading.now.accepted.now in
    let lines = c.args.deduction.now in
    let state = c.requires.state.1 in
    let here = ap (λ (order : List ℕ). slice_get order c.args.done) (sym c.order.ensures) ∙ c.at-occurrence.ensures in
    let found = turn_found g c.requires.read.accepted lines c.args.case.now c.requires.state.0 c.args.done state c.requires.none c.at-occurrence.result c.in-Some.front.now here (sym c.in-Some.ensures.value) in
    let line = turn_line g c.requires.read.accepted lines c.args.case.now c.requires.state.0 c.args.done state c.requires.none c.in-Some.front.now found in
    (c.requires.state.0, line.ty, line.body, state.is_case.deduction, state.is_case.assumptions, line.proves, line.typed, line.long)

pub spread-requires-clause-is_open : goal.spread-requires-clause-is_open
spread-requires-clause-is_open c =
    let g = c.args.reading.now.accepted.now in
    let lines = c.args.deduction.now in
    let state = c.requires.state.1 in
    let here = ap (λ (order : List ℕ). slice_get order c.args.done) (sym c.order.ensures) ∙ c.at-occurrence.ensures in
    let found = turn_found g c.requires.read.accepted lines c.args.case.now c.requires.state.0 c.args.done state c.requires.none c.at-occurrence.result c.in-Some.front.now here (sym c.in-Some.ensures.value) in
    let goes = turn_goes_on g c.requires.read.accepted lines c.args.case.now c.requires.state.0 c.args.done state c.requires.none c.in-Some.front.now found c.expanded_line.new.deduction c.in_ok-line.line c.in_ok-line.ensures.deduction c.in_ok-line.ensures.reaches in
    (goes.more, [], c.args.done + 1, goes.state)

pub returns-clause-spread : goal.returns-clause-spread
returns-clause-spread c =
    let g = c.args.reading.now.accepted.now in
    let lines = c.args.deduction.now in
    let here = ap (λ (order : List ℕ). slice_get order c.args.done) (sym c.order.ensures) ∙ c.at-occurrence.ensures in
    let old = c.args.case.now in
    let most = all_unwritten (opens_of g.order c.args.done old) in
    let budget = room (opens_of g.order c.args.done old) in
    let node : Node = record { positive = c.in-Some.front.now.node.positive; tree = c.in-Some.front.now.node.tree; line = c.in_ok-line.line; place = c.in-Some.front.now.node.place } in
    ok_both c.spread.result (λ r. Spreads g c.expanded_line.new.deduction old c.spread.new.deduction c.spread.new.case (open_node node) r)
    (λ r. (hyps : List ℕ) → IsState g lines old hyps [] c.args.done → IsSpreadBy g lines old c.spread.new.deduction c.spread.new.case hyps [] (c.args.done + 1) budget most r)
    (Grows c.expanded_line.new.deduction c.spread.new.deduction)
    (λ r grown spreads hyps state.
    let found = turn_found g c.requires.read.accepted lines old hyps c.args.done state c.requires.none c.at-occurrence.result c.in-Some.front.now here (sym c.in-Some.ensures.value) in
    let goes = turn_goes_on g c.requires.read.accepted lines old hyps c.args.done state c.requires.none c.in-Some.front.now found c.expanded_line.new.deduction c.in_ok-line.line c.in_ok-line.ensures.deduction c.in_ok-line.ensures.reaches in
    goes_on_then g lines c.expanded_line.new.deduction c.spread.new.deduction old old c.spread.new.case hyps [] (c.args.done + 1) (c.args.done + 1) budget most (open_node node ∷ []) r goes grown
    (spreads goes.more [] (c.args.done + 1) goes.state))
    c.spread.ensures.grown c.spread.ensures.spread

pub returns-clause-turn : goal.returns-clause-turn
returns-clause-turn c =
    let within = turn_within c.args.reading.now.accepted.now c.requires.read.accepted c.args.deduction.now c.args.case.now c.requires.state.0 c.args.done c.requires.state.1 c.requires.none in
    on_ok_weaker c.spread.result (λ grown. within) c.spread.ensures.grown

pub returns-clause-grown : goal.returns-clause-grown
returns-clause-grown c =
    let g = c.args.reading.now.accepted.now in
    let lines = c.args.deduction.now in
    let state = c.requires.state.1 in
    let here = ap (λ (order : List ℕ). slice_get order c.args.done) (sym c.order.ensures) ∙ c.at-occurrence.ensures in
    let found = turn_found g c.requires.read.accepted lines c.args.case.now c.requires.state.0 c.args.done state c.requires.none c.at-occurrence.result c.in-Some.front.now here (sym c.in-Some.ensures.value) in
    let reached = turn_reaches g c.requires.read.accepted lines c.args.case.now c.requires.state.0 c.args.done state c.requires.none c.in-Some.front.now found c.expanded_line.new.deduction c.in_ok-line.line c.in_ok-line.ensures.reaches in
    on_ok_weaker c.spread.result (λ grown. grows_on lines c.expanded_line.new.deduction c.spread.new.deduction reached.grown grown) c.spread.ensures.grown
