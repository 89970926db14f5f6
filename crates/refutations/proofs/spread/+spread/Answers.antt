use Rattle.std.proofs.Common.{◌≡◌, ◌∷◌, ◌++◌, ◌≤◌, ◌<◌, ◌+◌, ◌*◌, ◌^◌, ℕ, [], not, refl, sym, ◌∙◌, ◌⊎◌, ap, ap₂, subst, arith}
use Rattle.std.specs.List.{AllByRecursion}
use Rattle.std.specs.Prelude.{Option, Some, None}
use Rattle.expansion_tree.specs.Trees.{connective_node, negation_node, selection_node, node_count, plain_branches, plain_tree}
use Rattle.refutations.specs.Opens.{branch_occurrence_total, terms_below, Open, at_node, open_node, all_unwritten}
use Rattle.refutations.specs.States.{IsSpread, opens_of}
use Rattle.refutations.specs.declared.cases.Case.{Case}
use Rattle.refutations.specs.declared.nodes.Place.{Place}
use Rattle.refutations.specs.declared.nodes.Front.{Front}
use Rattle.refutations.proofs.Stepping.{node_below}
use Rattle.refutations.proofs.Finding.{split_stacked, terms_unfound, terms_found}
use Rattle.refutations.proofs.Descents.{negation_said, negation_on, sides_on, selection_said, selection_on}
use Rattle.refutations.proofs.Spreading.{goes_on_then, spreads_then, alone_then, on_ok_grows}
use Rattle.refutations.proofs.spread.+spread.Goals as goal

pub spread-spread_negation-requires : goal.spread-spread_negation-requires
spread-spread_negation-requires t c =
    let is : plain_tree c.args.node.tree.now ≡ negation_node (plain_tree c.deref.result.now) = ap plain_tree c.in-Not.is ∙ ap (λ t. negation_node (plain_tree t)) (sym c.deref.ensures) in
    (omega (arith, c.decreases, ap node_count is), (c.requires.read, (is, c.requires.is_open)))

pub spread_negation-spread-requires : goal.spread_negation-spread-requires
spread_negation-spread-requires t c =
    let open' = c.requires.is_open in
    let state = open'.3 in
    let g = c.args.reading.now.accepted.now in
    let on = negation_on g c.args.deduction.now c.line_under_negation.new.deduction c.args.case.now open'.0 c.args.node open'.1 open'.2 state c.in_ok-line.ensures.deduction (plain_tree c.args.t.now) c.in_ok-line.line c.in_ok-place.place c.requires.tree c.in_ok-place.ensures c.in_ok-line.ensures.reaches in
    (omega (arith, c.decreases), (c.requires.read, (on.more, open'.1, open'.2, on.state)))

pub spread_negation-returns-clause-spread : goal.spread_negation-returns-clause-spread
spread_negation-returns-clause-spread t c =
    let g = c.args.reading.now.accepted.now in
    let mid = c.line_under_negation.new.deduction in
    let below : Open = open_node (record { positive = not c.args.node.positive; tree = c.args.t; line = c.in_ok-line.line; place = c.in_ok-place.place }) in
    spreads_then c.spread.result g c.args.deduction.now mid c.spread.new.deduction c.args.case.now c.args.case.now c.spread.new.case (open_node c.args.node) below []
    (λ hyps others done state. negation_on g c.args.deduction.now mid c.args.case.now hyps c.args.node others done state c.in_ok-line.ensures.deduction (plain_tree c.args.t.now) c.in_ok-line.line c.in_ok-place.place c.requires.tree c.in_ok-place.ensures c.in_ok-line.ensures.reaches)
    (alone_then c.spread.result g c.args.deduction.now mid c.spread.new.deduction c.args.case.now c.args.case.now c.spread.new.case below c.spread.ensures.spread c.spread.ensures.grown)

pub spread_negation-returns-clause-grown : goal.spread_negation-returns-clause-grown
spread_negation-returns-clause-grown t c =
    let open' = c.requires.is_open in
    let g = c.args.reading.now.accepted.now in
    let said = negation_said g c.args.deduction.now c.line_under_negation.new.deduction c.args.case.now open'.0 c.args.node open'.1 open'.2 open'.3 c.in_ok-line.ensures.deduction (plain_tree c.args.t.now) c.requires.tree in
    on_ok_grows c.spread.result c.args.deduction.now c.line_under_negation.new.deduction c.spread.new.deduction (c.in_ok-line.ensures.reaches open'.0 said.0 open'.3.is_case.assumptions said.1).grown c.spread.ensures.grown

-- selections

pub spread-spread_selection-requires : goal.spread-spread_selection-requires
spread-spread_selection-requires t c =
    let is : plain_tree c.args.node.tree.now ≡ selection_node c.in-Sel.name (plain_tree c.deref-in-Sel.result.now) = ap plain_tree c.in-Sel.is ∙ ap (λ t. selection_node c.in-Sel.name (plain_tree t)) (sym c.deref-in-Sel.ensures) in
    (omega (arith, c.decreases, ap node_count is), (c.requires.read, (is, c.requires.is_open)))

pub spread_selection-spread-requires : goal.spread_selection-spread-requires
spread_selection-spread-requires t c =
    let open' = c.requires.is_open in
    let said = selection_said c.args.reading.now.accepted.now c.args.deduction.now c.suppose_variable.new.deduction c.args.case.now open'.0 c.args.node open'.1 open'.2 open'.3 c.in_ok-hyp.ensures.deduction c.args.name.now (plain_tree c.args.t.now) c.requires.tree in
    let on = selection_on c.args.reading.now.accepted.now c.args.deduction.now c.suppose_variable.new.deduction c.args.case.now open'.0 c.args.node open'.1 open'.2 open'.3 c.in_ok-hyp.ensures.deduction c.requires.read.accepted c.args.name (plain_tree c.args.t.now) c.in_ok-hyp.hyp c.in_ok-place.place
    (record { splits = c.args.case.now.splits; fronts = c.args.case.now.fronts; held = c.args.case.now.held; duties = c.push.new.self }) c.requires.tree c.in_ok-place.ensures c.in_ok-hyp.ensures.assumes c.in_ok-hyp.ensures.grown c.in_ok-hyp.ensures.one refl refl refl c.in_ok-push.ensures.items in
    (omega (arith, c.decreases), (c.requires.read, (on.more, open'.1, open'.2, on.state)))

pub spread_selection-returns-clause-spread : goal.spread_selection-returns-clause-spread
spread_selection-returns-clause-spread t c =
    let g = c.args.reading.now.accepted.now in
    let mid = c.suppose_variable.new.deduction in
    let between : Case = record { splits = c.args.case.now.splits; fronts = c.args.case.now.fronts; held = c.args.case.now.held; duties = c.push.new.self } in
    let below : Open = open_node (record { positive = c.args.node.positive; tree = c.args.t; line = c.in_ok-hyp.hyp; place = c.in_ok-place.place }) in
    spreads_then c.spread.result g c.args.deduction.now mid c.spread.new.deduction c.args.case.now between c.spread.new.case (open_node c.args.node) below []
    (λ hyps others done state. selection_on g c.args.deduction.now mid c.args.case.now hyps c.args.node others done state c.in_ok-hyp.ensures.deduction c.requires.read.accepted c.args.name (plain_tree c.args.t.now) c.in_ok-hyp.hyp c.in_ok-place.place between
    c.requires.tree c.in_ok-place.ensures c.in_ok-hyp.ensures.assumes c.in_ok-hyp.ensures.grown c.in_ok-hyp.ensures.one refl refl refl c.in_ok-push.ensures.items)
    (alone_then c.spread.result g c.args.deduction.now mid c.spread.new.deduction c.args.case.now between c.spread.new.case below c.spread.ensures.spread c.spread.ensures.grown)

-- compounds

pub spread-spread_sides-requires : goal.spread-spread_sides-requires
spread-spread_sides-requires t c =
    let is : plain_tree c.args.node.tree.now ≡ connective_node c.in-Bin.op (plain_tree c.deref-else-gives_cases.result.now) (plain_tree c.deref-else-gives_cases-2.result.now) =
    ap plain_tree c.in-Bin.is ∙ ap₂ (λ t u. connective_node c.in-Bin.op (plain_tree t) (plain_tree u)) (sym c.deref-else-gives_cases.ensures) (sym c.deref-else-gives_cases-2.ensures) in
    (omega (arith, c.decreases, ap node_count is), (c.requires.read, (is, (sym c.gives_cases.ensures ∙ c.if-gives_cases.false, c.requires.is_open))))

pub spread_sides-spread-requires : goal.spread_sides-spread-requires
spread_sides-spread-requires t c =
    let open' = c.requires.is_open in
    let on = sides_on c.args.reading.now.accepted.now c.args.deduction.now c.side_lines.new.deduction c.args.case.now open'.0 c.args.node open'.1 open'.2 open'.3 c.in_ok-lines.ensures.deduction c.args.op c.left_polarity.result (plain_tree c.args.t.now) (plain_tree c.args.u.now) c.in_ok-lines.lines.left c.in_ok-lines.lines.right
    c.in_ok-place.place c.in_ok-place_past.field-0 c.left_polarity.ensures c.requires.tree c.requires.both c.in_ok-place.ensures c.in_ok-place_past.ensures c.in_ok-lines.ensures.left c.in_ok-lines.ensures.right c.in_ok-lines.ensures.grown c.in_ok-lines.ensures.few in
    (omega (arith, c.decreases), (c.requires.read, (on.more, at_node (node_below c.left_polarity.result (plain_tree c.args.t.now) c.in_ok-lines.lines.left c.in_ok-place.place) ∷ open'.1, open'.2, on.state)))

pub spread_sides-returns-in-Some-clause-spread : goal.spread_sides-returns-in-Some-clause-spread
spread_sides-returns-in-Some-clause-spread t c hyps others done state =
    let g = c.args.reading.now.accepted.now in
    let mid = c.side_lines.new.deduction in
    let case = c.args.case.now in
    let right : Open = at_node (node_below c.args.node.positive (plain_tree c.args.u.now) c.in_ok-lines.lines.right c.in_ok-place_past.field-0) in
    let left : Open = at_node (node_below c.left_polarity.result (plain_tree c.args.t.now) c.in_ok-lines.lines.left c.in_ok-place.place) in
    let on = sides_on g c.args.deduction.now mid case hyps c.args.node others done state c.in_ok-lines.ensures.deduction c.args.op c.left_polarity.result (plain_tree c.args.t.now) (plain_tree c.args.u.now) c.in_ok-lines.lines.left c.in_ok-lines.lines.right
    c.in_ok-place.place c.in_ok-place_past.field-0 c.left_polarity.ensures c.requires.tree c.requires.both c.in_ok-place.ensures c.in_ok-place_past.ensures c.in_ok-lines.ensures.left c.in_ok-lines.ensures.right c.in_ok-lines.ensures.grown c.in_ok-lines.ensures.few in
    let P : Option ℕ → Type 0 = λ o. IsSpread g mid case c.spread.new.deduction c.spread.new.case on.more right (left ∷ others) done o in
    let spread = subst P c.in-Some.is (c.in_ok-line.ensures.spread on.more (left ∷ others) done on.state) in
    goes_on_then g c.args.deduction.now mid c.spread.new.deduction case case c.spread.new.case hyps (left ∷ others) done done (24 * 2 ^ all_unwritten (open_node c.args.node ∷ others ++ opens_of g.order done case)) (all_unwritten (open_node c.args.node ∷ others ++ opens_of g.order done case))
    (right ∷ left ∷ others) (Some c.in-Some.line) on c.in_ok-line.ensures.grown spread

pub spread_sides-spread-requires-2 : goal.spread_sides-spread-requires-2
spread_sides-spread-requires-2 t c =
    let g = c.args.reading.now.accepted.now in
    let mid = c.side_lines.new.deduction in
    let case = c.args.case.now in
    let hyps = c.requires.is_open.0 in
    let others = c.requires.is_open.1 in
    let done = c.requires.is_open.2 in
    let most = all_unwritten (open_node c.args.node ∷ others ++ opens_of g.order done case) in
    let right : Open = at_node (node_below c.args.node.positive (plain_tree c.args.u.now) c.in_ok-lines.lines.right c.in_ok-place_past.field-0) in
    let left : Open = at_node (node_below c.left_polarity.result (plain_tree c.args.t.now) c.in_ok-lines.lines.left c.in_ok-place.place) in
    let on = sides_on g c.args.deduction.now mid case hyps c.args.node others done c.requires.is_open.3 c.in_ok-lines.ensures.deduction c.args.op c.left_polarity.result (plain_tree c.args.t.now) (plain_tree c.args.u.now) c.in_ok-lines.lines.left c.in_ok-lines.lines.right
    c.in_ok-place.place c.in_ok-place_past.field-0 c.left_polarity.ensures c.requires.tree c.requires.both c.in_ok-place.ensures c.in_ok-place_past.ensures c.in_ok-lines.ensures.left c.in_ok-lines.ensures.right c.in_ok-lines.ensures.grown c.in_ok-lines.ensures.few in
    let P : Option ℕ → Type 0 = λ o. IsSpread g mid case c.spread.new.deduction c.spread.new.case on.more right (left ∷ others) done o in
    let spread = subst P c.in_default.is (c.in_ok-line.ensures.spread on.more (left ∷ others) done on.state) in
    let second = goes_on_then g c.args.deduction.now mid c.spread.new.deduction case case c.spread.new.case hyps (left ∷ others) done done (24 * 2 ^ most) most (right ∷ left ∷ others) None on c.in_ok-line.ensures.grown spread in
    (omega (arith, c.decreases), (c.requires.read, (second.more, others, done, second.state)))

pub spread_sides-returns-clause-spread : goal.spread_sides-returns-clause-spread
spread_sides-returns-clause-spread t c =
    let g = c.args.reading.now.accepted.now in
    let mid = c.side_lines.new.deduction in
    let case = c.args.case.now in
    let right : Open = at_node (node_below c.args.node.positive (plain_tree c.args.u.now) c.in_ok-lines.lines.right c.in_ok-place_past.field-0) in
    let left : Open = at_node (node_below c.left_polarity.result (plain_tree c.args.t.now) c.in_ok-lines.lines.left c.in_ok-place.place) in
    spreads_then c.spread-2.result g c.args.deduction.now c.spread.new.deduction c.spread-2.new.deduction case c.spread.new.case c.spread-2.new.case (open_node c.args.node) left []
    (λ hyps others done state.
    let most = all_unwritten (open_node c.args.node ∷ others ++ opens_of g.order done case) in
    let on = sides_on g c.args.deduction.now mid case hyps c.args.node others done state c.in_ok-lines.ensures.deduction c.args.op c.left_polarity.result (plain_tree c.args.t.now) (plain_tree c.args.u.now) c.in_ok-lines.lines.left c.in_ok-lines.lines.right
    c.in_ok-place.place c.in_ok-place_past.field-0 c.left_polarity.ensures c.requires.tree c.requires.both c.in_ok-place.ensures c.in_ok-place_past.ensures c.in_ok-lines.ensures.left c.in_ok-lines.ensures.right c.in_ok-lines.ensures.grown c.in_ok-lines.ensures.few in
    let P : Option ℕ → Type 0 = λ o. IsSpread g mid case c.spread.new.deduction c.spread.new.case on.more right (left ∷ others) done o in
    goes_on_then g c.args.deduction.now mid c.spread.new.deduction case case c.spread.new.case hyps (left ∷ others) done done (24 * 2 ^ most) most (right ∷ left ∷ others) None on c.in_ok-line.ensures.grown
    (subst P c.in_default.is (c.in_ok-line.ensures.spread on.more (left ∷ others) done on.state)))
    (alone_then c.spread-2.result g c.args.deduction.now c.spread.new.deduction c.spread-2.new.deduction case c.spread.new.case c.spread-2.new.case left c.spread-2.ensures.spread c.spread-2.ensures.grown)

-- splits and expansions

pub spread-find_terms-requires : goal.spread-find_terms-requires
spread-find_terms-requires t c =
    let open' = c.requires.is_open in
    let unfound = terms_unfound c.args.reading.now.accepted.now c.requires.read.accepted c.args.deduction.now c.args.case.now open'.0 c.args.node (plain_branches c.in-Exp.branches) open'.1 open'.2 open'.3 (ap plain_tree c.in-Exp.is) in
    subst (λ (n : ℕ). AllByRecursion (λ (entry : ℕ × Front). (entry.0 ≤ n) ⊎ (n + branch_occurrence_total (plain_branches c.in-Exp.branches) < entry.0)) c.args.case.now.fronts.entries) (sym (ap (λ (p : Place). p.occurrences) c.in_ok-place_below-in-Exp.ensures)) unfound

pub spread-returns-in_ok-push-in-Bin-clause-spread : goal.spread-returns-in_ok-push-in-Bin-clause-spread
spread-returns-in_ok-push-in-Bin-clause-spread t c hyps others done state =
    split_stacked c.args.reading.now.accepted.now c.args.deduction.now c.args.case.now _ hyps c.args.node others done state
    (c.in-Bin.op, plain_tree c.in-Bin.t.value, plain_tree c.in-Bin.u.value, ap plain_tree c.in-Bin.is, sym c.gives_cases.ensures ∙ c.if-gives_cases.true)
    c.in_ok-push-in-Bin.ensures.stack c.in_ok-push-in-Bin.ensures.nodes refl refl refl

pub spread-returns-in_ok-find_terms-in-Exp-clause-spread : goal.spread-returns-in_ok-find_terms-in-Exp-clause-spread
spread-returns-in_ok-find_terms-in-Exp-clause-spread t c hyps others done state =
    let found = c.in_ok-find_terms-in-Exp.ensures.found in
    let place = c.in_ok-place_below-in-Exp.ensures in
    terms_found c.args.reading.now.accepted.now c.requires.read.accepted c.args.deduction.now c.args.case.now c.find_terms.new.case hyps c.args.node (plain_branches c.in-Exp.branches) others done state (ap plain_tree c.in-Exp.is) found.0 found.1
    (found.2 ∙ ap (λ (p : Place). terms_below c.args.node.positive c.args.node.line p (plain_branches c.in-Exp.branches)) place) found.3 c.in_ok-find_terms-in-Exp.ensures.splits c.in_ok-find_terms-in-Exp.ensures.held c.in_ok-find_terms-in-Exp.ensures.duties
