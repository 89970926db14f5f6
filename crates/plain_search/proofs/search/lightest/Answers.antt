use Rattle.std.proofs.Common.{◌≡◌, ◌≤◌, ◌+◌, ◌++◌, ◌∷◌, [], length, map, sym, subst, arith}
use Rattle.hol_terms.specs.Terms.{plain_term}
use Rattle.proof_text.specs.Texts.{Proof}
use Rattle.exp_check.specs.Accepted.{proof_of}
use Rattle.tree_growth.specs.Growths.{plain_growth}
use Rattle.plain_search.specs.Levels.{AreLevels, plain_levels}
use Rattle.plain_search.specs.Proofs.{IsLeastProof, IsProofInBudget}
use Rattle.plain_search.specs.Searching.{HasNoLighterProof, HasNoProof, IsProofAmong}
use Rattle.plain_search.proofs.Searching.{found_least, found_none, levels_pushed, lighter_tried, none_mated, none_weaker, pushed_length, some_weaker}
use Rattle.plain_search.proofs.search.lightest.Goals as goal

pub returns-in-Some-clause-least : goal.returns-in-Some-clause-least
returns-in-Some-clause-least c =
    let within : c.loop-lighter.lighter ≤ c.args.weight = omega arith in
    found_least (plain_term c.args.task.now.formula) c.args.task.now.level c.args.weight c.loop-lighter.levels.items c.loop-lighter.lighter c.index-level.result.now c.in-Some.accepted c.requires.formula
    c.loop-lighter.invariant.levels c.loop-lighter.invariant.many within c.loop-lighter.invariant.none c.index-level.ensures (rw (c.in-Some.is, c.deref.ensures.value) at c.in_ok-accepted.ensures.some)

pub loop-lighter-preserved : goal.loop-lighter-preserved
loop-lighter-preserved c =
    let formula = plain_term c.args.task.now.formula in
    let rows = c.loop-lighter.levels.items in
    let more = c.push-in-loop-lighter.new.self.items in
    let next = c.in_ok-next.next in
    let row = c.index-level.result.now in
    let none : HasNoProof formula (map plain_growth row.items) =
    rw c.deref.ensures.value at (none_mated c.in_ok-accepted.field-0 (HasNoProof formula (map plain_growth c.deref.result.now)) c.in_default.not-Some c.in_ok-accepted.ensures.none) in
    let longer : AreLevels formula c.args.task.now.level (plain_levels rows ++ map plain_growth next.items ∷ []) = rw c.deref-in-loop-lighter.ensures.value at c.in_ok-next.ensures in
    record {
      levels = subst (AreLevels formula c.args.task.now.level) (sym (levels_pushed rows more next c.in_ok-push-2.ensures.items)) longer;
      many = pushed_length rows more next (c.loop-lighter.lighter + 1) c.loop-lighter.invariant.many c.in_ok-push-2.ensures.items;
      none = lighter_tried formula rows more next row c.loop-lighter.lighter c.loop-lighter.invariant.many c.in_ok-push-2.ensures.items c.loop-lighter.invariant.none c.index-level.ensures none;
    }

pub returns-clause-least : goal.returns-clause-least
returns-clause-least c =
    let formula = plain_term c.args.task.now.formula in
    let last : c.loop-lighter.lighter ≡ c.args.weight = omega arith in
    let many : length c.loop-lighter.levels.items ≡ c.args.weight + 1 = omega arith in
    let before : HasNoLighterProof formula (plain_levels c.loop-lighter.levels.items) c.args.weight = rw last at c.loop-lighter.invariant.none in
    let row = c.index-last.result.now in
    some_weaker c.in_ok-found.found (IsProofAmong formula (map plain_growth row.items)) (λ a. IsLeastProof formula c.args.weight c.args.task.now.level (proof_of a))
    (λ a among. found_least formula c.args.task.now.level c.args.weight c.loop-lighter.levels.items c.args.weight row a c.requires.formula c.loop-lighter.invariant.levels many (omega arith) before c.index-last.ensures among)
    (rw c.deref-2.ensures.value at c.in_ok-found.ensures.some)

pub returns-clause-none : goal.returns-clause-none
returns-clause-none c =
    let formula = plain_term c.args.task.now.formula in
    let last : c.loop-lighter.lighter ≡ c.args.weight = omega arith in
    let many : length c.loop-lighter.levels.items ≡ c.args.weight + 1 = omega arith in
    let before : HasNoLighterProof formula (plain_levels c.loop-lighter.levels.items) c.args.weight = rw last at c.loop-lighter.invariant.none in
    let row = c.index-last.result.now in
    none_weaker c.in_ok-found.found (HasNoProof formula (map plain_growth row.items)) ((p : Proof) → IsProofInBudget formula c.args.weight c.args.task.now.level p → ⊥)
    (λ none. found_none formula c.args.task.now.level c.args.weight c.loop-lighter.levels.items row c.requires.formula c.loop-lighter.invariant.levels many before c.index-last.ensures none)
    (rw c.deref-2.ensures.value at c.in_ok-found.ensures.none)
