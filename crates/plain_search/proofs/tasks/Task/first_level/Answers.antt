use Rattle.std.proofs.Common.{◌≤◌, ◌^◌, ◌∷◌, [], true, List, arith, sym, subst}
use Rattle.hol_terms.specs.Terms.{Term, plain_term}
use Rattle.tree_growth.specs.Growths.{GrownTree, IsBareGrowth, plain_growth}
use Rattle.plain_search.specs.Levels.{AreLevels}
use Rattle.plain_search.proofs.Beginning.{bare_growth_candidate}
use Rattle.plain_search.proofs.Levelling.{first_levels}
use Rattle.plain_search.proofs.tasks.Task.first_level.Goals as goal

pub returns : goal.returns
returns c =
    let small : c.in_ok-growth.growth.next ≤ 2 ^ 64 = omega (arith, c.alone.ensures.number) in
    let here : IsBareGrowth c.args.self.now.taken 1 true (plain_term c.args.self.now.normal) (plain_growth c.in_ok-growth.growth) =
    subst (λ (a : Term). IsBareGrowth c.args.self.now.taken 1 true a (plain_growth c.in_ok-growth.growth)) c.in_ok-formula.ensures c.in_ok-growth.ensures in
    let candidate =
    bare_growth_candidate (plain_term c.args.self.now.formula) c.args.self.now.level (plain_term c.args.self.now.normal) c.args.self.now.taken 1 (plain_growth c.in_ok-growth.growth) c.requires.normal c.requires.taken small here in
    subst (λ (l : List GrownTree). AreLevels (plain_term c.args.self.now.formula) c.args.self.now.level (l ∷ [])) (sym c.in_ok-level.ensures.list)
    (first_levels (plain_term c.args.self.now.formula) c.args.self.now.level (plain_growth c.in_ok-growth.growth) candidate)
