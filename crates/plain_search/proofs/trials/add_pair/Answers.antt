use Rattle.std.proofs.Common.{◌≡◌, ◌+◌, ◌++◌, ◌∷◌, [], refl, sym, subst}
use Rattle.std.specs.Prelude.{IsTrue}
use Rattle.vertical_paths.specs.Matings.{IsGood}
use Rattle.plain_search.specs.Trials.{HasPairs}
use Rattle.plain_search.proofs.Mated.{on_ok_weaker, pair_added}
use Rattle.plain_search.proofs.trials.add_pair.Goals as goal

pub returns : goal.returns
returns c =
    let good : IsGood c.args.fitted.now.leaf_list (c.args.i, c.args.j) = c.are_good.ensures.0 (subst IsTrue (sym c.if-not-are_good.false) refl) in
    on_ok_weaker (c.push.new.self ≡ c.args.mating.now ++ (c.args.i, c.args.j) ∷ []) (HasPairs c.args.fitted.now.leaf_list c.args.i c.args.j (c.args.j + 1) c.args.mating.now c.push.new.self)
    (pair_added c.args.fitted.now.leaf_list c.args.i c.args.j c.args.mating.now c.push.new.self good) c.push.result c.push.ensures.ok
