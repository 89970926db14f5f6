use Rattle.hol_terms.specs.Terms.{plain_term}
use Rattle.expansion_tree.specs.Trees.{plain_tree}
use Rattle.tps_gen.proofs.Chained.{chain_is_proof}
use Rattle.tps_gen.proofs.Figures.{chain_figures}
use Rattle.tps_gen.proofs.chains.chain.Goals as goal

pub returns-clause-proof : goal.returns-clause-proof
returns-clause-proof c =
    chain_is_proof c.args.n (plain_term c.in_ok-formula.formula) (plain_tree c.in_ok-tree.tree) c.in_ok-mating.mating c.in_ok-formula.ensures c.in_ok-tree.ensures c.in_ok-mating.ensures

pub returns-clause-figures : goal.returns-clause-figures
returns-clause-figures c =
    chain_figures c.args.n (plain_term c.in_ok-formula.formula) (plain_tree c.in_ok-tree.tree) c.in_ok-mating.mating c.in_ok-formula.ensures c.in_ok-tree.ensures c.in_ok-mating.ensures
