use Rattle.std.proofs.Common.{true}
use Rattle.hol_terms.specs.Terms.{plain_term}
use Rattle.expansion_tree.specs.Trees.{plain_tree}
use Rattle.tree_growth.specs.Growths.{plain_addition}
use Rattle.tree_growth.proofs.Lasting.{last_stands}
use Rattle.search_calls.proofs.growing.last_extension.Goals as goal

pub returns : goal.returns
returns c =
    last_stands (plain_addition c.args.addition.now) true (plain_term c.args.formula.now) (plain_term c.in_ok-copy.field-0) (plain_tree c.args.tree.now) c.in_ok-all.all.items c.pop.new.self.items
    c.in-Some.last c.in_ok-all.ensures c.in_ok-copy.ensures c.requires.stands c.in-Some.ensures.items
