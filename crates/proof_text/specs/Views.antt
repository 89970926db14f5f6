-- What the values that the program holds stand for.
use Rattle.hol_terms.specs.Terms.{Term, plain_term}
use Rattle.hol_terms.specs.declared.terms.Tm.{Tm}
use Rattle.core_text.specs.Placed.{placed}
use Rattle.expansion_tree.specs.declared.trees.Tree.{Tree}
use Rattle.expansion_tree.specs.Trees.{ExpansionTree, plain_tree}
use Rattle.proof_text.specs.declared.texts.TextParts.{TextParts}
use Rattle.proof_text.specs.Reading.{Parts}

abbrev pub plain_parts : TextParts → Parts
plain_parts parts = record { version = placed parts.version.now; formula = placed parts.formula.now; tree = placed parts.tree.now; mating = placed parts.mating.now }

-- a term with its tree
abbrev pub plain_branch : Tm × Tree → Term × ExpansionTree
plain_branch b = (plain_term b.0, plain_tree b.1)
