use Rattle.std.proofs.Common.{◌∙◌, ap}
use Rattle.hol_terms.specs.Terms.{plain_term}
use Rattle.expansion_tree.specs.Standing.{compound_of}
use Rattle.refutations.specs.Opens.{said}
use Rattle.refutations.proofs.Speaking.{says_formed, left_read, right_read, left_formed, right_formed}
use Rattle.refutations.proofs.lines.suppose_side.Goals.{then-left+in_ok-formula, else-left+in_ok-formula-2}
use Rattle.refutations.proofs.lines.suppose_side.Goals as goal

pub assume-requires : goal.assume-requires
assume-requires c =
    let (left, right, d, says) = c.requires in
    let lines = c.args.deduction.now in
    let n = c.args.node.line in
    let p = c.args.node.positive in
    let op = c.args.op in
    let f = plain_term c.formula_of.result.now in
    let u = plain_term c.sides_of.result.0.now in
    let v = plain_term c.sides_of.result.1.now in
    let t = plain_term c.if-left.formula in
    let formed = says_formed lines n (said p (compound_of op left right)) d says in
    elim c.if-left.branch [
      | then-left+in_ok-formula w ↦
          left_formed op p left right t formed (left_read lines n p op f u v c.formula_of.ensures c.sides_of.ensures left right w.left_polarity.result t (ap plain_term w.formula-is ∙ w.in_ok-formula.ensures) w.left_polarity.ensures says)
      | else-left+in_ok-formula-2 w ↦ right_formed op p left right t formed (right_read lines n p op f u v c.formula_of.ensures c.sides_of.ensures left right t (ap plain_term w.formula-is ∙ w.in_ok-formula-2.ensures) says)
    ]
