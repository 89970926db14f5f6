use Rattle.std.proofs.Common.{[], ◌∷◌, sym, subst, arith}
use Rattle.hol_terms.specs.Terms.{plain_term}
use Rattle.hol_terms.specs.Truth.{Follows}
use Rattle.expansion_tree.specs.Standing.{compound_of}
use Rattle.nd_steps.specs.Deductions.{Proves}
use Rattle.nd_steps.proofs.Growing.{grows_on, proves_stays, assumptions_stay}
use Rattle.refutations.specs.Opens.{said}
use Rattle.refutations.proofs.Saying.{proves_says}
use Rattle.refutations.proofs.Speaking.{says_formed, left_read, right_read, left_formed, right_formed, left_follows, right_follows, both_derived}
use Rattle.refutations.proofs.lines.side_lines.Goals as goal

pub conclude_one-requires-clause-formula : goal.conclude_one-requires-clause-formula
conclude_one-requires-clause-formula c =
    let (hyps, left, right, d, assumed, proved) = c.requires.premises in
    let lines = c.args.deduction.now in
    let n = c.args.node.line in
    let p = c.args.node.positive in
    let op = c.args.op in
    let f = plain_term c.formula_of.result.now in
    let u = plain_term c.sides_of.result.0.now in
    let v = plain_term c.sides_of.result.1.now in
    let whole = said p (compound_of op left right) in
    let says = proves_says lines n hyps whole proved in
    let t = plain_term c.in_ok-left.left in
    let is = left_read lines n p op f u v c.formula_of.ensures c.sides_of.ensures left right c.left_polarity.result t c.in_ok-left.ensures c.left_polarity.ensures says in
    left_formed op p left right t (says_formed lines n whole d says) is

pub conclude_one-requires-clause-premises : goal.conclude_one-requires-clause-premises
conclude_one-requires-clause-premises c =
    let (hyps, left, right, d, assumed, proved) = c.requires.premises in
    let lines = c.args.deduction.now in
    let n = c.args.node.line in
    let p = c.args.node.positive in
    let op = c.args.op in
    let f = plain_term c.formula_of.result.now in
    let u = plain_term c.sides_of.result.0.now in
    let v = plain_term c.sides_of.result.1.now in
    let whole = said p (compound_of op left right) in
    let says = proves_says lines n hyps whole proved in
    let t = plain_term c.in_ok-left.left in
    let is = left_read lines n p op f u v c.formula_of.ensures c.sides_of.ensures left right c.left_polarity.result t c.in_ok-left.ensures c.left_polarity.ensures says in
    (hyps, whole, assumed, proved, subst (Follows (whole ∷ [])) (sym is) (left_follows op p left right c.requires.both))

pub conclude_one-requires-2-clause-formula : goal.conclude_one-requires-2-clause-formula
conclude_one-requires-2-clause-formula c =
    let (hyps, left, right, d, assumed, proved) = c.requires.premises in
    let lines = c.args.deduction.now in
    let n = c.args.node.line in
    let p = c.args.node.positive in
    let op = c.args.op in
    let f = plain_term c.formula_of.result.now in
    let u = plain_term c.sides_of.result.0.now in
    let v = plain_term c.sides_of.result.1.now in
    let whole = said p (compound_of op left right) in
    let says = proves_says lines n hyps whole proved in
    let t = plain_term c.in_ok-right.right in
    let is = right_read lines n p op f u v c.formula_of.ensures c.sides_of.ensures left right t c.in_ok-right.ensures says in
    right_formed op p left right t (says_formed lines n whole d says) is

pub conclude_one-requires-2-clause-premises : goal.conclude_one-requires-2-clause-premises
conclude_one-requires-2-clause-premises c =
    let (hyps, left, right, d, assumed, proved) = c.requires.premises in
    let lines = c.args.deduction.now in
    let n = c.args.node.line in
    let p = c.args.node.positive in
    let op = c.args.op in
    let f = plain_term c.formula_of.result.now in
    let u = plain_term c.sides_of.result.0.now in
    let v = plain_term c.sides_of.result.1.now in
    let whole = said p (compound_of op left right) in
    let says = proves_says lines n hyps whole proved in
    let t = plain_term c.in_ok-right.right in
    let is = right_read lines n p op f u v c.formula_of.ensures c.sides_of.ensures left right t c.in_ok-right.ensures says in
    let mid = c.conclude_one.new.deduction in
    let grown = (c.in_ok-left-2.ensures.derives hyps whole assumed proved).grown in
    (hyps, whole, assumptions_stay lines mid hyps grown assumed, proves_stays lines mid n hyps whole grown proved, subst (Follows (whole ∷ [])) (sym is) (right_follows op p left right c.requires.both))

pub returns-clause-left : goal.returns-clause-left
returns-clause-left c hyps left right assumed proved =
    let lines = c.args.deduction.now in
    let n = c.args.node.line in
    let p = c.args.node.positive in
    let op = c.args.op in
    let f = plain_term c.formula_of.result.now in
    let u = plain_term c.sides_of.result.0.now in
    let v = plain_term c.sides_of.result.1.now in
    let whole = said p (compound_of op left right) in
    let says = proves_says lines n hyps whole proved in
    let t = plain_term c.in_ok-left.left in
    let is = left_read lines n p op f u v c.formula_of.ensures c.sides_of.ensures left right c.left_polarity.result t c.in_ok-left.ensures c.left_polarity.ensures says in
    let derived =
    both_derived c.args.deduction.now c.conclude_one.new.deduction c.conclude_one-2.new.deduction c.args.node.line c.in_ok-left-2.left c.in_ok-right-2.right hyps whole (plain_term c.in_ok-left.left) (plain_term c.in_ok-right.right) assumed proved
    c.in_ok-left-2.ensures.derives c.in_ok-right-2.ensures.derives in
    let new = c.conclude_one-2.new.deduction in
    let m = c.in_ok-left-2.left in
    subst (Proves new m hyps) is (proves_stays c.conclude_one.new.deduction new m hyps t derived.1.grown derived.0.proves)

pub returns-clause-right : goal.returns-clause-right
returns-clause-right c hyps left right assumed proved =
    let lines = c.args.deduction.now in
    let n = c.args.node.line in
    let p = c.args.node.positive in
    let op = c.args.op in
    let f = plain_term c.formula_of.result.now in
    let u = plain_term c.sides_of.result.0.now in
    let v = plain_term c.sides_of.result.1.now in
    let whole = said p (compound_of op left right) in
    let says = proves_says lines n hyps whole proved in
    let t = plain_term c.in_ok-right.right in
    let is = right_read lines n p op f u v c.formula_of.ensures c.sides_of.ensures left right t c.in_ok-right.ensures says in
    let derived =
    both_derived c.args.deduction.now c.conclude_one.new.deduction c.conclude_one-2.new.deduction c.args.node.line c.in_ok-left-2.left c.in_ok-right-2.right hyps whole (plain_term c.in_ok-left.left) (plain_term c.in_ok-right.right) assumed proved
    c.in_ok-left-2.ensures.derives c.in_ok-right-2.ensures.derives in
    subst (Proves c.conclude_one-2.new.deduction c.in_ok-right-2.right hyps) is derived.1.proves

pub returns-clause-grown : goal.returns-clause-grown
returns-clause-grown c =
    let (hyps, left, right, d, assumed, proved) = c.requires.premises in
    let whole = said c.args.node.positive (compound_of c.args.op left right) in
    let derived =
    both_derived c.args.deduction.now c.conclude_one.new.deduction c.conclude_one-2.new.deduction c.args.node.line c.in_ok-left-2.left c.in_ok-right-2.right hyps whole (plain_term c.in_ok-left.left) (plain_term c.in_ok-right.right) assumed proved
    c.in_ok-left-2.ensures.derives c.in_ok-right-2.ensures.derives in
    grows_on c.args.deduction.now c.conclude_one.new.deduction c.conclude_one-2.new.deduction derived.0.grown derived.1.grown

pub returns-clause-few : goal.returns-clause-few
returns-clause-few c =
    let (hyps, left, right, d, assumed, proved) = c.requires.premises in
    let whole = said c.args.node.positive (compound_of c.args.op left right) in
    let derived =
    both_derived c.args.deduction.now c.conclude_one.new.deduction c.conclude_one-2.new.deduction c.args.node.line c.in_ok-left-2.left c.in_ok-right-2.right hyps whole (plain_term c.in_ok-left.left) (plain_term c.in_ok-right.right) assumed proved
    c.in_ok-left-2.ensures.derives c.in_ok-right-2.ensures.derives in
    omega (arith, derived.0.longer, derived.1.longer)
