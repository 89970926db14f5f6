use Rattle.std.proofs.Common.{◌≡◌, arith}
use Rattle.std.proofs.lemmas.Result.{IfOk-weaker}
use Rattle.hol_terms.specs.Terms.{plain_term, plain_type}
use Rattle.tree_growth.specs.Growths.{IsBareGrowth, plain_growth}
use Rattle.tree_growth.specs.Wrapped.{both_sides, under_negation, under_new_selection}
use Rattle.expansion_tree.specs.Standing.{selecting}
use Rattle.tree_growth.proofs.Parts.{long_body, long_variable_instance, instance_weighs_less}
use Rattle.tree_growth.proofs.Bareness.{bare_leaf, bare_constant, bare_expansion, bare_negated, bare_beside, bare_selecting}
use Rattle.tree_growth.proofs.bare.+bare.Goals as goal

pub bare-returns-in-Leaf : goal.bare-returns-in-Leaf
bare-returns-in-Leaf t c =
    let kind = rw c.in-Leaf.is at c.kind_of.ensures in
    bare_leaf c.args.taken.now c.args.next c.args.positive (plain_term c.args.formula) (plain_growth c.without_new.result) c.without_new.ensures kind

pub bare-returns-in-Const : goal.bare-returns-in-Const
bare-returns-in-Const t c =
    let kind = rw c.in-Const.is at c.kind_of.ensures in
    bare_constant c.args.taken.now c.args.next c.args.positive (plain_term c.args.formula) (plain_growth c.without_new-in-Const.result) c.without_new-in-Const.ensures kind

pub bare-returns-in-Exp : goal.bare-returns-in-Exp
bare-returns-in-Exp t c =
    let kind = rw c.in-Exp.is at c.kind_of.ensures in
    bare_expansion c.args.taken.now c.args.next c.args.positive (plain_term c.args.formula) (plain_growth c.without_new-in-Exp.result) c.without_new-in-Exp.ensures kind

pub bare_negation-returns : goal.bare_negation-returns
bare_negation-returns t c =
    IfOk-weaker c.negated-2.result (λ g. plain_growth g ≡ under_negation (plain_growth c.in_ok-bare.field-0))
    (λ g. IsBareGrowth c.args.taken.now c.args.next c.args.positive (plain_term c.args.formula) (plain_growth g))
    (λ g e. bare_negated c.args.taken.now c.args.next c.args.positive (plain_term c.args.formula) (plain_term c.in-Some.b)
    (plain_growth c.in_ok-bare.field-0) (plain_growth g) c.in-Some.ensures.some c.in_ok-bare.ensures e)
    c.negated-2.ensures

pub bare_compound-returns : goal.bare_compound-returns
bare_compound-returns t c =
    let left = rw c.left_polarity.ensures at c.in_ok-left.ensures in
    IfOk-weaker c.beside.result (λ g. plain_growth g ≡ both_sides c.args.op (plain_growth c.in_ok-left.left) (plain_growth c.in_ok-right.right))
    (λ g. IsBareGrowth c.args.taken.now c.args.next c.args.positive (plain_term c.args.formula) (plain_growth g))
    (λ g e. bare_beside c.args.taken.now c.args.next c.args.op c.args.positive (plain_term c.args.formula) (plain_term c.in-Some.b) (plain_term c.in-Some.c)
    (plain_growth c.in_ok-left.left) (plain_growth c.in_ok-right.right) (plain_growth g) c.in-Some.ensures.some left c.in_ok-right.ensures e)
    c.beside.ensures

pub bare_selection-returns : goal.bare_selection-returns
bare_selection-returns t c =
    let below = rw (c.in_ok-instance.ensures.instance, c.in_ok-copy.ensures) at c.in_ok-below.ensures in
    IfOk-weaker c.selecting.result (λ g. plain_growth g ≡ under_new_selection (c.in_ok-name.name, plain_type c.in-Some.ty) (plain_growth c.in_ok-below.below))
    (λ g. IsBareGrowth c.args.taken.now c.args.next c.args.positive (plain_term c.args.formula) (plain_growth g))
    (λ g e. bare_selecting c.args.taken.now c.args.next c.in_ok-name.next c.in_ok-name.name c.args.positive (plain_term c.args.formula) (plain_term c.in-Some.body) (plain_type c.in-Some.ty)
    (plain_growth c.in_ok-below.below) (plain_growth g) c.in-Some.ensures.some c.in_ok-name.ensures.name c.in_ok-name.ensures.free below e)
    c.selecting.ensures

pub bare_selection-bare-requires : goal.bare_selection-bare-requires
bare_selection-bare-requires t c =
    let less =
    instance_weighs_less (selecting c.args.positive (plain_type c.in-Some.ty)) c.in_ok-name.name (plain_type c.in-Some.ty) (plain_type c.in_ok-copy.field-0) (plain_term c.args.formula) (plain_term c.in-Some.body)
    (plain_term c.in_ok-instance.instance) c.in-Some.ensures.some c.in_ok-instance.ensures.instance
    in
    let body = long_body c.args.positive (plain_term c.args.formula) (plain_term c.in-Some.body) (plain_type c.in-Some.ty) c.in-Some.ensures.some c.requires.long in (
      omega (arith, c.decreases, less),
      long_variable_instance c.in_ok-name.name (plain_type c.in-Some.ty) (plain_type c.in_ok-copy.field-0) (plain_term c.in_ok-instance.instance) (plain_term c.in-Some.body)
          c.in_ok-instance.ensures.instance c.in_ok-copy.ensures body,
    )
