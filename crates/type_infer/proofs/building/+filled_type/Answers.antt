use Rattle.std.proofs.Common.{◌∙◌}
use Rattle.hol_terms.specs.Terms.{plain_type}
use Rattle.type_infer.proofs.Fillings.{filled_function}
use Rattle.type_infer.proofs.building.+filled_type.Goals as goal

pub returns-in_ok-ty-in-Function : goal.returns-in_ok-ty-in-Function
returns-in_ok-ty-in-Function t c =
    c.in_ok-ty-in-Function.ensures
    ∙ filled_function c.args.letter.byte c.args.shapes.now c.args.k c.in-Function.result_type c.in-Function.argument
    (plain_type c.in_ok-result_type-in-Function.result_type) (plain_type c.in_ok-argument-in-Function.argument)
    c.requires (rw (c.in-Function.is) at c.shape_at.ensures) c.in_ok-result_type-in-Function.ensures c.in_ok-argument-in-Function.ensures
