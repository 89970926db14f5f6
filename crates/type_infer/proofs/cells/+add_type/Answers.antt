use Rattle.hol_terms.specs.Terms.{plain_type}
use Rattle.type_infer.proofs.Stores.{adds_function}
use Rattle.type_infer.proofs.cells.+add_type.Goals as goal

pub returns-in_ok-number-in-Fun : goal.returns-in_ok-number-in-Fun
returns-in_ok-number-in-Fun t c =
    rw (c.in-Fun.is) (adds_function c.args.cells.now.items c.add_type.new.cells.items c.add_type-in-Fun.new.cells.items c.push-in-Fun.new.cells.items
    (plain_type c.in-Fun.result_type.value) (plain_type c.in-Fun.argument.value) c.in_ok-result_type-in-Fun.result_type c.in_ok-argument-in-Fun.argument c.in_ok-number-in-Fun.number
    (rw (c.deref.ensures) at c.in_ok-result_type-in-Fun.ensures) (rw (c.deref-in-Fun.ensures) at c.in_ok-argument-in-Fun.ensures)
    c.in_ok-number-in-Fun.ensures.cells c.in_ok-number-in-Fun.ensures.number)
