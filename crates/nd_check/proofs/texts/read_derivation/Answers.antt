use Rattle.core_text.specs.Placed.{placed}
use Rattle.nd_check.proofs.Whole.{found, no_text, none, only}
use Rattle.nd_check.proofs.texts.read_derivation.Goals as goal

pub returns-in-Ok-clause-found : goal.returns-in-Ok-clause-found
returns-in-Ok-clause-found c =
    found c.args.bytes.now (placed c.in-Ok.form) (record { text = c.in-Ok.ensures.text; places = c.in-Ok.ensures.places }) c.read_form.result c.read_form.ensures

pub returns-in-Ok-clause-only : goal.returns-in-Ok-clause-only
returns-in-Ok-clause-only c =
    only c.args.bytes.now (placed c.in-Ok.form) (record { text = c.in-Ok.ensures.text; places = c.in-Ok.ensures.places }) c.read_form.result c.read_form.ensures

pub returns-in-Ok-clause-none : goal.returns-in-Ok-clause-none
returns-in-Ok-clause-none c =
    none c.args.bytes.now (placed c.in-Ok.form) (record { text = c.in-Ok.ensures.text; places = c.in-Ok.ensures.places }) c.read_form.result c.read_form.ensures

pub returns-in-Err-clause-none : goal.returns-in-Err-clause-none
returns-in-Err-clause-none c = λ other. no_text c.args.bytes.now (c.in-Err.ensures.no_text other)
