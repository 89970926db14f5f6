use Rattle.tps_print.proofs.Readable.{has_formula_text}
use Rattle.tps_print.proofs.laws.printed_formulas.Goals as goal

pub returns : goal.returns
returns c = has_formula_text
