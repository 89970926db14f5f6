use Rattle.std.proofs.Common.{refl, sym, ◌∙◌}
use Rattle.tps_reader.proofs.Cutting.{bad_numeral_at}
use Rattle.tps_reader.proofs.cuts.numeral_at.Goals as goal

pub returns-in-None-clause-fault : goal.returns-in-None-clause-fault
returns-in-None-clause-fault c = λ _. (
  refl,
  bad_numeral_at c.args.characters.now c.args.at c.digits_end-end.result c.requires.inside c.digits_end-end.ensures.range.0 c.digits_end-end.ensures.range.1 c.requires.digit c.digits_end-end.ensures.digits c.digits_end-end.ensures.stop (sym c.in_ok-number.ensures ∙ c.in-None.is),
)
