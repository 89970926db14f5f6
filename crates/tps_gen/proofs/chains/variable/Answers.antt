use Rattle.std.proofs.Common.{◌∙◌, ℕ, List, Err, ap}
use Rattle.hol_terms.specs.Terms.{free, plain_type}
use Rattle.tps_gen.proofs.Letters.{letter_is_name, named_by_letter}
use Rattle.tps_gen.proofs.chains.variable.Goals as goal

pub unreachable-requires : goal.unreachable-requires
unreachable-requires c = letter_is_name c.args.letter.now c.requires (c.new.ensures.not_a_name (c.in-Err-NotAName.is ∙ ap Err c.in-Err-NotAName.field-0-is))

pub returns-in-Ok : goal.returns-in-Ok
returns-in-Ok c = ap (λ (n : List ℕ). free n (plain_type c.args.ty)) (named_by_letter c.in-Ok.name c.args.letter.now c.requires c.in-Ok.ensures.ok.0)
