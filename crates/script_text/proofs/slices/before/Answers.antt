use Rattle.script_text.proofs.Slicing.{take_tokens}
use Rattle.script_text.proofs.slices.before.Goals as goal

pub returns : goal.returns
returns c = take_tokens c.args.at c.args.lexemes.now
