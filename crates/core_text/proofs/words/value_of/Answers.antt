use Rattle.core_text.proofs.Numerals.{IsUtf8-digits, value_read}
use Rattle.core_text.proofs.words.value_of.Goals as goal

pub returns-in-Ok : goal.returns-in-Ok
returns-in-Ok c = value_read c.args.bytes.now c.parse.result c.ok.result c.requires.digits c.requires.some (rw c.in-Ok.ensures.cases.0 at c.parse.ensures.value.0) c.ok.ensures.value

pub returns-in-Err : goal.returns-in-Err
returns-in-Err c = absurd (c.in-Err.ensures.cases.0 (IsUtf8-digits c.args.bytes.now c.requires.digits))
