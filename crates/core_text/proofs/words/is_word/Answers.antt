use Rattle.std.proofs.Common.{sym, ◌∙◌, refl}
use Rattle.std.proofs.lemmas.Bool.{false_from_ne_true}
use Rattle.std.proofs.lemmas.Str.{IsUtf8-from_is_utf8, is_utf8-from_IsUtf8}
use Rattle.core_text.proofs.words.is_word.Goals as goal

pub returns-in-Err : goal.returns-in-Err
returns-in-Err c = rw (false_from_ne_true _ (λ h. c.in-Err.ensures.cases.0 (IsUtf8-from_is_utf8 c.args.bytes.now h))) refl

pub returns-then-is_short : goal.returns-then-is_short
returns-then-is_short c =
    let short = sym c.is_short.ensures ∙ c.if-is_short.true in
    rw (is_utf8-from_IsUtf8 c.args.bytes.now c.in-Ok.ensures.cases.1, rw c.in-Ok.ensures.cases.0 at short) (rw c.in-Ok.ensures.cases.0 at c.is_identifier.ensures)
