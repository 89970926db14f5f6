use Rattle.std.proofs.Common.{◌∙◌, ◌++◌, ap, sym}
use Rattle.std.specs.Char.{encode_utf8}
use Rattle.tps_reader.proofs.Cutting.{encode_next}
use Rattle.script_text.proofs.variables.text_of.Goals as goal

pub loop-c-preserved : goal.loop-c-preserved
loop-c-preserved c =
    let next = encode_next c.args.characters.now c.loop-c.c-index c.c-item.result c.loop-c-test.true c.c-item.is in
    c.in_ok-push.ensures.bytes ∙ ap (λ l. l ++ encode_utf8 c.c-item.result) c.loop-c.invariant ∙ sym next
