use Rattle.std.proofs.Common.{◌+◌, ◌≤◌, ◌∙◌, ap₂, arith, length, take, sym}
use Rattle.std.specs.Prelude.{encode_utf8_all}
use Rattle.tps_reader.proofs.Cutting.{bytes_next, bytes_upto}
use Rattle.tps_reader.proofs.cuts.byte_length.Goals as goal

pub overflow_add-sum : goal.overflow_add-sum
overflow_add-sum c =
    let cs = c.args.characters.now in
    let i = c.loop-c.c-index in
    let next = bytes_next cs i c.c-item.result c.loop-c-test.true c.c-item.is in
    let upto : length (encode_utf8_all (take (i + 1) cs)) ≤ length (encode_utf8_all cs) = bytes_upto cs (i + 1) in
    omega (arith, next, upto, c.loop-c.invariant, c.len_utf8.ensures.len, c.requires)

pub loop-c-preserved : goal.loop-c-preserved
loop-c-preserved c =
    let next = bytes_next c.args.characters.now c.loop-c.c-index c.c-item.result c.loop-c-test.true c.c-item.is in
    ap₂ (λ m n. m + n) c.loop-c.invariant c.len_utf8.ensures.len ∙ sym next
