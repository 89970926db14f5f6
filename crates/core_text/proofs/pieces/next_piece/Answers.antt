use Rattle.std.proofs.Common.{◌∙◌, ◌<◌, length, arith}
use Rattle.core_text.proofs.Runs.{word_piece, grows}
use Rattle.core_text.proofs.pieces.next_piece.Goals as goal

pub returns-clause-some : goal.returns-clause-some
returns-clause-some c =
    let at = c.white_end-at.result in
    let end = c.word_end-end.result in
    let xs = c.args.bytes.now in
    let inside : at < length xs = omega (arith, c.white_end-at.ensures.range.1) in
    let more = grows xs at end inside c.word_end-end.ensures.range.0 (c.white_end-at.ensures.stop inside) c.if-bytes-at-eq40.false c.if-bytes-at-eq41.false c.word_end-end.ensures.stop in
    c.white_end-at.ensures.same ∙ word_piece c.args.bytes.now at end more (c.word_end-end.ensures.range.1) c.word_end-end.ensures.word c.word_end-end.ensures.stop
