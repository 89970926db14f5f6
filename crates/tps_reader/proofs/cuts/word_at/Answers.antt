use Rattle.std.proofs.Common.{arith, refl, sym}
use Rattle.unicode_ident.specs.Ident.{is_xid_continue}
use Rattle.tps_reader.proofs.Cutting.{bad_word_at, stops_at, word_at_is}
use Rattle.tps_reader.proofs.cuts.word_at.Goals as goal

pub returns-then-end-at-gt-LONGEST_WORD-clause-fault : goal.returns-then-end-at-gt-LONGEST_WORD-clause-fault
returns-then-end-at-gt-LONGEST_WORD-clause-fault c = λ _. (
  refl,
  bad_word_at c.args.characters.now c.args.at c.word_end-end.result (omega (arith, c.word_end-end.ensures.range)) c.word_end-end.ensures.range.1 c.requires.starts c.word_end-end.ensures.continues c.word_end-end.ensures.stop c.if-end-at-gt-LONGEST_WORD.true,
)

pub returns-clause-spelled : goal.returns-clause-spelled
returns-clause-spelled c = (
  sym c.in_ok-word.ensures.items,
  word_at_is c.args.characters.now c.args.at c.word_end-end.result c.requires.scalars (omega (arith, c.word_end-end.ensures.range)) c.word_end-end.ensures.range.1 c.requires.starts c.word_end-end.ensures.continues (omega (arith, c.if-end-at-gt-LONGEST_WORD.false)),
  stops_at is_xid_continue c.args.characters.now c.word_end-end.result c.word_end-end.ensures.stop,
)
