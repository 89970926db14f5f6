use Rattle.std.proofs.Common.{◌+◌, ◌-◌, ◌<◌, ◌∙◌, List, inl, inr, arith, ap, subst, sym, length, drop}
use Rattle.std.proofs.lemmas.Bool.Decides.{eqb_tells}
use Rattle.tps_reader.specs.Tokens.{Cuts, Token}
use Rattle.tps_reader.specs.Views.{plain_sign, plain_tokens}
use Rattle.tps_reader.proofs.Cutting.{bad_at, blank_at, bytes_cut, cut_more, tokens_push}
use Rattle.tps_reader.proofs.cuts.cut.Goals as goal

pub overflow_add-from : goal.overflow_add-from
overflow_add-from c =
    let range = c.white_end-start.ensures.range in
    let blank = blank_at c.args.characters.now c.loop-alloc.at c.white_end-start.result range.0 range.1 c.white_end-start.ensures.blank in
    omega (arith, blank, c.loop-alloc.invariant.bytes, c.ranges.total.fits)

pub returns-in-Err-clause-fault : goal.returns-in-Err-clause-fault
returns-in-Err-clause-fault c = λ real.
    let range = c.white_end-start.ensures.range in
    let found = c.in-Err.ensures.fault real in
    let inside : c.white_end-start.result < length c.args.characters.now = (elim (eqb_tells c.white_end-start.result (length c.args.characters.now)) [ inl h ↦ absurd (c.if-start-characters.false h.1) | inr h ↦ omega (arith, h.1, range.1) ]) in
    let from = c.loop-alloc.place + (c.white_end-start.result - c.loop-alloc.at) in
    (from, found.0, bad_at c.args.characters.now (plain_tokens c.loop-alloc.lexemes.items) c.loop-alloc.place c.loop-alloc.at c.white_end-start.result c.loop-alloc.invariant.cut range.0 inside c.white_end-start.ensures.blank (c.white_end-start.ensures.stop inside) found.1)

pub byte_length-length-requires : goal.byte_length-length-requires
byte_length-length-requires c =
    let range = c.white_end-start.ensures.range in
    let found = c.in-Ok.ensures.range in
    let bytes = bytes_cut c.args.characters.now c.loop-alloc.at c.white_end-start.result c.in-Ok.found.1 c.loop-alloc.place c.args.total c.loop-alloc.invariant.bytes range.0 (omega (arith, found.0)) found.1 c.white_end-start.ensures.blank in
    omega (arith, bytes, c.ranges.total.fits)

pub overflow_add-place : goal.overflow_add-place
overflow_add-place c =
    let range = c.white_end-start.ensures.range in
    let found = c.in-Ok.ensures.range in
    let bytes = bytes_cut c.args.characters.now c.loop-alloc.at c.white_end-start.result c.in-Ok.found.1 c.loop-alloc.place c.args.total c.loop-alloc.invariant.bytes range.0 (omega (arith, found.0)) found.1 c.white_end-start.ensures.blank in
    omega (arith, bytes, c.byte_length-length.ensures, c.ranges.total.fits)

pub loop-alloc-preserved : goal.loop-alloc-preserved
loop-alloc-preserved c =
    let cs = c.args.characters.now in
    let range = c.white_end-start.ensures.range in
    let found = c.in-Ok.ensures.range in
    let bytes = bytes_cut cs c.loop-alloc.at c.white_end-start.result c.in-Ok.found.1 c.loop-alloc.place c.args.total c.loop-alloc.invariant.bytes range.0 (omega (arith, found.0)) found.1 c.white_end-start.ensures.blank in
    let more = cut_more cs (plain_tokens c.loop-alloc.lexemes.items) c.loop-alloc.place c.loop-alloc.at c.white_end-start.result c.in-Ok.found.1 c.byte_length-length.result (plain_sign c.in-Ok.found.0) c.loop-alloc.invariant.cut range.0 (omega (arith, found.0)) found.1 c.white_end-start.ensures.blank c.in-Ok.ensures.spelled c.byte_length-length.ensures in
    record {
      within = found.1;
      bytes = omega (arith, bytes, c.byte_length-length.ensures);
      cut = subst (λ (ts : List Token). Cuts 0 cs ts (c.loop-alloc.place + (c.white_end-start.result - c.loop-alloc.at) + c.byte_length-length.result) (drop c.in-Ok.found.1 cs)) (sym (ap plain_tokens c.in_ok-push.ensures.items ∙ tokens_push c.loop-alloc.lexemes.items _)) more;
    }
