use Rattle.std.specs.String.{string_bytes}
use Rattle.hol_terms.proofs.Collecting.{encoded_more}
use Rattle.hol_terms.proofs.variables.write_characters.Goals as goal

pub loop-c-preserved : goal.loop-c-preserved
loop-c-preserved c =
    encoded_more c.args.characters.now c.loop-c.c-index c.c-item.result (string_bytes c.args.key.now) (string_bytes c.loop-c.key) (string_bytes c.push.new.self)
    c.loop-c-test.true c.c-item.is c.loop-c.invariant c.in_ok-push.ensures.bytes
