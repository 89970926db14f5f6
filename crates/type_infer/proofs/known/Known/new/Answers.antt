use Rattle.hol_terms.specs.Terms.{plain_type}
use Rattle.type_infer.proofs.Knowing.{tells_more}
use Rattle.type_infer.proofs.known.Known.new.Goals as goal

pub loop-i-preserved : goal.loop-i-preserved
loop-i-preserved c =
    tells_more c.args.variables.now c.loop-i.names c.insert.new.self c.loop-i.places.items c.push_if.new.places.items
    (c.at.result.0.now, plain_type c.at.result.1.now) c.loop-i.i c.in_ok-new.new c.loop-i.invariant c.at.ensures
    (rw (c.truth.ensures) at c.in_ok-new.ensures.put) (rw (c.truth.ensures) at c.in_ok-new.ensures.known) c.in_ok-push_if.ensures
