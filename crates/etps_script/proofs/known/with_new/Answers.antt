use Rattle.hol_terms.specs.Terms.{plain_type}
use Rattle.etps_script.proofs.Tallying.{tallied_more}
use Rattle.etps_script.proofs.known.with_new.Goals as goal

pub returns-clause-tallied : goal.returns-clause-tallied
returns-clause-tallied c =
    let fresh = rw c.truth.ensures at c.in_ok-is_new.ensures.put in
    let there = rw c.truth.ensures at c.in_ok-is_new.ensures.known in
    tallied_more c.args.tally.variables c.push.new.self c.args.tally.names c.insert.new.self c.args.tally.shared c.mark_if.new.set c.args.name.now (plain_type c.args.ty.now)
    c.in_ok-is_new.is_new c.requires.tallied c.requires.new (rw (c.in_ok-name.ensures, c.in_ok-ty.ensures) at c.in_ok-push.ensures.ok) fresh there c.in_ok-mark_if.ensures
