use Rattle.std.proofs.Common.{List, ◌∙◌, sym, subst}
use Rattle.hol_terms.specs.Terms.{Variable}
use Rattle.etps_script.specs.Tallies.{AreAtOneType}
use Rattle.etps_script.proofs.Naming.{begins_same}
use Rattle.etps_script.proofs.known.with_formula.Goals as goal

pub returns-then-len-count-clause-collected : goal.returns-then-len-count-clause-collected
returns-then-len-count-clause-collected c =
    let new = c.in_ok-tally in
    let same = begins_same c.args.names.tally.variables new.tally.variables new.ensures.longer (sym c.len.ensures ∙ c.if-len-count.true ∙ c.len-count.ensures) in
    record {
      tallied = new.ensures.tallied;
      seen = new.ensures.seen;
      known = subst (λ (l : List Variable). AreAtOneType l c.args.names.known) (sym same) c.requires.known;
    }
