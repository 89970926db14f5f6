use Rattle.rulep_decide.specs.Circuits.{nodes_of}
use Rattle.rulep_decide.proofs.Searching.{unfit_refutes}
use Rattle.rulep_decide.proofs.search.outcome_at.Goals as goal

pub returns-in-None-open_part : goal.returns-in-None-open_part
returns-in-None-open_part c =
    unfit_refutes (nodes_of c.args.circuit.now) c.args.trail.now c.in_ok-values.values.items c.in-Some.i c.requires c.in-Some.ensures.within
    c.in_ok-values.ensures.count c.in_ok-values.ensures.keeps c.in-None-open_part.ensures c.in-Some.ensures.fits
