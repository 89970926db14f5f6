use Rattle.tps_cli.proofs.Generating.{summary_told}
use Rattle.tps_cli.proofs.generate.generate.Goals as goal

pub returns : goal.returns
returns c =
    let figures = c.figures_of-figures.result in
    summary_told c.args.n c.in_ok-accepted.accepted c.in_ok-lines_of.field-0 figures.leaves figures.pairs figures.occurrences figures.weight c.in_ok-accepted.ensures.accepted
    c.in_ok-accepted.ensures.figures c.figures_of-figures.ensures.leaves c.figures_of-figures.ensures.pairs c.figures_of-figures.ensures.occurrences
    c.figures_of-figures.ensures.weight c.in_ok-lines_of.ensures
