use Rattle.tps_cli.proofs.Generating.{lines_joined}
use Rattle.tps_cli.proofs.generate.lines_of.Goals as goal

pub returns : goal.returns
returns c =
    lines_joined _ _ _ _ _ _ _ _ _ _ _ _ _ c.new-out.ensures c.in_ok-append_figure.ensures c.in_ok-append_figure-2.ensures c.in_ok-append_figure-3.ensures
    c.in_ok-append_figure-4.ensures c.in_ok-append_figure-5.ensures c.in_ok-append.ensures.ok
