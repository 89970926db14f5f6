use Rattle.std.proofs.Common.{◌∙◌, ap, sym}
use Rattle.tps_reader.specs.Depth.{depth_of}
use Rattle.tps_reader.proofs.Grouping.{only_depth}
use Rattle.tps_reader.proofs.tokens.Tokens.depth.Goals as goal

pub returns-clause-only : goal.returns-clause-only
returns-clause-only c = only_depth c.args.self.now c.self.inside.depth (c.self.invariant ∙ ap depth_of c.self.view_is)
