use Rattle.std.proofs.Common.{◌-◌, refl}
use Rattle.nd_rules.specs.Lines.{plain_line}
use Rattle.nd_check.proofs.Finishing.{last_split, last_place}
use Rattle.nd_check.proofs.verifying.conclusion.Goals as goal

pub returns : goal.returns
returns c =
    let lines = c.args.outline.now in
    let l = plain_line c.at.result.now in
    (l, last_split lines (c.len.result - 1) l (last_place lines c.len.result c.requires c.len.ensures.count) c.at.ensures.line, refl)
