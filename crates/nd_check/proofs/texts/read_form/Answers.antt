use Rattle.std.proofs.Common.{map}
use Rattle.nd_rules.specs.Lines.{plain_line}
use Rattle.nd_check.specs.Views.{plain_parts}
use Rattle.nd_check.proofs.Table.{parts_outline}
use Rattle.nd_check.proofs.texts.read_form.Goals as goal

pub outline_of-requires : goal.outline_of-requires
outline_of-requires c =
    let judged = rw c.as_slice.ensures.value at c.in-Ok.ensures in
    parts_outline (plain_parts c.in_ok-parts.parts) (map plain_line c.in_ok-lines.lines.items) tt c.in_ok-lines.ensures judged
