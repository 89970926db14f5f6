use Rattle.type_infer.proofs.Loads.{loaded_none}
use Rattle.type_infer.proofs.loading.Loading.new.Goals as goal

pub returns : goal.returns
returns c =
    loaded_none c.args.count c.in_ok-cells.cells.items c.new.result.items c.new-2.result c.new-3.result.items
    c.in_ok-cells.ensures c.new.ensures.items c.new-2.ensures c.new-3.ensures.items
