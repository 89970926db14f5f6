use Rattle.std.proofs.Common.{length, ◌<◌, ◌≡◌, sym, ◌∙◌, ap, List, ℕ, [], get_or, Vec, Global}
use Rattle.std.proofs.lemmas.List.{map-set, get_or-map, length-map}
use Rattle.vertical_paths.specs.Partners.{row_lists}
use Rattle.vertical_paths.proofs.Rows.{put_row}
use Rattle.vertical_paths.proofs.partners.put.Goals as goal

pub returns-in_ok-push-clause-row : goal.returns-in_ok-push-clause-row
returns-in_ok-push-clause-row c n h =
    let rows = row_lists c.args.rows.now.items in
    let list : Vec ℕ Global → List ℕ = λ row. row.items in
    let row = c.in-Some.row.now in
    let item = c.in-Some.ensures.item.3 in
    let within : c.args.leaf < length rows = rw (length-map c.args.rows.now.items list) item.0 in
    let same : row.items ≡ get_or rows c.args.leaf [] = ap list (item.1 row) ∙ sym (get_or-map list c.args.rows.now.items c.args.leaf row [] item.0) in
    rw (map-set list c.args.rows.now.items c.args.leaf c.push.new.self, c.in_ok-push.ensures.items) (put_row rows c.args.leaf c.args.partner row.items n within same)
