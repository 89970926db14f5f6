-- What is found is an entry.
use Rattle.std.proofs.Common.{ℕ, List, Contains, ◌≡◌, ap, subst, ◌∙◌}
use Rattle.std.specs.Map.{lookup}
use Rattle.beta_eta.specs.Tables.{Entry}
use Rattle.beta_eta.proofs.Entries.{found_entry, same_key}
use Rattle.beta_eta.proofs.tables.Table.find.Goals as goal

pub returns-in-Some : goal.returns-in-Some
returns-in-Some c =
    let entries = c.self.inside.entries.entries in
    let P : List Entry → Type 0 = λ l. Contains l ((c.args.t.place, c.args.depth), c.at.result.place) in
    let key : lookup (same_key (c.place.result, c.args.depth)) entries ≡ lookup (same_key (c.args.t.place, c.args.depth)) entries =
    ap (λ (i : ℕ). lookup (same_key (i, c.args.depth)) entries) c.place.ensures in
    subst P c.self.view_is (found_entry entries c.args.t.place c.args.depth c.in-Some.place.now c.at.result.place (c.in-Some.ensures.value ∙ key) c.at.ensures)
