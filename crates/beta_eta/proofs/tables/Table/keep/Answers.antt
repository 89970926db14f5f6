-- Each entry is an old one or the new one.
use Rattle.std.proofs.Common.{ℕ, List, Contains, ◌⊎◌, ◌≡◌, ap₂, subst, ◌∙◌}
use Rattle.indexmap.specs.IndexMap.{insert_entry}
use Rattle.beta_eta.specs.Tables.{Entry}
use Rattle.beta_eta.proofs.Entries.{kept_entry, same_key}
use Rattle.beta_eta.proofs.tables.Table.keep.Goals as goal

pub returns-clause-kept : goal.returns-clause-kept
returns-clause-kept c = λ e contains.
    let entries = c.self.inside.entries.entries in
    let i = c.args.t.place in let k = c.args.depth in let r = c.args.kept.place in
    let with : ℕ → ℕ → List Entry = λ j v. insert_entry same_key entries (j, k) v in
    let is : c.insert.new.self.entries ≡ insert_entry same_key entries (i, k) r =
    c.in_ok-insert.ensures.entries ∙ ap₂ with c.place.ensures c.place-2.ensures in
    let P : List Entry → Type 0 = λ l. Contains l e ⊎ (e ≡ ((i, k), r)) in
    subst P c.self.view_is (kept_entry entries i k r e (subst (λ (l : List Entry). Contains l e) is contains))
