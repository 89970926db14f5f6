use Rattle.std.proofs.Common.{◌≡◌, ◌<◌, ℕ, length, take, slice_index_or, []}
use Rattle.vertical_paths.specs.Partners.{partners, row_lists}
use Rattle.vertical_paths.proofs.partners.partner_rows.Given as goal

abbrev pub invariant-loop-pair : goal.invariant-loop-pair
invariant-loop-pair l = record {
  bound : length l.rows.items ≡ l.bound;
  rows : (leaf : ℕ) → leaf < l.bound → slice_index_or (row_lists l.rows.items) leaf [] ≡ partners (take l.pair-index l.pairs) leaf;
}
