use Rattle.std.proofs.Common.{◌≡◌, ℕ, length, slice_index_or, []}
use Rattle.vertical_paths.specs.Partners.{row_lists}
use Rattle.vertical_paths.proofs.partners.empty_rows.Given as goal

abbrev pub invariant-loop : goal.invariant-loop
invariant-loop l = record {
  bound : length l.rows.items ≡ l.counter;
  rows : (leaf : ℕ) → slice_index_or (row_lists l.rows.items) leaf [] ≡ [];
}
