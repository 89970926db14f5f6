-- How many forms stand in a form.
use Rattle.std.proofs.Common.{ℕ, ◌+◌}
use Rattle.core_text.specs.Placed.{Placed, word_at, number_at, list_at, PlacedAll, none_at, more_at}

abbrev mutual
  pub form_count : Placed → ℕ
  form_count (word_at w k) = 1
  form_count (number_at n k) = 1
  form_count (list_at ps k) = all_count ps + 1

  pub all_count : PlacedAll → ℕ
  all_count none_at = 0
  all_count (more_at p ps) = form_count p + all_count ps
