use Rattle.std.proofs.Common.{◌≡◌, ◌++◌, All, length}
use Rattle.core_text.specs.Forms.{AreWellSpelled, IsWellSpelled}
use Rattle.core_text.specs.Open.{layout_of_items}
use Rattle.core_text.specs.Placed.{form_of, forms, layout_of_all, placed_all}
use Rattle.core_text.proofs.brackets.members.Given as goal

abbrev pub invariant-loop-last : goal.invariant-loop-last
invariant-loop-last l = record {
  spelled : layout_of_items l.items.items ++ layout_of_all (placed_all l.all) ≡ layout_of_items l.fn.items.items;
  good : All (λ s. IsWellSpelled (form_of s)) l.fn.items.items → All (λ s. IsWellSpelled (form_of s)) l.items.items × AreWellSpelled (forms (placed_all l.all));
}

abbrev pub decreases-loop-last : goal.decreases-loop-last
decreases-loop-last l = length l.items.items
