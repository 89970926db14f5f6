use Rattle.std.proofs.Common.{◌≡◌, ℕ, [], ◌∷◌, length}
use Rattle.expansion_tree.specs.Matrices.{IsNumberedTo, matrix_paths}
use Rattle.expansion_tree.specs.Stood.{AreNumberedTo, all_joined}
use Rattle.expansion_tree.proofs.fit.all_above.Given as goal

-- what is left, above what was made
abbrev pub invariant-loop-matrix : goal.invariant-loop-matrix
invariant-loop-matrix l = record {
  paths : all_joined l.rest.items (matrix_paths l.below) ≡ all_joined l.fn.matrices.items ([] ∷ []);
  numbered : (n : ℕ) → AreNumberedTo n l.fn.matrices.items → AreNumberedTo n l.rest.items × IsNumberedTo n l.below;
}

abbrev pub decreases-loop-matrix : goal.decreases-loop-matrix
decreases-loop-matrix l = length l.rest.items
