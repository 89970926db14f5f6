use Rattle.std.proofs.Common.{◌≡◌}
use Rattle.expansion_tree.specs.Matrices.{matrix_paths}
use Rattle.vertical_paths.specs.Matings.{first_open as first_open_of}
use Rattle.vertical_paths.specs.Walks.{IsWalk, IsOpenFor, untried, steps_ahead}
use Rattle.vertical_paths.proofs.walk.first_open_path.Given as goal

abbrev pub invariant-loop-walk : goal.invariant-loop-walk
invariant-loop-walk l = record {
  walk : IsWalk l.walk;
  prefix : IsOpenFor l.pairs l.rows.items l.walk;
  paths : first_open_of l.pairs (untried l.walk) ≡ first_open_of l.pairs (matrix_paths l.matrix);
}

abbrev pub decreases-loop-walk : goal.decreases-loop-walk
decreases-loop-walk l = steps_ahead l.walk
