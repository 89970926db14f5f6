-- The paths of a matrix: lists of leaf numbers.
use Rattle.std.specs.Prelude.{ℕ, ◌≤◌, List, [], ◌∷◌, ◌++◌, map}
use Rattle.expansion_tree.specs.declared.matrices.Matrix.{Matrix}
use Rattle.expansion_tree.specs.declared.matrices.Matrix.TheVariants.{Leaf, Closed, Empty, Beside', Above'}

-- each path of the first list joined with each of the second, the first one's path varying slowest
abbrev pub joined : List (List ℕ) → List (List ℕ) → List (List ℕ)
joined [] qs = []
joined (p ∷ ps) qs = map (λ q. p ++ q) qs ++ joined ps qs

-- the paths of a matrix, in their order
abbrev pub matrix_paths : Matrix → List (List ℕ)
matrix_paths (Leaf n) = (n ∷ []) ∷ []
matrix_paths Closed = []
matrix_paths Empty = [] ∷ []
matrix_paths (Beside' p a q b) = matrix_paths a ++ matrix_paths b
matrix_paths (Above' p a q b) = joined (matrix_paths a) (matrix_paths b)

-- each leaf number is from 1 to n
abbrev pub IsNumberedTo : ℕ → Matrix → Type 0
IsNumberedTo n (Leaf k) = (1 ≤ k) × (k ≤ n)
IsNumberedTo n Closed = Unit {0}
IsNumberedTo n Empty = Unit {0}
IsNumberedTo n (Beside' p a q b) = IsNumberedTo n a × IsNumberedTo n b
IsNumberedTo n (Above' p a q b) = IsNumberedTo n a × IsNumberedTo n b
