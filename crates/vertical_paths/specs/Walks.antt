-- A walk over the paths of a matrix that goes on leaf by leaf, and comes back to what it left out.
use Rattle.std.specs.Prelude.{◌≡◌, ℕ, ◌+◌, ◌-◌, ◌<◌, ◌≤◌, ◌==◌, if◌then◌else◌, List, [], ◌∷◌, ◌++◌, length, map, take, reverse, false, Vec}
use Rattle.std.specs.declared.alloc.Global.{Global}
use Rattle.expansion_tree.specs.declared.matrices.Matrix.{Matrix}
use Rattle.expansion_tree.specs.declared.matrices.Matrix.TheVariants.{Leaf, Closed, Empty, Beside', Above'}
use Rattle.expansion_tree.specs.Matrices.{joined, matrix_paths, IsNumberedTo}
use Rattle.vertical_paths.specs.declared.walk.Task.{Task}
use Rattle.vertical_paths.specs.declared.walk.Choice.{Choice}
use Rattle.vertical_paths.specs.declared.walk.Walk.{Walk}
use Rattle.vertical_paths.specs.Matings.{is_closed}
use Rattle.vertical_paths.specs.Partners.{AreCounts, ArePartnerRows}

-- each list after a prefix
abbrev pub behind : List ℕ → List (List ℕ) → List (List ℕ)
behind prefix paths = map (λ path. prefix ++ path) paths

-- the paths through one matrix after the other
abbrev pub paths_through : List Matrix → List (List ℕ)
paths_through [] = [] ∷ []
paths_through (m ∷ ms) = joined (matrix_paths m) (paths_through ms)

-- how many steps a walk takes at most through a matrix, where it takes as many as given through what comes after
abbrev pub steps : Matrix → ℕ → ℕ
steps (Leaf n) after = after + 1
steps Closed after = 1
steps Empty after = after + 1
steps (Beside' p a q b) after = steps a after + steps b after + 1
steps (Above' p a q b) after = steps a (steps b after) + 1

abbrev pub steps_through : List Matrix → ℕ
steps_through [] = 0
steps_through (m ∷ ms) = steps m (steps_through ms)

-- of tasks with the newest first, which are numbered from 1 in the order in which they came: the matrices of the task of a number,
-- of the one that it names as its rest, and so on down to 0
abbrev pub chain_in : List Task → ℕ → List Matrix
chain_in [] at = []
chain_in (task ∷ older) at = if at == length older + 1 then task.matrix.now ∷ chain_in older task.rest else chain_in older at

-- the same of tasks with the oldest first
abbrev pub chain : List Task → ℕ → List Matrix
chain tasks at = chain_in (reverse tasks) at

-- of tasks with the newest first: leaves have numbers up to n, and each names an older one as its rest, or 0
abbrev pub AreTasks : ℕ → List Task → Type 0
AreTasks n [] = Unit {0}
AreTasks n (task ∷ older) = IsNumberedTo n task.matrix.now × (task.rest ≤ length older) × AreTasks n older

-- the paths that choices left out, the newest choice first: where it was made there were fewer leaves and tasks
abbrev pub paths_left : List Task → List ℕ → List Choice → List (List ℕ)
paths_left tasks leaves [] = []
paths_left tasks leaves (choice ∷ older) =
    behind (take choice.leaves leaves) (paths_through (chain (take choice.at tasks) choice.at)) ++ paths_left (take choice.at tasks) (take choice.leaves leaves) older

abbrev pub steps_left : List Task → List Choice → ℕ
steps_left tasks [] = 0
steps_left tasks (choice ∷ older) = steps_through (chain (take choice.at tasks) choice.at) + steps_left (take choice.at tasks) older

-- choices with the newest first: none was made with more tasks or leaves than there are
abbrev pub AreChoices : ℕ → ℕ → List Choice → Type 0
AreChoices tasks leaves [] = Unit {0}
AreChoices tasks leaves (choice ∷ older) = (choice.at ≤ tasks) × (choice.leaves ≤ leaves) × AreChoices choice.at choice.leaves older

-- the paths through a task and those after it
abbrev pub paths_via : Walk → ℕ → List (List ℕ)
paths_via walk at = paths_through (chain walk.tasks.items at)

abbrev pub steps_via : Walk → ℕ → ℕ
steps_via walk at = steps_through (chain walk.tasks.items at)

-- the paths that choices of the walk left out
abbrev pub choice_paths : Walk → List (List ℕ)
choice_paths walk = paths_left walk.tasks.items walk.prefix.leaves.items (reverse walk.choices.items)

abbrev pub choice_steps : Walk → ℕ
choice_steps walk = steps_left walk.tasks.items (reverse walk.choices.items)

-- the paths still to be tried in their order, where the walked prefix can go on by the given ones
abbrev pub untried_by : Walk → List (List ℕ) → List (List ℕ)
untried_by walk paths = behind walk.prefix.leaves.items paths ++ choice_paths walk

abbrev pub untried : Walk → List (List ℕ)
untried walk = untried_by walk (paths_via walk walk.at)

abbrev pub steps_ahead : Walk → ℕ
steps_ahead walk = steps_via walk walk.at + choice_steps walk

-- a walk through tasks whose leaves have counts
pub record IsWalk (walk : Walk) : Type 0 where
  pub counts : AreCounts walk.prefix.counts.items walk.prefix.leaves.items
  pub some_count : 0 < length walk.prefix.counts.items
  pub tasks : AreTasks (length walk.prefix.counts.items - 1) (reverse walk.tasks.items)
  pub next : walk.at ≤ length walk.tasks.items
  pub choices : AreChoices (length walk.tasks.items) (length walk.prefix.leaves.items) (reverse walk.choices.items)

-- the walked prefix holds none of the pairs, whose partners stand in the rows
pub record IsOpenFor (pairs : List (ℕ × ℕ)) (rows : List (Vec ℕ Global)) (walk : Walk) : Type 0 where
  pub partners : ArePartnerRows (length walk.prefix.counts.items) pairs rows
  pub so_far : is_closed pairs walk.prefix.leaves.items ≡ false
