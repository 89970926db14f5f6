-- A trail: values of nodes, one after another. The lists here have the newest step first. A decided step was chosen, each other
-- one is forced by those before it.
use Rattle.std.specs.Prelude.{ℕ, zero, suc, ◌+◌, ◌-◌, ◌<◌, ◌≤◌, List, [], ◌∷◌, length, reverse, Bool, true, false, not, IsTrue, cond, slice_get, ◌≡◌, ◌⊎◌, Some, None}
use Rattle.std.specs.declared.option.Option.{Option}
use Rattle.rulep_decide.specs.declared.trails.Step.{Step}
use Rattle.rulep_decide.specs.declared.trails.Trail.{Trail}
use Rattle.rulep_decide.specs.Circuits.{Node, IsValuation}

-- the steps of a trail, the newest first
abbrev pub steps_of : Trail → List Step
steps_of trail = reverse trail.steps.items

-- some step gives that value to the node
abbrev pub Has : List Step → ℕ → Bool → Type 0
Has [] i b = ⊥
Has (s ∷ rest) i b = ((s.node ≡ i) × (s.value ≡ b)) ⊎ Has rest i b

-- the values are those of all steps
abbrev pub Agrees : (ℕ → Bool) → List Step → Type 0
Agrees w [] = Unit {0}
Agrees w (s ∷ rest) = (w s.node ≡ s.value) × Agrees w rest

-- values that fit the nodes and agree with the steps give that value to the node
pub record Forces (nodes : List Node) (steps : List Step) (i : ℕ) (b : Bool) : Type 0 where
  pub forced : (w : ℕ → Bool) → IsValuation w nodes → Agrees w steps → w i ≡ b

-- values that fit the nodes and agree with the steps are equal at the two nodes
pub record Equates (nodes : List Node) (steps : List Step) (i j : ℕ) : Type 0 where
  pub equal : (w : ℕ → Bool) → IsValuation w nodes → Agrees w steps → w i ≡ w j

-- no values that fit the nodes agree with the steps
pub record Refutes (nodes : List Node) (steps : List Step) : Type 0 where
  pub refuted : (w : ℕ → Bool) → IsValuation w nodes → Agrees w steps → ⊥

-- each step that wasn't decided is forced by the older ones
abbrev pub IsSound : List Node → List Step → Type 0
IsSound nodes [] = Unit {0}
IsSound nodes (s ∷ rest) = (IsTrue s.decided ⊎ Forces nodes rest s.node s.value) × IsSound nodes rest

-- the steps from the newest decided one on are taken back, and that one is turned
abbrev pub turned : Step → Step
turned s = record { node = s.node; value = not s.value; decided = false }

abbrev pub undone : List Step → Option (List Step)
undone [] = None
undone (s ∷ rest) = cond s.decided (Some (turned s ∷ rest)) (undone rest)

-- how many turns of a search are left: each decided step with that room above it can be turned once
abbrev pub three_to : ℕ → ℕ
three_to zero = 1
three_to (suc n) = three_to n + three_to n + three_to n

abbrev pub turns_held : ℕ → List Step → ℕ
turns_held room [] = 0
turns_held room (s ∷ rest) = cond s.decided (three_to room) 0 + turns_held (suc room) rest

abbrev pub turns_left : ℕ → List Step → ℕ
turns_left count steps = three_to (count - length steps) + turns_held (count - length steps) steps

-- the number of nodes without a value
abbrev pub count_open : List (Option Bool) → ℕ
count_open [] = 0
count_open (None ∷ rest) = suc (count_open rest)
count_open (Some b ∷ rest) = count_open rest

-- each node of a step is one of so many
abbrev pub AreWithin : ℕ → List Step → Type 0
AreWithin count [] = Unit {0}
AreWithin count (s ∷ rest) = (s.node < count) × AreWithin count rest

-- the table has only values of steps, and room for the steps to come
pub record IsTable (values : List (Option Bool)) (steps : List Step) : Type 0 where
  pub within : AreWithin (length values) steps
  pub known : (i : ℕ) (b : Bool) → slice_get values i ≡ Some (Some b) → Has steps i b
  pub room : length steps + count_open values ≤ length values

abbrev pub IsTrail : Trail → Type 0
IsTrail trail = IsTable trail.values.items (steps_of trail)

abbrev pub forced_step : ℕ → Bool → Step
forced_step i b = record { node = i; value = b; decided = false }

abbrev pub decided_step : ℕ → Bool → Step
decided_step i b = record { node = i; value = b; decided = true }

-- the step was added, where there was room for it, or nothing was
abbrev pub IsAddedTo : List Step → ℕ → Step → List Step → Type 0
IsAddedTo old count s new = (new ≡ old) ⊎ ((new ≡ s ∷ old) × (length old < count))
