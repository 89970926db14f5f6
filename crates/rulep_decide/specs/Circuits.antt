-- Formulas as a list of numbered nodes, in which equal atoms are one node. A node's number is the number of the nodes that were
-- there before it, and its parts have lower numbers. The lists here have the newest node first.
use Rattle.std.specs.Prelude.{ℕ, zero, suc, ◌<◌, ◌≤◌, List, [], ◌∷◌, ◌++◌, length, map, reverse, Bool, true, false, not, ◌&&◌, eqb, cond, ◌≡◌, ◌≢◌, Some, None, nat_eq, All, Contains}
use Rattle.std.specs.HashMap.{HashMap, get}
use Rattle.std.specs.declared.option.Option.{Option}
use Rattle.hol_terms.specs.Terms.{Term, plain_term}
use Rattle.hol_terms.specs.Truth.{IsAtom}
use Rattle.rulep_decide.specs.Fingerprints.{fingerprint_of}
use Rattle.rulep_decide.specs.declared.circuits.Gate.{Gate}
use Rattle.rulep_decide.specs.declared.circuits.Gate.TheVariants.{Atom, Always, Not, And, Demand}
use Rattle.rulep_decide.specs.declared.circuits.Circuit.{Circuit}

-- an atom, TRUTH, the negation of a node, the conjunction of two, or the demand that a node has a value
pub data Node : Type 0 where
  atom : Term → Node
  always : Node
  opposite : ℕ → Node
  both : ℕ → ℕ → Node
  demand : ℕ → Bool → Node

abbrev pub plain_gate : Gate → Node
plain_gate (Atom t) = atom (plain_term t.now)
plain_gate Always = always
plain_gate (Not i) = opposite i
plain_gate (And i j) = both i j
plain_gate (Demand i b) = demand i b

-- the nodes of a circuit, the newest first
abbrev pub nodes_of : Circuit → List Node
nodes_of circuit = reverse (map plain_gate circuit.gates.items)

-- the node with that number
abbrev pub node_at : List Node → ℕ → Option Node
node_at [] i = None
node_at (n ∷ rest) i = cond (eqb i (length rest)) (Some n) (node_at rest i)

-- the value of a node from those of the nodes before it; a demand has none of its own
abbrev pub node_value : (Term → Bool) → (ℕ → Bool) → Node → Bool
node_value is_true w (atom a) = is_true a
node_value is_true w always = true
node_value is_true w (opposite i) = not (w i)
node_value is_true w (both i j) = w i && w j
node_value is_true w (demand i b) = true

-- the value of the node with that number, where a test says which atoms are true
abbrev pub value : (Term → Bool) → List Node → ℕ → Bool
value is_true [] i = false
value is_true (n ∷ rest) i = cond (eqb i (length rest)) (node_value is_true (value is_true rest) n) (value is_true rest i)

abbrev pub same_value : Bool → Bool → Bool
same_value true b = b
same_value false b = not b

-- each demand is met
abbrev pub meets : (Term → Bool) → List Node → Bool
meets is_true [] = true
meets is_true (atom a ∷ rest) = meets is_true rest
meets is_true (always ∷ rest) = meets is_true rest
meets is_true (opposite i ∷ rest) = meets is_true rest
meets is_true (both i j ∷ rest) = meets is_true rest
meets is_true (demand i b ∷ rest) = same_value (value is_true rest i) b && meets is_true rest

-- the atom is no node yet
abbrev pub IsNew : Term → List Node → Type 0
IsNew a [] = Unit {0}
IsNew a (atom b ∷ rest) = (b ≢ a) × IsNew a rest
IsNew a (always ∷ rest) = IsNew a rest
IsNew a (opposite i ∷ rest) = IsNew a rest
IsNew a (both i j ∷ rest) = IsNew a rest
IsNew a (demand i b ∷ rest) = IsNew a rest

-- each atom is one node and is an atom, and parts stand before wholes
abbrev pub IsCircuit : List Node → Type 0
IsCircuit [] = Unit {0}
IsCircuit (atom a ∷ rest) = IsAtom a × IsNew a rest × IsCircuit rest
IsCircuit (always ∷ rest) = IsCircuit rest
IsCircuit (opposite i ∷ rest) = (i < length rest) × IsCircuit rest
IsCircuit (both i j ∷ rest) = (i < length rest) × (j < length rest) × IsCircuit rest
IsCircuit (demand i b ∷ rest) = (i < length rest) × IsCircuit rest

-- the parts of node i have lower numbers
abbrev pub HasPartsBelow : ℕ → Node → Type 0
HasPartsBelow i (atom a) = Unit {0}
HasPartsBelow i always = Unit {0}
HasPartsBelow i (opposite j) = j < i
HasPartsBelow i (both j k) = (j < i) × (k < i)
HasPartsBelow i (demand j b) = j < i

-- node i was added, or was there: it has that value, and the nodes and demands from before are as they were
pub record Adds (old new : List Node) (i : ℕ) (meaning : (Term → Bool) → Bool) : Type 0 where
  pub is_circuit : IsCircuit new
  pub longer : length old ≤ length new
  pub here : i < length new
  pub keeps : (is_true : Term → Bool) (j : ℕ) → j < length old → value is_true new j ≡ value is_true old j
  pub demands : (is_true : Term → Bool) → meets is_true new ≡ meets is_true old
  pub has_value : (is_true : Term → Bool) → value is_true new i ≡ meaning is_true

-- the atoms of the nodes are among these
abbrev pub HasAtomsAmong : List Term → List Node → Type 0
HasAtomsAmong atoms [] = Unit {0}
HasAtomsAmong atoms (atom a ∷ rest) = Contains atoms a × HasAtomsAmong atoms rest
HasAtomsAmong atoms (always ∷ rest) = HasAtomsAmong atoms rest
HasAtomsAmong atoms (opposite i ∷ rest) = HasAtomsAmong atoms rest
HasAtomsAmong atoms (both i j ∷ rest) = HasAtomsAmong atoms rest
HasAtomsAmong atoms (demand i b ∷ rest) = HasAtomsAmong atoms rest

-- the new nodes have no atoms but the old ones and those that were brought
pub record Brings (old new : List Node) (brought : List Term) : Type 0 where
  pub among : (atoms : List Term) → All (Contains atoms) brought → HasAtomsAmong atoms old → HasAtomsAmong atoms new

-- values of all nodes that fit those of their parts, and meet the demands

abbrev pub Fits : (ℕ → Bool) → ℕ → Node → Type 0
Fits w i (atom a) = Unit {0}
Fits w i always = w i ≡ true
Fits w i (opposite j) = w i ≡ not (w j)
Fits w i (both j k) = w i ≡ (w j && w k)
Fits w i (demand j b) = (w i ≡ true) × (w j ≡ b)

abbrev pub IsValuation : (ℕ → Bool) → List Node → Type 0
IsValuation w [] = Unit {0}
IsValuation w (n ∷ rest) = Fits w (length rest) n × IsValuation w rest

-- the true atoms among the first nodes, in their order

abbrev pub true_atom : Bool → Option Node → List Term
true_atom b None = []
true_atom b (Some (atom a)) = cond b (a ∷ []) []
true_atom b (Some always) = []
true_atom b (Some (opposite i)) = []
true_atom b (Some (both i j)) = []
true_atom b (Some (demand i c)) = []

abbrev pub true_atoms : (ℕ → Bool) → List Node → ℕ → List Term
true_atoms w nodes zero = []
true_atoms w nodes (suc i) = true_atoms w nodes i ++ true_atom (w i) (node_at nodes i)

-- the map has the number that is computed from each atom
abbrev pub AreIndexed : {S : Type 0} → HashMap ℕ ℕ S → List Node → Type 0
AreIndexed places nodes = (i : ℕ) (a : Term) → node_at nodes i ≡ Some (atom a) → get nat_eq places (fingerprint_of a) ≢ None

pub record IsNumbered (circuit : Circuit) : Type 0 where
  pub in_order : IsCircuit (nodes_of circuit)
  pub indexed : AreIndexed circuit.places (nodes_of circuit)
