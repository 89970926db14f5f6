-- Laws of stores, which the layers above rest on. Each is the clause of a function of the module `laws`.
use Rattle.std.specs.Prelude.{ℕ, ◌<◌, ◌≤◌, List, length, take, slice_get, Some, true, ◌≡◌, ◌↔◌}
use Rattle.hol_terms.specs.Terms.{Term}
use Rattle.hol_terms.specs.Indices.{IsClosedBelow}
use Rattle.terms_db.specs.Nodes.{TermNode, same_node}
use Rattle.terms_db.specs.Stores.{terms_of, term_at, term_of_node, PointsBelow, IsStore, IsLive, Grows, with_node, place_of, put_term}
use Rattle.terms_db.specs.Loose.{loose_bound}

-- the test decides equality of nodes
abbrev pub SameNodeDecides : Type 0
SameNodeDecides = (n m : TermNode) → (same_node n m ≡ true) ↔ (n ≡ m)

-- live places are equal exactly where their terms are
abbrev pub EqualWhereTermsAre : Type 0
EqualWhereTermsAre = (nodes : List TermNode) (i j : ℕ) → IsStore nodes → IsLive nodes i → IsLive nodes j → ((i ≡ j) ↔ (term_at nodes i ≡ term_at nodes j))

-- a live place's term is made of its node by the terms of the node's parts
abbrev pub TermOfNode : Type 0
TermOfNode = (nodes : List TermNode) (i : ℕ) (n : TermNode) → IsStore nodes → slice_get nodes i ≡ Some n → term_at nodes i ≡ term_of_node (terms_of nodes) n

-- the parts of a live place's node are live
abbrev pub PartsAreLive : Type 0
PartsAreLive = (nodes : List TermNode) (i : ℕ) (n : TermNode) → IsStore nodes → slice_get nodes i ≡ Some n → PointsBelow i n

-- a store that grows keeps its live places and their terms
abbrev pub GrowingKeepsTerms : Type 0
GrowingKeepsTerms = (old new : List TermNode) (i : ℕ) → Grows old new → IsLive old i → IsLive new i × (term_at new i ≡ term_at old i)

abbrev pub GrowingJoins : Type 0
GrowingJoins = (old middle new : List TermNode) → Grows old middle → Grows middle new → Grows old new

-- a node put in: the store grows by it alone, stays a store, and the node's place is live and has the node's term
abbrev pub NodePutIn : Type 0
NodePutIn =
    (nodes : List TermNode) (n : TermNode) → IsStore nodes → PointsBelow (length nodes) n
    → Grows nodes (with_node nodes n) × IsStore (with_node nodes n) × IsLive (with_node nodes n) (place_of nodes n)
    × (term_at (with_node nodes n) (place_of nodes n) ≡ term_of_node (terms_of nodes) n)

-- a term put in: the same
abbrev pub TermPutIn : Type 0
TermPutIn =
    (nodes : List TermNode) (t : Term) → IsStore nodes
    → let placed = put_term nodes t in Grows nodes placed.0 × IsStore placed.0 × IsLive placed.0 placed.1 × (term_at placed.0 placed.1 ≡ t)

-- a term of a live place adds nothing, and has that place
abbrev pub TermIsThere : Type 0
TermIsThere = (nodes : List TermNode) (i : ℕ) → IsStore nodes → IsLive nodes i → put_term nodes (term_at nodes i) ≡ (nodes, i)

-- the first nodes of a store are one, and their terms stay
abbrev pub FirstNodes : Type 0
FirstNodes =
    (nodes : List TermNode) (mark : ℕ) → IsStore nodes → mark ≤ length nodes
    → IsStore (take mark nodes) × ((i : ℕ) → i < mark → IsLive (take mark nodes) i × (term_at (take mark nodes) i ≡ term_at nodes i))

-- the bound of the loose indices is the least one
abbrev pub LooseBoundIsLeast : Type 0
LooseBoundIsLeast = (t : Term) (k : ℕ) → IsClosedBelow k t ↔ (loose_bound t ≤ k)
