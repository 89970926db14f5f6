-- Stores of terms: lists of nodes without repeats, each of which points to earlier ones, and the terms of their nodes.
use Rattle.std.specs.Prelude.{ℕ, ◌+◌, ◌<◌, List, [], ◌∷◌, ◌++◌, length, slice_index_or, if◌then◌else◌, ◌≡◌}
use Rattle.std.specs.List.{list_any, position_or_len, IsDistinct}
use Rattle.hol_terms.specs.Terms.{Term, free, bound, constant, application, abstraction}
use Rattle.terms_db.specs.Nodes.{TermNode, node_free, node_bound, node_constant, node_application, node_abstraction, same_node}

-- the term of a place; index 0 beyond the end, which no clause speaks of
abbrev pub term_in : List Term → ℕ → Term
term_in terms i = slice_index_or terms i (bound 0)

-- the term of a node, by the terms of the places before it
abbrev pub term_of_node : List Term → TermNode → Term
term_of_node earlier (node_free n s) = free n s
term_of_node earlier (node_bound i) = bound i
term_of_node earlier (node_constant c) = constant c
term_of_node earlier (node_application f a) = application (term_in earlier f) (term_in earlier a)
term_of_node earlier (node_abstraction s b) = abstraction s (term_in earlier b)

-- the terms of the places, after those of earlier ones
abbrev pub terms_after : List Term → List TermNode → List Term
terms_after earlier [] = earlier
terms_after earlier (n ∷ rest) = terms_after (earlier ++ term_of_node earlier n ∷ []) rest

-- the terms of the places of a store
abbrev pub terms_of : List TermNode → List Term
terms_of nodes = terms_after [] nodes

-- the term of a place of a store
abbrev pub term_at : List TermNode → ℕ → Term
term_at nodes i = term_in (terms_of nodes) i

-- the node's parts stand before place k
abbrev pub PointsBelow : ℕ → TermNode → Type 0
PointsBelow k (node_free n s) = Unit {0}
PointsBelow k (node_bound i) = Unit {0}
PointsBelow k (node_constant c) = Unit {0}
PointsBelow k (node_application f a) = (f < k) × (a < k)
PointsBelow k (node_abstraction s b) = b < k

-- each node's parts stand before it, the first one having the place k
abbrev pub PointsBack : ℕ → List TermNode → Type 0
PointsBack k [] = Unit {0}
PointsBack k (n ∷ rest) = PointsBelow k n × PointsBack (k + 1) rest

-- a list of nodes without repeats, whose parts stand before them
abbrev pub IsStore : List TermNode → Type 0
IsStore nodes = PointsBack 0 nodes × IsDistinct same_node nodes

-- the place holds a node
abbrev pub IsLive : List TermNode → ℕ → Type 0
IsLive nodes i = i < length nodes

-- the old nodes stand first, as they were
abbrev pub Grows : List TermNode → List TermNode → Type 0
Grows old new = (more : List TermNode) × (new ≡ old ++ more)

-- the store with a node: where it is there already the store stays, and else it goes last
abbrev pub with_node : List TermNode → TermNode → List TermNode
with_node nodes n = if list_any (same_node n) nodes then nodes else nodes ++ n ∷ []

-- the place that the node has then
abbrev pub place_of : List TermNode → TermNode → ℕ
place_of nodes n = position_or_len (same_node n) nodes

-- a store with the place of a term in it
abbrev pub Placed : Type 0
Placed = List TermNode × ℕ

-- the store with a node, and the node's place
abbrev pub put_node : List TermNode → TermNode → Placed
put_node nodes n = (with_node nodes n, place_of nodes n)

-- the store with a term, whose parts go first, a function's before its argument's, and the term's place
abbrev pub put_term : List TermNode → Term → Placed
put_term nodes (free n s) = put_node nodes (node_free n s)
put_term nodes (bound i) = put_node nodes (node_bound i)
put_term nodes (constant c) = put_node nodes (node_constant c)
put_term nodes (application f a) =
    let g = put_term nodes f in let b = put_term g.0 a in put_node b.0 (node_application g.1 b.1)
put_term nodes (abstraction s b) = let c = put_term nodes b in put_node c.0 (node_abstraction s c.1)

-- for a place with this term: the store with the abstraction over a variable of the term's, with the body at another place, and its
-- place; the store as it is and the given place where the term is no abstraction
abbrev pub put_like : List TermNode → ℕ → Term → ℕ → Placed
put_like nodes like (abstraction s b) body = put_node nodes (node_abstraction s body)
put_like nodes like _ body = (nodes, like)
