-- Terms that are put in, terms that are there, and the first nodes of a store.
use Rattle.std.proofs.Common.{ℕ, zero, suc, ◌+◌, ◌<◌, ◌≤◌, List, [], ◌∷◌, ◌++◌, length, get_or, take, drop, slice_get, map, Some, None, ◌||◌, Bool, true, false, not, if◌then◌else◌, ◌≡◌, refl, ap, ap₂, sym, subst, ◌∙◌, arith}
use Rattle.std.proofs.lemmas.List.{append_assoc, append-nil, map-append, take-append-drop, take-append-le, take-map, take_all, length-take-le}
use Rattle.std.proofs.lemmas.Option.{slice_get-get_or}
use Rattle.std.specs.List.{list_any, position_or_len, IsDistinct, AllByRecursion}
use Rattle.hol_terms.specs.Terms.{Term, free, bound, constant, application, abstraction}
use Rattle.indexmap.specs.IndexSet.{insert_key}
use Rattle.terms_db.specs.declared.nodes.Node.{Node}
use Rattle.terms_db.specs.Nodes.{plain_node, TermNode, node_free, node_bound, node_constant, node_application, node_abstraction, same_node}
use Rattle.terms_db.specs.Equalities.{same_node_only, same_node_refl}
use Rattle.terms_db.specs.Loose.{loose_bound, loose_bounds}
use Rattle.terms_db.specs.Stores.{term_of_node, terms_after, terms_of, term_at, PointsBelow, PointsBack, IsStore, IsLive, Grows, Placed, with_node, place_of, put_node, put_term}
use Rattle.terms_db.proofs.StoreLaws.{terms_after_append, grown_term, grows_on, made_of_node, parts_live, distinct_in, found_place, node_put_in, free_node_of, bound_node_of, constant_node_of, application_node_of, abstraction_node_of, bounds_length, PutIn, any_plain, place_plain, inserted_plain}

-- a term put in

abbrev pub IsPutIn : List TermNode → Term → Type 0
IsPutIn nodes t =
    let placed = put_term nodes t in Grows nodes placed.0 × IsStore placed.0 × IsLive placed.0 placed.1 × (term_at placed.0 placed.1 ≡ t)

pub term_put_in : (nodes : List TermNode) (t : Term) → IsStore nodes → IsPutIn nodes t
term_put_in nodes (free n s) store = node_put_in nodes (node_free n s) store tt
term_put_in nodes (bound i) store = node_put_in nodes (node_bound i) store tt
term_put_in nodes (constant c) store = node_put_in nodes (node_constant c) store tt
term_put_in nodes (application f a) store =
    let g = put_term nodes f in let b = put_term g.0 a in
    let function = term_put_in nodes f store in
    let argument = term_put_in g.0 a function.1 in
    let moved = grown_term g.0 b.0 g.1 argument.0 function.2 in
    let whole = node_put_in b.0 (node_application g.1 b.1) argument.1 (moved.0, argument.2) in
    let grown = grows_on nodes g.0 b.0 function.0 argument.0 in
    (grows_on nodes b.0 (with_node b.0 (node_application g.1 b.1)) grown whole.0, whole.1, whole.2, whole.3 ∙ ap₂ application (moved.1 ∙ function.3) argument.3)
term_put_in nodes (abstraction s b) store =
    let c = put_term nodes b in
    let body = term_put_in nodes b store in
    let whole = node_put_in c.0 (node_abstraction s c.1) body.1 body.2 in
    (grows_on nodes c.0 (with_node c.0 (node_abstraction s c.1)) body.0 whole.0, whole.1, whole.2, whole.3 ∙ ap (abstraction s) body.3)

-- a node that is there

any_there : (nodes : List TermNode) (i : ℕ) (n : TermNode) → slice_get nodes i ≡ Some n → list_any (same_node n) nodes ≡ true
any_there [] i n at = let e : None ≡ Some n = at in cc
any_there (m ∷ rest) zero n at =
    let here : Some m ≡ Some n = at in
    let is : m ≡ n = cc in
    ap (λ (b : Bool). b || list_any (same_node n) rest) (ap (same_node n) is ∙ same_node_refl n)
any_there (m ∷ rest) (suc i) n at = ap (λ (b : Bool). same_node n m || b) (any_there rest i n at) ∙ or_true (same_node n m)
  where
    or_true : (b : Bool) → (b || true) ≡ true
    or_true true = refl
    or_true false = refl

pub node_is_there : (nodes : List TermNode) (i : ℕ) (n : TermNode) → IsStore nodes → slice_get nodes i ≡ Some n → put_node nodes n ≡ (nodes, i)
node_is_there nodes i n store at =
    let there = any_there nodes i n at in
    let j = place_of nodes n in
    let found = found_place (same_node n) nodes (node_bound 0) there in
    let m = get_or nodes j (node_bound 0) in
    let found_at : slice_get nodes j ≡ Some m = slice_get-get_or nodes j (node_bound 0) found.0 in
    let is : n ≡ m = same_node_only n m found.1 in
    let same : j ≡ i = distinct_in nodes j i n store.1 (found_at ∙ sym (ap (λ (x : TermNode). Some x) is)) at in
    let stays : with_node nodes n ≡ nodes = ap (λ (c : Bool). if c then nodes else nodes ++ n ∷ []) there in
    ap₂ (λ (l : List TermNode) (k : ℕ). (l, k)) stays same

-- the node of a live place, with the term that it makes
record HasNode (nodes : List TermNode) (i : ℕ) (t : Term) : Type 0 where
  node : TermNode
  at : slice_get nodes i ≡ Some node
  made : term_of_node (terms_of nodes) node ≡ t

node_there : (nodes : List TermNode) (i : ℕ) (t : Term) → IsStore nodes → IsLive nodes i → term_at nodes i ≡ t → HasNode nodes i t
node_there nodes i t store live is =
    let n = get_or nodes i (node_bound 0) in
    let at : slice_get nodes i ≡ Some n = slice_get-get_or nodes i (node_bound 0) live in
    record { node = n; at = at; made = sym (made_of_node nodes i n store at) ∙ is }

there_as : (nodes : List TermNode) (i : ℕ) (n m : TermNode) → IsStore nodes → slice_get nodes i ≡ Some n → n ≡ m → put_node nodes m ≡ (nodes, i)
there_as nodes i n m store at is = node_is_there nodes i m store (at ∙ ap (λ (x : TermNode). Some x) is)

below_live : (nodes : List TermNode) (i k : ℕ) → IsLive nodes i → k < i → IsLive nodes k
below_live nodes i k live below = let l : i < length nodes = live in omega arith

term_there : (nodes : List TermNode) (t : Term) (i : ℕ) → IsStore nodes → IsLive nodes i → term_at nodes i ≡ t → put_term nodes t ≡ (nodes, i)
term_there nodes (free n s) i store live is =
    let h = node_there nodes i (free n s) store live is in there_as nodes i h.node (node_free n s) store h.at (free_node_of (terms_of nodes) n s h.node h.made)
term_there nodes (bound j) i store live is =
    let h = node_there nodes i (bound j) store live is in there_as nodes i h.node (node_bound j) store h.at (bound_node_of (terms_of nodes) j h.node h.made)
term_there nodes (constant c) i store live is =
    let h = node_there nodes i (constant c) store live is in there_as nodes i h.node (node_constant c) store h.at (constant_node_of (terms_of nodes) c h.node h.made)
term_there nodes (application f a) i store live is =
    let h = node_there nodes i (application f a) store live is in
    let parts = application_node_of (terms_of nodes) f a h.node h.made in
    let p = parts.0 in let q = parts.1 in
    let at : slice_get nodes i ≡ Some (node_application p q) = h.at ∙ ap (λ (x : TermNode). Some x) parts.2 in
    let below : PointsBelow i (node_application p q) = parts_live nodes i (node_application p q) store at in
    let function = term_there nodes f p store (below_live nodes i p live below.0) parts.3 in
    let argument = term_there nodes a q store (below_live nodes i q live below.1) parts.4 in
    ap (λ (g : Placed). let b = put_term g.0 a in put_node b.0 (node_application g.1 b.1)) function
    ∙ (ap (λ (b : Placed). put_node b.0 (node_application p b.1)) argument ∙ node_is_there nodes i (node_application p q) store at)
term_there nodes (abstraction s b) i store live is =
    let h = node_there nodes i (abstraction s b) store live is in
    let parts = abstraction_node_of (terms_of nodes) s b h.node h.made in
    let p = parts.0 in
    let at : slice_get nodes i ≡ Some (node_abstraction s p) = h.at ∙ ap (λ (x : TermNode). Some x) parts.1 in
    let below : PointsBelow i (node_abstraction s p) = parts_live nodes i (node_abstraction s p) store at in
    let body = term_there nodes b p store (below_live nodes i p live below) parts.2 in
    ap (λ (c : Placed). put_node c.0 (node_abstraction s c.1)) body ∙ node_is_there nodes i (node_abstraction s p) store at

pub term_is_there : (nodes : List TermNode) (i : ℕ) → IsStore nodes → IsLive nodes i → put_term nodes (term_at nodes i) ≡ (nodes, i)
term_is_there nodes i store live = term_there nodes (term_at nodes i) i store live refl

-- the first nodes

back_taken : (mark k : ℕ) (xs : List TermNode) → PointsBack k xs → PointsBack k (take mark xs)
back_taken zero k xs back = tt
back_taken (suc mark) k [] back = tt
back_taken (suc mark) k (n ∷ rest) back = (back.0, back_taken mark (k + 1) rest back.1)

all_taken : (P : TermNode → Type 0) (mark : ℕ) (xs : List TermNode) → AllByRecursion P xs → AllByRecursion P (take mark xs)
all_taken P zero xs all = tt
all_taken P (suc mark) [] all = tt
all_taken P (suc mark) (n ∷ rest) all = (all.0, all_taken P mark rest all.1)

distinct_taken : (mark : ℕ) (xs : List TermNode) → IsDistinct same_node xs → IsDistinct same_node (take mark xs)
unfolding IsDistinct
distinct_taken zero xs distinct = tt
distinct_taken (suc mark) [] distinct = tt
distinct_taken (suc mark) (n ∷ rest) distinct = (all_taken (λ m. same_node n m ≡ false) mark rest distinct.0, distinct_taken mark rest distinct.1)

pub store_taken : (mark : ℕ) (nodes : List TermNode) → IsStore nodes → IsStore (take mark nodes)
store_taken mark nodes store = (back_taken mark 0 nodes store.0, distinct_taken mark nodes store.1)

pub grows_back : (mark : ℕ) (nodes : List TermNode) → Grows (take mark nodes) nodes
grows_back mark nodes = (drop mark nodes, sym (take-append-drop mark nodes))

abbrev pub AreFirst : List TermNode → ℕ → Type 0
AreFirst nodes mark = IsStore (take mark nodes) × ((i : ℕ) → i < mark → IsLive (take mark nodes) i × (term_at (take mark nodes) i ≡ term_at nodes i))

pub first_nodes : (nodes : List TermNode) (mark : ℕ) → IsStore nodes → mark ≤ length nodes → AreFirst nodes mark
first_nodes nodes mark store within = (
  store_taken mark nodes store,
  λ i below.
      let taken : length (take mark nodes) ≡ mark = length-take-le mark nodes within in
      let live : i < length (take mark nodes) = omega arith in
      let grown = grown_term (take mark nodes) nodes i (grows_back mark nodes) live in (live, sym grown.1),
)

-- the bounds of loose indices as a store changes

later_terms : (earlier : List Term) (xs : List TermNode) → (more : List Term) × (terms_after earlier xs ≡ earlier ++ more)
later_terms earlier [] = ([], sym (append-nil earlier))
later_terms earlier (n ∷ rest) =
    let t = term_of_node earlier n in
    let later = later_terms (earlier ++ t ∷ []) rest in (t ∷ later.0, later.1 ∙ append_assoc earlier (t ∷ []) later.0)

pub bounds_taken : (mark : ℕ) (nodes : List TermNode) → mark ≤ length nodes → take mark (loose_bounds nodes) ≡ loose_bounds (take mark nodes)
bounds_taken mark nodes within =
    let first = take mark nodes in
    let later = later_terms (terms_of first) (drop mark nodes) in
    let whole : terms_of nodes ≡ terms_of first ++ later.0 =
    ap terms_of (sym (take-append-drop mark nodes)) ∙ (terms_after_append [] first (drop mark nodes) ∙ later.1) in
    let bounds : loose_bounds nodes ≡ loose_bounds first ++ map loose_bound later.0 =
    ap (map loose_bound) whole ∙ map-append loose_bound (terms_of first) later.0 in
    let taken : length first ≡ mark = length-take-le mark nodes within in
    let size : length (loose_bounds first) ≡ length first = bounds_length first in
    let many : mark ≡ length (loose_bounds first) = omega arith in
    ap (take mark) bounds ∙ (take-append-le mark (loose_bounds first) (map loose_bound later.0) (omega arith) ∙ take_all mark (loose_bounds first) (omega arith))

pub bounds_pushed : (nodes : List TermNode) (n : TermNode) → loose_bounds (nodes ++ n ∷ []) ≡ loose_bounds nodes ++ loose_bound (term_of_node (terms_of nodes) n) ∷ []
bounds_pushed nodes n = ap (map loose_bound) (terms_after_append [] nodes (n ∷ [])) ∙ map-append loose_bound (terms_of nodes) (term_of_node (terms_of nodes) n ∷ [])

-- what the fields of a store hold after a change

abbrev pub IsHeld : List Node → List ℕ → Type 0
IsHeld keys bounds = IsStore (map plain_node keys) × (bounds ≡ loose_bounds (map plain_node keys))

pub held_empty : (keys : List Node) (bounds : List ℕ) → keys ≡ [] → bounds ≡ [] → IsHeld keys bounds
unfolding IsDistinct
held_empty keys bounds none empty =
    let P : List Node → Type 0 = λ ks. IsHeld ks bounds in subst P (sym none) ((tt, tt), empty)

pub held_first : (mark : ℕ) (keys new : List Node) (bounds more : List ℕ) → IsHeld keys bounds → mark ≤ length (map plain_node keys)
    → new ≡ take mark keys → more ≡ take mark bounds → IsHeld new more
held_first mark keys new bounds more held within is left =
    let P : List TermNode → Type 0 = λ ns. IsStore ns × (more ≡ loose_bounds ns) in
    let nodes : map plain_node new ≡ take mark (map plain_node keys) = ap (map plain_node) is ∙ sym (take-map plain_node mark keys) in
    let first : more ≡ loose_bounds (take mark (map plain_node keys)) =
    left ∙ (ap (take mark) held.1 ∙ bounds_taken mark (map plain_node keys) within) in
    subst P (sym nodes) (store_taken mark (map plain_node keys) held.0, first)

pub nodes_first : (mark : ℕ) (keys new : List Node) (nodes : List TermNode) → map plain_node keys ≡ nodes → new ≡ take mark keys → map plain_node new ≡ take mark nodes
nodes_first mark keys new nodes view is = ap (map plain_node) is ∙ (sym (take-map plain_node mark keys) ∙ ap (take mark) view)

-- what they hold after a node is put in

pub put_nodes : (keys new : List Node) (v : Node) (nodes : List TermNode) → map plain_node keys ≡ nodes
    → new ≡ insert_key (λ a b. same_node (plain_node a) (plain_node b)) keys v → map plain_node new ≡ with_node nodes (plain_node v)
put_nodes keys new v nodes view is =
    ap (map plain_node) is ∙ (inserted_plain keys v ∙ ap (λ (ns : List TermNode). with_node ns (plain_node v)) view)

pub put_place : (keys : List Node) (v : Node) (nodes : List TermNode) (i j : ℕ) → map plain_node keys ≡ nodes
    → i ≡ j → j ≡ position_or_len (λ k. same_node (plain_node v) (plain_node k)) keys → i ≡ place_of nodes (plain_node v)
put_place keys v nodes i j view same is = same ∙ (is ∙ (place_plain keys v ∙ ap (λ (ns : List TermNode). place_of ns (plain_node v)) view))

pub put_as : (nodes new : List TermNode) (n : TermNode) (i : ℕ) → IsStore nodes → PointsBelow (length nodes) n → new ≡ with_node nodes n → i ≡ place_of nodes n → PutIn nodes n new i
put_as nodes new n i store below is place =
    let P : List TermNode → Type 0 = λ l. PutIn nodes n l i in
    let Q : ℕ → Type 0 = λ k. PutIn nodes n (with_node nodes n) k in
    subst P (sym is) (subst Q (sym place) (node_put_in nodes n store below))

bounds_put : (nodes : List TermNode) (n : TermNode) (bounds : List ℕ) (b : ℕ) (found : Bool) → list_any (same_node n) nodes ≡ found
    → bounds ≡ loose_bounds nodes → b ≡ loose_bound (term_of_node (terms_of nodes) n)
    → (if not found then bounds ++ b ∷ [] else bounds) ≡ loose_bounds (with_node nodes n)
bounds_put nodes n bounds b true found same is =
    same ∙ sym (ap loose_bounds (ap (λ (c : Bool). if c then nodes else nodes ++ n ∷ []) found))
bounds_put nodes n bounds b false found same is =
    ap₂ (λ (l : List ℕ) (k : ℕ). l ++ k ∷ []) same is
    ∙ (sym (bounds_pushed nodes n) ∙ sym (ap loose_bounds (ap (λ (c : Bool). if c then nodes else nodes ++ n ∷ []) found)))

pub held_put : (keys new : List Node) (v : Node) (nodes : List TermNode) (bounds more : List ℕ) (b : ℕ) (fresh : Bool) → IsHeld keys bounds
    → map plain_node keys ≡ nodes → PointsBelow (length nodes) (plain_node v) → new ≡ insert_key (λ a b. same_node (plain_node a) (plain_node b)) keys v
    → b ≡ loose_bound (term_of_node (terms_of nodes) (plain_node v)) → fresh ≡ not (list_any (λ k. same_node (plain_node v) (plain_node k)) keys)
    → more ≡ (if fresh then bounds ++ b ∷ [] else bounds) → IsHeld new more
held_put keys new v nodes bounds more b fresh held view below is least there pushed =
    let n = plain_node v in
    let P : List TermNode → Type 0 = λ ns. IsStore ns × (bounds ≡ loose_bounds ns) in
    let old = subst P view held in
    let e = put_nodes keys new v nodes view is in
    let found : list_any (λ k. same_node n (plain_node k)) keys ≡ list_any (same_node n) nodes = any_plain keys v ∙ ap (list_any (same_node n)) view in
    let choice : fresh ≡ not (list_any (same_node n) nodes) = there ∙ ap not found in
    let Q : List TermNode → Type 0 = λ ns. IsStore ns × (more ≡ loose_bounds ns) in
    let kept = node_put_in nodes n old.0 below in
    let all = bounds_put nodes n bounds b (list_any (same_node n) nodes) refl old.1 least in
    subst Q (sym e) (kept.1, pushed ∙ (ap (λ (c : Bool). if c then bounds ++ b ∷ [] else bounds) choice ∙ all))
