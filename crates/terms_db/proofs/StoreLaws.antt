-- The terms of a store: what is put in keeps them, and no two places have one term.
use Rattle.std.proofs.Common.{ℕ, zero, suc, ◌+◌, ◌-◌, ◌<◌, ◌≤◌, max, List, [], ◌∷◌, ◌++◌, length, get_or, IsTrue, slice_get, map, Some, None, Bool, true, false, not, ◌||◌, cond, if◌then◌else◌, ◌≡◌, ◌↔◌, refl, ap, ap₂, sym, subst, ◌∙◌, arith}
use Rattle.std.proofs.lemmas.List.{get_or_append_left, get_or-append-add, length-append, append_assoc, append-nil, map-append, length-map, get_or-map}
use Rattle.std.proofs.lemmas.Map.Keys.{IsDistinct-push}
use Rattle.std.specs.List.{list_any, position_or_len}
use Rattle.std.proofs.lemmas.Option.{slice_get-get_or, slice_get_read}
use Rattle.std.specs.List.{IsDistinct, AllByRecursion}
use mathlib.Core.Bool.{true≢false}
use Rattle.std.specs.Cmp.{both_ways}
use Rattle.hol_terms.specs.Terms.{SimpleType, Constant, Term, free, bound, constant, application, abstraction}
use Rattle.indexmap.specs.IndexSet.{insert_key}
use Rattle.terms_db.specs.declared.ids.TermId.{TermId}
use Rattle.terms_db.specs.declared.nodes.Node.{Node}
use Rattle.terms_db.specs.Nodes.{plain_node, TermNode, node_free, node_bound, node_constant, node_application, node_abstraction, same_node}
use Rattle.terms_db.specs.Equalities.{same_node_refl, same_node_only, same_node_equiv}
use Rattle.terms_db.specs.Loose.{loose_bound, loose_bounds}
use Rattle.hol_terms.specs.Indices.{IsClosedBelow}
use Rattle.terms_db.specs.Stores.{term_in, term_of_node, terms_after, terms_of, term_at, PointsBelow, PointsBack, IsStore, IsLive, Grows, with_node, place_of}

pub node_decided : (n m : TermNode) → (same_node n m ≡ true) ↔ (n ≡ m)
node_decided n m = (same_node_only n m, λ e. ap (same_node n) (sym e) ∙ same_node_refl n)

pub test_is_same : (b : Bool) (n m : TermNode) → (IsTrue b ↔ (n ≡ m)) → b ≡ same_node n m
test_is_same b n m h = both_ways b (same_node n m) (λ e. (node_decided n m).1 (h.0 e)) (λ e. h.1 (same_node_only n m e))

-- the terms of places that come later

pub terms_after_append : (earlier : List Term) (xs ys : List TermNode) → terms_after earlier (xs ++ ys) ≡ terms_after (terms_after earlier xs) ys
terms_after_append earlier [] ys = refl
terms_after_append earlier (n ∷ rest) ys = terms_after_append (earlier ++ term_of_node earlier n ∷ []) rest ys

pub length_terms_after : (earlier : List Term) (xs : List TermNode) → length (terms_after earlier xs) ≡ length earlier + length xs
length_terms_after earlier [] = omega arith
length_terms_after earlier (n ∷ rest) =
    let more : length (earlier ++ term_of_node earlier n ∷ []) ≡ length earlier + 1 = length-append earlier (term_of_node earlier n ∷ []) in
    let whole = length_terms_after (earlier ++ term_of_node earlier n ∷ []) rest in omega arith

pub length_terms_of : (xs : List TermNode) → length (terms_of xs) ≡ length xs
length_terms_of xs = let e : length (terms_of xs) ≡ 0 + length xs = length_terms_after [] xs in omega arith

-- a place that is there keeps its term
pub kept_in : (earlier : List Term) (xs : List TermNode) (i : ℕ) → i < length earlier → term_in (terms_after earlier xs) i ≡ term_in earlier i
kept_in earlier [] i lt = refl
kept_in earlier (n ∷ rest) i lt =
    let t = term_of_node earlier n in
    let more : length (earlier ++ t ∷ []) ≡ length earlier + 1 = length-append earlier (t ∷ []) in
    let within : i < length (earlier ++ t ∷ []) = omega arith in
    kept_in (earlier ++ t ∷ []) rest i within ∙ get_or_append_left earlier (t ∷ []) (bound 0) i lt

pub grown_term : (old new : List TermNode) (i : ℕ) → Grows old new → IsLive old i → IsLive new i × (term_at new i ≡ term_at old i)
grown_term old new i grows lt =
    let more = grows.0 in
    let longer : length new ≡ length old + length more = ap length grows.1 ∙ length-append old more in
    let live : i < length new = omega arith in
    let known : i < length (terms_of old) = subst (λ (n : ℕ). i < n) (sym (length_terms_of old)) lt in
    (live, ap (λ (nodes : List TermNode). term_at nodes i) grows.1 ∙ (ap (λ (ts : List Term). term_in ts i) (terms_after_append [] old more) ∙ kept_in (terms_of old) more i known))

-- the term of a node stays where its parts are there
pub node_kept : (earlier : List Term) (xs : List TermNode) (n : TermNode) → PointsBelow (length earlier) n → term_of_node (terms_after earlier xs) n ≡ term_of_node earlier n
node_kept earlier xs (node_free n s) below = refl
node_kept earlier xs (node_bound i) below = refl
node_kept earlier xs (node_constant c) below = refl
node_kept earlier xs (node_application f a) below = ap₂ application (kept_in earlier xs f below.0) (kept_in earlier xs a below.1)
node_kept earlier xs (node_abstraction s b) below = ap (abstraction s) (kept_in earlier xs b below)

-- the term of a place is made of its node
pub made_in : (earlier : List Term) (xs : List TermNode) (k i : ℕ) (n : TermNode) → k ≡ length earlier → PointsBack k xs → slice_get xs i ≡ Some n
    → term_in (terms_after earlier xs) (k + i) ≡ term_of_node (terms_after earlier xs) n
made_in earlier [] k i n same back at = let e : None ≡ Some n = at in cc
made_in earlier (m ∷ rest) k zero n same back at =
    let here : Some m ≡ Some n = at in
    let is : m ≡ n = cc in
    let t = term_of_node earlier m in
    let more : length (earlier ++ t ∷ []) ≡ length earlier + 1 = length-append earlier (t ∷ []) in
    let within : k + 0 < length (earlier ++ t ∷ []) = omega arith in
    let zeroth : k + 0 ≡ length earlier + 0 = omega arith in
    let below : PointsBelow (length earlier) m = subst (λ (j : ℕ). PointsBelow j m) same back.0 in
    kept_in (earlier ++ t ∷ []) rest (k + 0) within
    ∙ (ap (λ (j : ℕ). term_in (earlier ++ t ∷ []) j) zeroth
    ∙ (get_or-append-add earlier (t ∷ []) 0 (bound 0)
    ∙ (sym (node_kept earlier (m ∷ rest) m below) ∙ ap (term_of_node (terms_after earlier (m ∷ rest))) is)))
made_in earlier (m ∷ rest) k (suc i) n same back at =
    let t = term_of_node earlier m in
    let more : length (earlier ++ t ∷ []) ≡ length earlier + 1 = length-append earlier (t ∷ []) in
    let next : k + 1 ≡ length (earlier ++ t ∷ []) = omega arith in
    let moved : k + suc i ≡ (k + 1) + i = omega arith in
    ap (λ (j : ℕ). term_in (terms_after earlier (m ∷ rest)) j) moved ∙ made_in (earlier ++ t ∷ []) rest (k + 1) i n next back.1 at

pub made_of_node : (nodes : List TermNode) (i : ℕ) (n : TermNode) → IsStore nodes → slice_get nodes i ≡ Some n → term_at nodes i ≡ term_of_node (terms_of nodes) n
made_of_node nodes i n store at =
    let zeroth : i ≡ 0 + i = omega arith in ap (λ (j : ℕ). term_at nodes j) zeroth ∙ made_in [] nodes 0 i n refl store.0 at

-- the parts of a node stand before it
pub back_at : (xs : List TermNode) (k i : ℕ) (n : TermNode) → PointsBack k xs → slice_get xs i ≡ Some n → PointsBelow (k + i) n
back_at [] k i n back at = let e : None ≡ Some n = at in cc
back_at (m ∷ rest) k zero n back at =
    let here : Some m ≡ Some n = at in
    let is : m ≡ n = cc in
    let zeroth : k ≡ k + 0 = omega arith in
    subst (λ (x : TermNode). PointsBelow (k + 0) x) is (subst (λ (j : ℕ). PointsBelow j m) zeroth back.0)
back_at (m ∷ rest) k (suc i) n back at =
    let moved : (k + 1) + i ≡ k + suc i = omega arith in
    subst (λ (j : ℕ). PointsBelow j n) moved (back_at rest (k + 1) i n back.1 at)

pub parts_live : (nodes : List TermNode) (i : ℕ) (n : TermNode) → IsStore nodes → slice_get nodes i ≡ Some n → PointsBelow i n
parts_live nodes i n store at =
    let zeroth : 0 + i ≡ i = omega arith in subst (λ (j : ℕ). PointsBelow j n) zeroth (back_at nodes 0 i n store.0 at)

-- equal terms have one place

pub all_at : (P : TermNode → Type 0) (xs : List TermNode) (j : ℕ) (n : TermNode) → AllByRecursion P xs → slice_get xs j ≡ Some n → P n
all_at P [] j n all at = let e : None ≡ Some n = at in cc
all_at P (m ∷ rest) zero n all at = let here : Some m ≡ Some n = at in let is : m ≡ n = cc in subst P is all.0
all_at P (m ∷ rest) (suc j) n all at = all_at P rest j n all.1 at

apart : (m n : TermNode) → same_node m n ≡ false → m ≡ n → ⊥
apart m n differ e = true≢false (sym (ap (same_node m) (sym e) ∙ same_node_refl m) ∙ differ)

pub distinct_in : (xs : List TermNode) (i j : ℕ) (n : TermNode) → IsDistinct same_node xs → slice_get xs i ≡ Some n → slice_get xs j ≡ Some n → i ≡ j
unfolding IsDistinct
distinct_in [] i j n distinct at there = let e : None ≡ Some n = at in cc
distinct_in (m ∷ rest) zero zero n distinct at there = refl
distinct_in (m ∷ rest) zero (suc j) n distinct at there =
    let here : Some m ≡ Some n = at in let is : m ≡ n = cc in absurd (apart m n (all_at (λ y. same_node m y ≡ false) rest j n distinct.0 there) is)
distinct_in (m ∷ rest) (suc i) zero n distinct at there =
    let here : Some m ≡ Some n = there in let is : m ≡ n = cc in absurd (apart m n (all_at (λ y. same_node m y ≡ false) rest i n distinct.0 at) is)
distinct_in (m ∷ rest) (suc i) (suc j) n distinct at there = ap suc (distinct_in rest i j n distinct.1 at there)

-- a node by its term

pub free_node_of : (ts : List Term) (m : List ℕ) (s : SimpleType) (n : TermNode) → term_of_node ts n ≡ free m s → n ≡ node_free m s
free_node_of ts m s (node_free k r) e = let whole : free k r ≡ free m s = e in let a : k ≡ m = cc in let b : r ≡ s = cc in ap₂ node_free a b
free_node_of ts m s (node_bound i) e = let whole : bound i ≡ free m s = e in cc
free_node_of ts m s (node_constant c) e = let whole : constant c ≡ free m s = e in cc
free_node_of ts m s (node_application f a) e = let whole : application (term_in ts f) (term_in ts a) ≡ free m s = e in cc
free_node_of ts m s (node_abstraction r b) e = let whole : abstraction r (term_in ts b) ≡ free m s = e in cc

pub bound_node_of : (ts : List Term) (i : ℕ) (n : TermNode) → term_of_node ts n ≡ bound i → n ≡ node_bound i
bound_node_of ts i (node_free k r) e = let whole : free k r ≡ bound i = e in cc
bound_node_of ts i (node_bound j) e = let whole : bound j ≡ bound i = e in let a : j ≡ i = cc in ap node_bound a
bound_node_of ts i (node_constant c) e = let whole : constant c ≡ bound i = e in cc
bound_node_of ts i (node_application f a) e = let whole : application (term_in ts f) (term_in ts a) ≡ bound i = e in cc
bound_node_of ts i (node_abstraction r b) e = let whole : abstraction r (term_in ts b) ≡ bound i = e in cc

pub constant_node_of : (ts : List Term) (c : Constant) (n : TermNode) → term_of_node ts n ≡ constant c → n ≡ node_constant c
constant_node_of ts c (node_free k r) e = let whole : free k r ≡ constant c = e in cc
constant_node_of ts c (node_bound j) e = let whole : bound j ≡ constant c = e in cc
constant_node_of ts c (node_constant d) e = let whole : constant d ≡ constant c = e in let a : d ≡ c = cc in ap node_constant a
constant_node_of ts c (node_application f a) e = let whole : application (term_in ts f) (term_in ts a) ≡ constant c = e in cc
constant_node_of ts c (node_abstraction r b) e = let whole : abstraction r (term_in ts b) ≡ constant c = e in cc

pub application_node_of : (ts : List Term) (f a : Term) (n : TermNode) → term_of_node ts n ≡ application f a
    → (p : ℕ) × (q : ℕ) × (n ≡ node_application p q) × (term_in ts p ≡ f) × (term_in ts q ≡ a)
application_node_of ts f a (node_free k r) e = let whole : free k r ≡ application f a = e in cc
application_node_of ts f a (node_bound j) e = let whole : bound j ≡ application f a = e in cc
application_node_of ts f a (node_constant d) e = let whole : constant d ≡ application f a = e in cc
application_node_of ts f a (node_application p q) e =
    let whole : application (term_in ts p) (term_in ts q) ≡ application f a = e in
    let g : term_in ts p ≡ f = cc in let b : term_in ts q ≡ a = cc in (p, q, refl, g, b)
application_node_of ts f a (node_abstraction r b) e = let whole : abstraction r (term_in ts b) ≡ application f a = e in cc

pub abstraction_node_of : (ts : List Term) (s : SimpleType) (b : Term) (n : TermNode) → term_of_node ts n ≡ abstraction s b
    → (p : ℕ) × (n ≡ node_abstraction s p) × (term_in ts p ≡ b)
abstraction_node_of ts s b (node_free k r) e = let whole : free k r ≡ abstraction s b = e in cc
abstraction_node_of ts s b (node_bound j) e = let whole : bound j ≡ abstraction s b = e in cc
abstraction_node_of ts s b (node_constant d) e = let whole : constant d ≡ abstraction s b = e in cc
abstraction_node_of ts s b (node_application p q) e = let whole : application (term_in ts p) (term_in ts q) ≡ abstraction s b = e in cc
abstraction_node_of ts s b (node_abstraction r p) e =
    let whole : abstraction r (term_in ts p) ≡ abstraction s b = e in
    let is : r ≡ s = cc in let c : term_in ts p ≡ b = cc in (p, ap (λ (q : SimpleType). node_abstraction q p) is, c)

-- nodes of one term are equal, so places are
record SameNodes (nodes : List TermNode) (t : Term) : Type 0 where
  same : (n m : TermNode) → PointsBelow (length nodes) n → PointsBelow (length nodes) m → term_of_node (terms_of nodes) n ≡ t → term_of_node (terms_of nodes) m ≡ t → n ≡ m

below_more : (k l : ℕ) (n : TermNode) → k ≤ l → PointsBelow k n → PointsBelow l n
below_more k l (node_free n s) le below = below
below_more k l (node_bound i) le below = below
below_more k l (node_constant c) le below = below
below_more k l (node_application f a) le below =
    let p : f < k = below.0 in let q : a < k = below.1 in let x : f < l = omega arith in let y : a < l = omega arith in (x, y)
below_more k l (node_abstraction s b) le below = let p : b < k = below in omega arith

places_by_nodes : (nodes : List TermNode) (t : Term) (i j : ℕ) → SameNodes nodes t → IsStore nodes → IsLive nodes i → IsLive nodes j
    → term_at nodes i ≡ t → term_at nodes j ≡ t → i ≡ j
places_by_nodes nodes t i j by store live alive e f =
    let n = get_or nodes i (node_bound 0) in let m = get_or nodes j (node_bound 0) in
    let at : slice_get nodes i ≡ Some n = slice_get-get_or nodes i (node_bound 0) live in
    let there : slice_get nodes j ≡ Some m = slice_get-get_or nodes j (node_bound 0) alive in
    let below : PointsBelow (length nodes) n = below_more i (length nodes) n (omega arith) (parts_live nodes i n store at) in
    let lower : PointsBelow (length nodes) m = below_more j (length nodes) m (omega arith) (parts_live nodes j m store there) in
    let is : n ≡ m = by.same n m below lower (sym (made_of_node nodes i n store at) ∙ e) (sym (made_of_node nodes j m store there) ∙ f) in
    distinct_in nodes i j m store.1 (subst (λ (x : TermNode). slice_get nodes i ≡ Some x) is at) there

same_nodes : (nodes : List TermNode) (t : Term) → IsStore nodes → SameNodes nodes t
same_nodes nodes (free k s) store = record { same = λ n m x y e f. free_node_of (terms_of nodes) k s n e ∙ sym (free_node_of (terms_of nodes) k s m f) }
same_nodes nodes (bound i) store = record { same = λ n m x y e f. bound_node_of (terms_of nodes) i n e ∙ sym (bound_node_of (terms_of nodes) i m f) }
same_nodes nodes (constant c) store = record { same = λ n m x y e f. constant_node_of (terms_of nodes) c n e ∙ sym (constant_node_of (terms_of nodes) c m f) }
same_nodes nodes (application g a) store = record {
  same = λ n m x y e f.
      let u = application_node_of (terms_of nodes) g a n e in let v = application_node_of (terms_of nodes) g a m f in
      let l = length nodes in
      let up : PointsBelow l (node_application u.0 u.1) = subst (λ (z : TermNode). PointsBelow l z) u.2 x in
      let vp : PointsBelow l (node_application v.0 v.1) = subst (λ (z : TermNode). PointsBelow l z) v.2 y in
      let p = places_by_nodes nodes g u.0 v.0 (same_nodes nodes g store) store up.0 vp.0 u.3 v.3 in
      let q = places_by_nodes nodes a u.1 v.1 (same_nodes nodes a store) store up.1 vp.1 u.4 v.4 in
      u.2 ∙ (ap₂ node_application p q ∙ sym v.2);
}
same_nodes nodes (abstraction s b) store = record {
  same = λ n m x y e f.
      let u = abstraction_node_of (terms_of nodes) s b n e in let v = abstraction_node_of (terms_of nodes) s b m f in
      let l = length nodes in
      let up : PointsBelow l (node_abstraction s u.0) = subst (λ (z : TermNode). PointsBelow l z) u.1 x in
      let vp : PointsBelow l (node_abstraction s v.0) = subst (λ (z : TermNode). PointsBelow l z) v.1 y in
      let p = places_by_nodes nodes b u.0 v.0 (same_nodes nodes b store) store up vp u.2 v.2 in
      u.1 ∙ (ap (node_abstraction s) p ∙ sym v.1);
}

pub equal_where_terms_are : (nodes : List TermNode) (i j : ℕ) → IsStore nodes → IsLive nodes i → IsLive nodes j → ((i ≡ j) ↔ (term_at nodes i ≡ term_at nodes j))
equal_where_terms_are nodes i j store live alive =
    (λ e. ap (term_at nodes) e, λ e. places_by_nodes nodes (term_at nodes j) i j (same_nodes nodes (term_at nodes j) store) store live alive e refl)

-- a node put in

pub back_pushed : (xs : List TermNode) (k : ℕ) (n : TermNode) → PointsBack k xs → PointsBelow (k + length xs) n → PointsBack k (xs ++ n ∷ [])
back_pushed [] k n back below = let zeroth : k + 0 ≡ k = omega arith in (subst (λ (j : ℕ). PointsBelow j n) zeroth below, tt)
back_pushed (m ∷ rest) k n back below =
    let moved : k + length (m ∷ rest) ≡ (k + 1) + length rest = omega arith in
    (back.0, back_pushed rest (k + 1) n back.1 (subst (λ (j : ℕ). PointsBelow j n) moved below))

abbrev pub PutIn : List TermNode → TermNode → List TermNode → ℕ → Type 0
PutIn nodes n new i = Grows nodes new × IsStore new × IsLive new i × (term_at new i ≡ term_of_node (terms_of nodes) n)

-- the first place at which a test passes, and the length where it passes at none
pub found_place : (test : TermNode → Bool) (xs : List TermNode) (d : TermNode) → list_any test xs ≡ true
    → (position_or_len test xs < length xs) × (test (get_or xs (position_or_len test xs) d) ≡ true)
found_place test [] d e = absurd (true≢false (sym e))
found_place test (x ∷ rest) d e = by (test x) refl (λ f. found_place test rest d f)
  where
    by : (b : Bool) → test x ≡ b → (list_any test rest ≡ true → (position_or_len test rest < length rest) × (test (get_or rest (position_or_len test rest) d) ≡ true)) → (position_or_len test (x ∷ rest) < length (x ∷ rest)) × (test (get_or (x ∷ rest) (position_or_len test (x ∷ rest)) d) ≡ true)
    by true t more_places =
        let here : position_or_len test (x ∷ rest) ≡ 0 = ap (λ (c : Bool). cond (not c) (1 + position_or_len test rest) 0) t in
        let P : ℕ → Type 0 = λ i. (i < length (x ∷ rest)) × (test (get_or (x ∷ rest) i d) ≡ true) in
        let zeroth : 0 < length (x ∷ rest) = omega arith in
        subst P (sym here) (zeroth, t)
    by false t more_places =
        let more : position_or_len test (x ∷ rest) ≡ suc (position_or_len test rest) = ap (λ (c : Bool). cond (not c) (1 + position_or_len test rest) 0) t ∙ omega arith in
        let P : ℕ → Type 0 = λ i. (i < length (x ∷ rest)) × (test (get_or (x ∷ rest) i d) ≡ true) in
        let later = more_places (sym (ap (λ (c : Bool). c || list_any test rest) t) ∙ e) in
        let before : position_or_len test rest < length rest = later.0 in
        let within : suc (position_or_len test rest) < length (x ∷ rest) = omega arith in
        subst P (sym more) (within, later.1)

last_place : (test : TermNode → Bool) (xs : List TermNode) → list_any test xs ≡ false → position_or_len test xs ≡ length xs
last_place test [] e = refl
last_place test (x ∷ rest) e = by (test x) refl (λ f. last_place test rest f)
  where
    by : (b : Bool) → test x ≡ b → (list_any test rest ≡ false → position_or_len test rest ≡ length rest) → position_or_len test (x ∷ rest) ≡ length (x ∷ rest)
    by true t after = absurd (true≢false (sym (ap (λ (c : Bool). c || list_any test rest) t) ∙ e))
    by false t after =
        let later : position_or_len test rest ≡ length rest = after (sym (ap (λ (c : Bool). c || list_any test rest) t) ∙ e) in
        ap (λ (c : Bool). cond (not c) (1 + position_or_len test rest) 0) t ∙ omega arith

slice_get_last : (xs : List TermNode) (n : TermNode) → slice_get (xs ++ n ∷ []) (length xs) ≡ Some n
slice_get_last [] n = refl
slice_get_last (m ∷ rest) n = slice_get_last rest n

put_there : (nodes : List TermNode) (n : TermNode) → IsStore nodes → list_any (same_node n) nodes ≡ true → PutIn nodes n nodes (place_of nodes n)
put_there nodes n store there =
    let i = place_of nodes n in
    let found = found_place (same_node n) nodes (node_bound 0) there in
    let m = get_or nodes i (node_bound 0) in
    let at : slice_get nodes i ≡ Some m = slice_get-get_or nodes i (node_bound 0) found.0 in
    let is : n ≡ m = same_node_only n m found.1 in
    let none : nodes ≡ nodes ++ [] = sym (append-nil nodes) in
    (([], none), store, found.0, made_of_node nodes i m store at ∙ ap (term_of_node (terms_of nodes)) (sym is))

put_last : (nodes : List TermNode) (n : TermNode) → IsStore nodes → PointsBelow (length nodes) n → list_any (same_node n) nodes ≡ false → PutIn nodes n (nodes ++ n ∷ []) (length nodes)
put_last nodes n store below there =
    let zeroth : 0 + length nodes ≡ length nodes = omega arith in
    let back : PointsBack 0 (nodes ++ n ∷ []) = back_pushed nodes 0 n store.0 (subst (λ (j : ℕ). PointsBelow j n) (sym zeroth) below) in
    let new : IsStore (nodes ++ n ∷ []) = (back, IsDistinct-push same_node_equiv nodes n store.1 there) in
    let longer : length (nodes ++ n ∷ []) ≡ length nodes + 1 = length-append nodes (n ∷ []) in
    let live : length nodes < length (nodes ++ n ∷ []) = omega arith in
    let at : slice_get (nodes ++ n ∷ []) (length nodes) ≡ Some n = slice_get_last nodes n in
    let older : PointsBelow (length (terms_of nodes)) n = subst (λ (j : ℕ). PointsBelow j n) (sym (length_terms_of nodes)) below in
    let grown : terms_of (nodes ++ n ∷ []) ≡ terms_after (terms_of nodes) (n ∷ []) = terms_after_append [] nodes (n ∷ []) in (
      (n ∷ [], refl),
      new,
      live,
      made_of_node (nodes ++ n ∷ []) (length nodes) n new at ∙ (ap (λ (ts : List Term). term_of_node ts n) grown ∙ node_kept (terms_of nodes) (n ∷ []) n older),
    )

pub node_put_in : (nodes : List TermNode) (n : TermNode) → IsStore nodes → PointsBelow (length nodes) n → PutIn nodes n (with_node nodes n) (place_of nodes n)
node_put_in nodes n store below = by (list_any (same_node n) nodes) refl
  where
    by : (b : Bool) → list_any (same_node n) nodes ≡ b → PutIn nodes n (with_node nodes n) (place_of nodes n)
    by true e = subst (λ (l : List TermNode). PutIn nodes n l (place_of nodes n)) (sym (ap (λ c. if c then nodes else nodes ++ n ∷ []) e)) (put_there nodes n store e)
    by false e =
        let P : List TermNode → Type 0 = λ l. PutIn nodes n l (place_of nodes n) in
        let Q : ℕ → Type 0 = λ i. PutIn nodes n (nodes ++ n ∷ []) i in
        subst P (sym (ap (λ c. if c then nodes else nodes ++ n ∷ []) e)) (subst Q (sym (last_place (same_node n) nodes e)) (put_last nodes n store below e))

pub grows_on : (old middle new : List TermNode) → Grows old middle → Grows middle new → Grows old new
grows_on old middle new g h =
    (g.0 ++ h.0, h.1 ∙ (ap (λ (l : List TermNode). l ++ h.0) g.1 ∙ append_assoc old g.0 h.0))

-- what the ordered set does with a node

pub any_plain : (keys : List Node) (v : Node) → list_any (λ k. same_node (plain_node v) (plain_node k)) keys ≡ list_any (same_node (plain_node v)) (map plain_node keys)
any_plain [] v = refl
any_plain (k ∷ keys) v = ap (λ (b : Bool). same_node (plain_node v) (plain_node k) || b) (any_plain keys v)

pub place_plain : (keys : List Node) (v : Node) → position_or_len (λ k. same_node (plain_node v) (plain_node k)) keys ≡ place_of (map plain_node keys) (plain_node v)
place_plain [] v = refl
place_plain (k ∷ keys) v = ap (λ (i : ℕ). cond (not (same_node (plain_node v) (plain_node k))) (1 + i) 0) (place_plain keys v)

pub inserted_plain : (keys : List Node) (v : Node) → map plain_node (insert_key (λ a b. same_node (plain_node a) (plain_node b)) keys v) ≡ with_node (map plain_node keys) (plain_node v)
inserted_plain keys v = by (list_any (λ k. same_node (plain_node v) (plain_node k)) keys) refl
  where
    by : (b : Bool) → list_any (λ k. same_node (plain_node v) (plain_node k)) keys ≡ b
        → map plain_node (insert_key (λ a b. same_node (plain_node a) (plain_node b)) keys v) ≡ with_node (map plain_node keys) (plain_node v)
    by true e =
        ap (λ (c : Bool). map plain_node (if c then keys else keys ++ v ∷ [])) e
        ∙ sym (ap (λ (c : Bool). if c then map plain_node keys else map plain_node keys ++ plain_node v ∷ []) (sym (any_plain keys v) ∙ e))
    by false e =
        ap (λ (c : Bool). map plain_node (if c then keys else keys ++ v ∷ [])) e
        ∙ (map-append plain_node keys (v ∷ [])
        ∙ sym (ap (λ (c : Bool). if c then map plain_node keys else map plain_node keys ++ plain_node v ∷ []) (sym (any_plain keys v) ∙ e)))

pub same_place : (nodes : List TermNode) (i j : TermId) → IsStore nodes → IsLive nodes i.place → IsLive nodes j.place → ((i.place ≡ j.place) ↔ (term_at nodes i.place ≡ term_at nodes j.place))
same_place nodes i j store live alive = equal_where_terms_are nodes i.place j.place store live alive

pub plain_at : (keys : List Node) (i : ℕ) (n : Node) → slice_get keys i ≡ Some n → slice_get (map plain_node keys) i ≡ Some (plain_node n)
plain_at [] i n at = let e : None ≡ Some n = at in cc
plain_at (k ∷ keys) zero n at = let e : Some k ≡ Some n = at in let is : k ≡ n = cc in ap (λ (m : Node). Some (plain_node m)) is
plain_at (k ∷ keys) (suc i) n at = plain_at keys i n at

-- the bounds of loose indices beside the nodes

pub bounds_length : (nodes : List TermNode) → length (loose_bounds nodes) ≡ length nodes
bounds_length nodes = length-map (terms_of nodes) loose_bound ∙ length_terms_of nodes

pub bound_at : (nodes : List TermNode) (i : ℕ) (d : ℕ) → IsLive nodes i → get_or (loose_bounds nodes) i d ≡ loose_bound (term_at nodes i)
bound_at nodes i d live =
    let known : i < length (terms_of nodes) = subst (λ (n : ℕ). i < n) (sym (length_terms_of nodes)) live in
    get_or-map loose_bound (terms_of nodes) i (bound 0) d known

closed_by_bound : (t : Term) (k : ℕ) → loose_bound t ≤ k → IsClosedBelow k t
closed_by_bound (free n s) k le = tt
closed_by_bound (bound i) k le = let b : i + 1 ≤ k = le in omega arith
closed_by_bound (constant c) k le = tt
closed_by_bound (application f a) k le =
    let b : max (loose_bound f) (loose_bound a) ≤ k = le in
    (closed_by_bound f k (omega arith), closed_by_bound a k (omega arith))
closed_by_bound (abstraction s b) k le = let c : loose_bound b - 1 ≤ k = le in closed_by_bound b (k + 1) (omega arith)

bound_by_closed : (t : Term) (k : ℕ) → IsClosedBelow k t → loose_bound t ≤ k
bound_by_closed (free n s) k closed = omega arith
bound_by_closed (bound i) k closed = let b : i < k = closed in omega arith
bound_by_closed (constant c) k closed = omega arith
bound_by_closed (application f a) k closed =
    let x : loose_bound f ≤ k = bound_by_closed f k closed.0 in let y : loose_bound a ≤ k = bound_by_closed a k closed.1 in omega arith
bound_by_closed (abstraction s b) k closed = let c : loose_bound b ≤ k + 1 = bound_by_closed b (k + 1) closed in omega arith

pub bound_is_least : (t : Term) (k : ℕ) → IsClosedBelow k t ↔ (loose_bound t ≤ k)
bound_is_least t k = (bound_by_closed t k, closed_by_bound t k)

-- what the fields of a store hold

pub bound_read : (nodes : List TermNode) (bounds : List ℕ) (i r : ℕ) → bounds ≡ loose_bounds nodes → IsLive nodes i → r ≡ get_or bounds i r → r ≡ loose_bound (term_at nodes i)
bound_read nodes bounds i r same live read = read ∙ (ap (λ (l : List ℕ). get_or l i r) same ∙ bound_at nodes i r live)

pub bound_within : (nodes : List TermNode) (bounds : List ℕ) (i : ℕ) → bounds ≡ loose_bounds nodes → IsLive nodes i → i < length bounds
bound_within nodes bounds i same live =
    let e : length bounds ≡ length nodes = ap length same ∙ bounds_length nodes in let l : i < length nodes = live in omega arith

pub node_read : (nodes : List TermNode) (keys : List Node) (i : ℕ) (n : Node) → map plain_node keys ≡ nodes → IsLive nodes i → n ≡ get_or keys i n → slice_get nodes i ≡ Some (plain_node n)
node_read nodes keys i n view live read =
    let e : length keys ≡ length nodes = sym (length-map keys plain_node) ∙ ap length view in
    let l : i < length nodes = live in let within : i < length keys = omega arith in
    subst (λ (ns : List TermNode). slice_get ns i ≡ Some (plain_node n)) view (plain_at keys i n (slice_get_read keys (length keys) i n refl within read))
