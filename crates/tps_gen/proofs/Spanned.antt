-- Each path of a chain holds a pair: beside an odd leaf it holds the next one, or the odd one after that.
use Rattle.std.proofs.Common.{◌≡◌, ◌∙◌, ℕ, zero, suc, ◌+◌, ◌*◌, ◌<◌, ◌≤◌, ◌==◌, List, [], ◌∷◌, ◌++◌, map, Bool, true, false, ◌&&◌, ◌||◌, inl, inr, refl, sym, ap, subst, arith}
use Rattle.std.specs.Prelude.{All, Contains, slice_index_or}
use Rattle.std.proofs.lemmas.List.Elements.{All-nil, All-cons, All-append, All-map, All-weaker, All-head, All-tail, Contains-append_left, Contains-push}
use Rattle.std.proofs.lemmas.Bool.Decides.{nat_tests}
use Rattle.hol_terms.proofs.IndexLaws.{trichotomy}
use Rattle.expansion_tree.specs.Matrices.{joined}
use Rattle.expansion_tree.specs.Standing.{branch_leaf_count, branch_paths_from, paths}
use Rattle.vertical_paths.specs.Matings.{Spans, is_closed, is_on}
use Rattle.tps_gen.specs.Chains.{neighbours}
use Rattle.tps_gen.proofs.Leaves.{branch_leaf_count-is}
use Rattle.tps_gen.proofs.Standings.{branch_standings, chain_standing}

-- leaves on a path

either : (a b : Bool) → b ≡ true → (a || b) ≡ true
either true b h = refl
either false b h = h

either_weaker : (a b c : Bool) → (b ≡ true → c ≡ true) → (a || b) ≡ true → (a || c) ≡ true
either_weaker true b c f h = refl
either_weaker false b c f h = f h

on_here : (n : ℕ) (path : List ℕ) → is_on (n ∷ path) n ≡ true
on_here n path = ap (λ (b : Bool). b || is_on path n) (let same : (n == n) ≡ true = grind (arith, nat_tests) in same)

on_there : (m n : ℕ) (path : List ℕ) → is_on path n ≡ true → is_on (m ∷ path) n ≡ true
on_there m n path h = either (m == n) (is_on path n) h

on_left : (path more : List ℕ) (n : ℕ) → is_on path n ≡ true → is_on (path ++ more) n ≡ true
on_left [] more n h = cc
on_left (m ∷ path) more n h = either_weaker (m == n) (is_on path n) (is_on (path ++ more) n) (on_left path more n) h

on_right : (path more : List ℕ) (n : ℕ) → is_on more n ≡ true → is_on (path ++ more) n ≡ true
on_right [] more n h = h
on_right (m ∷ path) more n h = on_there m n (path ++ more) (on_right path more n h)

-- a path is closed by a pair that it holds
closed_by : (pairs : List (ℕ × ℕ)) (path : List ℕ) (pair : ℕ × ℕ) → Contains pairs pair → is_on path pair.0 ≡ true → is_on path pair.1 ≡ true → is_closed pairs path ≡ true
closed_by [] path pair h x y = absurd (let within : h.0 < 0 = h.1 in omega arith)
closed_by (first ∷ pairs) path pair (zero, within, e) x y =
    let here : (is_on path first.0 && is_on path first.1) ≡ true =
    subst (λ (q : ℕ × ℕ). (is_on path q.0 && is_on path q.1) ≡ true) (sym e) (ap (λ (b : Bool). b && is_on path pair.1) x ∙ y) in
    ap (λ (b : Bool). b || is_closed pairs path) here
closed_by (first ∷ pairs) path pair (suc k, within, e) x y =
    either (is_on path first.0 && is_on path first.1) (is_closed pairs path) (closed_by pairs path pair (k, omega arith, e) x y)

-- the pairs of a chain
pair_held : (count i : ℕ) → i < count → Contains (neighbours count) (2 * i + 1, 2 * i + 2)
pair_held zero i h = absurd (omega arith)
pair_held (suc count) i h =
    elim (trichotomy i count) [
      | inl less ↦ Contains-append_left (neighbours count) ((2 * count + 1, 2 * count + 2) ∷ []) (2 * i + 1, 2 * i + 2) (pair_held count i less)
      | inr (inl same) ↦
          subst (λ (j : ℕ). Contains (neighbours (suc count)) (2 * j + 1, 2 * j + 2)) (sym same) (Contains-push (neighbours count) (2 * count + 1, 2 * count + 2))
      | inr (inr more) ↦ absurd (omega arith)
    ]

-- the pairs close each path that holds the leaf a, all leaves of q, and the leaf z
abbrev Closes : List (ℕ × ℕ) → ℕ → ℕ → List ℕ → Type 0
Closes pairs a z q = (path : List ℕ) → is_on path a ≡ true → ((n : ℕ) → is_on q n ≡ true → is_on path n ≡ true) → is_on path z ≡ true → is_closed pairs path ≡ true

closed_at : (n k a b : ℕ) (path : List ℕ) → k ≤ n → a ≡ 2 * k + 1 → b ≡ 2 * k + 2 → is_on path a ≡ true → is_on path b ≡ true → is_closed (neighbours (n + 1)) path ≡ true
closed_at n k a b path h e f x y =
    closed_by (neighbours (n + 1)) path (2 * k + 1, 2 * k + 2) (pair_held (n + 1) k (omega arith)) (subst (λ (m : ℕ). is_on path m ≡ true) e x) (subst (λ (m : ℕ). is_on path m ≡ true) f y)

-- one branch more
closes_more : (n k first a z : ℕ) (rest : List (List ℕ)) → k ≤ n → first ≡ 2 * k + 2 → a ≡ 2 * k + 1
    → All (Closes (neighbours (n + 1)) (first + 1) z) rest → All (Closes (neighbours (n + 1)) a z) (joined ((first ∷ []) ∷ ((first + 1) ∷ []) ∷ []) rest)
closes_more n k first a z rest h e f all =
    All-append (Closes (neighbours (n + 1)) a z) (map (λ (q : List ℕ). (first ∷ []) ++ q) rest) (map (λ (q : List ℕ). ((first + 1) ∷ []) ++ q) rest ++ [])
    (
    All-map (Closes (neighbours (n + 1)) a z) (λ (q : List ℕ). (first ∷ []) ++ q) rest
    (λ i d within path x sub y. closed_at n k a first path h f e x (sub first (on_here first (slice_index_or rest i d))))
    )
    (
    All-append (Closes (neighbours (n + 1)) a z) (map (λ (q : List ℕ). ((first + 1) ∷ []) ++ q) rest) []
    (
    All-map (Closes (neighbours (n + 1)) a z) (λ (q : List ℕ). ((first + 1) ∷ []) ++ q) rest
    (
    All-weaker (Closes (neighbours (n + 1)) (first + 1) z) (λ (q : List ℕ). Closes (neighbours (n + 1)) a z ((first + 1) ∷ q))
    (λ q closed path x sub y. closed path (sub (first + 1) (on_here (first + 1) q)) (λ m on. sub m (on_there (first + 1) m q on)) y)
    rest all
    )
    )
    (All-nil (Closes (neighbours (n + 1)) a z))
    )

closes : (n k count first a z : ℕ) → k + count ≡ n → first ≡ 2 * k + 2 → a ≡ 2 * k + 1 → z ≡ 2 * n + 2
    → All (Closes (neighbours (n + 1)) a z) (branch_paths_from first (branch_standings k count))
closes n k zero first a z e f g h =
    All-cons (Closes (neighbours (n + 1)) a z) [] []
    (λ path x sub y. closed_at n k a z path (omega arith) g (omega arith) x y)
    (All-nil (Closes (neighbours (n + 1)) a z))
closes n k (suc count) first a z e f g h =
    closes_more n k first a z (branch_paths_from (first + 2) (branch_standings (suc k) count)) (omega arith) f g
    (closes n (suc k) count (first + 2) (first + 1) z (omega arith) (omega arith) (omega arith) h)

All-joined : (P : List ℕ → Type 0) (ps qs : List (List ℕ)) → All (λ p. All (λ q. P (p ++ q)) qs) ps → All P (joined ps qs)
All-joined P [] qs h = All-nil P
All-joined P (p ∷ ps) qs h =
    All-append P (map (λ q. p ++ q) qs) (joined ps qs) (All-map P (λ q. p ++ q) qs (All-head (λ r. All (λ q. P (r ++ q)) qs) p ps h))
    (All-joined P ps qs (All-tail (λ r. All (λ q. P (r ++ q)) qs) p ps h))

-- the path, with the last leaf after it, is closed
abbrev EndsClosed : List (ℕ × ℕ) → ℕ → List ℕ → Type 0
EndsClosed pairs last p = All (λ (q : List ℕ). is_closed pairs (p ++ q) ≡ true) ((last ∷ []) ∷ [])

ends_closed : (pairs : List (ℕ × ℕ)) (last : ℕ) (q : List ℕ) → Closes pairs 1 last q → EndsClosed pairs last (1 ∷ q)
ends_closed pairs last q closed =
    All-cons (λ (r : List ℕ). is_closed pairs ((1 ∷ q) ++ r) ≡ true) (last ∷ []) []
    (
    closed ((1 ∷ q) ++ last ∷ []) (on_here 1 (q ++ last ∷ []))
    (λ m on. on_there 1 m (q ++ last ∷ []) (on_left q (last ∷ []) m on))
    (on_right (1 ∷ q) (last ∷ []) last (on_here last []))
    )
    (All-nil (λ (r : List ℕ). is_closed pairs ((1 ∷ q) ++ r) ≡ true))

spans_between : (pairs : List (ℕ × ℕ)) (last : ℕ) (middle : List (List ℕ)) → All (Closes pairs 1 last) middle
    → Spans pairs (joined (joined ((1 ∷ []) ∷ []) middle) ((last ∷ []) ∷ []))
spans_between pairs last middle all =
    All-joined (λ (path : List ℕ). is_closed pairs path ≡ true) (joined ((1 ∷ []) ∷ []) middle) ((last ∷ []) ∷ [])
    (
    All-joined (EndsClosed pairs last) ((1 ∷ []) ∷ []) middle
    (
    All-cons (λ (p : List ℕ). All (λ q. EndsClosed pairs last (p ++ q)) middle) (1 ∷ []) []
    (All-weaker (Closes pairs 1 last) (λ (q : List ℕ). EndsClosed pairs last (1 ∷ q)) (ends_closed pairs last) middle all)
    (All-nil (λ (p : List ℕ). All (λ q. EndsClosed pairs last (p ++ q)) middle))
    )
    )

pub chain_spans : (n : ℕ) → Spans (neighbours (n + 1)) (paths (chain_standing n))
chain_spans n =
    spans_between (neighbours (n + 1)) (1 + (1 + branch_leaf_count (branch_standings 0 n))) (branch_paths_from 2 (branch_standings 0 n))
    (closes n 0 n 2 1 (1 + (1 + branch_leaf_count (branch_standings 0 n))) (omega arith) refl refl (omega (arith, branch_leaf_count-is 0 n)))
