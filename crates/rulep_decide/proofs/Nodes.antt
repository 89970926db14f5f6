-- Nodes by their numbers.
use Rattle.std.proofs.Common.{ℕ, suc, ◌-◌, ◌<◌, List, [], ◌∷◌, length, map, Bool, true, false, eqb, cond, ◌≡◌, refl, sym, ap, subst, ◌∙◌, get_or, Some, arith, ◌⊎◌, inl, inr}
use Rattle.std.specs.Prelude.{reverse}
use Rattle.std.proofs.lemmas.Bool.Decides.{nat_tests}
use Rattle.std.proofs.lemmas.List.{get_or-reverse, length-reverse, length-map, get_or-map}
use Rattle.hol_terms.proofs.IndexLaws.{trichotomy}
use Rattle.rulep_decide.specs.declared.circuits.Gate.{Gate}
use Rattle.rulep_decide.specs.Circuits.{Node, atom, always, opposite, both, demand, node_at, plain_gate, node_value, value, IsCircuit, HasPartsBelow}
use Rattle.hol_terms.specs.Terms.{Term}

-- the newest node has the greatest number
pub at_newest : (n : Node) (rest : List Node) (i : ℕ) → i ≡ length rest → node_at (n ∷ rest) i ≡ Some n
at_newest n rest i e = ap (λ (b : Bool). cond b (Some n) (node_at rest i)) (let t : eqb i (length rest) ≡ true = grind (arith, nat_tests) in t)

pub at_older : (n : Node) (rest : List Node) (i : ℕ) → i < length rest → node_at (n ∷ rest) i ≡ node_at rest i
at_older n rest i h = ap (λ (b : Bool). cond b (Some n) (node_at rest i)) (let t : eqb i (length rest) ≡ false = grind (arith, nat_tests) in t)

pub newest_or_older : (i k : ℕ) → i < suc k → (i ≡ k) ⊎ (i < k)
newest_or_older i k h = elim (trichotomy i k) [ inl l ↦ inr l | inr r ↦ elim r [ inl e ↦ inl e | inr more ↦ absurd (omega arith) ] ]

at_place : (nodes : List Node) (i : ℕ) (d : Node) → i < length nodes → node_at nodes i ≡ Some (get_or nodes (length nodes - 1 - i) d)
at_place [] i d h = absurd (omega arith)
at_place (n ∷ rest) i d h = go (newest_or_older i (length rest) h) (at_place rest i d)
  where
    go : (i ≡ length rest) ⊎ (i < length rest) → (i < length rest → node_at rest i ≡ Some (get_or rest (length rest - 1 - i) d))
        → node_at (n ∷ rest) i ≡ Some (get_or (n ∷ rest) (suc (length rest) - 1 - i) d)
    go (inl e) below =
        let first : suc (length rest) - 1 - i ≡ 0 = omega arith in
        at_newest n rest i e ∙ ap (λ k. Some (get_or (n ∷ rest) k d)) (sym first)
    go (inr l) below =
        let later : suc (length rest) - 1 - i ≡ suc (length rest - 1 - i) = omega arith in
        at_older n rest i l ∙ below l ∙ ap (λ k. Some (get_or (n ∷ rest) k d)) (sym later)

pub count_of_gates : (gates : List Gate) → length (reverse (map plain_gate gates)) ≡ length gates
count_of_gates gates = length-reverse (map plain_gate gates) ∙ length-map gates plain_gate

pub node_of_gate : (gates : List Gate) (i : ℕ) (g : Gate) → i < length gates → g ≡ get_or gates i g → node_at (reverse (map plain_gate gates)) i ≡ Some (plain_gate g)
node_of_gate gates i g h e =
    let nodes = map plain_gate gates in
    let count : length nodes ≡ length gates = length-map gates plain_gate in
    let count_back : length (reverse nodes) ≡ length gates = length-reverse nodes ∙ count in
    let within : i < length (reverse nodes) = omega arith in
    let place : length nodes - 1 - (length (reverse nodes) - 1 - i) ≡ i = omega arith in
    let inside : length (reverse nodes) - 1 - i < length nodes = omega arith in
    at_place (reverse nodes) i (plain_gate g) within
    ∙ ap (λ (n : Node). Some n)
    (get_or-reverse nodes (length (reverse nodes) - 1 - i) (plain_gate g) inside
    ∙ ap (λ k. get_or nodes k (plain_gate g)) place
    ∙ get_or-map plain_gate gates i g (plain_gate g) h
    ∙ ap plain_gate (sym e))

-- the values of nodes

pub value_newest : (is_true : Term → Bool) (n : Node) (rest : List Node) (i : ℕ) → i ≡ length rest
    → value is_true (n ∷ rest) i ≡ node_value is_true (value is_true rest) n
value_newest is_true n rest i e =
    ap (λ (b : Bool). cond b (node_value is_true (value is_true rest) n) (value is_true rest i)) (let t : eqb i (length rest) ≡ true = grind (arith, nat_tests) in t)

pub value_older : (is_true : Term → Bool) (n : Node) (rest : List Node) (i : ℕ) → i < length rest → value is_true (n ∷ rest) i ≡ value is_true rest i
value_older is_true n rest i h =
    ap (λ (b : Bool). cond b (node_value is_true (value is_true rest) n) (value is_true rest i)) (let t : eqb i (length rest) ≡ false = grind (arith, nat_tests) in t)

-- the parts of nodes

same_node : (n m : Node) → Some n ≡ Some m → n ≡ m
same_node n m e = cc

newest_parts : (n : Node) (rest : List Node) → IsCircuit (n ∷ rest) → HasPartsBelow (length rest) n × IsCircuit rest
newest_parts (atom a) rest h = (tt, h.2)
newest_parts always rest h = (tt, h)
newest_parts (opposite i) rest h = h
newest_parts (both i j) rest h = ((h.0, h.1), h.2)
newest_parts (demand i b) rest h = h

pub parts_below : (nodes : List Node) (i : ℕ) (n : Node) → IsCircuit nodes → node_at nodes i ≡ Some n → HasPartsBelow i n
parts_below [] i n circuit e = cc
parts_below (m ∷ rest) i n circuit e = by_test (eqb i (length rest)) refl e (newest_parts m rest circuit) (parts_below rest i n)
  where
    by_test : (b : Bool) → eqb i (length rest) ≡ b → cond b (Some m) (node_at rest i) ≡ Some n → HasPartsBelow (length rest) m × IsCircuit rest
        → (IsCircuit rest → node_at rest i ≡ Some n → HasPartsBelow i n) → HasPartsBelow i n
    by_test true t e h below =
        let same : i ≡ length rest = grind (arith, nat_tests) in
        subst (λ (n : Node). HasPartsBelow i n) (same_node m n e) (subst (λ i. HasPartsBelow i m) (sym same) h.0)
    by_test false t e h below = below h.1 e
