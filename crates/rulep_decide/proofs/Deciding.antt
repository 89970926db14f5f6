-- Values that fit the circuit are an assignment that makes the premises hold and the conclusion fail.
use Rattle.std.proofs.Common.{ℕ, zero, suc, ◌+◌, ◌<◌, List, [], ◌∷◌, ◌++◌, length, take, Bool, true, false, not, ◌&&◌, ◌||◌, cond, eqb, ◌≡◌, ◌≢◌, refl, sym, ap, ap₂, subst, ◌∙◌, slice_get, Option, Some, None, arith, ◌⊎◌, inl, inr, append-nil}
use Rattle.std.specs.Prelude.{All, Contains}
use Rattle.std.proofs.lemmas.Bool.Decides.{nat_tests}
use Rattle.std.proofs.lemmas.List.Elements.{All-nil, All-cons}
use Rattle.hol_terms.specs.Terms.{Term, negation, conjunction, disjunction, implication, truth, falsehood, application, constant}
use Rattle.hol_terms.specs.Truth.{Holds, Follows, IsAtom}
use Rattle.hol_terms.proofs.Truths.{member_decided}
use Rattle.rulep_decide.specs.TruthValues.{truth_value, are_true}
use Rattle.rulep_decide.specs.Circuits.{Node, atom, always, opposite, both, demand, node_at, node_value, value, same_value, meets, HasAtomsAmong, IsNew, IsCircuit, Fits, IsValuation, true_atom, true_atoms}
use Rattle.rulep_decide.specs.Verdicts.{AreDistinct, Falsifies, atoms_among}
use Rattle.rulep_decide.proofs.Bringing.{node_among}
use Rattle.rulep_decide.proofs.Nodes.{at_newest, at_older, newest_or_older, value_newest, value_older}

-- the demands of the premises

pub demands_none : (xs : List Term) (is_true : Term → Bool) → are_true is_true (take 0 xs) ≡ true
demands_none [] is_true = refl
demands_none (x ∷ xs) is_true = refl

same_as_true : (b : Bool) → same_value b true ≡ b
same_as_true true = refl
same_as_true false = refl

same_as_false : (b : Bool) → same_value b false ≡ not b
same_as_false true = refl
same_as_false false = refl

and_swap : (x y z : Bool) → (x && (y && z)) ≡ (y && (x && z))
and_swap true y z = refl
and_swap false true z = refl
and_swap false false z = refl

-- one more premise is true
pub demands_more : (xs : List Term) (i : ℕ) (t : Term) (is_true : Term → Bool) → slice_get xs i ≡ Some t
    → are_true is_true (take (i + 1) xs) ≡ (same_value (truth_value is_true t) true && are_true is_true (take i xs))
demands_more [] i t is_true e = cc
demands_more (x ∷ xs) zero t is_true e =
    let same : x ≡ t = cc in
    ap (λ (b : Bool). b && true) (ap (truth_value is_true) same ∙ sym (same_as_true (truth_value is_true t)))
demands_more (x ∷ xs) (suc i) t is_true e =
    let later : suc i + 1 ≡ suc (i + 1) = omega arith in
    ap (λ n. are_true is_true (take n (x ∷ xs))) later
    ∙ ap (λ (b : Bool). truth_value is_true x && b) (demands_more xs i t is_true e)
    ∙ and_swap (truth_value is_true x) (same_value (truth_value is_true t) true) (are_true is_true (take i xs))

pub demands_all : (xs : List Term) (is_true : Term → Bool) → are_true is_true (take (length xs) xs) ≡ are_true is_true xs
demands_all [] is_true = refl
demands_all (x ∷ xs) is_true = ap (λ (b : Bool). truth_value is_true x && b) (demands_all xs is_true)

-- a fact and a test that decides it

abbrev Reflects : Type 0 → Bool → Type 0
Reflects P b = (P → b ≡ true) × (b ≡ true → P)

reflects_not : (P : Type 0) (x : Bool) → Reflects P x → Reflects (P → ⊥) (not x)
reflects_not P true r = ((λ none. absurd (none (r.1 refl))), (λ e p. let bad : false ≡ true = e in cc))
reflects_not P false r = ((λ none. refl), (λ e p. let bad : false ≡ true = r.0 p in cc))

reflects_and : (P Q : Type 0) (x y : Bool) → Reflects P x → Reflects Q y → Reflects (P × Q) (x && y)
reflects_and P Q true y r s = ((λ h. s.0 h.1), (λ e. (r.1 refl, s.1 e)))
reflects_and P Q false y r s = ((λ h. r.0 h.0), (λ e. let bad : false ≡ true = e in cc))

reflects_or : (P Q : Type 0) (x y : Bool) → Reflects P x → Reflects Q y → Reflects (P ⊎ Q) (x || y)
reflects_or P Q true y r s = ((λ h. refl), (λ e. inl (r.1 refl)))
reflects_or P Q false y r s = ((λ h. elim h [ inl p ↦ (let bad : false ≡ true = r.0 p in cc) | inr q ↦ s.0 q ]), (λ e. inr (s.1 e)))

reflects_implies : (P Q : Type 0) (x y : Bool) → Reflects P x → Reflects Q y → Reflects (P → Q) (not x || y)
reflects_implies P Q true y r s = ((λ h. s.0 (h (r.1 refl))), (λ e p. s.1 e))
reflects_implies P Q false y r s = ((λ h. refl), (λ e p. let bad : false ≡ true = r.0 p in cc))

-- truth values of assignments

is_member : List Term → Term → Bool
is_member l a = elim (member_decided l a) [ inl h ↦ true | inr none ↦ false ]

reflects_decision : (P : Type 0) (d : P ⊎ (P → ⊥)) → Reflects P (elim d [ inl h ↦ true | inr none ↦ false ])
reflects_decision P (inl h) = ((λ p. refl), (λ e. h))
reflects_decision P (inr none) = ((λ p. absurd (none p)), (λ e. let bad : false ≡ true = e in cc))

reflects_member : (l : List Term) (a : Term) → Reflects (Contains l a) (is_member l a)
unfolding is_member
reflects_member l a = reflects_decision (Contains l a) (member_decided l a)

holds_value : (l : List Term) (t : Term) → Reflects (Holds l t) (truth_value (is_member l) t)
holds_value l (application (constant negation) a) = reflects_not (Holds l a) (truth_value (is_member l) a) (holds_value l a)
holds_value l (application (application (constant conjunction) a) b) =
    reflects_and (Holds l a) (Holds l b) (truth_value (is_member l) a) (truth_value (is_member l) b) (holds_value l a) (holds_value l b)
holds_value l (application (application (constant disjunction) a) b) =
    reflects_or (Holds l a) (Holds l b) (truth_value (is_member l) a) (truth_value (is_member l) b) (holds_value l a) (holds_value l b)
holds_value l (application (application (constant implication) a) b) =
    reflects_implies (Holds l a) (Holds l b) (truth_value (is_member l) a) (truth_value (is_member l) b) (holds_value l a) (holds_value l b)
holds_value l (constant truth) = ((λ h. refl), (λ e. tt))
holds_value l (constant falsehood) = ((λ h. absurd h), (λ e. let bad : false ≡ true = e in cc))
holds_value l other = reflects_member l other

all_true : (l xs : List Term) → All (Holds l) xs → are_true (is_member l) xs ≡ true
all_true l [] h = refl
all_true l (x ∷ xs) h = ap₂ ◌&&◌ ((holds_value l x).0 (h 0 x (omega arith))) (all_true l xs (λ k d within. h (suc k) d (omega arith)))

both_true : (x y : Bool) → (x && y) ≡ true → (x ≡ true) × (y ≡ true)
both_true true true e = (refl, refl)
both_true true false e = cc
both_true false y e = cc

true_all : (l xs : List Term) → are_true (is_member l) xs ≡ true → All (Holds l) xs
true_all l [] e = All-nil (Holds l)
true_all l (x ∷ xs) e =
    let p = both_true (truth_value (is_member l) x) (are_true (is_member l) xs) e in
    All-cons (Holds l) x xs ((holds_value l x).1 p.0) (true_all l xs p.1)

-- the values of an assignment fit the circuit

same_means_equal : (x y : Bool) → same_value x y ≡ true → x ≡ y
same_means_equal true true e = refl
same_means_equal true false e = cc
same_means_equal false true e = cc
same_means_equal false false e = refl

fits_newest : (v : Term → Bool) (w : ℕ → Bool) (n : Node) (rest : List Node) → IsCircuit (n ∷ rest) → meets v (n ∷ rest) ≡ true
    → w (length rest) ≡ node_value v (value v rest) n → ((j : ℕ) → j < length rest → w j ≡ value v rest j) → Fits w (length rest) n
fits_newest v w (atom a) rest circuit met here parts = tt
fits_newest v w always rest circuit met here parts = here
fits_newest v w (opposite j) rest circuit met here parts = here ∙ ap not (sym (parts j circuit.0))
fits_newest v w (both j k) rest circuit met here parts = here ∙ ap₂ ◌&&◌ (sym (parts j circuit.0)) (sym (parts k circuit.1))
fits_newest v w (demand j b) rest circuit met here parts =
    (here, parts j circuit.0 ∙ same_means_equal (value v rest j) b (both_true (same_value (value v rest j) b) (meets v rest) met).0)

older_circuit : (n : Node) (rest : List Node) → IsCircuit (n ∷ rest) → IsCircuit rest
older_circuit (atom a) rest h = h.2
older_circuit always rest h = h
older_circuit (opposite j) rest h = h.1
older_circuit (both j k) rest h = h.2
older_circuit (demand j b) rest h = h.1

older_met : (v : Term → Bool) (n : Node) (rest : List Node) → meets v (n ∷ rest) ≡ true → meets v rest ≡ true
older_met v (atom a) rest e = e
older_met v always rest e = e
older_met v (opposite j) rest e = e
older_met v (both j k) rest e = e
older_met v (demand j b) rest e = (both_true (same_value (value v rest j) b) (meets v rest) e).1

values_fit : (v : Term → Bool) (w : ℕ → Bool) (nodes : List Node) → IsCircuit nodes → meets v nodes ≡ true
    → ((i : ℕ) → i < length nodes → w i ≡ value v nodes i) → IsValuation w nodes
values_fit v w [] circuit met same = tt
values_fit v w (n ∷ rest) circuit met same = (
  fits_newest v w n rest circuit met (same (length rest) (omega arith) ∙ value_newest v n rest (length rest) refl) older,
  values_fit v w rest (older_circuit n rest circuit) (older_met v n rest met) older,
)
  where
    older : (j : ℕ) → j < length rest → w j ≡ value v rest j
    older j h = same j (omega arith) ∙ value_older v n rest j h

pub follows_by_search : (nodes : List Node) (given : List Term) (conclusion : Term) → IsCircuit nodes
    → ((is_true : Term → Bool) → meets is_true nodes ≡ (not (truth_value is_true conclusion) && are_true is_true given))
    → ((w : ℕ → Bool) → IsValuation w nodes → ⊥) → Follows given conclusion
follows_by_search nodes given conclusion circuit demands none = λ l all. by_value l all (truth_value (is_member l) conclusion) refl
  where
    by_value : (l : List Term) → All (Holds l) given → (b : Bool) → truth_value (is_member l) conclusion ≡ b → Holds l conclusion
    by_value l all true e = (holds_value l conclusion).1 e
    by_value l all false e =
        let met : meets (is_member l) nodes ≡ true = demands (is_member l) ∙ ap₂ ◌&&◌ (ap not e) (all_true l given all) in
        absurd (none (value (is_member l) nodes) (values_fit (is_member l) (value (is_member l) nodes) nodes circuit met (λ i h. refl)))

-- an atom is one node

same_node : (n m : Node) → Some n ≡ Some m → n ≡ m
same_node n m e = cc

new_nowhere : (a : Term) (nodes : List Node) (i : ℕ) → IsNew a nodes → node_at nodes i ≢ Some (atom a)
new_nowhere a [] i new e = cc
new_nowhere a (n ∷ rest) i new e = by_test (eqb i (length rest)) refl e (newest_differs n new) (new_nowhere a rest i (older_new n new))
  where
    newest_differs : (n : Node) → IsNew a (n ∷ rest) → n ≢ atom a
    newest_differs (atom b) h e = h.0 (let same : b ≡ a = cc in same)
    newest_differs always h e = cc
    newest_differs (opposite j) h e = cc
    newest_differs (both j k) h e = cc
    newest_differs (demand j b) h e = cc

    older_new : (n : Node) → IsNew a (n ∷ rest) → IsNew a rest
    older_new (atom b) h = h.1
    older_new always h = h
    older_new (opposite j) h = h
    older_new (both j k) h = h
    older_new (demand j b) h = h

    by_test : (b : Bool) → eqb i (length rest) ≡ b → cond b (Some n) (node_at rest i) ≡ Some (atom a) → n ≢ atom a → node_at rest i ≢ Some (atom a) → ⊥
    by_test true t e differs below = differs (same_node n (atom a) e)
    by_test false t e differs below = below e

newest_is_new : (n : Node) (rest : List Node) (a : Term) → IsCircuit (n ∷ rest) → n ≡ atom a → IsNew a rest
newest_is_new (atom b) rest a circuit e = let same : b ≡ a = cc in subst (λ (a : Term). IsNew a rest) same circuit.1
newest_is_new always rest a circuit e = cc
newest_is_new (opposite j) rest a circuit e = cc
newest_is_new (both j k) rest a circuit e = cc
newest_is_new (demand j b) rest a circuit e = cc

atom_once : (nodes : List Node) (i k : ℕ) (a : Term) → IsCircuit nodes → node_at nodes i ≡ Some (atom a) → node_at nodes k ≡ Some (atom a) → i ≡ k
atom_once [] i k a circuit e f = cc
atom_once (n ∷ rest) i k a circuit e f =
    by_tests (eqb i (length rest)) (eqb k (length rest)) refl refl e f (atom_once rest i k a (older_circuit n rest circuit))
  where
    by_tests : (x y : Bool) → eqb i (length rest) ≡ x → eqb k (length rest) ≡ y → cond x (Some n) (node_at rest i) ≡ Some (atom a)
        → cond y (Some n) (node_at rest k) ≡ Some (atom a) → (node_at rest i ≡ Some (atom a) → node_at rest k ≡ Some (atom a) → i ≡ k) → i ≡ k
    by_tests true true t u e f below =
        let p : i ≡ length rest = grind (arith, nat_tests) in let q : k ≡ length rest = grind (arith, nat_tests) in p ∙ sym q
    by_tests true false t u e f below = absurd (new_nowhere a rest k (newest_is_new n rest a circuit (same_node n (atom a) e)) f)
    by_tests false true t u e f below = absurd (new_nowhere a rest i (newest_is_new n rest a circuit (same_node n (atom a) f)) e)
    by_tests false false t u e f below = below e f

node_is_atom : (nodes : List Node) (i : ℕ) (a : Term) → IsCircuit nodes → node_at nodes i ≡ Some (atom a) → IsAtom a
node_is_atom [] i a circuit e = cc
node_is_atom (n ∷ rest) i a circuit e = by_test (eqb i (length rest)) refl e (node_is_atom rest i a (older_circuit n rest circuit))
  where
    newest : (n : Node) → IsCircuit (n ∷ rest) → n ≡ atom a → IsAtom a
    newest (atom b) h e = let same : b ≡ a = cc in subst IsAtom same h.0
    newest always h e = cc
    newest (opposite j) h e = cc
    newest (both j k) h e = cc
    newest (demand j b) h e = cc

    by_test : (b : Bool) → eqb i (length rest) ≡ b → cond b (Some n) (node_at rest i) ≡ Some (atom a) → (node_at rest i ≡ Some (atom a) → IsAtom a) → IsAtom a
    by_test true t e below = newest n circuit (same_node n (atom a) e)
    by_test false t e below = below e

-- terms that stand in a list

abbrev StandsIn : Term → List Term → Type 0
StandsIn a [] = ⊥
StandsIn a (x ∷ xs) = (x ≡ a) ⊎ StandsIn a xs

contains_stands : (a : Term) (xs : List Term) → Contains xs a → StandsIn a xs
contains_stands a [] (k, within, e) = absurd (omega arith)
contains_stands a (x ∷ xs) (zero, within, e) = inl e
contains_stands a (x ∷ xs) (suc k, within, e) = inr (contains_stands a xs (k, omega arith, e))

stands_contains : (a : Term) (xs : List Term) → StandsIn a xs → Contains xs a
stands_contains a [] h = absurd h
stands_contains a (x ∷ xs) (inl e) = (zero, omega arith, e)
stands_contains a (x ∷ xs) (inr h) = let p = stands_contains a xs h in (suc p.0, (let within : p.0 < length xs = p.1 in omega arith), p.2)

stands_left : (a : Term) (xs ys : List Term) → StandsIn a xs → StandsIn a (xs ++ ys)
stands_left a [] ys h = absurd h
stands_left a (x ∷ xs) ys (inl e) = inl e
stands_left a (x ∷ xs) ys (inr h) = inr (stands_left a xs ys h)

stands_right : (a : Term) (xs ys : List Term) → StandsIn a ys → StandsIn a (xs ++ ys)
stands_right a [] ys h = h
stands_right a (x ∷ xs) ys h = inr (stands_right a xs ys h)

stands_parts : (a : Term) (xs ys : List Term) → StandsIn a (xs ++ ys) → StandsIn a xs ⊎ StandsIn a ys
stands_parts a [] ys h = inr h
stands_parts a (x ∷ xs) ys (inl e) = inl (inl e)
stands_parts a (x ∷ xs) ys (inr h) = elim (stands_parts a xs ys h) [ inl p ↦ inl (inr p) | inr q ↦ inr q ]

distinct_push : (xs : List Term) (a : Term) → AreDistinct xs → (StandsIn a xs → ⊥) → AreDistinct (xs ++ a ∷ [])
distinct_push [] a h none = ((λ c. contains_stands a [] c), tt)
distinct_push (x ∷ xs) a h none = (
  (λ c. elim (stands_parts x xs (a ∷ []) (contains_stands x (xs ++ a ∷ []) c)) [
    | inl older ↦ h.0 (stands_contains x xs older)
    | inr here ↦ elim here [ inl e ↦ none (inl (sym e)) | inr nowhere ↦ nowhere ]
  ]),
  distinct_push xs a h.1 (λ p. none (inr p)),
)

all_of : (P : Term → Type 0) (xs : List Term) → ((a : Term) → StandsIn a xs → P a) → All P xs
all_of P [] h = All-nil P
all_of P (x ∷ xs) h = All-cons P x xs (h x (inl refl)) (all_of P xs (λ a p. h a (inr p)))

-- the true atoms

atom_stands : (w : ℕ → Bool) (nodes : List Node) (n k : ℕ) (a : Term) → k < n → node_at nodes k ≡ Some (atom a) → w k ≡ true → StandsIn a (true_atoms w nodes n)
atom_stands w nodes zero k a h e t = absurd (omega arith)
atom_stands w nodes (suc n) k a h e t = by_place (newest_or_older k n h) (λ l. atom_stands w nodes n k a l e t)
  where
    here : StandsIn a (true_atom (w k) (node_at nodes k))
    here =
        let same : a ∷ [] ≡ true_atom (w k) (node_at nodes k) =
        sym (ap (true_atom (w k)) e ∙ ap (λ (b : Bool). cond b (a ∷ []) []) t) in
        subst (λ (xs : List Term). StandsIn a xs) same (inl refl)

    by_place : (k ≡ n) ⊎ (k < n) → (k < n → StandsIn a (true_atoms w nodes n)) → StandsIn a (true_atoms w nodes n ++ true_atom (w n) (node_at nodes n))
    by_place (inl same) below =
        stands_right a (true_atoms w nodes n) (true_atom (w n) (node_at nodes n)) (subst (λ i. StandsIn a (true_atom (w i) (node_at nodes i))) same here)
    by_place (inr l) below = stands_left a (true_atoms w nodes n) (true_atom (w n) (node_at nodes n)) (below l)

abbrev IsTrueAtom : (ℕ → Bool) → List Node → ℕ → Term → Type 0
IsTrueAtom w nodes n a = (k : ℕ) × (k < n) × (node_at nodes k ≡ Some (atom a)) × (w k ≡ true)

one_atom : (w : ℕ → Bool) (nodes : List Node) (i : ℕ) (a : Term) (b : Bool) (o : Option Node) → w i ≡ b → node_at nodes i ≡ o → StandsIn a (true_atom b o)
    → (node_at nodes i ≡ Some (atom a)) × (w i ≡ true)
one_atom w nodes i a b None t e h = absurd h
one_atom w nodes i a true (Some (atom c)) t e (inl same) = (e ∙ ap (λ (a : Term). Some (atom a)) same, t)
one_atom w nodes i a true (Some (atom c)) t e (inr none) = absurd none
one_atom w nodes i a false (Some (atom c)) t e h = absurd h
one_atom w nodes i a b (Some always) t e h = absurd h
one_atom w nodes i a b (Some (opposite j)) t e h = absurd h
one_atom w nodes i a b (Some (both j k)) t e h = absurd h
one_atom w nodes i a b (Some (demand j c)) t e h = absurd h

stands_atom : (w : ℕ → Bool) (nodes : List Node) (n : ℕ) (a : Term) → StandsIn a (true_atoms w nodes n) → IsTrueAtom w nodes n a
stands_atom w nodes zero a h = absurd h
stands_atom w nodes (suc n) a h = by_part (stands_parts a (true_atoms w nodes n) (true_atom (w n) (node_at nodes n)) h) (stands_atom w nodes n a)
  where
    by_part : StandsIn a (true_atoms w nodes n) ⊎ StandsIn a (true_atom (w n) (node_at nodes n)) → (StandsIn a (true_atoms w nodes n) → IsTrueAtom w nodes n a)
        → IsTrueAtom w nodes (suc n) a
    by_part (inl older) below = let p = below older in (p.0, (let within : p.0 < n = p.1 in omega arith), p.2, p.3)
    by_part (inr here) below = let p = one_atom w nodes n a (w n) (node_at nodes n) refl refl here in (n, omega arith, p.0, p.1)

distinct_atoms : (w : ℕ → Bool) (nodes : List Node) (n : ℕ) → IsCircuit nodes → AreDistinct (true_atoms w nodes n)
distinct_atoms w nodes zero circuit = tt
distinct_atoms w nodes (suc n) circuit = by_node (w n) (node_at nodes n) refl (distinct_atoms w nodes n circuit)
  where
    nowhere : (a : Term) → node_at nodes n ≡ Some (atom a) → StandsIn a (true_atoms w nodes n) → ⊥
    nowhere a e h =
        let p = stands_atom w nodes n a h in
        let same : p.0 ≡ n = atom_once nodes p.0 n a circuit p.2 e in
        let within : p.0 < n = p.1 in
        omega arith

    by_node : (b : Bool) (o : Option Node) → node_at nodes n ≡ o → AreDistinct (true_atoms w nodes n) → AreDistinct (true_atoms w nodes n ++ true_atom b o)
    by_node b None e h = subst AreDistinct (sym (append-nil (true_atoms w nodes n))) h
    by_node true (Some (atom a)) e h = distinct_push (true_atoms w nodes n) a h (nowhere a e)
    by_node false (Some (atom a)) e h = subst AreDistinct (sym (append-nil (true_atoms w nodes n))) h
    by_node b (Some always) e h = subst AreDistinct (sym (append-nil (true_atoms w nodes n))) h
    by_node b (Some (opposite j)) e h = subst AreDistinct (sym (append-nil (true_atoms w nodes n))) h
    by_node b (Some (both j k)) e h = subst AreDistinct (sym (append-nil (true_atoms w nodes n))) h
    by_node b (Some (demand j c)) e h = subst AreDistinct (sym (append-nil (true_atoms w nodes n))) h

-- values that fit are those of their true atoms

within_nodes : (nodes : List Node) (i : ℕ) (n : Node) → node_at nodes i ≡ Some n → i < length nodes
within_nodes [] i n e = cc
within_nodes (m ∷ rest) i n e = by_test (eqb i (length rest)) refl e (within_nodes rest i n)
  where
    by_test : (b : Bool) → eqb i (length rest) ≡ b → cond b (Some m) (node_at rest i) ≡ Some n → (node_at rest i ≡ Some n → i < length rest) → i < suc (length rest)
    by_test true t e below = let same : i ≡ length rest = grind (arith, nat_tests) in omega arith
    by_test false t e below = let h : i < length rest = below e in omega arith

reflected : (P : Type 0) (x y : Bool) → Reflects P x → (y ≡ true → P) → (P → y ≡ true) → x ≡ y
reflected P true true r to from = refl
reflected P true false r to from = let bad : false ≡ true = from (r.1 refl) in cc
reflected P false true r to from = let bad : false ≡ true = r.0 (to refl) in cc
reflected P false false r to from = refl

member_value : (w : ℕ → Bool) (nodes : List Node) (i : ℕ) (a : Term) → IsCircuit nodes → node_at nodes i ≡ Some (atom a)
    → is_member (true_atoms w nodes (length nodes)) a ≡ w i
member_value w nodes i a circuit e =
    let atoms = true_atoms w nodes (length nodes) in
    reflected (Contains atoms a) (is_member atoms a) (w i) (reflects_member atoms a)
    (λ t. stands_contains a atoms (atom_stands w nodes (length nodes) i a (within_nodes nodes i (atom a) e) e t))
    (λ c. let p = stands_atom w nodes (length nodes) a (contains_stands a atoms c) in
    ap w (atom_once nodes i p.0 a circuit e p.2) ∙ p.3)

node_of_parts : (v : Term → Bool) (w : ℕ → Bool) (n : Node) (rest : List Node) → IsCircuit (n ∷ rest) → Fits w (length rest) n
    → ((a : Term) → n ≡ atom a → v a ≡ w (length rest)) → ((j : ℕ) → j < length rest → value v rest j ≡ w j) → node_value v (value v rest) n ≡ w (length rest)
node_of_parts v w (atom a) rest circuit fits here parts = here a refl
node_of_parts v w always rest circuit fits here parts = sym fits
node_of_parts v w (opposite j) rest circuit fits here parts = ap not (parts j circuit.0) ∙ sym fits
node_of_parts v w (both j k) rest circuit fits here parts = ap₂ ◌&&◌ (parts j circuit.0) (parts k circuit.1) ∙ sym fits
node_of_parts v w (demand j b) rest circuit fits here parts = sym fits.0

value_is : (v : Term → Bool) (w : ℕ → Bool) (nodes : List Node) → IsCircuit nodes → IsValuation w nodes
    → ((i : ℕ) (a : Term) → node_at nodes i ≡ Some (atom a) → v a ≡ w i) → (i : ℕ) → i < length nodes → value v nodes i ≡ w i
value_is v w [] circuit fits atoms i h = absurd (omega arith)
value_is v w (n ∷ rest) circuit fits atoms i h = by_place (newest_or_older i (length rest) h) (value_is v w rest (older_circuit n rest circuit) fits.1 older)
  where
    older : (i : ℕ) (a : Term) → node_at rest i ≡ Some (atom a) → v a ≡ w i
    older i a e = atoms i a (at_older n rest i (within_nodes rest i (atom a) e) ∙ e)

    by_place : (i ≡ length rest) ⊎ (i < length rest) → ((j : ℕ) → j < length rest → value v rest j ≡ w j) → value v (n ∷ rest) i ≡ w i
    by_place (inl e) below =
        value_newest v n rest i e
        ∙ node_of_parts v w n rest circuit fits.0
        (λ a same. atoms (length rest) a (at_newest n rest (length rest) refl ∙ ap (λ (n : Node). Some n) same)) below
        ∙ ap w (sym e)
    by_place (inr l) below = value_older v n rest i l ∙ below i l

same_refl : (b : Bool) → same_value b b ≡ true
same_refl true = refl
same_refl false = refl

valuation_meets : (v : Term → Bool) (w : ℕ → Bool) (nodes : List Node) → IsCircuit nodes → IsValuation w nodes
    → ((i : ℕ) (a : Term) → node_at nodes i ≡ Some (atom a) → v a ≡ w i) → meets v nodes ≡ true
valuation_meets v w [] circuit fits atoms = refl
valuation_meets v w (n ∷ rest) circuit fits atoms =
    by_node n circuit fits.0 (valuation_meets v w rest (older_circuit n rest circuit) fits.1 older) (value_is v w rest (older_circuit n rest circuit) fits.1 older)
  where
    older : (i : ℕ) (a : Term) → node_at rest i ≡ Some (atom a) → v a ≡ w i
    older i a e = atoms i a (at_older n rest i (within_nodes rest i (atom a) e) ∙ e)

    by_node : (n : Node) → IsCircuit (n ∷ rest) → Fits w (length rest) n → meets v rest ≡ true → ((j : ℕ) → j < length rest → value v rest j ≡ w j)
        → meets v (n ∷ rest) ≡ true
    by_node (atom a) circuit fits met same = met
    by_node always circuit fits met same = met
    by_node (opposite j) circuit fits met same = met
    by_node (both j k) circuit fits met same = met
    by_node (demand j b) circuit fits met same =
        ap₂ ◌&&◌ (ap (λ (x : Bool). same_value x b) (same j circuit.0 ∙ fits.1) ∙ same_refl b) met

not_true : (b : Bool) → not b ≡ true → b ≡ true → ⊥
not_true true e h = cc
not_true false e h = cc

pub falsified_by_search : (nodes : List Node) (given : List Term) (conclusion : Term) (w : ℕ → Bool) → IsCircuit nodes
    → ((is_true : Term → Bool) → meets is_true nodes ≡ (not (truth_value is_true conclusion) && are_true is_true given))
    → HasAtomsAmong (atoms_among given conclusion) nodes → IsValuation w nodes → Falsifies (true_atoms w nodes (length nodes)) given conclusion
falsified_by_search nodes given conclusion w circuit demands among fits =
    let l = true_atoms w nodes (length nodes) in
    let v = is_member l in
    let met = valuation_meets v w nodes circuit fits (λ i a e. member_value w nodes i a circuit e) in
    let parts = both_true (not (truth_value v conclusion)) (are_true v given) (sym (demands v) ∙ met) in
    record {
      atoms = all_of IsAtom l (λ a h. let p = stands_atom w nodes (length nodes) a h in node_is_atom nodes p.0 a circuit p.2);
      occurring =
          all_of (Contains (atoms_among given conclusion)) l
          (λ a h. let p = stands_atom w nodes (length nodes) a h in node_among (atoms_among given conclusion) nodes p.0 a among p.2);
      distinct = distinct_atoms w nodes (length nodes) circuit;
      given_hold = true_all l given parts.1;
      conclusion_fails = λ h. not_true (truth_value v conclusion) parts.0 ((holds_value l conclusion).0 h);
    }
