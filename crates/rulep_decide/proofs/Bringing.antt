-- The atoms of the nodes are those of the formulas that were added.
use Rattle.std.proofs.Common.{ℕ, zero, suc, List, [], ◌∷◌, ◌++◌, length, Bool, true, false, cond, eqb, ◌≡◌, refl, sym, ap, subst, slice_get, Some}
use Rattle.std.specs.Prelude.{All, Contains}
use Rattle.std.specs.List.{flat_map}
use Rattle.std.proofs.lemmas.List.Elements.{All-nil, All-head, All-weaker, All-contains, All-contains_itself, Contains-append_left, Contains-append_right}
use Rattle.hol_terms.specs.Terms.{Term, negation, conjunction, disjunction, implication, truth, falsehood, application, constant}
use Rattle.hol_terms.specs.Truth.{IsAtom, atoms_of}
use Rattle.rulep_decide.specs.Circuits.{Node, atom, always, opposite, both, demand, node_at, HasAtomsAmong, Brings}
use Rattle.rulep_decide.specs.Verdicts.{atoms_among}

-- one node more

none_brought : (old new : List Node) (n : Node) → ((atoms : List Term) → HasAtomsAmong atoms old → HasAtomsAmong atoms (n ∷ old)) → new ≡ n ∷ old → Brings old new []
none_brought old new n stays e = record { among = λ atoms all h. subst (HasAtomsAmong atoms) (sym e) (stays atoms h) }

pub brings_always : (old new : List Node) → new ≡ always ∷ old → Brings old new []
brings_always old new e = none_brought old new always (λ atoms h. h) e

pub brings_opposite : (old new : List Node) (i : ℕ) → new ≡ opposite i ∷ old → Brings old new []
brings_opposite old new i e = none_brought old new (opposite i) (λ atoms h. h) e

pub brings_both : (old new : List Node) (i j : ℕ) → new ≡ both i j ∷ old → Brings old new []
brings_both old new i j e = none_brought old new (both i j) (λ atoms h. h) e

pub brings_atom : (old new : List Node) (a : Term) → new ≡ atom a ∷ old → Brings old new (a ∷ [])
brings_atom old new a e =
    record { among = λ atoms all h. subst (HasAtomsAmong atoms) (sym e) (All-head (Contains atoms) a [] all, h) }

pub brings_same : (old : List Node) (brought : List Term) → Brings old old brought
brings_same old brought = record { among = λ atoms all h. h }

-- one addition after another

pub brings_none : (old middle new : List Node) → Brings old middle [] → Brings middle new [] → Brings old new []
brings_none old middle new h l = record { among = λ atoms all p. l.among atoms all (h.among atoms all p) }

pub brings_then : (old middle new : List Node) (brought : List Term) → Brings old middle brought → Brings middle new [] → Brings old new brought
brings_then old middle new brought h l = record { among = λ atoms all p. l.among atoms (All-nil (Contains atoms)) (h.among atoms all p) }

pub brings_demand : (old middle new : List Node) (i : ℕ) (b : Bool) (brought : List Term) → Brings old middle brought → new ≡ demand i b ∷ middle → Brings old new brought
brings_demand old middle new i b brought h e = brings_then old middle new brought h (none_brought middle new (demand i b) (λ atoms p. p) e)

-- the atoms of a formula, by its parts

all_left : (atoms xs ys : List Term) → All (Contains atoms) (xs ++ ys) → All (Contains atoms) xs
all_left atoms xs ys h =
    All-weaker (Contains xs) (Contains atoms) (λ a c. All-contains (Contains atoms) (xs ++ ys) a h (Contains-append_left xs ys a c)) xs (All-contains_itself xs)

all_right : (atoms xs ys : List Term) → All (Contains atoms) (xs ++ ys) → All (Contains atoms) ys
all_right atoms xs ys h =
    All-weaker (Contains ys) (Contains atoms) (λ a c. All-contains (Contains atoms) (xs ++ ys) a h (Contains-append_right xs ys a c)) ys (All-contains_itself ys)

brings_both_parts : (old first second new : List Node) (t : Term) (xs ys : List Term) → atoms_of t ≡ xs ++ ys → Brings old first xs → Brings first second ys → Brings second new []
    → Brings old new (atoms_of t)
brings_both_parts old first second new t xs ys e h l m =
    subst (Brings old new) (sym e)
    (record { among = λ atoms all p. m.among atoms (All-nil (Contains atoms)) (l.among atoms (all_right atoms xs ys all) (h.among atoms (all_left atoms xs ys all) p)) })

pub brings_negation : (old middle new : List Node) (t a : Term) → t ≡ application (constant negation) a → Brings old middle (atoms_of a) → Brings middle new [] → Brings old new (atoms_of t)
brings_negation old middle new t a e h l = brings_then old middle new (atoms_of t) (subst (Brings old middle) (sym (ap atoms_of e)) h) l

pub brings_conjunction : (old first second new : List Node) (t a b : Term) → t ≡ application (application (constant conjunction) a) b → Brings old first (atoms_of a)
    → Brings first second (atoms_of b) → Brings second new [] → Brings old new (atoms_of t)
brings_conjunction old first second new t a b e h l m = brings_both_parts old first second new t (atoms_of a) (atoms_of b) (ap atoms_of e) h l m

pub brings_disjunction : (old first second new : List Node) (t a b : Term) → t ≡ application (application (constant disjunction) a) b → Brings old first (atoms_of a)
    → Brings first second (atoms_of b) → Brings second new [] → Brings old new (atoms_of t)
brings_disjunction old first second new t a b e h l m = brings_both_parts old first second new t (atoms_of a) (atoms_of b) (ap atoms_of e) h l m

pub brings_implication : (old first second new : List Node) (t a b : Term) → t ≡ application (application (constant implication) a) b → Brings old first (atoms_of a)
    → Brings first second (atoms_of b) → Brings second new [] → Brings old new (atoms_of t)
brings_implication old first second new t a b e h l m = brings_both_parts old first second new t (atoms_of a) (atoms_of b) (ap atoms_of e) h l m

pub brings_truth : (old new : List Node) (t : Term) → t ≡ constant truth → Brings old new [] → Brings old new (atoms_of t)
brings_truth old new t e h = subst (Brings old new) (sym (ap atoms_of e)) h

pub brings_falsehood : (old new : List Node) (t : Term) → t ≡ constant falsehood → Brings old new [] → Brings old new (atoms_of t)
brings_falsehood old new t e h = subst (Brings old new) (sym (ap atoms_of e)) h

lone_atom : (t : Term) → IsAtom t → atoms_of t ≡ t ∷ []
lone_atom (application (constant negation) a) h = absurd h
lone_atom (application (application (constant conjunction) a) b) h = absurd h
lone_atom (application (application (constant disjunction) a) b) h = absurd h
lone_atom (application (application (constant implication) a) b) h = absurd h
lone_atom (constant truth) h = absurd h
lone_atom (constant falsehood) h = absurd h
lone_atom other h = refl

pub brings_lone_atom : (old new : List Node) (t : Term) → IsAtom t → Brings old new (t ∷ []) → Brings old new (atoms_of t)
brings_lone_atom old new t is_atom h = subst (Brings old new) (sym (lone_atom t is_atom)) h

-- the atoms of the premises and of the conclusion

in_premise : (given : List Term) (i : ℕ) (t a : Term) → slice_get given i ≡ Some t → Contains (atoms_of t) a → Contains (flat_map atoms_of given) a
in_premise [] i t a e h = cc
in_premise (x ∷ xs) zero t a e h =
    let same : t ≡ x = cc in
    Contains-append_left (atoms_of x) (flat_map atoms_of xs) a (subst (λ (u : Term). Contains (atoms_of u) a) same h)
in_premise (x ∷ xs) (suc i) t a e h = Contains-append_right (atoms_of x) (flat_map atoms_of xs) a (in_premise xs i t a e h)

pub premise_among : (old new : List Node) (given : List Term) (conclusion : Term) (i : ℕ) (t : Term) → slice_get given i ≡ Some t → Brings old new (atoms_of t)
    → HasAtomsAmong (atoms_among given conclusion) old → HasAtomsAmong (atoms_among given conclusion) new
premise_among old new given conclusion i t e h p =
    let atoms = atoms_among given conclusion in
    h.among atoms
    (All-weaker (Contains (atoms_of t)) (Contains atoms) (λ a c. Contains-append_left (flat_map atoms_of given) (atoms_of conclusion) a (in_premise given i t a e c)) (atoms_of t) (All-contains_itself (atoms_of t)))
    p

pub conclusion_among : (old new : List Node) (given : List Term) (conclusion : Term) → Brings old new (atoms_of conclusion)
    → HasAtomsAmong (atoms_among given conclusion) old → HasAtomsAmong (atoms_among given conclusion) new
conclusion_among old new given conclusion h p =
    let atoms = atoms_among given conclusion in
    h.among atoms
    (All-weaker (Contains (atoms_of conclusion)) (Contains atoms) (λ a c. Contains-append_right (flat_map atoms_of given) (atoms_of conclusion) a c) (atoms_of conclusion) (All-contains_itself (atoms_of conclusion)))
    p

-- an atom of the nodes

same_node : (n m : Node) → Some n ≡ Some m → n ≡ m
same_node n m e = cc

pub node_among : (atoms : List Term) (nodes : List Node) (i : ℕ) (a : Term) → HasAtomsAmong atoms nodes → node_at nodes i ≡ Some (atom a) → Contains atoms a
node_among atoms [] i a h e = cc
node_among atoms (n ∷ rest) i a h e = by_test (eqb i (length rest)) refl e (node_among atoms rest i a (older n h))
  where
    older : (n : Node) → HasAtomsAmong atoms (n ∷ rest) → HasAtomsAmong atoms rest
    older (atom b) h = h.1
    older always h = h
    older (opposite j) h = h
    older (both j k) h = h
    older (demand j b) h = h

    newest : (n : Node) → HasAtomsAmong atoms (n ∷ rest) → n ≡ atom a → Contains atoms a
    newest (atom b) h e = let same : b ≡ a = cc in subst (Contains atoms) same h.0
    newest always h e = cc
    newest (opposite j) h e = cc
    newest (both j k) h e = cc
    newest (demand j b) h e = cc

    by_test : (b : Bool) → eqb i (length rest) ≡ b → cond b (Some n) (node_at rest i) ≡ Some (atom a) → (node_at rest i ≡ Some (atom a) → Contains atoms a) → Contains atoms a
    by_test true t e below = newest n h (same_node n (atom a) e)
    by_test false t e below = below e
