-- Nodes that are added keep those from before.
use Rattle.std.proofs.Common.{ℕ, suc, ◌<◌, ◌≤◌, List, [], ◌∷◌, length, Bool, true, false, not, ◌&&◌, cond, eqb, ◌≡◌, ◌≢◌, refl, sym, ap, ap₂, subst, ◌∙◌, Some, arith}
use Rattle.std.proofs.lemmas.Bool.Decides.{nat_tests}
use Rattle.hol_terms.specs.Terms.{Term}
use Rattle.hol_terms.specs.Truth.{IsAtom}
use Rattle.rulep_decide.specs.Circuits.{Node, atom, always, opposite, both, demand, node_at, node_value, value, same_value, meets, IsNew, IsCircuit, Adds}
use Rattle.rulep_decide.proofs.Nodes.{at_newest, at_older, value_newest, value_older}

adds_newest : (old : List Node) (n : Node) → IsCircuit (n ∷ old) → ((is_true : Term → Bool) → meets is_true (n ∷ old) ≡ meets is_true old)
    → Adds old (n ∷ old) (length old) (λ is_true. node_value is_true (value is_true old) n)
adds_newest old n circuit same = record {
  is_circuit = circuit;
  longer = omega arith;
  here = omega arith;
  keeps = λ is_true j h. value_older is_true n old j h;
  demands = same;
  has_value = λ is_true. value_newest is_true n old (length old) refl;
}

moved : (old new : List Node) (n : Node) (i : ℕ) (meaning : (Term → Bool) → Bool) → new ≡ n ∷ old → i ≡ length old
    → Adds old (n ∷ old) (length old) meaning → Adds old new i meaning
moved old new n i meaning e f h =
    subst (λ (new : List Node). Adds old new i meaning) (sym e) (subst (λ (i : ℕ). Adds old (n ∷ old) i meaning) (sym f) h)

pub adds_always : (old new : List Node) (i : ℕ) → IsCircuit old → new ≡ always ∷ old → i ≡ length old → Adds old new i (λ is_true. true)
adds_always old new i circuit e f = moved old new always i (λ is_true. true) e f (adds_newest old always circuit (λ is_true. refl))

pub adds_opposite : (old new : List Node) (i k : ℕ) → IsCircuit old → i < length old → new ≡ opposite i ∷ old → k ≡ length old
    → Adds old new k (λ is_true. not (value is_true old i))
adds_opposite old new i k circuit h e f =
    moved old new (opposite i) k (λ is_true. not (value is_true old i)) e f (adds_newest old (opposite i) (h, circuit) (λ is_true. refl))

pub adds_both : (old new : List Node) (i j k : ℕ) → IsCircuit old → i < length old → j < length old → new ≡ both i j ∷ old → k ≡ length old
    → Adds old new k (λ is_true. value is_true old i && value is_true old j)
adds_both old new i j k circuit h l e f =
    moved old new (both i j) k (λ is_true. value is_true old i && value is_true old j) e f (adds_newest old (both i j) (h, l, circuit) (λ is_true. refl))

pub adds_atom : (old new : List Node) (a : Term) (k : ℕ) → IsCircuit old → IsAtom a → IsNew a old → new ≡ atom a ∷ old → k ≡ length old
    → Adds old new k (λ is_true. is_true a)
adds_atom old new a k circuit is_atom h e f = moved old new (atom a) k (λ is_true. is_true a) e f (adds_newest old (atom a) (is_atom, h, circuit) (λ is_true. refl))

-- one addition after another
adds_then : (old middle new : List Node) (i k : ℕ) (first second meaning : (Term → Bool) → Bool) → Adds old middle i first → Adds middle new k second
    → ((is_true : Term → Bool) → second is_true ≡ meaning is_true) → Adds old new k meaning
adds_then old middle new i k first second meaning h l e =
    let longer_first : length old ≤ length middle = h.longer in
    let longer_second : length middle ≤ length new = l.longer in
    record {
      is_circuit = l.is_circuit;
      longer = omega arith;
      here = l.here;
      keeps = λ is_true j below. l.keeps is_true j (let wider : j < length middle = omega arith in wider) ∙ h.keeps is_true j below;
      demands = λ is_true. l.demands is_true ∙ h.demands is_true;
      has_value = λ is_true. l.has_value is_true ∙ e is_true;
    }

-- an atom that is a node already

same_node : (n m : Node) → Some n ≡ Some m → n ≡ m
same_node n m e = cc

value_there : (is_true : Term → Bool) (a : Term) (nodes : List Node) (i : ℕ) → node_at nodes i ≡ Some (atom a) → value is_true nodes i ≡ is_true a
value_there is_true a [] i e = cc
value_there is_true a (n ∷ rest) i e = by_test (eqb i (length rest)) refl e (value_there is_true a rest i)
  where
    by_test : (b : Bool) → eqb i (length rest) ≡ b → cond b (Some n) (node_at rest i) ≡ Some (atom a) → (node_at rest i ≡ Some (atom a) → value is_true rest i ≡ is_true a)
        → cond b (node_value is_true (value is_true rest) n) (value is_true rest i) ≡ is_true a
    by_test true t e below = ap (node_value is_true (value is_true rest)) (same_node n (atom a) e)
    by_test false t e below = below e

within_nodes : (nodes : List Node) (i : ℕ) (n : Node) → node_at nodes i ≡ Some n → i < length nodes
within_nodes [] i n e = cc
within_nodes (m ∷ rest) i n e = by_test (eqb i (length rest)) refl e (within_nodes rest i n)
  where
    by_test : (b : Bool) → eqb i (length rest) ≡ b → cond b (Some m) (node_at rest i) ≡ Some n → (node_at rest i ≡ Some n → i < length rest) → i < suc (length rest)
    by_test true t e below = let same : i ≡ length rest = grind (arith, nat_tests) in omega arith
    by_test false t e below = let h : i < length rest = below e in omega arith

pub atom_there : (a : Term) (nodes : List Node) (i : ℕ) → IsCircuit nodes → node_at nodes i ≡ Some (atom a) → Adds nodes nodes i (λ is_true. is_true a)
atom_there a nodes i circuit e = record {
  is_circuit = circuit;
  longer = omega arith;
  here = within_nodes nodes i (atom a) e;
  keeps = λ is_true j h. refl;
  demands = λ is_true. refl;
  has_value = λ is_true. value_there is_true a nodes i e;
}

-- one that is none

pub atom_new : (a : Term) (nodes : List Node) → ((k : ℕ) → k < length nodes → node_at nodes k ≢ Some (atom a)) → IsNew a nodes
atom_new a [] none = tt
atom_new a (n ∷ rest) none = at_node n (none (length rest) (omega arith)) (atom_new a rest older)
  where
    older : (k : ℕ) → k < length rest → node_at rest k ≢ Some (atom a)
    older k h e = none k (omega arith) (at_older n rest k h ∙ e)

    at_node : (n : Node) → node_at (n ∷ rest) (length rest) ≢ Some (atom a) → IsNew a rest → IsNew a (n ∷ rest)
    at_node (atom b) other h = ((λ e. other (at_newest (atom b) rest (length rest) refl ∙ ap (λ (a : Term). Some (atom a)) e)), h)
    at_node always other h = h
    at_node (opposite i) other h = h
    at_node (both i j) other h = h
    at_node (demand i b) other h = h

-- a demand at a formula that was added

pub demanded : (old middle new : List Node) (i : ℕ) (meaning : (Term → Bool) → Bool) (b : Bool) (is_true : Term → Bool) → Adds old middle i meaning
    → new ≡ demand i b ∷ middle → meets is_true new ≡ (same_value (meaning is_true) b && meets is_true old)
demanded old middle new i meaning b is_true adds e =
    ap (meets is_true) e ∙ ap₂ ◌&&◌ (ap (λ (v : Bool). same_value v b) (adds.has_value is_true)) (adds.demands is_true)
