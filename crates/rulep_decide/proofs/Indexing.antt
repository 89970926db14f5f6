-- The map of places has the numbers of all atoms.
use Rattle.std.proofs.Common.{ℕ, ◌<◌, List, [], ◌∷◌, length, Bool, true, false, cond, eqb, ◌≡◌, ◌≢◌, sym, ap, subst, ◌∙◌, Option, Some, None, arith, nat_eq}
use Rattle.std.proofs.lemmas.Bool.Decides.{nat_tests}
use Rattle.std.specs.HashMap.{HashMap, get}
use Rattle.std.specs.Map.{update}
use Rattle.hol_terms.specs.Terms.{Term}
use Rattle.hol_terms.specs.Truth.{IsAtom}
use Rattle.rulep_decide.specs.Fingerprints.{fingerprint_of}
use Rattle.rulep_decide.specs.declared.circuits.Circuit.{Circuit}
use Rattle.rulep_decide.specs.Circuits.{Node, atom, always, opposite, both, demand, node_at, nodes_of, IsNew, IsCircuit, AreIndexed, IsNumbered}
use Rattle.rulep_decide.proofs.Adding.{atom_new}

same_node : (n m : Node) → Some n ≡ Some m → n ≡ m
same_node n m e = cc

pub indexed_none : {S : Type 0} (places : HashMap ℕ ℕ S) → AreIndexed places []
indexed_none places i a e = cc

-- a node that is no atom
older_indexed : {S : Type 0} (places : HashMap ℕ ℕ S) (old : List Node) (n : Node) → ((a : Term) → n ≢ atom a) → AreIndexed places old → AreIndexed places (n ∷ old)
older_indexed places old n none h i a e = by_test (eqb i (length old)) e
  where
    by_test : (b : Bool) → cond b (Some n) (node_at old i) ≡ Some (atom a) → get nat_eq places (fingerprint_of a) ≢ None
    by_test true e = absurd (none a (same_node n (atom a) e))
    by_test false e = h i a e

numbered_by : (old new : Circuit) (n : Node) → IsNumbered old → ((a : Term) → n ≢ atom a) → IsCircuit (n ∷ nodes_of old) → nodes_of new ≡ n ∷ nodes_of old
    → new.places ≡ old.places → IsNumbered new
numbered_by old new n numbered none circuit e f = record {
  in_order = subst IsCircuit (sym e) circuit;
  indexed = subst (λ (nodes : List Node). AreIndexed new.places nodes) (sym e)
      (subst (λ places. AreIndexed places (n ∷ nodes_of old)) (sym f) (older_indexed old.places (nodes_of old) n none numbered.indexed));
}

pub numbered_always : (old new : Circuit) → IsNumbered old → nodes_of new ≡ always ∷ nodes_of old → new.places ≡ old.places → IsNumbered new
numbered_always old new numbered e f = numbered_by old new always numbered (λ a e. cc) numbered.in_order e f

pub numbered_opposite : (old new : Circuit) (i : ℕ) → IsNumbered old → i < length (nodes_of old) → nodes_of new ≡ opposite i ∷ nodes_of old
    → new.places ≡ old.places → IsNumbered new
numbered_opposite old new i numbered h e f = numbered_by old new (opposite i) numbered (λ a e. cc) (h, numbered.in_order) e f

pub numbered_both : (old new : Circuit) (i j : ℕ) → IsNumbered old → i < length (nodes_of old) → j < length (nodes_of old)
    → nodes_of new ≡ both i j ∷ nodes_of old → new.places ≡ old.places → IsNumbered new
numbered_both old new i j numbered h l e f = numbered_by old new (both i j) numbered (λ a e. cc) (h, l, numbered.in_order) e f

pub numbered_demand : (old new : Circuit) (i : ℕ) (b : Bool) → IsNumbered old → i < length (nodes_of old) → nodes_of new ≡ demand i b ∷ nodes_of old
    → new.places ≡ old.places → IsNumbered new
numbered_demand old new i b numbered h e f = numbered_by old new (demand i b) numbered (λ a e. cc) (h, numbered.in_order) e f

-- an atom whose number the map doesn't have is no node
pub new_where_none : (circuit : Circuit) (a : Term) → IsNumbered circuit → get nat_eq circuit.places (fingerprint_of a) ≡ None → IsNew a (nodes_of circuit)
new_where_none circuit a numbered e = atom_new a (nodes_of circuit) (λ k h there. numbered.indexed k a there e)

-- an atom whose number was put into the map
updated_some : (f : ℕ → Option ℕ) (k v q : ℕ) → f q ≢ None → update nat_eq f k (Some v) q ≢ None
updated_some f k v q h = by_test (nat_eq k q)
  where
    by_test : (b : Bool) → cond b (Some v) (f q) ≢ None
    by_test true e = cc
    by_test false e = h e

updated_here : (f : ℕ → Option ℕ) (k v : ℕ) → update nat_eq f k (Some v) k ≢ None
updated_here f k v e = by_test (nat_eq k k) (let t : nat_eq k k ≡ true = grind (arith, nat_tests) in t) e
  where
    by_test : (b : Bool) → b ≡ true → cond b (Some v) (f k) ≢ None
    by_test true t e = cc
    by_test false t e = cc

pub numbered_atom : (old new : Circuit) (a : Term) (v : ℕ) → IsNumbered old → IsAtom a → IsNew a (nodes_of old) → nodes_of new ≡ atom a ∷ nodes_of old
    → ((q : ℕ) → get nat_eq new.places q ≡ update nat_eq (get nat_eq old.places) (fingerprint_of a) (Some v) q) → IsNumbered new
numbered_atom old new a v numbered is_atom is_new e updates = record {
  in_order = subst IsCircuit (sym e) (is_atom, is_new, numbered.in_order);
  indexed = subst (λ (nodes : List Node). AreIndexed new.places nodes) (sym e) at_place;
}
  where
    at_place : (i : ℕ) (b : Term) → node_at (atom a ∷ nodes_of old) i ≡ Some (atom b) → get nat_eq new.places (fingerprint_of b) ≢ None
    at_place i b there none = by_test (eqb i (length (nodes_of old))) there
      where
        by_test : (t : Bool) → cond t (Some (atom a)) (node_at (nodes_of old) i) ≡ Some (atom b) → ⊥
        by_test true there =
            let same : a ≡ b = cc in
            updated_here (get nat_eq old.places) (fingerprint_of a) v
            (sym (updates (fingerprint_of a)) ∙ ap (λ (t : Term). get nat_eq new.places (fingerprint_of t)) same ∙ none)
        by_test false there =
            updated_some (get nat_eq old.places) (fingerprint_of a) v (fingerprint_of b) (numbered.indexed i b there) (sym (updates (fingerprint_of b)) ∙ none)
