-- Leaves that cover a tree are all leaves of some path, so they hold a pair where the mating spans the paths.
use Rattle.std.proofs.Common.{◌≡◌, ℕ, zero, suc, ◌+◌, ◌==◌, List, [], ◌∷◌, ◌++◌, map, Bool, true, false, ◌&&◌, ◌||◌, refl, sym, ◌∙◌, subst, ap, arith, inl, inr, ◌⊎◌}
use Rattle.std.specs.Prelude.{Contains}
use Rattle.std.specs.List.{AllByRecursion}
use Rattle.std.proofs.lemmas.Bool.{eq-eqb}
use Rattle.std.proofs.lemmas.Bool.Decides.{eqb_tells}
use Rattle.std.proofs.lemmas.List.Elements.{recursion_from_All}
use Rattle.expansion_tree.specs.declared.trees.Op.{Op}
use Rattle.expansion_tree.specs.declared.trees.Op.TheVariants.{And, Or, Imp}
use Rattle.expansion_tree.specs.Matrices.{joined}
use Rattle.expansion_tree.specs.Standing.{Standing, at_leaf, at_constant, at_negation, at_connective, at_selection, at_expansion, StandingBranches, none_standing, branch_standing, leaf_count, constant_paths, compound_paths, paths_from, branch_paths_from}
use Rattle.vertical_paths.specs.Matings.{is_on, is_closed, Spans}
use Rattle.refutations.specs.Covering.{ConstantCovered, CompoundCovered, Covers, CoversBranches}
use Rattle.refutations.proofs.Replacing.{all_joined}

-- all leaves of some path are found
abbrev pub SomeFound : List ℕ → List (List ℕ) → Type 0
SomeFound found [] = ⊥
SomeFound found (p ∷ ps) = AllByRecursion (Contains found) p ⊎ SomeFound found ps

-- in two lists of paths one after the other

found_front : (found : List ℕ) (ps qs : List (List ℕ)) → SomeFound found ps → SomeFound found (ps ++ qs)
found_front found [] qs h = absurd h
found_front found (p ∷ ps) qs (inl here) = inl here
found_front found (p ∷ ps) qs (inr later) = inr (found_front found ps qs later)

found_back : (found : List ℕ) (ps qs : List (List ℕ)) → SomeFound found qs → SomeFound found (ps ++ qs)
found_back found [] qs h = h
found_back found (p ∷ ps) qs h = inr (found_back found ps qs h)

-- and in two that are joined

found_after : (found p : List ℕ) (qs : List (List ℕ)) → AllByRecursion (Contains found) p → SomeFound found qs → SomeFound found (map (λ q. p ++ q) qs)
found_after found p [] here h = absurd h
found_after found p (q ∷ qs) here (inl h) = inl (all_joined (Contains found) p q here h)
found_after found p (q ∷ qs) here (inr h) = inr (found_after found p qs here h)

found_joined : (found : List ℕ) (ps qs : List (List ℕ)) → SomeFound found ps → SomeFound found qs → SomeFound found (joined ps qs)
found_joined found [] qs h there = absurd h
found_joined found (p ∷ ps) qs (inl here) there = found_front found (map (λ q. p ++ q) qs) (joined ps qs) (found_after found p qs here there)
found_joined found (p ∷ ps) qs (inr later) there = found_back found (map (λ q. p ++ q) qs) (joined ps qs) (found_joined found ps qs later there)

-- the paths of what is covered

constant_found : (found : List ℕ) (p v : Bool) → ConstantCovered p v → SomeFound found (constant_paths p v)
constant_found found true true h = h
constant_found found false false h = h
constant_found found true false h = inl tt
constant_found found false true h = inl tt

compound_found : (found : List ℕ) (op : Op) (p : Bool) (Left Right : Type 0) (ps qs : List (List ℕ)) → (Left → SomeFound found ps) → (Right → SomeFound found qs) → CompoundCovered op p Left Right
    → SomeFound found (compound_paths op p ps qs)
compound_found found And true Left Right ps qs f g h = elim h [ inl x ↦ found_front found ps qs (f x) | inr y ↦ found_back found ps qs (g y) ]
compound_found found And false Left Right ps qs f g h = found_joined found ps qs (f h.0) (g h.1)
compound_found found Or true Left Right ps qs f g h = found_joined found ps qs (f h.0) (g h.1)
compound_found found Or false Left Right ps qs f g h = elim h [ inl x ↦ found_front found ps qs (f x) | inr y ↦ found_back found ps qs (g y) ]
compound_found found Imp true Left Right ps qs f g h = found_joined found ps qs (f h.0) (g h.1)
compound_found found Imp false Left Right ps qs f g h = elim h [ inl x ↦ found_front found ps qs (f x) | inr y ↦ found_back found ps qs (g y) ]

mutual
  -- leaves that cover a tree are all leaves of one of its paths
  pub path_found : (found : List ℕ) (before first : ℕ) (s : Standing) → first ≡ before + 1 → Covers found before s → SomeFound found (paths_from first s)
  path_found found before first (at_leaf p a) e h = inl (subst (Contains found) (sym e) h, tt)
  path_found found before first (at_constant p v) e h = constant_found found p v h
  path_found found before first (at_negation n) e h = path_found found before first n e h
  path_found found before first (at_connective op p m n) e h =
      compound_found found op p (Covers found before m) (Covers found (before + leaf_count m) n) (paths_from first m) (paths_from (first + leaf_count m) n)
      (λ x. path_found found before first m e x) (λ y. path_found found (before + leaf_count m) (first + leaf_count m) n (omega (arith, e)) y) h
  path_found found before first (at_selection v n) e h = path_found found before first n e h
  path_found found before first (at_expansion p ns) e h = branches_path_found found before first ns e h

  branches_path_found : (found : List ℕ) (before first : ℕ) (ns : StandingBranches) → first ≡ before + 1 → CoversBranches found before ns → SomeFound found (branch_paths_from first ns)
  branches_path_found found before first none_standing e h = inl tt
  branches_path_found found before first (branch_standing u n ns) e h =
      found_joined found (paths_from first n) (branch_paths_from (first + leaf_count n) ns) (path_found found before first n e h.0)
      (branches_path_found found (before + leaf_count n) (first + leaf_count n) ns (omega (arith, e)) h.1)

-- pairs on a path all of whose leaves are found

contained_on : (found : List ℕ) (n : ℕ) → Contains found n → is_on found n ≡ true
contained_on [] n (k, within, e) = absurd (omega (arith, within))
contained_on (m ∷ found) n (zero, within, e) = ap (λ b. b || is_on found n) (eq-eqb m n e)
contained_on (m ∷ found) n (suc k, within, e) = or_true (m == n) (is_on found n) (contained_on found n (k, omega (arith, within), e))
  where
    or_true : (a b : Bool) → b ≡ true → (a || b) ≡ true
    or_true true b h = refl
    or_true false b h = h

found_on : (found path : List ℕ) (n : ℕ) → AllByRecursion (Contains found) path → is_on path n ≡ true → is_on found n ≡ true
found_on found [] n all h = cc
found_on found (k ∷ path) n all h = elim (eqb_tells k n) [
  | inl same ↦ contained_on found n (subst (Contains found) same.1 all.0)
  | inr other ↦ found_on found path n all.1 (sym (ap (λ b. b || is_on path n) other.0) ∙ h)
]

both_true : (a b c d : Bool) → (a ≡ true → c ≡ true) → (b ≡ true → d ≡ true) → (a && b) ≡ true → (c && d) ≡ true
both_true true true c d f g h = rw (f refl, g refl) refl
both_true true false c d f g h = cc
both_true false b c d f g h = cc

either_true : (a b c d : Bool) → (a ≡ true → c ≡ true) → (b ≡ true → d ≡ true) → (a || b) ≡ true → (c || d) ≡ true
either_true true b c d f g h = rw (f refl) refl
either_true false b true d f g h = refl
either_true false b false d f g h = g h

found_closed : (pairs : List (ℕ × ℕ)) (found path : List ℕ) → AllByRecursion (Contains found) path → is_closed pairs path ≡ true → is_closed pairs found ≡ true
found_closed [] found path all h = h
found_closed (pair ∷ pairs) found path all h =
    either_true (is_on path pair.0 && is_on path pair.1) (is_closed pairs path) (is_on found pair.0 && is_on found pair.1) (is_closed pairs found)
    (both_true (is_on path pair.0) (is_on path pair.1) (is_on found pair.0) (is_on found pair.1) (found_on found path pair.0 all) (found_on found path pair.1 all)) (found_closed pairs found path all) h

some_closed : (pairs : List (ℕ × ℕ)) (found : List ℕ) (ps : List (List ℕ)) → AllByRecursion (λ path. is_closed pairs path ≡ true) ps → SomeFound found ps → is_closed pairs found ≡ true
some_closed pairs found [] closed h = absurd h
some_closed pairs found (p ∷ ps) closed (inl here) = found_closed pairs found p here closed.0
some_closed pairs found (p ∷ ps) closed (inr later) = some_closed pairs found ps closed.1 later

-- leaves that hold all leaves of some path hold a pair where the mating spans the paths
pub covering_closed : (pairs : List (ℕ × ℕ)) (found : List ℕ) (ps : List (List ℕ)) → Spans pairs ps → SomeFound found ps → is_closed pairs found ≡ true
covering_closed pairs found ps spans h = some_closed pairs found ps (recursion_from_All (λ path. is_closed pairs path ≡ true) ps spans) h
