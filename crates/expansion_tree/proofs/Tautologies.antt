-- Paths and assignments: the deep formula is as its polarity wants it, or all leaves of some path are lost, and not both.
use Rattle.std.proofs.Common.{◌≡◌, ℕ, zero, suc, ◌+◌, List, [], ◌∷◌, ◌++◌, length, Bool, true, false, not, refl, sym, ◌∙◌, subst, arith, length-append, ◌⊎◌, inl, inr, add-zero}
use Rattle.std.specs.Prelude.{slice_get, Some, map}
use Rattle.std.specs.List.{AllByRecursion}
use Rattle.hol_terms.specs.Terms.{SimpleType, Term, free}
use Rattle.hol_terms.specs.Indices.{instance_of}
use Rattle.hol_terms.specs.Truth.{Holds}
use Rattle.expansion_tree.specs.declared.trees.Op.{Op}
use Rattle.expansion_tree.specs.declared.trees.Op.TheVariants.{And, Or, Imp}
use Rattle.expansion_tree.specs.Trees.{ExpansionTree, leaf_node, constant_node, negation_node, connective_node, selection_node, expansion_node, ExpansionBranches, no_branch, branch}
use Rattle.expansion_tree.specs.Matrices.{joined}
use Rattle.expansion_tree.specs.Standing.{Standing, at_leaf, at_constant, at_negation, at_connective, at_selection, at_expansion, StandingBranches, none_standing, branch_standing, Stands, BranchesStand, left_polarity, leaves, branch_leaves, leaf_count, branch_leaf_count, paths_from, branch_paths_from, constant_paths, compound_paths, compound_of, negation_of, truth_value, joining, deep_formula, joined_deep}

-- the formula is as its polarity wants it under the assignment: it holds where positive, and doesn't where negative
abbrev pub IsAsWanted : List Term → Bool → Term → Type 0
IsAsWanted true_atoms true a = Holds true_atoms a
IsAsWanted true_atoms false a = Holds true_atoms a → ⊥

abbrev mutual
  -- what stands has polarity p at its root
  pub HasPolarity : Bool → Standing → Type 0
  HasPolarity p (at_leaf q a) = q ≡ p
  HasPolarity p (at_constant q v) = q ≡ p
  HasPolarity p (at_negation n) = HasPolarity (not p) n
  HasPolarity p (at_connective op q m n) = (q ≡ p) × HasPolarity (left_polarity op p) m × HasPolarity p n
  HasPolarity p (at_selection v n) = HasPolarity p n
  HasPolarity p (at_expansion q ns) = (q ≡ p) × HavePolarity p ns

  pub HavePolarity : Bool → StandingBranches → Type 0
  HavePolarity p none_standing = Unit {0}
  HavePolarity p (branch_standing u n ns) = HasPolarity p n × HavePolarity p ns

-- of each leaf, the first having the number first, it is told whether it is lost, that is not as wanted
abbrev pub TellsLost : (ℕ → Type 0) → List Term → ℕ → List (Bool × Term) → Type 0
TellsLost lost true_atoms first leaf_list =
    (i : ℕ) (leaf : Bool × Term) → slice_get leaf_list i ≡ Some leaf
    → (IsAsWanted true_atoms leaf.0 leaf.1 ⊎ lost (first + i)) × (lost (first + i) → IsAsWanted true_atoms leaf.0 leaf.1 → ⊥)

-- all leaves of some path are lost
abbrev pub SomeLost : (ℕ → Type 0) → List (List ℕ) → Type 0
SomeLost lost [] = ⊥
SomeLost lost (path ∷ paths) = AllByRecursion lost path ⊎ SomeLost lost paths

-- as many leaves as are counted
mutual
  pub counted_leaves : (s : Standing) → length (leaves s) ≡ leaf_count s
  counted_leaves (at_leaf p a) = refl
  counted_leaves (at_constant p v) = refl
  counted_leaves (at_negation n) = counted_leaves n
  counted_leaves (at_connective op p m n) = length-append (leaves m) (leaves n) ∙ rw (counted_leaves m, counted_leaves n) refl
  counted_leaves (at_selection v n) = counted_leaves n
  counted_leaves (at_expansion p ns) = counted_branch_leaves ns

  pub counted_branch_leaves : (ns : StandingBranches) → length (branch_leaves ns) ≡ branch_leaf_count ns
  counted_branch_leaves none_standing = refl
  counted_branch_leaves (branch_standing u n ns) = length-append (leaves n) (branch_leaves ns) ∙ rw (counted_leaves n, counted_branch_leaves ns) refl

-- what stands has its polarity
mutual
  pub standing_polarity : (t : ExpansionTree) (p : Bool) (a : Term) (s : Standing) → Stands p a t s → HasPolarity p s
  standing_polarity leaf_node p a s h = subst (HasPolarity p) (sym h) refl
  standing_polarity constant_node p a s h = subst (HasPolarity p) (sym h.2) refl
  standing_polarity (negation_node t) p a s h = subst (HasPolarity p) (sym h.4) (standing_polarity t (not p) h.0 h.2 h.3)
  standing_polarity (connective_node op t u) p a s h =
      subst (HasPolarity p) (sym h.7) (refl, standing_polarity t (left_polarity op p) h.0 h.3 h.4, standing_polarity u p h.1 h.5 h.6)
  standing_polarity (selection_node name t) p a s h = subst (HasPolarity p) (sym h.5) (standing_polarity t p (instance_of h.1 (free name h.0)) h.3 h.4)
  standing_polarity (expansion_node bs) p a s h = subst (HasPolarity p) (sym h.5) (refl, branches_polarity bs p h.0 h.1 h.3 h.4)

  branches_polarity : (bs : ExpansionBranches) (p : Bool) (ty : SimpleType) (b : Term) (ns : StandingBranches) → BranchesStand p ty b bs ns → HavePolarity p ns
  branches_polarity no_branch p ty b ns h = subst (HavePolarity p) (sym h) tt
  branches_polarity (branch u t bs) p ty b ns h =
      subst (HavePolarity p) (sym h.7) (standing_polarity t p h.1 h.3 h.4, branches_polarity bs p ty b h.5 h.6)

-- items of the first and of the second of two lists that are put together
pub front_item : {A : Type 0} (xs ys : List A) (i : ℕ) (x : A) → slice_get xs i ≡ Some x → slice_get (xs ++ ys) i ≡ Some x
front_item [] ys i x e = cc
front_item (y ∷ xs) ys zero x e = e
front_item (y ∷ xs) ys (suc i) x e = front_item xs ys i x e

pub back_item : {A : Type 0} (xs ys : List A) (i : ℕ) (x : A) → slice_get ys i ≡ Some x → slice_get (xs ++ ys) (length xs + i) ≡ Some x
back_item [] ys i x e = let z : 0 + i ≡ i = omega arith in rw z e
back_item (y ∷ xs) ys i x e = let z : suc (length xs) + i ≡ suc (length xs + i) = omega arith in rw z (back_item xs ys i x e)

front_tells : (lost : ℕ → Type 0) (l : List Term) (first : ℕ) (xs ys : List (Bool × Term)) → TellsLost lost l first (xs ++ ys) → TellsLost lost l first xs
front_tells lost l first xs ys h = λ i leaf e. h i leaf (front_item xs ys i leaf e)

back_tells : (lost : ℕ → Type 0) (l : List Term) (first n : ℕ) (xs ys : List (Bool × Term)) → length xs ≡ n → TellsLost lost l first (xs ++ ys) → TellsLost lost l (first + n) ys
back_tells lost l first n xs ys many h = λ i leaf e.
    let there : first + (length xs + i) ≡ first + n + i = omega (arith, many) in
    let known = h (length xs + i) leaf (back_item xs ys i leaf e) in
    let P : ℕ → Type 0 = λ k. (IsAsWanted l leaf.0 leaf.1 ⊎ lost k) × (lost k → IsAsWanted l leaf.0 leaf.1 → ⊥) in subst P there known

-- all leaves of some path, in two lists of paths one after the other
lost_front : (lost : ℕ → Type 0) (ps qs : List (List ℕ)) → SomeLost lost ps → SomeLost lost (ps ++ qs)
lost_front lost [] qs h = absurd h
lost_front lost (p ∷ ps) qs (inl here) = inl here
lost_front lost (p ∷ ps) qs (inr later) = inr (lost_front lost ps qs later)

lost_back : (lost : ℕ → Type 0) (ps qs : List (List ℕ)) → SomeLost lost qs → SomeLost lost (ps ++ qs)
lost_back lost [] qs h = h
lost_back lost (p ∷ ps) qs h = inr (lost_back lost ps qs h)

lost_either : (lost : ℕ → Type 0) (ps qs : List (List ℕ)) → SomeLost lost (ps ++ qs) → SomeLost lost ps ⊎ SomeLost lost qs
lost_either lost [] qs h = inr h
lost_either lost (p ∷ ps) qs (inl here) = inl (inl here)
lost_either lost (p ∷ ps) qs (inr later) = elim (lost_either lost ps qs later) [ inl x ↦ inl (inr x) | inr x ↦ inr x ]

-- and in two that are joined
all_both : (lost : ℕ → Type 0) (p q : List ℕ) → AllByRecursion lost p → AllByRecursion lost q → AllByRecursion lost (p ++ q)
all_both lost [] q here there = there
all_both lost (n ∷ p) q here there = (here.0, all_both lost p q here.1 there)

all_parts : (lost : ℕ → Type 0) (p q : List ℕ) → AllByRecursion lost (p ++ q) → AllByRecursion lost p × AllByRecursion lost q
all_parts lost [] q h = (tt, h)
all_parts lost (n ∷ p) q h = let rest = all_parts lost p q h.1 in ((h.0, rest.0), rest.1)

lost_after : (lost : ℕ → Type 0) (p : List ℕ) (qs : List (List ℕ)) → AllByRecursion lost p → SomeLost lost qs → SomeLost lost (map (λ q. p ++ q) qs)
lost_after lost p [] here h = absurd h
lost_after lost p (q ∷ qs) here (inl h) = inl (all_both lost p q here h)
lost_after lost p (q ∷ qs) here (inr h) = inr (lost_after lost p qs here h)

after_lost : (lost : ℕ → Type 0) (p : List ℕ) (qs : List (List ℕ)) → SomeLost lost (map (λ q. p ++ q) qs) → AllByRecursion lost p × SomeLost lost qs
after_lost lost p [] h = absurd h
after_lost lost p (q ∷ qs) (inl h) = let both = all_parts lost p q h in (both.0, inl both.1)
after_lost lost p (q ∷ qs) (inr h) = let both = after_lost lost p qs h in (both.0, inr both.1)

lost_joined : (lost : ℕ → Type 0) (ps qs : List (List ℕ)) → SomeLost lost ps → SomeLost lost qs → SomeLost lost (joined ps qs)
lost_joined lost [] qs h there = absurd h
lost_joined lost (p ∷ ps) qs (inl here) there = lost_front lost (map (λ q. p ++ q) qs) (joined ps qs) (lost_after lost p qs here there)
lost_joined lost (p ∷ ps) qs (inr later) there = lost_back lost (map (λ q. p ++ q) qs) (joined ps qs) (lost_joined lost ps qs later there)

joined_lost : (lost : ℕ → Type 0) (ps qs : List (List ℕ)) → SomeLost lost (joined ps qs) → SomeLost lost ps × SomeLost lost qs
joined_lost lost [] qs h = absurd h
joined_lost lost (p ∷ ps) qs h = elim (lost_either lost (map (λ q. p ++ q) qs) (joined ps qs) h) [
  | inl x ↦ let both = after_lost lost p qs x in (inl both.0, both.1)
  | inr x ↦ let both = joined_lost lost ps qs x in (inr both.0, both.1)
]

-- of two parts, each of which is as wanted or lost: where the whole wants both, and where it wants one
both_or_lost : (lost : ℕ → Type 0) (L R W : Type 0) (ps qs : List (List ℕ)) → L ⊎ SomeLost lost ps → R ⊎ SomeLost lost qs → (L → R → W) → W ⊎ SomeLost lost (ps ++ qs)
both_or_lost lost L R W ps qs (inl x) (inl y) f = inl (f x y)
both_or_lost lost L R W ps qs (inl x) (inr y) f = inr (lost_back lost ps qs y)
both_or_lost lost L R W ps qs (inr x) y f = inr (lost_front lost ps qs x)

one_or_lost : (lost : ℕ → Type 0) (L R W : Type 0) (ps qs : List (List ℕ)) → L ⊎ SomeLost lost ps → R ⊎ SomeLost lost qs → (L → W) → (R → W) → W ⊎ SomeLost lost (joined ps qs)
one_or_lost lost L R W ps qs (inl x) y f g = inl (f x)
one_or_lost lost L R W ps qs (inr x) (inl y) f g = inl (g y)
one_or_lost lost L R W ps qs (inr x) (inr y) f g = inr (lost_joined lost ps qs x y)

compound_or_lost : (op : Op) (p : Bool) (l : List Term) (lost : ℕ → Type 0) (b c : Term) (ps qs : List (List ℕ))
    → IsAsWanted l (left_polarity op p) b ⊎ SomeLost lost ps → IsAsWanted l p c ⊎ SomeLost lost qs
    → IsAsWanted l p (compound_of op b c) ⊎ SomeLost lost (compound_paths op p ps qs)
compound_or_lost And true l lost b c ps qs x y = both_or_lost lost (Holds l b) (Holds l c) (Holds l b × Holds l c) ps qs x y (λ f g. (f, g))
compound_or_lost And false l lost b c ps qs x y =
    one_or_lost lost (Holds l b → ⊥) (Holds l c → ⊥) (Holds l b × Holds l c → ⊥) ps qs x y (λ f h. f h.0) (λ g h. g h.1)
compound_or_lost Or true l lost b c ps qs x y = one_or_lost lost (Holds l b) (Holds l c) (Holds l b ⊎ Holds l c) ps qs x y inl inr
compound_or_lost Or false l lost b c ps qs x y =
    both_or_lost lost (Holds l b → ⊥) (Holds l c → ⊥) (Holds l b ⊎ Holds l c → ⊥) ps qs x y (λ f g h. elim h [ inl z ↦ f z | inr z ↦ g z ])
compound_or_lost Imp true l lost b c ps qs x y =
    one_or_lost lost (Holds l b → ⊥) (Holds l c) (Holds l b → Holds l c) ps qs x y (λ f h. absurd (f h)) (λ g h. g)
compound_or_lost Imp false l lost b c ps qs x y =
    both_or_lost lost (Holds l b) (Holds l c → ⊥) ((Holds l b → Holds l c) → ⊥) ps qs x y (λ f g h. g (h f))

-- some branch is as wanted
abbrev SomeWanted : List Term → Bool → StandingBranches → Type 0
SomeWanted l p none_standing = ⊥
SomeWanted l p (branch_standing u n ns) = IsAsWanted l p (deep_formula n) ⊎ SomeWanted l p ns

joining_wanted : (p : Bool) (l : List Term) (a d : Term) → IsAsWanted l p a ⊎ IsAsWanted l p d → IsAsWanted l p (compound_of (joining p) a d)
joining_wanted true l a d h = h
joining_wanted false l a d (inl h) = λ both. h both.0
joining_wanted false l a d (inr h) = λ both. h both.1

joining_unwanted : (p : Bool) (l : List Term) (a d : Term) → (IsAsWanted l p a → ⊥) → (IsAsWanted l p d → ⊥) → IsAsWanted l p (compound_of (joining p) a d) → ⊥
joining_unwanted true l a d f g h = elim h [ inl x ↦ f x | inr x ↦ g x ]
joining_unwanted false l a d f g h = f (λ x. g (λ y. h (x, y)))

joined_wanted : (p : Bool) (l : List Term) (a : Term) (ns : StandingBranches) → IsAsWanted l p a ⊎ SomeWanted l p ns → IsAsWanted l p (joined_deep p a ns)
joined_wanted p l a none_standing (inl h) = h
joined_wanted p l a none_standing (inr h) = absurd h
joined_wanted p l a (branch_standing u n ns) (inl h) = joined_wanted p l (compound_of (joining p) a (deep_formula n)) ns (inl (joining_wanted p l a (deep_formula n) (inl h)))
joined_wanted p l a (branch_standing u n ns) (inr (inl h)) = joined_wanted p l (compound_of (joining p) a (deep_formula n)) ns (inl (joining_wanted p l a (deep_formula n) (inr h)))
joined_wanted p l a (branch_standing u n ns) (inr (inr h)) = joined_wanted p l (compound_of (joining p) a (deep_formula n)) ns (inr h)

joined_unwanted : (p : Bool) (l : List Term) (a : Term) (ns : StandingBranches) → (IsAsWanted l p a → ⊥) → (SomeWanted l p ns → ⊥) → IsAsWanted l p (joined_deep p a ns) → ⊥
joined_unwanted p l a none_standing f g h = f h
joined_unwanted p l a (branch_standing u n ns) f g h =
    joined_unwanted p l (compound_of (joining p) a (deep_formula n)) ns (joining_unwanted p l a (deep_formula n) f (λ x. g (inl x))) (λ x. g (inr x)) h

constant_or_lost : (p v : Bool) (l : List Term) (lost : ℕ → Type 0) → IsAsWanted l p (truth_value v) ⊎ SomeLost lost (constant_paths p v)
constant_or_lost true true l lost = inl tt
constant_or_lost false false l lost = inl (λ h. h)
constant_or_lost true false l lost = inr (inl tt)
constant_or_lost false true l lost = inr (inl tt)

constant_not_lost : (p v : Bool) (l : List Term) (lost : ℕ → Type 0) → SomeLost lost (constant_paths p v) → IsAsWanted l p (truth_value v) → ⊥
constant_not_lost true true l lost h w = h
constant_not_lost false false l lost h w = h
constant_not_lost true false l lost h w = w
constant_not_lost false true l lost h w = w tt

negation_wanted : (p : Bool) (l : List Term) (a : Term) → IsAsWanted l (not p) a → IsAsWanted l p (negation_of a)
negation_wanted true l a h = h
negation_wanted false l a h = λ f. f h

negation_unwanted : (p : Bool) (l : List Term) (a : Term) → (IsAsWanted l (not p) a → ⊥) → IsAsWanted l p (negation_of a) → ⊥
negation_unwanted true l a f h = f h
negation_unwanted false l a f h = h f

-- no branch: the expansion is as its constant is
none_unwanted : (p : Bool) (l : List Term) → IsAsWanted l p (truth_value (not p)) → ⊥
none_unwanted true l h = h
none_unwanted false l h = h tt

mutual
  pub wanted_or_lost : (s : Standing) (p : Bool) (l : List Term) (lost : ℕ → Type 0) (first : ℕ) → HasPolarity p s → TellsLost lost l first (leaves s)
      → IsAsWanted l p (deep_formula s) ⊎ SomeLost lost (paths_from first s)
  wanted_or_lost (at_leaf q a) p l lost first h tells =
      let known = (tells 0 (q, a) refl).0 in
      elim known [
        | inl x ↦ inl (subst (λ (r : Bool). IsAsWanted l r a) h x)
        | inr x ↦ let here : first + 0 ≡ first = add-zero first in inr (inl (subst lost here x, tt))
      ]
  wanted_or_lost (at_constant q v) p l lost first h tells =
      let Q : Bool → Type 0 = λ r. IsAsWanted l p (truth_value v) ⊎ SomeLost lost (constant_paths r v) in subst Q (sym h) (constant_or_lost p v l lost)
  wanted_or_lost (at_negation n) p l lost first h tells =
      elim (wanted_or_lost n (not p) l lost first h tells) [ inl x ↦ inl (negation_wanted p l (deep_formula n) x) | inr x ↦ inr x ]
  wanted_or_lost (at_connective op q m n) p l lost first h tells =
      let left = wanted_or_lost m (left_polarity op p) l lost first h.1 (front_tells lost l first (leaves m) (leaves n) tells) in
      let right = wanted_or_lost n p l lost (first + leaf_count m) h.2 (back_tells lost l first (leaf_count m) (leaves m) (leaves n) (counted_leaves m) tells) in
      let Q : Bool → Type 0 = λ r. IsAsWanted l p (compound_of op (deep_formula m) (deep_formula n)) ⊎ SomeLost lost (compound_paths op r (paths_from first m) (paths_from (first + leaf_count m) n)) in
      subst Q (sym h.0) (compound_or_lost op p l lost (deep_formula m) (deep_formula n) (paths_from first m) (paths_from (first + leaf_count m) n) left right)
  wanted_or_lost (at_selection v n) p l lost first h tells = wanted_or_lost n p l lost first h tells
  wanted_or_lost (at_expansion q none_standing) p l lost first h tells = inr (inl tt)
  wanted_or_lost (at_expansion q (branch_standing u n ns)) p l lost first h tells =
      let here = wanted_or_lost n p l lost first h.1.0 (front_tells lost l first (leaves n) (branch_leaves ns) tells) in
      let later = branch_wanted_or_lost ns p l lost (first + leaf_count n) h.1.1 (back_tells lost l first (leaf_count n) (leaves n) (branch_leaves ns) (counted_leaves n) tells) in
      let Q : Bool → Type 0 = λ r. IsAsWanted l p (joined_deep r (deep_formula n) ns) ⊎ SomeLost lost (joined (paths_from first n) (branch_paths_from (first + leaf_count n) ns)) in
      subst Q (sym h.0) (
      one_or_lost lost (IsAsWanted l p (deep_formula n)) (SomeWanted l p ns) (IsAsWanted l p (joined_deep p (deep_formula n) ns)) (paths_from first n) (branch_paths_from (first + leaf_count n) ns) here later
      (λ x. joined_wanted p l (deep_formula n) ns (inl x))
      (λ x. joined_wanted p l (deep_formula n) ns (inr x))
      )

  branch_wanted_or_lost : (ns : StandingBranches) (p : Bool) (l : List Term) (lost : ℕ → Type 0) (first : ℕ) → HavePolarity p ns → TellsLost lost l first (branch_leaves ns)
      → SomeWanted l p ns ⊎ SomeLost lost (branch_paths_from first ns)
  branch_wanted_or_lost none_standing p l lost first h tells = inr (inl tt)
  branch_wanted_or_lost (branch_standing u n ns) p l lost first h tells =
      let here = wanted_or_lost n p l lost first h.0 (front_tells lost l first (leaves n) (branch_leaves ns) tells) in
      let later = branch_wanted_or_lost ns p l lost (first + leaf_count n) h.1 (back_tells lost l first (leaf_count n) (leaves n) (branch_leaves ns) (counted_leaves n) tells) in
      one_or_lost lost (IsAsWanted l p (deep_formula n)) (SomeWanted l p ns) (IsAsWanted l p (deep_formula n) ⊎ SomeWanted l p ns) (paths_from first n) (branch_paths_from (first + leaf_count n) ns) here later inl inr

compound_not_lost : (op : Op) (p : Bool) (l : List Term) (lost : ℕ → Type 0) (b c : Term) (ps qs : List (List ℕ))
    → (SomeLost lost ps → IsAsWanted l (left_polarity op p) b → ⊥) → (SomeLost lost qs → IsAsWanted l p c → ⊥)
    → SomeLost lost (compound_paths op p ps qs) → IsAsWanted l p (compound_of op b c) → ⊥
compound_not_lost And true l lost b c ps qs f g h w = elim (lost_either lost ps qs h) [ inl x ↦ f x w.0 | inr x ↦ g x w.1 ]
compound_not_lost And false l lost b c ps qs f g h w = let both = joined_lost lost ps qs h in f both.0 (λ x. g both.1 (λ y. w (x, y)))
compound_not_lost Or true l lost b c ps qs f g h w = let both = joined_lost lost ps qs h in elim w [ inl x ↦ f both.0 x | inr x ↦ g both.1 x ]
compound_not_lost Or false l lost b c ps qs f g h w = elim (lost_either lost ps qs h) [ inl x ↦ f x (λ y. w (inl y)) | inr x ↦ g x (λ y. w (inr y)) ]
compound_not_lost Imp true l lost b c ps qs f g h w = let both = joined_lost lost ps qs h in f both.0 (λ x. g both.1 (w x))
compound_not_lost Imp false l lost b c ps qs f g h w = elim (lost_either lost ps qs h) [ inl x ↦ w (λ y. absurd (f x y)) | inr x ↦ g x (λ y. w (λ _. y)) ]

mutual
  pub wanted_not_lost : (s : Standing) (p : Bool) (l : List Term) (lost : ℕ → Type 0) (first : ℕ) → HasPolarity p s → TellsLost lost l first (leaves s)
      → SomeLost lost (paths_from first s) → IsAsWanted l p (deep_formula s) → ⊥
  wanted_not_lost (at_leaf q a) p l lost first h tells some w =
      let no = (tells 0 (q, a) refl).1 in
      let here : first + 0 ≡ first = add-zero first in
      elim some [ inl x ↦ no (subst lost (sym here) x.0) (subst (λ (r : Bool). IsAsWanted l r a) (sym h) w) | inr x ↦ x ]
  wanted_not_lost (at_constant q v) p l lost first h tells some w =
      let Q : Bool → Type 0 = λ r. SomeLost lost (constant_paths r v) in constant_not_lost p v l lost (subst Q h some) w
  wanted_not_lost (at_negation n) p l lost first h tells some w = negation_unwanted p l (deep_formula n) (λ x. wanted_not_lost n (not p) l lost first h tells some x) w
  wanted_not_lost (at_connective op q m n) p l lost first h tells some w =
      let Q : Bool → Type 0 = λ r. SomeLost lost (compound_paths op r (paths_from first m) (paths_from (first + leaf_count m) n)) in
      compound_not_lost op p l lost (deep_formula m) (deep_formula n) (paths_from first m) (paths_from (first + leaf_count m) n)
      (λ x y. wanted_not_lost m (left_polarity op p) l lost first h.1 (front_tells lost l first (leaves m) (leaves n) tells) x y)
      (λ x y. wanted_not_lost n p l lost (first + leaf_count m) h.2 (back_tells lost l first (leaf_count m) (leaves m) (leaves n) (counted_leaves m) tells) x y)
      (subst Q h.0 some) w
  wanted_not_lost (at_selection v n) p l lost first h tells some w = wanted_not_lost n p l lost first h tells some w
  wanted_not_lost (at_expansion q none_standing) p l lost first h tells some w =
      let Q : Bool → Type 0 = λ r. IsAsWanted l p (truth_value (not r)) in none_unwanted p l (subst Q h.0 w)
  wanted_not_lost (at_expansion q (branch_standing u n ns)) p l lost first h tells some w =
      let both = joined_lost lost (paths_from first n) (branch_paths_from (first + leaf_count n) ns) some in
      let Q : Bool → Type 0 = λ r. IsAsWanted l p (joined_deep r (deep_formula n) ns) in
      joined_unwanted p l (deep_formula n) ns
      (λ x. wanted_not_lost n p l lost first h.1.0 (front_tells lost l first (leaves n) (branch_leaves ns) tells) both.0 x)
      (λ x. branch_wanted_not_lost ns p l lost (first + leaf_count n) h.1.1 (back_tells lost l first (leaf_count n) (leaves n) (branch_leaves ns) (counted_leaves n) tells) both.1 x)
      (subst Q h.0 w)

  branch_wanted_not_lost : (ns : StandingBranches) (p : Bool) (l : List Term) (lost : ℕ → Type 0) (first : ℕ) → HavePolarity p ns → TellsLost lost l first (branch_leaves ns)
      → SomeLost lost (branch_paths_from first ns) → SomeWanted l p ns → ⊥
  branch_wanted_not_lost none_standing p l lost first h tells some w = w
  branch_wanted_not_lost (branch_standing u n ns) p l lost first h tells some w =
      let both = joined_lost lost (paths_from first n) (branch_paths_from (first + leaf_count n) ns) some in
      elim w [
        | inl x ↦ wanted_not_lost n p l lost first h.0 (front_tells lost l first (leaves n) (branch_leaves ns) tells) both.0 x
        | inr x ↦ branch_wanted_not_lost ns p l lost (first + leaf_count n) h.1 (back_tells lost l first (leaf_count n) (leaves n) (branch_leaves ns) (counted_leaves n) tells) both.1 x
      ]
