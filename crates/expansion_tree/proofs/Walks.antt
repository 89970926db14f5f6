-- The steps of the walk that stands a tree at a formula.
use Rattle.std.proofs.Common.{◌≡◌, ℕ, ◌+◌, ◌≤◌, List, [], ◌∷◌, ◌++◌, length, Bool, true, false, not, refl, sym, ◌∙◌, ap, ap₂, subst, append_assoc, arith, length-append}
use Rattle.std.specs.Prelude.{Contains}
use Rattle.std.proofs.lemmas.List.{append-nil}
use mathlib.Core.Bool.{beq}
use Rattle.hol_terms.specs.Terms.{SimpleType, Term, free, Variable}
use Rattle.hol_terms.specs.Indices.{instance_of}
use Rattle.hol_conv.specs.Conversion.{Long}
use Rattle.expansion_tree.specs.declared.trees.Op.{Op}
use Rattle.expansion_tree.specs.declared.matrices.Matrix.{Matrix}
use Rattle.expansion_tree.specs.declared.matrices.Matrix.TheVariants as matrix
use Rattle.expansion_tree.specs.Trees.{ExpansionTree, leaf_node, constant_node, negation_node, connective_node, selection_node, expansion_node, ExpansionBranches, no_branch, branch, node_count, branch_node_count}
use Rattle.expansion_tree.specs.Matrices.{matrix_paths, joined, IsNumberedTo}
use Rattle.expansion_tree.specs.Standing.{Standing, StandingBranches, at_leaf, at_constant, at_negation, at_connective, at_selection, at_expansion, none_standing, branch_standing, Stands, BranchesStand, IsNormalFormula, leaves, branch_leaves, leaf_count, branch_leaf_count, constant_paths, compound_paths, paths_from, negation_of, compound_of, truth_value, quantified, selecting, expanding, left_polarity, node_total, branch_node_total, Selection, selections_from, branch_selections_from, selected_variables, branch_selected_variables}
use Rattle.expansion_tree.specs.Faults.{AreNew}
use Rattle.expansion_tree.specs.Stood.{Findings, with_more, Stood, BranchesStood, all_joined, AreNumberedTo}

mutual
  -- as many leaves as are counted
  pub length-leaves : (s : Standing) → length (leaves s) ≡ leaf_count s
  length-leaves (at_leaf p a) = refl
  length-leaves (at_constant p v) = refl
  length-leaves (at_negation n) = length-leaves n
  length-leaves (at_connective op p m n) = length-append (leaves m) (leaves n) ∙ rw (length-leaves m, length-leaves n) refl
  length-leaves (at_selection v n) = length-leaves n
  length-leaves (at_expansion p ns) = length-branch_leaves ns

  pub length-branch_leaves : (ns : StandingBranches) → length (branch_leaves ns) ≡ branch_leaf_count ns
  length-branch_leaves none_standing = refl
  length-branch_leaves (branch_standing u n ns) = length-append (leaves n) (branch_leaves ns) ∙ rw (length-leaves n, length-branch_leaves ns) refl

mutual
  -- a tree that stands has its nodes
  pub stands-count : (t : ExpansionTree) (p : Bool) (a : Term) (s : Standing) → Stands p a t s → node_total s ≡ node_count t
  stands-count leaf_node p a s h = ap node_total h
  stands-count constant_node p a s h = ap node_total h.2
  stands-count (negation_node t) p a s h = ap node_total h.4 ∙ ap (λ (n : ℕ). n + 1) (stands-count t (not p) h.0 h.2 h.3)
  stands-count (connective_node op t u) p a s h =
      ap node_total h.7 ∙ ap₂ (λ (m n : ℕ). m + n + 1) (stands-count t (left_polarity op p) h.0 h.3 h.4) (stands-count u p h.1 h.5 h.6)
  stands-count (selection_node name t) p a s h = ap node_total h.5 ∙ ap (λ (n : ℕ). n + 1) (stands-count t p (instance_of h.1 (free name h.0)) h.3 h.4)
  stands-count (expansion_node bs) p a s h = ap node_total h.5 ∙ ap (λ (n : ℕ). n + 1) (branches_stand-count bs p h.0 h.1 h.3 h.4)

  pub branches_stand-count : (bs : ExpansionBranches) (p : Bool) (ty : SimpleType) (b : Term) (ns : StandingBranches) → BranchesStand p ty b bs ns → branch_node_total ns ≡ branch_node_count bs
  branches_stand-count no_branch p ty b ns h = ap branch_node_total h
  branches_stand-count (branch u t bs) p ty b ns h =
      ap branch_node_total h.7 ∙ ap₂ (λ (m n : ℕ). m + n) (stands-count t p h.1 h.3 h.4) (branches_stand-count bs p ty b h.5 h.6)

-- variables that are new, in two lists

pub are_new-append : (taken xs ys : List Variable) → AreNew taken xs → AreNew (taken ++ xs) ys → AreNew taken (xs ++ ys)
are_new-append taken [] ys h g = subst (λ (l : List Variable). AreNew l ys) (append-nil taken) g
are_new-append taken (x ∷ xs) ys h g = (h.0, are_new-append (taken ++ x ∷ []) xs ys h.1 (subst (λ (l : List Variable). AreNew l ys) (sym (append_assoc taken (x ∷ []) xs)) g))

pub are_new-left : (taken xs ys : List Variable) → AreNew taken (xs ++ ys) → AreNew taken xs
are_new-left taken [] ys h = tt
are_new-left taken (x ∷ xs) ys h = (h.0, are_new-left (taken ++ x ∷ []) xs ys h.1)

pub are_new-right : (taken xs ys : List Variable) → AreNew taken (xs ++ ys) → AreNew (taken ++ xs) ys
are_new-right taken [] ys h = subst (λ (l : List Variable). AreNew l ys) (sym (append-nil taken)) h
are_new-right taken (x ∷ xs) ys h = subst (λ (l : List Variable). AreNew l ys) (append_assoc taken (x ∷ []) xs) (are_new-right (taken ++ x ∷ []) xs ys h.1)

-- what was found, and more

findings : List (Bool × Term) → List Selection → List Variable → Findings
findings ls ss vs = record { leaf_list = ls; selection_list = ss; taken = vs }

with_none : (f : Findings) → with_more f [] [] [] ≡ f
with_none f = λ i. record { leaf_list = append-nil f.leaf_list i; selection_list = append-nil f.selection_list i; taken = append-nil f.taken i }

with_more_twice : (f : Findings) (a d : List (Bool × Term)) (b e : List Selection) (c g : List Variable) → with_more (with_more f a b c) d e g ≡ with_more f (a ++ d) (b ++ e) (c ++ g)
with_more_twice f a d b e c g = λ i. record {
  leaf_list = append_assoc f.leaf_list a d i;
  selection_list = append_assoc f.selection_list b e i;
  taken = append_assoc f.taken c g i;
}

-- numbers up to n are numbers up to what is above n
pub numbered-more : (m : Matrix) (n k : ℕ) → n ≤ k → IsNumberedTo n m → IsNumberedTo k m
numbered-more (matrix.Leaf i) n k le h = (h.0, omega (arith, h.1))
numbered-more matrix.Closed n k le h = tt
numbered-more matrix.Empty n k le h = tt
numbered-more (matrix.Beside' p a q b) n k le h = (numbered-more a n k le h.0, numbered-more b n k le h.1)
numbered-more (matrix.Above' p a q b) n k le h = (numbered-more a n k le h.0, numbered-more b n k le h.1)

-- matrices above each other

pub all_joined-append : (xs ys : List Matrix) (qs : List (List ℕ)) → all_joined (xs ++ ys) qs ≡ all_joined xs (all_joined ys qs)
all_joined-append [] ys qs = refl
all_joined-append (x ∷ xs) ys qs = ap (joined (matrix_paths x)) (all_joined-append xs ys qs)

pub numbered-parts : (n : ℕ) (xs ys : List Matrix) → AreNumberedTo n (xs ++ ys) → AreNumberedTo n xs × AreNumberedTo n ys
numbered-parts n [] ys h = (tt, h)
numbered-parts n (x ∷ xs) ys h = let rest = numbered-parts n xs ys h.1 in ((h.0, rest.0), rest.1)

-- one matrix more above those that were put together
pub above_on : (old new all : List Matrix) (m below : Matrix) → old ≡ new ++ m ∷ [] → all_joined old (matrix_paths below) ≡ all_joined all ([] ∷ [])
    → all_joined new (joined (matrix_paths m) (matrix_paths below)) ≡ all_joined all ([] ∷ [])
above_on old new all m below e h = sym (all_joined-append new (m ∷ []) (matrix_paths below)) ∙ ap (λ (l : List Matrix). all_joined l (matrix_paths below)) (sym e) ∙ h

pub above_numbered : (n : ℕ) (old new : List Matrix) (m below : Matrix) → old ≡ new ++ m ∷ [] → AreNumberedTo n old × IsNumberedTo n below → AreNumberedTo n new × (IsNumberedTo n m × IsNumberedTo n below)
above_numbered n old new m below e h =
    let parts = numbered-parts n new (m ∷ []) (subst (AreNumberedTo n) e h.0) in (parts.0, (parts.1.0, h.1))

-- leaves and constants

pub leaf_stood : (p : Bool) (a : Term) (node number end : ℕ) (old new : Findings)
    → new ≡ with_more old ((p, a) ∷ []) [] [] → number ≡ length old.leaf_list + 1 → end ≡ node + 1 → Stood p a leaf_node node old new (matrix.Leaf number) end
leaf_stood p a node number end old new added counted last =
    record {
      standing = at_leaf p a;
      stands = refl;
      fresh = tt;
      added = added;
      path_list = ap (λ (n : ℕ). (n ∷ []) ∷ []) counted;
      numbered = (omega (arith, counted), omega (arith, counted, ap (λ (f : Findings). length f.leaf_list) added, length-append old.leaf_list ((p, a) ∷ [])));
      counted = last;
    }

constant_stood : (p v : Bool) (a : Term) (m : Matrix) (node end : ℕ) (f : Findings) → matrix_paths m ≡ constant_paths p v → IsNumberedTo (length f.leaf_list) m → a ≡ truth_value v → end ≡ node + 1 → Stood p a constant_node node f f m end
constant_stood p v a m node end f same within e last =
    record {
      standing = at_constant p v;
      stands = (v, e, refl);
      fresh = tt;
      added = sym (with_none f);
      path_list = same;
      numbered = within;
      counted = last;
    }

pub closed_stood : (p v : Bool) (a : Term) (node end : ℕ) (f : Findings) → a ≡ truth_value v → beq v p ≡ true → end ≡ node + 1 → Stood p a constant_node node f f matrix.Closed end
closed_stood true true a node end f e same last = constant_stood true true a matrix.Closed node end f refl tt e last
closed_stood false false a node end f e same last = constant_stood false false a matrix.Closed node end f refl tt e last
closed_stood true false a node end f e same last = cc
closed_stood false true a node end f e same last = cc

pub empty_stood : (p v : Bool) (a : Term) (node end : ℕ) (f : Findings) → a ≡ truth_value v → beq v p ≡ false → end ≡ node + 1 → Stood p a constant_node node f f matrix.Empty end
empty_stood true true a node end f e other last = cc
empty_stood false false a node end f e other last = cc
empty_stood true false a node end f e other last = constant_stood true false a matrix.Empty node end f refl tt e last
empty_stood false true a node end f e other last = constant_stood false true a matrix.Empty node end f refl tt e last

-- compounds

pub negation_stood : (t : ExpansionTree) (p : Bool) (a b : Term) (node end : ℕ) (old new : Findings) (m : Matrix) → a ≡ negation_of b → Stood (not p) b t (node + 1) old new m end → Stood p a (negation_node t) node old new m end
negation_stood t p a b node end old new m e x =
    record {
      standing = at_negation x.standing;
      stands = (b, e, x.standing, x.stands, refl);
      fresh = x.fresh;
      added = x.added;
      path_list = x.path_list;
      numbered = x.numbered;
      counted = omega (arith, x.counted);
    }

-- how many leaves there are after those of a tree
leaves_after : (old middle : Findings) (ls : List (Bool × Term)) (ss : List Selection) (vs : List Variable) (n : ℕ) → middle ≡ with_more old ls ss vs → length ls ≡ n → length middle.leaf_list ≡ length old.leaf_list + n
leaves_after old middle ls ss vs n e f = ap (λ (g : Findings). length g.leaf_list) e ∙ length-append old.leaf_list ls ∙ ap (λ (k : ℕ). length old.leaf_list + k) f

pub compound_stood : (op : Op) (t u : ExpansionTree) (p : Bool) (a b c : Term) (node between end : ℕ) (old middle new : Findings) (left right m : Matrix)
    → a ≡ compound_of op b c → Stood (left_polarity op p) b t (node + 1) old middle left between → Stood p c u between middle new right end
    → matrix_paths m ≡ compound_paths op p (matrix_paths left) (matrix_paths right) → ((n : ℕ) → IsNumberedTo n left → IsNumberedTo n right → IsNumberedTo n m) → Stood p a (connective_node op t u) node old new m end
compound_stood op t u p a b c node between end old middle new left right m e x y same both =
    let total : node_total x.standing ≡ node_count t = stands-count t (left_polarity op p) b x.standing x.stands in
    let next : between ≡ node + 1 + node_total x.standing = omega (arith, x.counted, total) in
    let taken : middle.taken ≡ old.taken ++ selected_variables x.standing = ap (λ (f : Findings). f.taken) x.added in
    let long = leaves_after old middle (leaves x.standing) (selections_from (node + 1) x.standing) (selected_variables x.standing) (leaf_count x.standing) x.added (length-leaves x.standing) in
    let first : length middle.leaf_list + 1 ≡ length old.leaf_list + 1 + leaf_count x.standing = omega (arith, long) in
    let more = leaves_after middle new (leaves y.standing) (selections_from between y.standing) (selected_variables y.standing) (leaf_count y.standing) y.added (length-leaves y.standing) in
    let longer : length middle.leaf_list ≤ length new.leaf_list = omega (arith, more) in
    record {
      standing = at_connective op p x.standing y.standing;
      stands = (b, c, e, x.standing, x.stands, y.standing, y.stands, refl);
      fresh = are_new-append old.taken (selected_variables x.standing) (selected_variables y.standing) x.fresh (subst (λ (l : List Variable). AreNew l (selected_variables y.standing)) taken y.fresh);
      added =
          y.added
          ∙ ap (λ (n : ℕ). with_more middle (leaves y.standing) (selections_from n y.standing) (selected_variables y.standing)) next
          ∙ ap (λ (f : Findings). with_more f (leaves y.standing) (selections_from (node + 1 + node_total x.standing) y.standing) (selected_variables y.standing)) x.added
          ∙ with_more_twice old (leaves x.standing) (leaves y.standing) (selections_from (node + 1) x.standing) (selections_from (node + 1 + node_total x.standing) y.standing) (selected_variables x.standing) (selected_variables y.standing);
      path_list = same ∙ rw (x.path_list, y.path_list, first) refl;
      numbered = both (length new.leaf_list) (numbered-more left (length middle.leaf_list) (length new.leaf_list) longer x.numbered) y.numbered;
      counted = omega (arith, x.counted, y.counted);
    }

-- selections and expansions

pub selection_stood : (name : List ℕ) (t : ExpansionTree) (p : Bool) (a b : Term) (ty : SimpleType) (node end : ℕ) (old middle new : Findings) (m : Matrix)
    → a ≡ quantified (selecting p ty) ty b → (Contains old.taken (name, ty) → ⊥)
    → middle ≡ with_more old [] (record { node = node; variable = (name, ty) } ∷ []) ((name, ty) ∷ [])
    → Stood p (instance_of b (free name ty)) t (node + 1) middle new m end → Stood p a (selection_node name t) node old new m end
selection_stood name t p a b ty node end old middle new m e free_one put x =
    let taken : middle.taken ≡ old.taken ++ (name, ty) ∷ [] = ap (λ (f : Findings). f.taken) put in
    let long : length middle.leaf_list ≡ length old.leaf_list = ap (λ (f : Findings). length f.leaf_list) put ∙ ap length (append-nil old.leaf_list) in
    let one : List Selection = record { node = node; variable = (name, ty) } ∷ [] in
    record {
      standing = at_selection (name, ty) x.standing;
      stands = (ty, b, e, x.standing, x.stands, refl);
      fresh = (free_one, subst (λ (l : List Variable). AreNew l (selected_variables x.standing)) taken x.fresh);
      added =
          x.added
          ∙ ap (λ (f : Findings). with_more f (leaves x.standing) (selections_from (node + 1) x.standing) (selected_variables x.standing)) put
          ∙ with_more_twice old [] (leaves x.standing) one (selections_from (node + 1) x.standing) ((name, ty) ∷ []) (selected_variables x.standing);
      path_list = x.path_list ∙ ap (λ (n : ℕ). paths_from (n + 1) x.standing) long;
      numbered = x.numbered;
      counted = omega (arith, x.counted);
    }

pub expansion_stood : (bs : ExpansionBranches) (p : Bool) (a b : Term) (ty : SimpleType) (node end : ℕ) (old new : Findings) (ms : List Matrix) (m : Matrix)
    → a ≡ quantified (expanding p ty) ty b → BranchesStood p ty b bs (node + 1) old new ms end
    → matrix_paths m ≡ all_joined ms ([] ∷ []) → ((n : ℕ) → AreNumberedTo n ms → IsNumberedTo n m) → Stood p a (expansion_node bs) node old new m end
expansion_stood bs p a b ty node end old new ms m e x same within =
    record {
      standing = at_expansion p x.standing;
      stands = (ty, b, e, x.standing, x.stands, refl);
      fresh = x.fresh;
      added = x.added;
      path_list = same ∙ x.path_list;
      numbered = within (length new.leaf_list) x.numbered;
      counted = omega (arith, x.counted);
    }

pub none_stood : (p : Bool) (ty : SimpleType) (b : Term) (at : ℕ) (f : Findings) → BranchesStood p ty b no_branch at f f [] at
none_stood p ty b at f =
    record {
      standing = none_standing;
      stands = refl;
      fresh = tt;
      added = sym (with_none f);
      path_list = refl;
      numbered = tt;
      counted = omega arith;
    }

pub branch_stood : (u : Term) (t : ExpansionTree) (bs : ExpansionBranches) (p : Bool) (ty : SimpleType) (a b : Term) (at between end : ℕ) (old middle new : Findings) (m : Matrix) (ms : List Matrix)
    → Long [] u ty → IsNormalFormula a (instance_of b u) → Stood p a t at old middle m between → BranchesStood p ty b bs between middle new ms end
    → BranchesStood p ty b (branch u t bs) at old new (m ∷ ms) end
branch_stood u t bs p ty a b at between end old middle new m ms is_long normal x y =
    let total : node_total x.standing ≡ node_count t = stands-count t p a x.standing x.stands in
    let next : between ≡ at + node_total x.standing = omega (arith, x.counted, total) in
    let taken : middle.taken ≡ old.taken ++ selected_variables x.standing = ap (λ (f : Findings). f.taken) x.added in
    let long = leaves_after old middle (leaves x.standing) (selections_from at x.standing) (selected_variables x.standing) (leaf_count x.standing) x.added (length-leaves x.standing) in
    let first : length middle.leaf_list + 1 ≡ length old.leaf_list + 1 + leaf_count x.standing = omega (arith, long) in
    let more = leaves_after middle new (branch_leaves y.standing) (branch_selections_from between y.standing) (branch_selected_variables y.standing) (branch_leaf_count y.standing) y.added (length-branch_leaves y.standing) in
    let longer : length middle.leaf_list ≤ length new.leaf_list = omega (arith, more) in
    record {
      standing = branch_standing u x.standing y.standing;
      stands = (is_long, a, normal, x.standing, x.stands, y.standing, y.stands, refl);
      fresh = are_new-append old.taken (selected_variables x.standing) (branch_selected_variables y.standing) x.fresh (subst (λ (l : List Variable). AreNew l (branch_selected_variables y.standing)) taken y.fresh);
      added =
          y.added
          ∙ ap (λ (n : ℕ). with_more middle (branch_leaves y.standing) (branch_selections_from n y.standing) (branch_selected_variables y.standing)) next
          ∙ ap (λ (f : Findings). with_more f (branch_leaves y.standing) (branch_selections_from (at + node_total x.standing) y.standing) (branch_selected_variables y.standing)) x.added
          ∙ with_more_twice old (leaves x.standing) (branch_leaves y.standing) (selections_from at x.standing) (branch_selections_from (at + node_total x.standing) y.standing) (selected_variables x.standing) (branch_selected_variables y.standing);
      path_list = rw (x.path_list, y.path_list, first) refl;
      numbered = (numbered-more m (length middle.leaf_list) (length new.leaf_list) longer x.numbered, y.numbered);
      counted = omega (arith, x.counted, y.counted);
    }
