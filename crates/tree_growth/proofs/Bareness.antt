-- Trees without branches, put together from those of the parts of their formulas.
use Rattle.std.proofs.Common.{ℕ, ◌+◌, ◌≤◌, List, [], ◌∷◌, ◌++◌, ◌≡◌, Bool, not, refl, sym, ap, ap₂, ◌∙◌, subst, map, Contains, arith}
use Rattle.std.proofs.lemmas.List.{map-append}
use Rattle.hol_terms.specs.Terms.{SimpleType, Term, free, Variable}
use Rattle.hol_terms.specs.Indices.{instance_of}
use Rattle.expansion_tree.specs.Budgets.{Head, HasVariableHead, variable_head}
use Rattle.expansion_tree.specs.Standing.{at_leaf, at_constant, at_negation, at_connective, at_selection, at_expansion, none_standing, compound_of, negation_of, quantified, selecting, expanding, truth_value, left_polarity, selected_variables}
use Rattle.expansion_tree.specs.Trees.{leaf_node, constant_node, expansion_node, no_branch}
use Rattle.expansion_tree.specs.declared.trees.Op.{Op}
use Rattle.tree_growth.specs.Growths.{AreNamed, GrownTree, IsBareGrowth, New, numbered_name}
use Rattle.tree_growth.specs.Wrapped.{both_sides, under_negation, under_new_selection}

-- names

named_later : (taken : List (List ℕ)) (from later end : ℕ) (vs : List Variable) → from ≤ later → AreNamed taken later end vs → AreNamed taken from end vs
named_later taken from later end [] less h = omega (arith, less, h)
named_later taken from later end (v ∷ vs) less (n, at_least, name, not_taken, rest) = (n, omega (arith, less, at_least), name, not_taken, rest)

named_append : (taken : List (List ℕ)) (from middle end : ℕ) (vs ws : List Variable) → AreNamed taken from middle vs → AreNamed taken middle end ws
    → AreNamed taken from end (vs ++ ws)
named_append taken from middle end [] ws h g = named_later taken from middle end ws h g
named_append taken from middle end (v ∷ vs) ws (n, at_least, name, not_taken, rest) g =
    (n, at_least, name, not_taken, named_append taken (n + 1) middle end vs ws rest g)

-- nothing new

abbrev nothing : ℕ → New
nothing next = record { selected = []; next = next }

pub bare_leaf : (taken : List (List ℕ)) (next : ℕ) (p : Bool) (a : Term) (g : GrownTree) → g ≡ (leaf_node, record { selected = []; next = next })
    → HasVariableHead a → IsBareGrowth taken next p a g
bare_leaf taken next p a g e h =
    let here : IsBareGrowth taken next p a (leaf_node, nothing next) = (at_leaf p a, refl, record { bare = h; selected = refl; named = omega arith }) in
    subst (IsBareGrowth taken next p a) (sym e) here

pub bare_constant : (taken : List (List ℕ)) (next : ℕ) (p : Bool) (a : Term) (g : GrownTree) → g ≡ (constant_node, record { selected = []; next = next })
    → (v : Bool) × (a ≡ truth_value v) → IsBareGrowth taken next p a g
bare_constant taken next p a g e (v, is) =
    let here : IsBareGrowth taken next p a (constant_node, nothing next) = (at_constant p v, (v, is, refl), record { bare = tt; selected = refl; named = omega arith }) in
    subst (IsBareGrowth taken next p a) (sym e) here

pub bare_expansion : (taken : List (List ℕ)) (next : ℕ) (p : Bool) (a : Term) (g : GrownTree) → g ≡ (expansion_node no_branch, record { selected = []; next = next })
    → (ty : SimpleType) × (b : Term) × (a ≡ quantified (expanding p ty) ty b) → IsBareGrowth taken next p a g
bare_expansion taken next p a g e (ty, b, is) =
    let here : IsBareGrowth taken next p a (expansion_node no_branch, nothing next) =
    (at_expansion p none_standing, (ty, b, is, none_standing, refl, refl), record { bare = refl; selected = refl; named = omega arith }) in
    subst (IsBareGrowth taken next p a) (sym e) here

-- parts put together

pub bare_negated : (taken : List (List ℕ)) (next : ℕ) (p : Bool) (a b : Term) (g h : GrownTree) → a ≡ negation_of b → IsBareGrowth taken next (not p) b g
    → h ≡ under_negation g → IsBareGrowth taken next p a h
bare_negated taken next p a b g h is (s, stands, new) e =
    let here : IsBareGrowth taken next p a (under_negation g) =
    (at_negation s, (b, is, s, stands, refl), record { bare = new.bare; selected = new.selected; named = new.named }) in
    subst (IsBareGrowth taken next p a) (sym e) here

pub bare_beside : (taken : List (List ℕ)) (next : ℕ) (op : Op) (p : Bool) (a b c : Term) (f g h : GrownTree) → a ≡ compound_of op b c
    → IsBareGrowth taken next (left_polarity op p) b f → IsBareGrowth taken f.1.next p c g → h ≡ both_sides op f g → IsBareGrowth taken next p a h
bare_beside taken next op p a b c f g h is (s, left, new) (r, right, more) e =
    let all : f.1.selected ++ g.1.selected ≡ map variable_head (selected_variables s ++ selected_variables r) =
    ap₂ (λ (xs : List Head) (ys : List Head). xs ++ ys) new.selected more.selected ∙ sym (map-append variable_head (selected_variables s) (selected_variables r)) in
    let here : IsBareGrowth taken next p a (both_sides op f g) = (
      at_connective op p s r,
      (b, c, is, s, left, r, right, refl),
      record {
        bare = (new.bare, more.bare);
        selected = all;
        named = named_append taken next f.1.next g.1.next (selected_variables s) (selected_variables r) new.named more.named;
      },
    ) in
    subst (IsBareGrowth taken next p a) (sym e) here

pub bare_selecting : (taken : List (List ℕ)) (from next : ℕ) (name : List ℕ) (p : Bool) (a b : Term) (ty : SimpleType) (g h : GrownTree)
    → a ≡ quantified (selecting p ty) ty b → (n : ℕ) × (from ≤ n) × (name ≡ numbered_name n) × (next ≡ n + 1) → (Contains taken name → ⊥)
    → IsBareGrowth taken next p (instance_of b (free name ty)) g → h ≡ under_new_selection (name, ty) g → IsBareGrowth taken from p a h
bare_selecting taken from next name p a b ty g h is (n, at_least, numbered, behind) not_taken (s, stands, new) e =
    let rest : AreNamed taken (n + 1) g.1.next (selected_variables s) = subst (λ (k : ℕ). AreNamed taken k g.1.next (selected_variables s)) behind new.named in
    let here : IsBareGrowth taken from p a (under_new_selection (name, ty) g) = (
      at_selection (name, ty) s,
      (ty, b, is, s, stands, refl),
      record {
        bare = new.bare;
        selected = ap (λ (hs : List Head). variable_head (name, ty) ∷ hs) new.selected;
        named = (n, at_least, numbered, not_taken, rest);
      },
    ) in
    subst (IsBareGrowth taken from p a) (sym e) here
