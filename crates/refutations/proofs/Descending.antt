-- The nodes below a node: how they stand at their places, and when leaves that cover them cover the node.
use Rattle.std.proofs.Common.{◌≡◌, ◌≤◌, ◌<◌, ◌-◌, ℕ, ◌+◌, List, [], ◌∷◌, ◌++◌, length, length-append, Bool, true, false, not, Some, refl, sym, ◌∙◌, subst, ap, ap₂, arith, inl, inr, ◌⊎◌}
use Rattle.std.specs.Prelude.{All, Contains, slice_get}
use Rattle.std.specs.List.{AllByRecursion}
use Rattle.std.proofs.lemmas.Bool.{ne_eqb}
use Rattle.std.proofs.lemmas.Bool.Decides.{nat_tests}
use Rattle.std.proofs.lemmas.List.Elements.{All-from_recursion, recursion_from_All, All-head, All-tail}
use Rattle.hol_terms.specs.Terms.{SimpleType, Term, free, truth_type}
use Rattle.hol_terms.specs.Typing.{Typed}
use Rattle.hol_terms.specs.Indices.{instance_of}
use Rattle.hol_terms.specs.FreeVariables.{IsFree}
use Rattle.expansion_tree.specs.declared.trees.Op.{Op}
use Rattle.expansion_tree.specs.declared.trees.Op.TheVariants.{And, Or, Imp}
use Rattle.expansion_tree.specs.Trees.{ExpansionTree, leaf_node, constant_node, negation_node, connective_node, selection_node, expansion_node, ExpansionBranches, no_branch, branch, node_count, branch_node_count}
use Rattle.expansion_tree.specs.Standing.{Standing, at_leaf, at_constant, at_negation, at_connective, at_selection, at_expansion, StandingBranches, none_standing, branch_standing, Stands, BranchesStand, leaves, branch_leaves, leaf_count, branch_leaf_count, node_total, Selection, selections_from, branch_selections_from, left_polarity, negation_of, compound_of, truth_value, quantified, selecting, expanding, IsNormalFormula}
use Rattle.expansion_tree.specs.Occurrences.{Occurrence, occurrences_of, occurrences_from, branch_occurrences_from}
use Rattle.expansion_tree.proofs.Walks.{length-leaves, stands-count}
use Rattle.expansion_tree.proofs.Tautologies.{front_item, back_item}
use Rattle.expansion_tree.proofs.Formulas.{formula_negated, formula_left, formula_right, quantified_body, expanding_is, variable_instance_formula, normal_formula}
use Rattle.vertical_paths.specs.Matings.{leaf_at}
use Rattle.dependency.specs.Dependencies.{occurrence_at}
use Rattle.exp_check.specs.Accepted.{AcceptedProof}
use Rattle.nd_rules.specs.Lines.{DeductionLine}
use Rattle.nd_steps.specs.Deductions.{Proves}
use Rattle.refutations.specs.declared.nodes.Place.{Place}
use Rattle.refutations.specs.Opens.{said, Says, OpenNode, Open, node_of, within, times_inside, gives_cases, leaf_total, branch_leaf_total, occurrence_total, branch_occurrence_total, place_below, place_past, place_in_branch, terms_below, IsPartAt, StandsAt, HasLine}
use Rattle.refutations.specs.Covering.{ConstantCovered, CompoundCovered, Covers, CoversBranches, IsNodeCovered, IsCovered}
use Rattle.refutations.specs.Cases.{HasTurnFrom, IsUnsaid, first_occurrence, WaitsFrom}
use Rattle.refutations.proofs.Replacing.{all_in_front, all_behind}
use Rattle.refutations.proofs.Saying.{proves_says, said_read}

-- the node with another line
abbrev pub node_below : Bool → ExpansionTree → ℕ → Place → OpenNode
node_below p t m place = record { positive = p; tree = t; line = m; place = place }

-- a node whose tree is known
pub known_node : (x : OpenNode) (t : ExpansionTree) → x.tree ≡ t → x ≡ node_below x.positive t x.line x.place
known_node x t e = ap (λ (u : ExpansionTree). node_below x.positive u x.line x.place) e

-- numbers

pub within_part : (k first many low count : ℕ) → low ≤ first → first + many ≤ low + count → within k first many ≤ within k low count
within_part k first many low count l h = grind (arith, nat_tests)

pub within_parts : (k first many second more low count : ℕ) → low ≤ first → first + many ≤ second → second + more ≤ low + count → within k first many + within k second more ≤ within k low count
within_parts k first many second more low count l m h = grind (arith, nat_tests)

pub within_first : (k many : ℕ) → 1 ≤ many → within k k many ≡ 1
within_first k many h = grind (arith, nat_tests)

pub within_later : (k first many : ℕ) → k < first → within k first many ≡ 0
within_later k first many h = grind (arith, nat_tests)

pub part_in_front : {A : Type 0} (whole : List A) (offset : ℕ) (xs ys : List A) → IsPartAt whole offset (xs ++ ys) → IsPartAt whole offset xs
part_in_front whole offset xs ys h i x e = h i x (front_item xs ys i x e)

pub part_behind : {A : Type 0} (whole : List A) (offset n : ℕ) (xs ys : List A) → length xs ≡ n → IsPartAt whole offset (xs ++ ys) → IsPartAt whole (offset + n) ys
part_behind whole offset n xs ys many h i x e =
    let there : offset + (length xs + i) ≡ offset + n + i = omega (arith, many) in
    subst (λ (k : ℕ). slice_get whole k ≡ Some x) there (h (length xs + i) x (back_item xs ys i x e))

mutual
  pub leaf_count-stands : (t : ExpansionTree) (p : Bool) (a : Term) (s : Standing) → Stands p a t s → leaf_count s ≡ leaf_total t
  leaf_count-stands leaf_node p a s h = ap leaf_count h
  leaf_count-stands constant_node p a s h = ap leaf_count h.2
  leaf_count-stands (negation_node t) p a s h = ap leaf_count h.4 ∙ leaf_count-stands t (not p) h.0 h.2 h.3
  leaf_count-stands (connective_node op t u) p a s h =
      ap leaf_count h.7 ∙ ap₂ (λ (x y : ℕ). x + y) (leaf_count-stands t (left_polarity op p) h.0 h.3 h.4) (leaf_count-stands u p h.1 h.5 h.6)
  leaf_count-stands (selection_node name t) p a s h = ap leaf_count h.5 ∙ leaf_count-stands t p (instance_of h.1 (free name h.0)) h.3 h.4
  leaf_count-stands (expansion_node bs) p a s h = ap leaf_count h.5 ∙ branch_leaf_count-stand bs p h.0 h.1 h.3 h.4

  pub branch_leaf_count-stand : (bs : ExpansionBranches) (p : Bool) (ty : SimpleType) (b : Term) (ns : StandingBranches) → BranchesStand p ty b bs ns → branch_leaf_count ns ≡ branch_leaf_total bs
  branch_leaf_count-stand no_branch p ty b ns h = ap branch_leaf_count h
  branch_leaf_count-stand (branch u t bs) p ty b ns h =
      ap branch_leaf_count h.7 ∙ ap₂ (λ (x y : ℕ). x + y) (leaf_count-stands t p h.1 h.3 h.4) (branch_leaf_count-stand bs p ty b h.5 h.6)

mutual
  pub length-occurrences : (at : ℕ) (t : ExpansionTree) → length (occurrences_from at t) ≡ occurrence_total t
  length-occurrences at leaf_node = refl
  length-occurrences at constant_node = refl
  length-occurrences at (negation_node t) = length-occurrences (at + 1) t
  length-occurrences at (connective_node op t u) =
      length-append (occurrences_from (at + 1) t) (occurrences_from (at + 1 + node_count t) u) ∙ ap₂ (λ (x y : ℕ). x + y) (length-occurrences (at + 1) t) (length-occurrences (at + 1 + node_count t) u)
  length-occurrences at (selection_node name t) = length-occurrences (at + 1) t
  length-occurrences at (expansion_node bs) = length-branch_occurrences (at + 1) bs

  pub length-branch_occurrences : (at : ℕ) (bs : ExpansionBranches) → length (branch_occurrences_from at bs) ≡ branch_occurrence_total bs
  length-branch_occurrences at no_branch = refl
  length-branch_occurrences at (branch u t bs) =
      let both : length (occurrences_from at t ++ branch_occurrences_from (at + node_count t) bs) ≡ occurrence_total t + branch_occurrence_total bs =
      length-append (occurrences_from at t) (branch_occurrences_from (at + node_count t) bs) ∙ ap₂ (λ (x y : ℕ). x + y) (length-occurrences at t) (length-branch_occurrences (at + node_count t) bs) in
      omega (arith, both)

-- what a line says of a formula

pub free_in_said : (n : List ℕ) (s : SimpleType) (p : Bool) (a : Term) → IsFree n s (said p a) → IsFree n s a
free_in_said n s true a h = elim h [ inl none ↦ absurd none | inr there ↦ there ]
free_in_said n s false a h = h

pub said_has_free : (n : List ℕ) (s : SimpleType) (p : Bool) (a : Term) → IsFree n s a → IsFree n s (said p a)
said_has_free n s true a h = inr h
said_has_free n s false a h = h

-- the occurrences of one are among those of another
pub waits_within : (order : List ℕ) (done : ℕ) (o y : Open) → first_occurrence o ≤ first_occurrence y
    → (node_of y).place.occurrences + occurrence_total (node_of y).tree ≤ (node_of o).place.occurrences + occurrence_total (node_of o).tree → WaitsFrom order done o → WaitsFrom order done y
waits_within order done o y low high waits e l h = waits e (omega (arith, low, l)) (omega (arith, high, h))

-- which leaves cover a node

pub cases_covered : (op : Op) (p : Bool) (left right : Type 0) → gives_cases op p ≡ true → left ⊎ right → CompoundCovered op p left right
cases_covered And true left right e h = h
cases_covered And false left right e h = cc
cases_covered Or true left right e h = cc
cases_covered Or false left right e h = h
cases_covered Imp true left right e h = cc
cases_covered Imp false left right e h = h

pub sides_covered : (op : Op) (p : Bool) (left right : Type 0) → gives_cases op p ≡ false → left → right → CompoundCovered op p left right
sides_covered And true left right e h k = cc
sides_covered And false left right e h k = (h, k)
sides_covered Or true left right e h k = (h, k)
sides_covered Or false left right e h k = cc
sides_covered Imp true left right e h k = (h, k)
sides_covered Imp false left right e h k = cc

-- the formula of a covered node is the one that its line proves
pub covered_formula : (lines : List DeductionLine) (hyps found : List ℕ) (n : OpenNode) (b : Term) → Proves lines n.line hyps (said n.positive b) → (c : IsNodeCovered lines found n) → c.formula ≡ b
covered_formula lines hyps found n b p c =
    said_read lines n.line n.positive b c.formula (proves_says lines n.line hyps (said n.positive b) p) c.says

pub covered_stands : (lines : List DeductionLine) (hyps found : List ℕ) (n : OpenNode) (b : Term) → Proves lines n.line hyps (said n.positive b) → (c : IsNodeCovered lines found n) → Stands n.positive b n.tree c.standing
covered_stands lines hyps found n b p c = subst (λ (a : Term). Stands n.positive a n.tree c.standing) (covered_formula lines hyps found n b p c) c.stands

module _ (g : AcceptedProof) where
  abbrev Chosen : Selection → Type 0
  Chosen = Contains g.fitted.selection_list

  pub negation_parts : (p : Bool) (t : ExpansionTree) (line m : ℕ) (place : Place) (a : Term) (s : Standing) → StandsAt g (node_below p (negation_node t) line place) a s
      → (b : Term) × (a ≡ negation_of b) × (n : Standing) × StandsAt g (node_below (not p) t m (place_below place)) b n
  negation_parts p t line m place a s x =
      let h = x.stands in
      let y : StandsAt g (node_below p (negation_node t) line place) a (at_negation h.2) = subst (StandsAt g (node_below p (negation_node t) line place) a) h.4 x in
      (h.0, h.1, h.2, record { stands = h.3; formed = formula_negated a h.0 h.1 x.formed; selected = y.selected; leaves_are = y.leaves_are; occurrences_are = x.occurrences_are })

  pub connective_parts : (op : Op) (p : Bool) (t u : ExpansionTree) (line m k : ℕ) (place : Place) (a : Term) (s : Standing) → StandsAt g (node_below p (connective_node op t u) line place) a s
      → (b : Term) × (c : Term) × (a ≡ compound_of op b c) × (left : Standing) × StandsAt g (node_below (left_polarity op p) t m (place_below place)) b left
      × (right : Standing) × StandsAt g (node_below p u k (place_past t (place_below place))) c right
  connective_parts op p t u line m k place a s x =
      let h = x.stands in
      let y : StandsAt g (node_below p (connective_node op t u) line place) a (at_connective op p h.3 h.5) = subst (StandsAt g (node_below p (connective_node op t u) line place) a) h.7 x in
      let first = selections_from (place.node + 1) h.3 in
      let second = selections_from (place.node + 1 + node_total h.3) h.5 in
      let chosen : AllByRecursion Chosen (first ++ second) = recursion_from_All Chosen (first ++ second) y.selected in
      let nodes : node_total h.3 ≡ node_count t = stands-count t (left_polarity op p) h.0 h.3 h.4 in
      let many : length (leaves h.3) ≡ leaf_total t = length-leaves h.3 ∙ leaf_count-stands t (left_polarity op p) h.0 h.3 h.4 in
      let one = occurrences_from (place.node + 1) t in
      let other = occurrences_from (place.node + 1 + node_count t) u in (
        h.0,
        h.1,
        h.2,
        h.3,
        record {
          stands = h.4;
          formed = formula_left op a h.0 h.1 h.2 x.formed;
          selected = All-from_recursion Chosen first (all_in_front Chosen first second chosen);
          leaves_are = part_in_front g.fitted.leaf_list place.leaves (leaves h.3) (leaves h.5) y.leaves_are;
          occurrences_are = part_in_front (occurrences_of g.fitted.tree) place.occurrences one other x.occurrences_are;
        },
        h.5,
        record {
          stands = h.6;
          formed = formula_right op a h.0 h.1 h.2 x.formed;
          selected = subst (λ (n : ℕ). All Chosen (selections_from (place.node + 1 + n) h.5)) nodes (All-from_recursion Chosen second (all_behind Chosen first second chosen));
          leaves_are = part_behind g.fitted.leaf_list place.leaves (leaf_total t) (leaves h.3) (leaves h.5) many y.leaves_are;
          occurrences_are = part_behind (occurrences_of g.fitted.tree) place.occurrences (occurrence_total t) one other (length-occurrences (place.node + 1) t) x.occurrences_are;
        },
      )

  pub selection_parts : (p : Bool) (name : List ℕ) (t : ExpansionTree) (line m : ℕ) (place : Place) (a : Term) (s : Standing) → StandsAt g (node_below p (selection_node name t) line place) a s
      → (ty : SimpleType) × (b : Term) × (a ≡ quantified (selecting p ty) ty b) × Typed (ty ∷ []) b truth_type × Chosen (record { node = place.node; variable = (name, ty) })
      × (n : Standing) × StandsAt g (node_below p t m (place_below place)) (instance_of b (free name ty)) n
  selection_parts p name t line m place a s x =
      let h = x.stands in
      let y : StandsAt g (node_below p (selection_node name t) line place) a (at_selection (name, h.0) h.3) = subst (StandsAt g (node_below p (selection_node name t) line place) a) h.5 x in
      let typed : Typed (h.0 ∷ []) h.1 truth_type = quantified_body p a h.1 h.0 h.2 x.formed in
      let here : Selection = record { node = place.node; variable = (name, h.0) } in (
        h.0,
        h.1,
        h.2,
        typed,
        All-head Chosen here (selections_from (place.node + 1) h.3) y.selected,
        h.3,
        record {
          stands = h.4;
          formed = variable_instance_formula name h.0 h.1 typed;
          selected = All-tail Chosen here (selections_from (place.node + 1) h.3) y.selected;
          leaves_are = y.leaves_are;
          occurrences_are = x.occurrences_are;
        },
      )

  pub expansion_parts : (p : Bool) (bs : ExpansionBranches) (line : ℕ) (place : Place) (a : Term) (s : Standing) → StandsAt g (node_below p (expansion_node bs) line place) a s
      → (ty : SimpleType) × (b : Term) × (a ≡ quantified (expanding p ty) ty b) × Typed (ty ∷ []) b truth_type × (ns : StandingBranches) × BranchesStand p ty b bs ns
      × AllByRecursion Chosen (branch_selections_from (place.node + 1) ns) × IsPartAt g.fitted.leaf_list place.leaves (branch_leaves ns)
      × IsPartAt (occurrences_of g.fitted.tree) place.occurrences (branch_occurrences_from (place.node + 1) bs)
  expansion_parts p bs line place a s x =
      let h = x.stands in
      let y : StandsAt g (node_below p (expansion_node bs) line place) a (at_expansion p h.3) = subst (StandsAt g (node_below p (expansion_node bs) line place) a) h.5 x in
      let typed : Typed (h.0 ∷ []) h.1 truth_type = quantified_body (not p) a h.1 h.0 (h.2 ∙ ap (λ c. quantified c h.0 h.1) (expanding_is p h.0)) x.formed in
      (h.0, h.1, h.2, typed, h.3, h.4, recursion_from_All Chosen (branch_selections_from (place.node + 1) h.3) y.selected, y.leaves_are, x.occurrences_are)

  -- the terms of branches have the line of their expansion node
  pub terms_have_line : (lines : List DeductionLine) (hyps : List ℕ) (p : Bool) (ty : SimpleType) (b : Term) (line : ℕ) (bs : ExpansionBranches) (place : Place) (ns : StandingBranches)
      → BranchesStand p ty b bs ns → Typed (ty ∷ []) b truth_type → Proves lines line hyps (said p (quantified (expanding p ty) ty b)) → AllByRecursion Chosen (branch_selections_from place.node ns)
      → IsPartAt g.fitted.leaf_list place.leaves (branch_leaves ns) → IsPartAt (occurrences_of g.fitted.tree) place.occurrences (branch_occurrences_from place.node bs)
      → AllByRecursion (HasLine g lines hyps) (terms_below p line place bs)
  terms_have_line lines hyps p ty b line no_branch place ns h typed proves chosen leaf_part occurrence_part = tt
  terms_have_line lines hyps p ty b line (branch u t bs) place ns h typed proves chosen leaf_part occurrence_part =
      let occurrences = occurrences_of g.fitted.tree in
      let first = selections_from place.node h.3 in
      let second = branch_selections_from (place.node + node_total h.3) h.5 in
      let chosen : AllByRecursion Chosen (first ++ second) = subst (λ (ns : StandingBranches). AllByRecursion Chosen (branch_selections_from place.node ns)) h.7 chosen in
      let leaf_part : IsPartAt g.fitted.leaf_list place.leaves (leaves h.3 ++ branch_leaves h.5) = subst (λ (ns : StandingBranches). IsPartAt g.fitted.leaf_list place.leaves (branch_leaves ns)) h.7 leaf_part in
      let nodes : node_total h.3 ≡ node_count t = stands-count t p h.1 h.3 h.4 in
      let many : length (leaves h.3) ≡ leaf_total t = length-leaves h.3 ∙ leaf_count-stands t p h.1 h.3 h.4 in
      let o : Occurrence = record { first = place.node; last = place.node + node_count t - 1; term = u } in
      let one = occurrences_from place.node t in
      let other = branch_occurrences_from (place.node + node_count t) bs in
      let later : IsPartAt occurrences (place.occurrences + 1) (one ++ other) = part_behind occurrences place.occurrences 1 (o ∷ []) (one ++ other) refl occurrence_part in
      let no_more : place.occurrences + 0 ≡ place.occurrences + 1 - 1 = omega arith in
      let found : slice_get occurrences (place.occurrences + 1 - 1) ≡ Some o = subst (λ (k : ℕ). slice_get occurrences k ≡ Some o) no_more (occurrence_part 0 o refl) in
      let occurs : occurrence_at occurrences (place.occurrences + 1) ≡ Some o = rw (ne_eqb (place.occurrences + 1) 0 (λ z. absurd (omega (arith, z)))) found in (
        record {
          ty = ty;
          body = b;
          lower = h.1;
          standing = h.3;
          stands_at = record {
            stands = h.4;
            formed = normal_formula h.1 (instance_of b u) h.2;
            selected = All-from_recursion Chosen first (all_in_front Chosen first second chosen);
            leaves_are = part_in_front g.fitted.leaf_list place.leaves (leaves h.3) (branch_leaves h.5) leaf_part;
            occurrences_are = part_in_front occurrences (place.occurrences + 1) one other later;
          };
          normal = h.2;
          long = h.0;
          typed = typed;
          occurs = occurs;
          proves = proves;
        },
        terms_have_line lines hyps p ty b line bs (place_past t (place_in_branch place)) h.5 h.6 typed proves
            (subst (λ (n : ℕ). AllByRecursion Chosen (branch_selections_from (place.node + n) h.5)) nodes (all_behind Chosen first second chosen))
            (part_behind g.fitted.leaf_list place.leaves (leaf_total t) (leaves h.3) (branch_leaves h.5) many leaf_part)
            (part_behind occurrences (place.occurrences + 1) (occurrence_total t) one other (length-occurrences place.node t) later),
      )

-- no node stands in two of the terms of branches
pub terms_inside : (k : ℕ) (p : Bool) (line : ℕ) (bs : ExpansionBranches) (place : Place) → times_inside k (terms_below p line place bs) ≤ within k place.node (branch_node_count bs)
terms_inside k p line no_branch place = omega arith
terms_inside k p line (branch u t bs) place =
    let rest = terms_inside k p line bs (place_past t (place_in_branch place)) in
    let both = within_parts k place.node (node_count t) (place.node + node_count t) (branch_node_count bs) place.node (node_count t + branch_node_count bs) (omega arith) (omega arith) (omega arith) in
    omega (arith, rest, both)

pub terms_unsaid : (lines : List DeductionLine) (s : Selection) (p : Bool) (line : ℕ) (bs : ExpansionBranches) (place : Place) → ((a : Term) → Says lines line a → IsFree s.variable.0 s.variable.1 a → ⊥)
    → AllByRecursion (IsUnsaid lines s) (terms_below p line place bs)
terms_unsaid lines s p line no_branch place h = tt
terms_unsaid lines s p line (branch u t bs) place h = (h, terms_unsaid lines s p line bs (place_past t (place_in_branch place)) h)

pub terms_turn : (order : List ℕ) (done : ℕ) (p : Bool) (line : ℕ) (bs : ExpansionBranches) (place : Place)
    → ((e : ℕ) → place.occurrences + 1 ≤ e → e ≤ place.occurrences + branch_occurrence_total bs → HasTurnFrom order done e) → AllByRecursion (WaitsFrom order done) (terms_below p line place bs)
terms_turn order done p line no_branch place h = tt
terms_turn order done p line (branch u t bs) place h =
    (λ e low high. h e (omega (arith, low)) (omega (arith, high)), terms_turn order done p line bs (place_past t (place_in_branch place)) (λ e low high. h e (omega (arith, low)) (omega (arith, high))))

-- leaves that cover the terms of branches cover the branches
pub branches_covered : (lines : List DeductionLine) (found : List ℕ) (p : Bool) (ty : SimpleType) (b : Term) (line : ℕ) (bs : ExpansionBranches) (place : Place) (ns : StandingBranches)
    → BranchesStand p ty b bs ns → Says lines line (said p (quantified (expanding p ty) ty b)) → AllByRecursion (IsCovered lines found) (terms_below p line place bs)
    → (ms : StandingBranches) × BranchesStand p ty b bs ms × CoversBranches found place.leaves ms
branches_covered lines found p ty b line no_branch place ns h says covered = (none_standing, refl, tt)
branches_covered lines found p ty b line (branch u t bs) place ns h says covered =
    let c = covered.0 in
    let whole : quantified (expanding p c.ty) c.ty c.body ≡ quantified (expanding p ty) ty b =
    said_read lines line p (quantified (expanding p ty) ty b) (quantified (expanding p c.ty) c.ty c.body) says c.says in
    let body : c.body ≡ b = cc in
    let rest = branches_covered lines found p ty b line bs (place_past t (place_in_branch place)) h.5 h.6 says covered.1 in
    let leaves_there : leaf_count c.standing ≡ leaf_total t = leaf_count-stands t p c.lower c.standing c.stands in (
      branch_standing u c.standing rest.0,
      (h.0, c.lower, subst (λ (d : Term). IsNormalFormula c.lower (instance_of d u)) body c.normal, c.standing, c.stands, rest.0, rest.1, refl),
      (c.covers, subst (λ (n : ℕ). CoversBranches found (place.leaves + n) rest.0) (sym leaves_there) rest.2),
    )

-- a node whose one lower node is covered is covered itself
pub negation_covered : (lines : List DeductionLine) (hyps found : List ℕ) (p : Bool) (t : ExpansionTree) (line m : ℕ) (place : Place) (b : Term) → Says lines line (said p (negation_of b)) → Proves lines m hyps (said (not p) b)
    → IsNodeCovered lines found (node_below (not p) t m (place_below place)) → IsNodeCovered lines found (node_below p (negation_node t) line place)
negation_covered lines hyps found p t line m place b says proves c = record {
  formula = negation_of b;
  standing = at_negation c.standing;
  stands = (b, refl, c.standing, covered_stands lines hyps found (node_below (not p) t m (place_below place)) b proves c, refl);
  says = says;
  covers = c.covers;
}

pub selection_covered : (lines : List DeductionLine) (hyps found : List ℕ) (p : Bool) (name : List ℕ) (t : ExpansionTree) (line m : ℕ) (place : Place) (ty : SimpleType) (b : Term)
    → Says lines line (said p (quantified (selecting p ty) ty b)) → Proves lines m hyps (said p (instance_of b (free name ty)))
    → IsNodeCovered lines found (node_below p t m (place_below place)) → IsNodeCovered lines found (node_below p (selection_node name t) line place)
selection_covered lines hyps found p name t line m place ty b says proves c = record {
  formula = quantified (selecting p ty) ty b;
  standing = at_selection (name, ty) c.standing;
  stands = (ty, b, refl, c.standing, covered_stands lines hyps found (node_below p t m (place_below place)) (instance_of b (free name ty)) proves c, refl);
  says = says;
  covers = c.covers;
}

-- a compound, by the sides that stand in it
pub compound_covered : (lines : List DeductionLine) (found : List ℕ) (op : Op) (p : Bool) (t u : ExpansionTree) (line : ℕ) (place : Place) (b c : Term) (left right : Standing) → Says lines line (said p (compound_of op b c))
    → Stands (left_polarity op p) b t left → Stands p c u right → CompoundCovered op p (Covers found place.leaves left) (Covers found (place.leaves + leaf_total t) right)
    → IsNodeCovered lines found (node_below p (connective_node op t u) line place)
compound_covered lines found op p t u line place b c left right says stands_left stands_right covers = record {
  formula = compound_of op b c;
  standing = at_connective op p left right;
  stands = (b, c, refl, left, stands_left, right, stands_right, refl);
  says = says;
  covers = subst (λ (n : ℕ). CompoundCovered op p (Covers found place.leaves left) (Covers found (place.leaves + n) right)) (sym (leaf_count-stands t (left_polarity op p) b left stands_left)) covers;
}

pub expansion_covered : (lines : List DeductionLine) (found : List ℕ) (p : Bool) (ty : SimpleType) (b : Term) (line : ℕ) (bs : ExpansionBranches) (place : Place) (ns : StandingBranches) → BranchesStand p ty b bs ns
    → Says lines line (said p (quantified (expanding p ty) ty b)) → AllByRecursion (IsCovered lines found) (terms_below p line (place_below place) bs) → IsNodeCovered lines found (node_below p (expansion_node bs) line place)
expansion_covered lines found p ty b line bs place ns stand says covered =
    let parts = branches_covered lines found p ty b line bs (place_below place) ns stand says covered in
    record { formula = quantified (expanding p ty) ty b; standing = at_expansion p parts.0; stands = (ty, b, refl, parts.0, parts.1, refl); says = says; covers = parts.2 }

-- a leaf by itself
pub leaf_covered : (lines : List DeductionLine) (found : List ℕ) (p : Bool) (line : ℕ) (place : Place) (a : Term) → Says lines line (said p a) → Contains found (place.leaves + 1)
    → IsNodeCovered lines found (node_below p leaf_node line place)
leaf_covered lines found p line place a says there = record { formula = a; standing = at_leaf p a; stands = refl; says = says; covers = there }

-- and a constant that isn't as its polarity wants it
pub constant_covered : (lines : List DeductionLine) (found : List ℕ) (p v : Bool) (line : ℕ) (place : Place) → Says lines line (said p (truth_value v)) → v ≡ not p → IsNodeCovered lines found (node_below p constant_node line place)
constant_covered lines found p v line place says other = record { formula = truth_value v; standing = at_constant p v; stands = (v, refl, refl); says = says; covers = go p v other }
  where
    go : (p v : Bool) → v ≡ not p → ConstantCovered p v
    go true true e = cc
    go true false e = tt
    go false true e = tt
    go false false e = cc

-- a leaf is that of its number
pub leaf_there : (g : AcceptedProof) (p : Bool) (line : ℕ) (place : Place) (a : Term) (s : Standing) → StandsAt g (node_below p leaf_node line place) a s → leaf_at g.fitted.leaf_list (place.leaves + 1) ≡ Some (p, a)
leaf_there g p line place a s x =
    let y : StandsAt g (node_below p leaf_node line place) a (at_leaf p a) = subst (StandsAt g (node_below p leaf_node line place) a) x.stands x in
    let no_more : place.leaves + 0 ≡ place.leaves + 1 - 1 = omega arith in
    let found : slice_get g.fitted.leaf_list (place.leaves + 1 - 1) ≡ Some (p, a) = subst (λ (k : ℕ). slice_get g.fitted.leaf_list k ≡ Some (p, a)) no_more (y.leaves_are 0 (p, a) refl) in
    rw (ne_eqb (place.leaves + 1) 0 (λ z. absurd (omega (arith, z)))) found
