-- The branches of a staged tree with the numbers of their nodes, and its selected variables with those of theirs.
use Rattle.std.proofs.Common.{◌≡◌, ◌+◌, ◌-◌, ℕ, List, [], ◌∷◌, ◌++◌, Bool, not, map, refl, sym, ◌∙◌, ap, ap₂}
use Rattle.std.proofs.lemmas.List.{map-append}
use Rattle.hol_terms.specs.Terms.{SimpleType, Term, free, Variable}
use Rattle.hol_terms.specs.Indices.{instance_of}
use Rattle.expansion_tree.specs.Trees.{ExpansionTree, leaf_node, constant_node, negation_node, connective_node, selection_node, expansion_node, ExpansionBranches, no_branch, branch, node_count}
use Rattle.expansion_tree.specs.Occurrences.{Occurrence, occurrences_from, branch_occurrences_from, occurrences_of}
use Rattle.expansion_tree.specs.Standing.{Standing, at_leaf, at_constant, at_negation, at_connective, at_selection, at_expansion, StandingBranches, none_standing, branch_standing, Stands, BranchesStand, left_polarity, node_total, branch_node_total, Selection, selections_from, branch_selections_from}
use Rattle.expansion_tree.proofs.Walks.{stands-count}
use Rattle.dependency.specs.Stages.{StagedTree, staged_leaf, staged_constant, staged_negation, staged_connective, staged_selection, staged_expansion, StagedBranches, none_staged, branch_staged, standing_of, standing_branches_of, staged_variables, branch_staged_variables, Stage, stages, branch_stages}

-- the occurrences of a tree, from the way in which it stands

abbrev mutual
  pub occurrences_in : ℕ → Standing → List Occurrence
  occurrences_in at (at_leaf p a) = []
  occurrences_in at (at_constant p v) = []
  occurrences_in at (at_negation n) = occurrences_in (at + 1) n
  occurrences_in at (at_connective op p m n) = occurrences_in (at + 1) m ++ occurrences_in (at + 1 + node_total m) n
  occurrences_in at (at_selection v n) = occurrences_in (at + 1) n
  occurrences_in at (at_expansion p ns) = branch_occurrences_in (at + 1) ns

  pub branch_occurrences_in : ℕ → StandingBranches → List Occurrence
  branch_occurrences_in at none_standing = []
  branch_occurrences_in at (branch_standing u n ns) =
      record { first = at; last = at + node_total n - 1; term = u } ∷ occurrences_in at n ++ branch_occurrences_in (at + node_total n) ns

mutual
  stands-occurrences : (t : ExpansionTree) (at : ℕ) (p : Bool) (a : Term) (s : Standing) → Stands p a t s → occurrences_from at t ≡ occurrences_in at s
  stands-occurrences leaf_node at p a s h = ap (occurrences_in at) (sym h)
  stands-occurrences constant_node at p a s h = ap (occurrences_in at) (sym h.2)
  stands-occurrences (negation_node t) at p a s h = stands-occurrences t (at + 1) (not p) h.0 h.2 h.3 ∙ ap (occurrences_in at) (sym h.4)
  stands-occurrences (connective_node op t u) at p a s h =
      let many : node_total h.3 ≡ node_count t = stands-count t (left_polarity op p) h.0 h.3 h.4 in
      ap₂ (λ (xs ys : List Occurrence). xs ++ ys) (stands-occurrences t (at + 1) (left_polarity op p) h.0 h.3 h.4)
      (ap (λ (k : ℕ). occurrences_from (at + 1 + k) u) (sym many) ∙ stands-occurrences u (at + 1 + node_total h.3) p h.1 h.5 h.6)
      ∙ ap (occurrences_in at) (sym h.7)
  stands-occurrences (selection_node name t) at p a s h = stands-occurrences t (at + 1) p (instance_of h.1 (free name h.0)) h.3 h.4 ∙ ap (occurrences_in at) (sym h.5)
  stands-occurrences (expansion_node bs) at p a s h = branches_stand-occurrences bs (at + 1) p h.0 h.1 h.3 h.4 ∙ ap (occurrences_in at) (sym h.5)

  branches_stand-occurrences : (bs : ExpansionBranches) (at : ℕ) (p : Bool) (ty : SimpleType) (b : Term) (ns : StandingBranches) → BranchesStand p ty b bs ns
      → branch_occurrences_from at bs ≡ branch_occurrences_in at ns
  branches_stand-occurrences no_branch at p ty b ns h = ap (branch_occurrences_in at) (sym h)
  branches_stand-occurrences (branch u t bs) at p ty b ns h =
      let many : node_total h.3 ≡ node_count t = stands-count t p h.1 h.3 h.4 in
      ap₂ (λ (xs ys : List Occurrence). record { first = at; last = at + node_count t - 1; term = u } ∷ xs ++ ys) (stands-occurrences t at p h.1 h.3 h.4)
      (ap (λ (k : ℕ). branch_occurrences_from (at + k) bs) (sym many) ∙ branches_stand-occurrences bs (at + node_total h.3) p ty b h.5 h.6)
      ∙ ap (λ (k : ℕ). record { first = at; last = at + k - 1; term = u } ∷ occurrences_in at h.3 ++ branch_occurrences_in (at + node_total h.3) h.5) (sym many)
      ∙ ap (branch_occurrences_in at) (sym h.7)

-- the occurrences of a tree that stands so
pub occurrences_standing : (t : ExpansionTree) (p : Bool) (a : Term) (s : Standing) → Stands p a t s → occurrences_of t ≡ occurrences_in 1 s
occurrences_standing t p a s h = stands-occurrences t 1 p a s h

-- a branch of a staged tree: the numbers of the first and of the last node of its tree, the step of the innermost branch around it, its
-- own step, and its term
pub record Place : Type 0 where
  pub first : ℕ
  pub last : ℕ
  pub above : ℕ
  pub step : ℕ
  pub term : Term

-- a selected variable of a staged tree, with the number of its node and the step of the innermost branch around it
pub record Choice : Type 0 where
  pub node : ℕ
  pub variable : Variable
  pub step : ℕ

abbrev pub occurrence_there : Place → Occurrence
occurrence_there q = record { first = q.first; last = q.last; term = q.term }

abbrev pub stage_there : Place → Stage
stage_there q = record { above = q.above; step = q.step; term = q.term }

abbrev pub selection_there : Choice → Selection
selection_there c = record { node = c.node; variable = c.variable }

abbrev pub staged_there : Choice → Variable × ℕ
staged_there c = (c.variable, c.step)

-- how many nodes a staged tree has
abbrev pub total : StagedTree → ℕ
total g = node_total (standing_of g)

abbrev pub branch_total : StagedBranches → ℕ
branch_total bs = branch_node_total (standing_branches_of bs)

abbrev pub place_of_branch : ℕ → ℕ → Term → ℕ → StagedTree → Place
place_of_branch at above u step g = record { first = at; last = at + total g - 1; above = above; step = step; term = u }

abbrev mutual
  pub places : ℕ → ℕ → StagedTree → List Place
  places at above (staged_leaf p a) = []
  places at above (staged_constant p v) = []
  places at above (staged_negation g) = places (at + 1) above g
  places at above (staged_connective op p g h) = places (at + 1) above g ++ places (at + 1 + total g) above h
  places at above (staged_selection v g) = places (at + 1) above g
  places at above (staged_expansion p bs) = branch_places (at + 1) above bs

  pub branch_places : ℕ → ℕ → StagedBranches → List Place
  branch_places at above none_staged = []
  branch_places at above (branch_staged u step g bs) = (place_of_branch at above u step g ∷ places at step g) ++ branch_places (at + total g) above bs

abbrev mutual
  pub choices : ℕ → ℕ → StagedTree → List Choice
  choices at above (staged_leaf p a) = []
  choices at above (staged_constant p v) = []
  choices at above (staged_negation g) = choices (at + 1) above g
  choices at above (staged_connective op p g h) = choices (at + 1) above g ++ choices (at + 1 + total g) above h
  choices at above (staged_selection v g) = record { node = at; variable = v; step = above } ∷ choices (at + 1) above g
  choices at above (staged_expansion p bs) = branch_choices (at + 1) above bs

  pub branch_choices : ℕ → ℕ → StagedBranches → List Choice
  branch_choices at above none_staged = []
  branch_choices at above (branch_staged u step g bs) = choices at step g ++ branch_choices (at + total g) above bs

-- they are the occurrences, the stages, the selections and the variables of the tree

map_both : {A B : Type 0} → (f : A → B) (xs ys : List A) (us vs : List B) → map f xs ≡ us → map f ys ≡ vs → map f (xs ++ ys) ≡ us ++ vs
map_both f xs ys us vs e d = map-append f xs ys ∙ ap₂ (λ us vs. us ++ vs) e d

mutual
  pub places-occurrences : (at above : ℕ) (g : StagedTree) → map occurrence_there (places at above g) ≡ occurrences_in at (standing_of g)
  places-occurrences at above (staged_leaf p a) = refl
  places-occurrences at above (staged_constant p v) = refl
  places-occurrences at above (staged_negation g) = places-occurrences (at + 1) above g
  places-occurrences at above (staged_connective op p g h) =
      map_both occurrence_there (places (at + 1) above g) (places (at + 1 + total g) above h) (occurrences_in (at + 1) (standing_of g)) (occurrences_in (at + 1 + total g) (standing_of h))
      (places-occurrences (at + 1) above g) (places-occurrences (at + 1 + total g) above h)
  places-occurrences at above (staged_selection v g) = places-occurrences (at + 1) above g
  places-occurrences at above (staged_expansion p bs) = branch_places-occurrences (at + 1) above bs

  branch_places-occurrences : (at above : ℕ) (bs : StagedBranches) → map occurrence_there (branch_places at above bs) ≡ branch_occurrences_in at (standing_branches_of bs)
  branch_places-occurrences at above none_staged = refl
  branch_places-occurrences at above (branch_staged u step g bs) =
      ap (λ (xs : List Occurrence). record { first = at; last = at + total g - 1; term = u } ∷ xs)
      (map_both occurrence_there (places at step g) (branch_places (at + total g) above bs) (occurrences_in at (standing_of g)) (branch_occurrences_in (at + total g) (standing_branches_of bs))
      (places-occurrences at step g) (branch_places-occurrences (at + total g) above bs))

mutual
  pub places-stages : (at above : ℕ) (g : StagedTree) → map stage_there (places at above g) ≡ stages above g
  places-stages at above (staged_leaf p a) = refl
  places-stages at above (staged_constant p v) = refl
  places-stages at above (staged_negation g) = places-stages (at + 1) above g
  places-stages at above (staged_connective op p g h) =
      map_both stage_there (places (at + 1) above g) (places (at + 1 + total g) above h) (stages above g) (stages above h) (places-stages (at + 1) above g) (places-stages (at + 1 + total g) above h)
  places-stages at above (staged_selection v g) = places-stages (at + 1) above g
  places-stages at above (staged_expansion p bs) = branch_places-stages (at + 1) above bs

  branch_places-stages : (at above : ℕ) (bs : StagedBranches) → map stage_there (branch_places at above bs) ≡ branch_stages above bs
  branch_places-stages at above none_staged = refl
  branch_places-stages at above (branch_staged u step g bs) =
      ap (λ (xs : List Stage). record { above = above; step = step; term = u } ∷ xs)
      (map_both stage_there (places at step g) (branch_places (at + total g) above bs) (stages step g) (branch_stages above bs) (places-stages at step g) (branch_places-stages (at + total g) above bs))

mutual
  pub choices-selections : (at above : ℕ) (g : StagedTree) → map selection_there (choices at above g) ≡ selections_from at (standing_of g)
  choices-selections at above (staged_leaf p a) = refl
  choices-selections at above (staged_constant p v) = refl
  choices-selections at above (staged_negation g) = choices-selections (at + 1) above g
  choices-selections at above (staged_connective op p g h) =
      map_both selection_there (choices (at + 1) above g) (choices (at + 1 + total g) above h) (selections_from (at + 1) (standing_of g)) (selections_from (at + 1 + total g) (standing_of h))
      (choices-selections (at + 1) above g) (choices-selections (at + 1 + total g) above h)
  choices-selections at above (staged_selection v g) = ap (λ (xs : List Selection). record { node = at; variable = v } ∷ xs) (choices-selections (at + 1) above g)
  choices-selections at above (staged_expansion p bs) = branch_choices-selections (at + 1) above bs

  branch_choices-selections : (at above : ℕ) (bs : StagedBranches) → map selection_there (branch_choices at above bs) ≡ branch_selections_from at (standing_branches_of bs)
  branch_choices-selections at above none_staged = refl
  branch_choices-selections at above (branch_staged u step g bs) =
      map_both selection_there (choices at step g) (branch_choices (at + total g) above bs) (selections_from at (standing_of g)) (branch_selections_from (at + total g) (standing_branches_of bs))
      (choices-selections at step g) (branch_choices-selections (at + total g) above bs)

mutual
  pub choices-staged : (at above : ℕ) (g : StagedTree) → map staged_there (choices at above g) ≡ staged_variables above g
  choices-staged at above (staged_leaf p a) = refl
  choices-staged at above (staged_constant p v) = refl
  choices-staged at above (staged_negation g) = choices-staged (at + 1) above g
  choices-staged at above (staged_connective op p g h) =
      map_both staged_there (choices (at + 1) above g) (choices (at + 1 + total g) above h) (staged_variables above g) (staged_variables above h) (choices-staged (at + 1) above g)
      (choices-staged (at + 1 + total g) above h)
  choices-staged at above (staged_selection v g) = ap (λ (xs : List (Variable × ℕ)). (v, above) ∷ xs) (choices-staged (at + 1) above g)
  choices-staged at above (staged_expansion p bs) = branch_choices-staged (at + 1) above bs

  branch_choices-staged : (at above : ℕ) (bs : StagedBranches) → map staged_there (branch_choices at above bs) ≡ branch_staged_variables above bs
  branch_choices-staged at above none_staged = refl
  branch_choices-staged at above (branch_staged u step g bs) =
      map_both staged_there (choices at step g) (branch_choices (at + total g) above bs) (staged_variables step g) (branch_staged_variables above bs) (choices-staged at step g)
      (branch_choices-staged (at + total g) above bs)
