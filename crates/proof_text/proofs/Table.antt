-- Reading a form answers exactly the proof that the table gives it.
use Rattle.std.proofs.Common.{◌≡◌, ℕ, ◌==◌, Bool, true, false, List, [], ◌∷◌, if◌then◌else◌, Ok, Err, codes, refl, sym, ◌∙◌, ap, subst, inl, inr}
use Rattle.std.proofs.lemmas.Bool.{eqb-true}
use Rattle.std.specs.Prelude.{encode_utf8_all}
use Rattle.hol_terms.specs.Terms.{Term}
use Rattle.core_text.specs.CoreForms.{HasNames, pair_form, triple_form, term_form}
use Rattle.core_text.specs.Forms.{Form, word_form, number_form, list_form, no_forms, more_forms}
use Rattle.core_text.specs.Placed.{Placed, word_at, number_at, list_at, PlacedAll, none_at, more_at, form, forms}
use Rattle.core_text.specs.Reading.{◌>>=◌, name_at, number_in, term_at}
use Rattle.core_text.specs.Words.{same_bytes}
use Rattle.core_text.specs.Judged.{with_fault}
use Rattle.core_text.specs.declared.faults.TextFault.TheVariants.{BadForm}
use Rattle.core_text.proofs.NameLaws.{same_bytes-only}
use Rattle.core_text.proofs.Judgements.{with_fault_ok}
use Rattle.core_text.proofs.Shapes.{number_shape, pair_shape, triple_shape, word_shape}
use Rattle.core_text.proofs.Table.{bind_ok, choice_ok, name_read, name_spelled, number_read, number_spelled, term_read, term_spelled}
use Rattle.expansion_tree.specs.declared.trees.Op.{Op}
use Rattle.expansion_tree.specs.declared.trees.Op.TheVariants.{And, Or, Imp}
use Rattle.expansion_tree.specs.Trees.{ExpansionTree, leaf_node, constant_node, negation_node, connective_node, selection_node, expansion_node, ExpansionBranches, no_branch, branch}
use Rattle.proof_text.specs.Forms.{branch_forms, mating_form, op_word, pair_forms, tree_form}
use Rattle.proof_text.specs.Texts.{BranchesHaveNames, HasProofNames, IsTyped, Proof, TreeHasNames, proof_form}
use Rattle.proof_text.specs.Reading.{Parts, branch_at, branches_at, connective_at, constant_tree_in, expansion_at, mating_at, node_at, op_in, pair_at, pairs_at, parts_at, proof_at, proof_in, proof_judged, selection_at, tree_at, version_at}
use Rattle.proof_text.proofs.Judged.{proof_judged_typed, typed_proof_judged}
use Rattle.proof_text.proofs.Lists.{list_shape}

-- the form stands for the tree, its terms typed or not
abbrev IsFormOfTree : Form → ExpansionTree → Type 0
IsFormOfTree f t = (f ≡ tree_form t) × TreeHasNames t

word_read : (w : List ℕ) (k : ℕ) (t : ExpansionTree) → constant_tree_in w k ≡ Ok t → IsFormOfTree (word_form w) t
word_read w k t e = elim (choice_ok (same_bytes w (codes "LEAF")) (Ok leaf_node) _ t e) [
  | inl h ↦ let same : leaf_node ≡ t = let got = h.1 in cc in subst (IsFormOfTree (word_form w)) same (ap word_form (same_bytes-only w (codes "LEAF") h.0), tt)
  | inr e ↦ elim (choice_ok (same_bytes w (codes "CONST")) (Ok constant_node) (Err k) t e) [
    | inl h ↦ let same : constant_node ≡ t = let got = h.1 in cc in subst (IsFormOfTree (word_form w)) same (ap word_form (same_bytes-only w (codes "CONST") h.0), tt)
    | inr e ↦ cc
  ]
]

op_read : (w : List ℕ) (k : ℕ) (op : Op) → op_in w k ≡ Ok op → w ≡ op_word op
op_read w k op e = elim (choice_ok (same_bytes w (codes "AND")) (Ok And) _ op e) [
  | inl h ↦ let same : And ≡ op = let got = h.1 in cc in same_bytes-only w (codes "AND") h.0 ∙ ap op_word same
  | inr e ↦ elim (choice_ok (same_bytes w (codes "OR")) (Ok Or) _ op e) [
    | inl h ↦ let same : Or ≡ op = let got = h.1 in cc in same_bytes-only w (codes "OR") h.0 ∙ ap op_word same
    | inr e ↦ elim (choice_ok (same_bytes w (codes "IMPLIES")) (Ok Imp) (Err k) op e) [
      | inl h ↦ let same : Imp ≡ op = let got = h.1 in cc in same_bytes-only w (codes "IMPLIES") h.0 ∙ ap op_word same
      | inr e ↦ cc
    ]
  ]
]

connective_spelled : (w : List ℕ) (op : Op) (f g : Form) (t u : ExpansionTree) → w ≡ op_word op → f ≡ tree_form t → g ≡ tree_form u → triple_form (word_form w) f g ≡ tree_form (connective_node op t u)
connective_spelled w op f g t u e h i = rw (e, h, i) refl

mutual
  tree_read : (p : Placed) (t : ExpansionTree) → tree_at p ≡ Ok t → IsFormOfTree (form p) t
  tree_read (word_at w k) t e = word_read w k t e
  tree_read (number_at n k) t e = cc
  tree_read (list_at none_at k) t e = cc
  tree_read (list_at (more_at (number_at n j) ps) k) t e = cc
  tree_read (list_at (more_at (list_at qs j) ps) k) t e = cc
  tree_read (list_at (more_at (word_at w j) ps) k) t e = elim (choice_ok (same_bytes w (codes "EXP")) (expansion_at (branches_at ps)) (node_at w ps k) t e) [
    | inl h ↦
        let one = bind_ok (branches_at ps) (λ bs. Ok (expansion_node bs)) t h.1 in
        let got = one.2 in
        let same : expansion_node one.0 ≡ t = cc in
        let read = branches_read ps one.0 one.1 in
        subst (IsFormOfTree (list_form (more_forms (word_form w) (forms ps)))) same (rw (same_bytes-only w (codes "EXP") h.0, read.0) refl, read.1)
    | inr e ↦ node_read w ps k t e
  ]

  node_read : (w : List ℕ) (ps : PlacedAll) (k : ℕ) (t : ExpansionTree) → node_at w ps k ≡ Ok t → IsFormOfTree (list_form (more_forms (word_form w) (forms ps))) t
  node_read w none_at k t e = cc
  node_read w (more_at x none_at) k t e = elim (choice_ok (same_bytes w (codes "NOT")) (tree_at x >>= λ s. Ok (negation_node s)) (Err k) t e) [
    | inl h ↦
        let one = bind_ok (tree_at x) (λ s. Ok (negation_node s)) t h.1 in
        let got = one.2 in
        let same : negation_node one.0 ≡ t = cc in
        let read = tree_read x one.0 one.1 in
        subst (IsFormOfTree (pair_form (word_form w) (form x))) same (rw (same_bytes-only w (codes "NOT") h.0, read.0) refl, read.1)
    | inr e ↦ cc
  ]
  node_read w (more_at x (more_at y none_at)) k t e = elim (choice_ok (same_bytes w (codes "SEL")) (selection_at (name_at x) (tree_at y)) (connective_at (op_in w k) (tree_at x) (tree_at y)) t e) [
    | inl h ↦
        let one = bind_ok (name_at x) (λ n. tree_at y >>= λ s. Ok (selection_node n s)) t h.1 in
        let two = bind_ok (tree_at y) (λ s. Ok (selection_node one.0 s)) t one.2 in
        let got = two.2 in
        let same : selection_node one.0 two.0 ≡ t = cc in
        let name = name_read x one.0 one.1 in
        let read = tree_read y two.0 two.1 in
        subst (IsFormOfTree (triple_form (word_form w) (form x) (form y))) same (rw (same_bytes-only w (codes "SEL") h.0, name.0, read.0) refl, (name.1, read.1))
    | inr e ↦
        let one = bind_ok (op_in w k) (λ o. tree_at x >>= λ s. tree_at y >>= λ u. Ok (connective_node o s u)) t e in
        let two = bind_ok (tree_at x) (λ s. tree_at y >>= λ u. Ok (connective_node one.0 s u)) t one.2 in
        let three = bind_ok (tree_at y) (λ u. Ok (connective_node one.0 two.0 u)) t two.2 in
        let got = three.2 in
        let same : connective_node one.0 two.0 three.0 ≡ t = cc in
        let left = tree_read x two.0 two.1 in
        let right = tree_read y three.0 three.1 in
        subst (IsFormOfTree (triple_form (word_form w) (form x) (form y))) same (connective_spelled w one.0 (form x) (form y) two.0 three.0 (op_read w k one.0 one.1) left.0 right.0, (left.1, right.1))
  ]
  node_read w (more_at x (more_at y (more_at z ps))) k t e = cc

  branches_read : (ps : PlacedAll) (bs : ExpansionBranches) → branches_at ps ≡ Ok bs → (forms ps ≡ branch_forms bs) × BranchesHaveNames bs
  branches_read none_at bs e =
      let same : no_branch ≡ bs = cc in
      let P : ExpansionBranches → Type 0 = λ bs. (no_forms ≡ branch_forms bs) × BranchesHaveNames bs in
      subst P same (refl, tt)
  branches_read (more_at b ps) bs e =
      let one = bind_ok (branch_at b) (λ c. branches_at ps >>= λ more. Ok (branch c.0 c.1 more)) bs e in
      let two = bind_ok (branches_at ps) (λ more. Ok (branch one.0.0 one.0.1 more)) bs one.2 in
      let got = two.2 in
      let same : branch one.0.0 one.0.1 two.0 ≡ bs = cc in
      let first = branch_read b one.0 one.1 in
      let rest = branches_read ps two.0 two.1 in
      let P : ExpansionBranches → Type 0 = λ bs. (more_forms (form b) (forms ps) ≡ branch_forms bs) × BranchesHaveNames bs in
      subst P same (rw (first.0, rest.0) refl, (first.1, first.2, rest.1))

  branch_read : (b : Placed) (c : Term × ExpansionTree) → branch_at b ≡ Ok c → (form b ≡ pair_form (term_form c.0) (tree_form c.1)) × HasNames c.0 × TreeHasNames c.1
  branch_read (list_at (more_at x (more_at y none_at)) k) c e =
      let one = bind_ok (term_at x) (λ u. tree_at y >>= λ t. let d : Term × ExpansionTree = (u, t) in Ok d) c e in
      let two = bind_ok (tree_at y) (λ t. let d : Term × ExpansionTree = (one.0, t) in Ok d) c one.2 in
      let got = two.2 in
      let same : (let d : Term × ExpansionTree = (one.0, two.0) in d) ≡ c = cc in
      let term = term_read x one.0 one.1 in
      let tree = tree_read y two.0 two.1 in
      let P : Term × ExpansionTree → Type 0 = λ c. (pair_form (form x) (form y) ≡ pair_form (term_form c.0) (tree_form c.1)) × HasNames c.0 × TreeHasNames c.1 in
      subst P same (rw (term.0, tree.0) refl, term.1, tree.1)
  branch_read b c e = cc

mutual
  tree_spelled : (t : ExpansionTree) (p : Placed) → form p ≡ tree_form t → TreeHasNames t → tree_at p ≡ Ok t
  tree_spelled leaf_node p e h = let shape = word_shape p (codes "LEAF") e in rw shape.1 refl
  tree_spelled constant_node p e h = let shape = word_shape p (codes "CONST") e in rw shape.1 refl
  tree_spelled (negation_node t) p e h =
      let shape = pair_shape p (word_form (codes "NOT")) (tree_form t) e in
      let head = word_shape shape.first (codes "NOT") shape.is_first in
      rw (shape.is, head.1, tree_spelled t shape.second shape.is_second h) refl
  tree_spelled (connective_node And t u) p e h =
      let shape = triple_shape p (word_form (codes "AND")) (tree_form t) (tree_form u) e in
      let head = word_shape shape.first (codes "AND") shape.is_first in
      rw (shape.is, head.1, tree_spelled t shape.second shape.is_second h.0, tree_spelled u shape.third shape.is_third h.1) refl
  tree_spelled (connective_node Or t u) p e h =
      let shape = triple_shape p (word_form (codes "OR")) (tree_form t) (tree_form u) e in
      let head = word_shape shape.first (codes "OR") shape.is_first in
      rw (shape.is, head.1, tree_spelled t shape.second shape.is_second h.0, tree_spelled u shape.third shape.is_third h.1) refl
  tree_spelled (connective_node Imp t u) p e h =
      let shape = triple_shape p (word_form (codes "IMPLIES")) (tree_form t) (tree_form u) e in
      let head = word_shape shape.first (codes "IMPLIES") shape.is_first in
      rw (shape.is, head.1, tree_spelled t shape.second shape.is_second h.0, tree_spelled u shape.third shape.is_third h.1) refl
  tree_spelled (selection_node name t) p e h =
      let shape = triple_shape p (word_form (codes "SEL")) (word_form (encode_utf8_all name)) (tree_form t) e in
      let head = word_shape shape.first (codes "SEL") shape.is_first in
      rw (shape.is, head.1, name_spelled name shape.second shape.is_second h.0, tree_spelled t shape.third shape.is_third h.1) refl
  tree_spelled (expansion_node bs) p e h =
      let shape = list_shape p (word_form (codes "EXP")) (branch_forms bs) e in
      let head = word_shape shape.first (codes "EXP") shape.is_first in
      rw (shape.is, head.1, branches_spelled bs shape.rest shape.is_rest h) refl

  branches_spelled : (bs : ExpansionBranches) (ps : PlacedAll) → forms ps ≡ branch_forms bs → BranchesHaveNames bs → branches_at ps ≡ Ok bs
  branches_spelled no_branch none_at e h = refl
  branches_spelled no_branch (more_at b ps) e h = cc
  branches_spelled (branch u t bs) none_at e h = cc
  branches_spelled (branch u t bs) (more_at b ps) e h =
      let shape = pair_shape b (term_form u) (tree_form t) cc in
      let rest : forms ps ≡ branch_forms bs = cc in
      rw (shape.is, term_spelled u shape.first shape.is_first h.0, tree_spelled t shape.second shape.is_second h.1, branches_spelled bs ps rest h.2) refl

pair_read : (p : Placed) (q : ℕ × ℕ) → pair_at p ≡ Ok q → form p ≡ pair_form (number_form q.0) (number_form q.1)
pair_read (list_at (more_at x (more_at y none_at)) k) q e =
    let one = bind_ok (number_in x) (λ i. number_in y >>= λ j. let d : ℕ × ℕ = (i, j) in Ok d) q e in
    let two = bind_ok (number_in y) (λ j. let d : ℕ × ℕ = (one.0, j) in Ok d) q one.2 in
    let got = two.2 in
    let same : (let d : ℕ × ℕ = (one.0, two.0) in d) ≡ q = cc in
    rw (number_read x one.0 one.1, number_read y two.0 two.1) (ap (λ (d : ℕ × ℕ). pair_form (number_form d.0) (number_form d.1)) same)
pair_read p q e = cc

pairs_read : (ps : PlacedAll) (qs : List (ℕ × ℕ)) → pairs_at ps ≡ Ok qs → forms ps ≡ pair_forms qs
pairs_read none_at qs e = let same : [] ≡ qs = cc in ap pair_forms same
pairs_read (more_at p ps) qs e =
    let one = bind_ok (pair_at p) (λ q. pairs_at ps >>= λ more. Ok (q ∷ more)) qs e in
    let two = bind_ok (pairs_at ps) (λ more. Ok (one.0 ∷ more)) qs one.2 in
    let got = two.2 in
    let same : one.0 ∷ two.0 ≡ qs = cc in
    rw (pair_read p one.0 one.1, pairs_read ps two.0 two.1) (ap pair_forms same)

mating_read : (p : Placed) (qs : List (ℕ × ℕ)) → mating_at p ≡ Ok qs → form p ≡ mating_form qs
mating_read (word_at w k) qs e = cc
mating_read (number_at n k) qs e = cc
mating_read (list_at ps k) qs e = ap list_form (pairs_read ps qs e)

pairs_spelled : (qs : List (ℕ × ℕ)) (ps : PlacedAll) → forms ps ≡ pair_forms qs → pairs_at ps ≡ Ok qs
pairs_spelled [] none_at e = refl
pairs_spelled [] (more_at p ps) e = cc
pairs_spelled (q ∷ qs) none_at e = cc
pairs_spelled (q ∷ qs) (more_at p ps) e =
    let shape = pair_shape p (number_form q.0) (number_form q.1) cc in
    let rest : forms ps ≡ pair_forms qs = cc in
    rw (shape.is, number_spelled q.0 shape.first shape.is_first, number_spelled q.1 shape.second shape.is_second, pairs_spelled qs ps rest) refl

mating_spelled : (qs : List (ℕ × ℕ)) (p : Placed) → form p ≡ mating_form qs → mating_at p ≡ Ok qs
mating_spelled qs (word_at w k) e = cc
mating_spelled qs (number_at n k) e = cc
mating_spelled qs (list_at ps k) e = pairs_spelled qs ps cc

version_read : (v : Placed) (one : Unit {0}) → version_at v ≡ Ok one → form v ≡ number_form 1
version_read (word_at w k) one e = cc
version_read (list_at ps k) one e = cc
version_read (number_at n k) one e = go (n == 1) refl e
  where
    go : (b : Bool) → (n == 1) ≡ b → (if b then Ok tt else Err k) ≡ Ok one → number_form n ≡ number_form 1
    go true h e = ap number_form (eqb-true n 1 h)
    go false h e = cc

-- the form of the parts
abbrev form_of_parts : Parts → Form
form_of_parts q = list_form (more_forms (word_form (codes "PROOF")) (more_forms (form q.version) (more_forms (form q.formula) (more_forms (form q.tree) (more_forms (form q.mating) no_forms)))))

parts_read : (p : Placed) (q : Parts) → parts_at p ≡ Ok q → form p ≡ form_of_parts q
parts_read (list_at (more_at (word_at w j) (more_at v (more_at f (more_at t (more_at m none_at))))) k) q e =
    elim (choice_ok (same_bytes w (codes "PROOF")) (Ok (let r : Parts = record { version = v; formula = f; tree = t; mating = m } in r)) (Err k) q e) [
      | inl h ↦
          let got = h.1 in
          let same : (let r : Parts = record { version = v; formula = f; tree = t; mating = m } in r) ≡ q = cc in
          ap (λ x. list_form (more_forms (word_form x) (more_forms (form v) (more_forms (form f) (more_forms (form t) (more_forms (form m) no_forms)))))) (same_bytes-only w (codes "PROOF") h.0)
          ∙ ap form_of_parts same
      | inr e ↦ cc
    ]
parts_read p q e = cc

-- the parts of a proof's form
pub record ArePartsOf (p : Placed) (x : Proof) : Type 0 where
  pub parts : Parts
  pub is : parts_at p ≡ Ok parts
  pub version : form parts.version ≡ number_form 1
  pub formula : form parts.formula ≡ term_form x.formula
  pub tree : form parts.tree ≡ tree_form x.tree
  pub mating : form parts.mating ≡ mating_form x.mating

parts_in : (ps : PlacedAll) (k : ℕ) (x : Proof) → list_form (forms ps) ≡ proof_form x → ArePartsOf (list_at ps k) x
parts_in none_at k x e = cc
parts_in (more_at (number_at n j) ps) k x e = cc
parts_in (more_at (list_at qs j) ps) k x e = cc
parts_in (more_at (word_at w j) none_at) k x e = cc
parts_in (more_at (word_at w j) (more_at v none_at)) k x e = cc
parts_in (more_at (word_at w j) (more_at v (more_at f none_at))) k x e = cc
parts_in (more_at (word_at w j) (more_at v (more_at f (more_at t none_at)))) k x e = cc
parts_in (more_at (word_at w j) (more_at v (more_at f (more_at t (more_at m (more_at n ps)))))) k x e = cc
parts_in (more_at (word_at w j) (more_at v (more_at f (more_at t (more_at m none_at))))) k x e =
    let word : w ≡ codes "PROOF" = cc in
    record { parts = record { version = v; formula = f; tree = t; mating = m }; is = rw word refl; version = cc; formula = cc; tree = cc; mating = cc }

parts_spelled : (p : Placed) (x : Proof) → form p ≡ proof_form x → ArePartsOf p x
parts_spelled (word_at w k) x e = cc
parts_spelled (number_at n k) x e = cc
parts_spelled (list_at ps k) x e = parts_in ps k x e

-- a form is read as a proof exactly where it stands for one that is typed
pub proof_read : (p : Placed) (x : Proof) → proof_at p ≡ Ok x → (form p ≡ proof_form x) × HasProofNames x × IsTyped x
proof_read p x e =
    let one = bind_ok (with_fault (λ k. BadForm k) (parts_at p)) (λ q. with_fault (λ k. BadForm k) (proof_in q) >>= λ y. proof_judged y q >>= λ done. Ok y) x e in
    let q = one.0 in
    let two = bind_ok (with_fault (λ k. BadForm k) (proof_in q)) (λ y. proof_judged y q >>= λ done. Ok y) x one.2 in
    let three = bind_ok (proof_judged two.0 q) (λ done. Ok two.0) x two.2 in
    let got = three.2 in
    let same : two.0 ≡ x = cc in
    let outer = parts_read p q (with_fault_ok (λ k. BadForm k) (parts_at p) q one.1) in
    let inner = with_fault_ok (λ k. BadForm k) (proof_in q) two.0 two.1 in
    let a = bind_ok (version_at q.version) (λ u. term_at q.formula >>= λ formula. tree_at q.tree >>= λ tree. mating_at q.mating >>= λ mating. Ok (let y : Proof = record { formula = formula; tree = tree; mating = mating } in y)) two.0 inner in
    let b = bind_ok (term_at q.formula) (λ formula. tree_at q.tree >>= λ tree. mating_at q.mating >>= λ mating. Ok (let y : Proof = record { formula = formula; tree = tree; mating = mating } in y)) two.0 a.2 in
    let c = bind_ok (tree_at q.tree) (λ tree. mating_at q.mating >>= λ mating. Ok (let y : Proof = record { formula = b.0; tree = tree; mating = mating } in y)) two.0 b.2 in
    let d = bind_ok (mating_at q.mating) (λ mating. Ok (let y : Proof = record { formula = b.0; tree = c.0; mating = mating } in y)) two.0 c.2 in
    let made = d.2 in
    let whole : (let y : Proof = record { formula = b.0; tree = c.0; mating = d.0 } in y) ≡ two.0 = cc in
    let version = version_read q.version a.0 a.1 in
    let formula = term_read q.formula b.0 b.1 in
    let tree = tree_read q.tree c.0 c.1 in
    let mating = mating_read q.mating d.0 d.1 in
    let spelled : form_of_parts q ≡ proof_form (record { formula = b.0; tree = c.0; mating = d.0 }) = rw (version, formula.0, tree.0, mating) refl in
    let names : HasProofNames (record { formula = b.0; tree = c.0; mating = d.0 }) = record { formula = formula.1; tree = tree.1 } in
    let judged = subst (λ (y : Proof). proof_judged y q ≡ Ok three.0) (sym whole) three.1 in
    let typed = proof_judged_typed (record { formula = b.0; tree = c.0; mating = d.0 }) q three.0 tree.0 judged in
    let P : Proof → Type 0 = λ x. (form p ≡ proof_form x) × HasProofNames x × IsTyped x in
    subst P (whole ∙ same) (outer ∙ spelled, names, typed)

pub proof_spelled : (x : Proof) (p : Placed) → form p ≡ proof_form x → HasProofNames x → IsTyped x → proof_at p ≡ Ok x
proof_spelled x p e names typed =
    let parts = parts_spelled p x e in
    let q = parts.parts in
    let version = number_shape q.version 1 parts.version in
    rw (parts.is, version.1, term_spelled x.formula q.formula parts.formula names.formula, tree_spelled x.tree q.tree parts.tree names.tree, mating_spelled x.mating q.mating parts.mating, typed_proof_judged x q typed) refl
