-- The steps of the walk as its calls return.
use Rattle.std.proofs.Common.{◌≡◌, ℕ, ◌+◌, List, [], ◌∷◌, ◌++◌, Bool, not, sym, ◌∙◌, ap, subst, append_assoc, inr, Result, Ok, Err, IfOk, IfErr}
use Rattle.std.specs.Prelude.{Contains}
use Rattle.std.proofs.lemmas.List.{append-nil}
use Rattle.hol_terms.specs.Terms.{SimpleType, Term, free, Variable}
use Rattle.hol_terms.specs.Indices.{instance_of}
use Rattle.hol_conv.specs.Conversion.{Long}
use Rattle.expansion_tree.specs.declared.faults.FitFault.{FitFault}
use Rattle.expansion_tree.specs.declared.faults.FitFault.TheVariants.{Memory, Misfit, BadTerm, BadVariable}
use Rattle.expansion_tree.specs.declared.matrices.Matrix.{Matrix}
use Rattle.expansion_tree.specs.Trees.{ExpansionTree, constant_node, negation_node, selection_node, ExpansionBranches, no_branch, branch, node_count}
use Rattle.expansion_tree.specs.Standing.{IsNormalFormula, negation_of, quantified, selecting, selected_variables}
use Rattle.expansion_tree.specs.Faults.{FirstFault, FirstBranchFault}
use Rattle.expansion_tree.specs.Stood.{Findings, with_more, Stood, BranchesStood, UnlessMemory}
use Rattle.expansion_tree.proofs.Walks.{negation_stood, selection_stood, none_stood, branch_stood}

pub constant_fault : (p : Bool) (a : Term) (node : ℕ) (taken : List Variable) (r : Result (Matrix × ℕ) FitFault)
    → IfErr r (λ e. UnlessMemory e ((taken : List Variable) → FirstFault taken p a constant_node node e)) → IfErr r (λ e. UnlessMemory e (FirstFault taken p a constant_node node e))
constant_fault p a node taken (Ok x) h = h
constant_fault p a node taken (Err Memory) h = h
constant_fault p a node taken (Err (Misfit k)) h = h taken
constant_fault p a node taken (Err (BadTerm k)) h = h taken
constant_fault p a node taken (Err (BadVariable k)) h = h taken

pub negation_result : (t : ExpansionTree) (p : Bool) (a b : Term) (node : ℕ) (old new : Findings) (r : Result (Matrix × ℕ) FitFault)
    → a ≡ negation_of b → IfOk r (λ x. Stood (not p) b t (node + 1) old new x.0 x.1) → IfOk r (λ x. Stood p a (negation_node t) node old new x.0 x.1)
negation_result t p a b node old new (Ok x) e h = negation_stood t p a b node x.1 old new x.0 e h
negation_result t p a b node old new (Err x) e h = h

pub selection_result : (name : List ℕ) (t : ExpansionTree) (p : Bool) (a b : Term) (ty : SimpleType) (node : ℕ) (old middle new : Findings) (r : Result (Matrix × ℕ) FitFault)
    → a ≡ quantified (selecting p ty) ty b
    → (Contains old.taken (name, ty) → ⊥) × (middle ≡ with_more old [] (record { node = node; variable = (name, ty) } ∷ []) ((name, ty) ∷ []))
    → IfOk r (λ x. Stood p (instance_of b (free name ty)) t (node + 1) middle new x.0 x.1) → IfOk r (λ x. Stood p a (selection_node name t) node old new x.0 x.1)
selection_result name t p a b ty node old middle new (Ok x) e put h = selection_stood name t p a b ty node x.1 old middle new x.0 e put.0 put.1 h
selection_result name t p a b ty node old middle new (Err x) e put h = h

selection_below : (name : List ℕ) (t : ExpansionTree) (p : Bool) (a b : Term) (ty : SimpleType) (node : ℕ) (old middle : Findings) (fault : FitFault)
    → a ≡ quantified (selecting p ty) ty b
    → (Contains old.taken (name, ty) → ⊥) × (middle ≡ with_more old [] (record { node = node; variable = (name, ty) } ∷ []) ((name, ty) ∷ []))
    → FirstFault middle.taken p (instance_of b (free name ty)) t (node + 1) fault → FirstFault old.taken p a (selection_node name t) node fault
selection_below name t p a b ty node old middle fault e put h =
    let taken : middle.taken ≡ old.taken ++ (name, ty) ∷ [] = ap (λ (f : Findings). f.taken) put.1 in
    inr (ty, b, e, inr (put.0, subst (λ (l : List Variable). FirstFault l p (instance_of b (free name ty)) t (node + 1) fault) taken h))

pub selection_fault : (name : List ℕ) (t : ExpansionTree) (p : Bool) (a b : Term) (ty : SimpleType) (node : ℕ) (old middle : Findings) (r : Result (Matrix × ℕ) FitFault)
    → a ≡ quantified (selecting p ty) ty b
    → (Contains old.taken (name, ty) → ⊥) × (middle ≡ with_more old [] (record { node = node; variable = (name, ty) } ∷ []) ((name, ty) ∷ []))
    → IfErr r (λ e. UnlessMemory e (FirstFault middle.taken p (instance_of b (free name ty)) t (node + 1) e)) → IfErr r (λ e. UnlessMemory e (FirstFault old.taken p a (selection_node name t) node e))
selection_fault name t p a b ty node old middle (Ok x) e put h = h
selection_fault name t p a b ty node old middle (Err Memory) e put h = h
selection_fault name t p a b ty node old middle (Err (Misfit k)) e put h = selection_below name t p a b ty node old middle (Misfit k) e put h
selection_fault name t p a b ty node old middle (Err (BadTerm k)) e put h = selection_below name t p a b ty node old middle (BadTerm k) e put h
selection_fault name t p a b ty node old middle (Err (BadVariable k)) e put h = selection_below name t p a b ty node old middle (BadVariable k) e put h

-- where the branches that are left are stood, all are
abbrev pub AllStood : Bool → SimpleType → Term → ExpansionBranches → ℕ → Findings → ExpansionBranches → ℕ → Findings → List Matrix → Type 0
AllStood p ty b all first old rest at here front =
    (new : Findings) (ms : List Matrix) (end : ℕ) → BranchesStood p ty b rest at here new ms end → BranchesStood p ty b all first old new (front ++ ms) end

-- where the branches that are left have a first fault, all have it
abbrev pub AllFault : Bool → SimpleType → Term → ExpansionBranches → ℕ → List Variable → ExpansionBranches → ℕ → List Variable → Type 0
AllFault p ty b all first old rest at here = (e : FitFault) → FirstBranchFault here p ty b rest at e → FirstBranchFault old p ty b all first e

pub one_more_stood : (u : Term) (t : ExpansionTree) (more rest all : ExpansionBranches) (p : Bool) (ty : SimpleType) (b : Term) (first at between : ℕ) (old here middle : Findings) (m : Matrix) (front longer : List Matrix)
    → rest ≡ branch u t more → Long [] u ty → (a : Term) × IsNormalFormula a (instance_of b u) × Stood p a t at here middle m between → longer ≡ front ++ m ∷ []
    → AllStood p ty b all first old rest at here front → AllStood p ty b all first old more between middle longer
one_more_stood u t more rest all p ty b first at between old here middle m front longer e is_long (a, normal, x) f every new ms end y =
    let here_stood = branch_stood u t more p ty a b at between end here middle new m ms is_long normal x y in
    let whole = every new (m ∷ ms) end (subst (λ (bs : ExpansionBranches). BranchesStood p ty b bs at here new (m ∷ ms) end) (sym e) here_stood) in
    subst (λ (l : List Matrix). BranchesStood p ty b all first old new l end) (sym (ap (λ (l : List Matrix). l ++ ms) f ∙ append_assoc front (m ∷ []) ms)) whole

pub one_more_fault : (u : Term) (t : ExpansionTree) (more rest all : ExpansionBranches) (p : Bool) (ty : SimpleType) (b : Term) (first at between : ℕ) (old : List Variable) (here middle : Findings) (m : Matrix)
    → rest ≡ branch u t more → Long [] u ty → (a : Term) × IsNormalFormula a (instance_of b u) × Stood p a t at here middle m between
    → AllFault p ty b all first old rest at here.taken → AllFault p ty b all first old more between middle.taken
one_more_fault u t more rest all p ty b first at between old here middle m e is_long (a, normal, x) every fault f =
    let taken : middle.taken ≡ here.taken ++ selected_variables x.standing = ap (λ (g : Findings). g.taken) x.added in
    let moved = subst (λ (n : ℕ). FirstBranchFault middle.taken p ty b more n fault) x.counted f in
    let behind = subst (λ (l : List Variable). FirstBranchFault l p ty b more (at + node_count t) fault) taken moved in
    every fault (subst (λ (bs : ExpansionBranches). FirstBranchFault here.taken p ty b bs at fault) (sym e) (inr (is_long, a, normal, inr (x.standing, (x.stands, x.fresh), behind))))

pub all_stood : (rest all : ExpansionBranches) (p : Bool) (ty : SimpleType) (b : Term) (first at : ℕ) (old here : Findings) (front : List Matrix)
    → rest ≡ no_branch → AllStood p ty b all first old rest at here front → BranchesStood p ty b all first old here front at
all_stood rest all p ty b first at old here front e every =
    subst (λ (l : List Matrix). BranchesStood p ty b all first old here l at) (append-nil front)
    (every here [] at (subst (λ (bs : ExpansionBranches). BranchesStood p ty b bs at here here [] at) (sym e) (none_stood p ty b at here)))

pub branch_fault : (u : Term) (t : ExpansionTree) (more rest all : ExpansionBranches) (p : Bool) (ty : SimpleType) (b : Term) (first at : ℕ) (old here : List Variable) (e : FitFault)
    → rest ≡ branch u t more → AllFault p ty b all first old rest at here
    → UnlessMemory e ((more : ExpansionBranches) → FirstBranchFault here p ty b (branch u t more) at e) → UnlessMemory e (FirstBranchFault old p ty b all first e)
branch_fault u t more rest all p ty b first at old here Memory f every h = tt
branch_fault u t more rest all p ty b first at old here (Misfit k) f every h = every (Misfit k) (subst (λ (bs : ExpansionBranches). FirstBranchFault here p ty b bs at (Misfit k)) (sym f) (h more))
branch_fault u t more rest all p ty b first at old here (BadTerm k) f every h = every (BadTerm k) (subst (λ (bs : ExpansionBranches). FirstBranchFault here p ty b bs at (BadTerm k)) (sym f) (h more))
branch_fault u t more rest all p ty b first at old here (BadVariable k) f every h = every (BadVariable k) (subst (λ (bs : ExpansionBranches). FirstBranchFault here p ty b bs at (BadVariable k)) (sym f) (h more))
