-- A branch among others.
use Rattle.std.proofs.Common.{◌≡◌, ◌+◌, [], ◌++◌, Bool, refl, sym, ap, subst, ◌∙◌, arith, inl, inr}
use Rattle.hol_terms.specs.Terms.{SimpleType, Term, Variable}
use Rattle.hol_terms.specs.Indices.{instance_of}
use Rattle.hol_conv.specs.Conversion.{Long}
use Rattle.expansion_tree.specs.Standing.{Standing, StandingBranches, none_standing, branch_standing, IsNormalFormula, selected_variables, branch_selected_variables}
use Rattle.grown_trees.specs.Growths.{IsGrown, AreBranchesGrown}
use Rattle.grown_trees.specs.Targets.{IsInserted}
use Rattle.grown_trees.proofs.Counted.{times, times-append}
use Rattle.grown_trees.proofs.Fitting.{Fits, BranchesFit}

-- the branch stands at the instance of the body
abbrev pub BranchFits : Bool → SimpleType → Term → Term → Standing → Type 0
BranchFits p ty b u n = Long [] u ty × (a : Term) × IsNormalFormula a (instance_of b u) × Fits p a n

pub inserted_fits : (p : Bool) (ty : SimpleType) (b u : Term) (n : Standing) (ns ms : StandingBranches) → IsInserted u n ns ms → BranchesFit p ty b ms → BranchFits p ty b u n × BranchesFit p ty b ns
inserted_fits p ty b u n none_standing ms h f = let f : BranchesFit p ty b (branch_standing u n none_standing) = subst (BranchesFit p ty b) h f in ((f.0, f.1, f.2, f.3), f.4)
inserted_fits p ty b u n (branch_standing w m ns) ms (inl h) f =
    let f : BranchesFit p ty b (branch_standing u n (branch_standing w m ns)) = subst (BranchesFit p ty b) h f in ((f.0, f.1, f.2, f.3), f.4)
inserted_fits p ty b u n (branch_standing w m ns) ms (inr h) f =
    let f : BranchesFit p ty b (branch_standing w m h.0) = subst (BranchesFit p ty b) h.2 f in
    let rest = inserted_fits p ty b u n ns h.0 h.1 f.4 in
    (rest.0, (f.0, f.1, f.2, f.3, rest.1))

pub fits_inserted : (p : Bool) (ty : SimpleType) (b u : Term) (n : Standing) (ns ms : StandingBranches) → IsInserted u n ns ms → BranchFits p ty b u n → BranchesFit p ty b ns → BranchesFit p ty b ms
fits_inserted p ty b u n none_standing ms h f g = subst (BranchesFit p ty b) (sym h) (f.0, f.1, f.2, f.3, g)
fits_inserted p ty b u n (branch_standing w m ns) ms (inl h) f g = subst (BranchesFit p ty b) (sym h) (f.0, f.1, f.2, f.3, g)
fits_inserted p ty b u n (branch_standing w m ns) ms (inr h) f g = subst (BranchesFit p ty b) (sym h.2) (g.0, g.1, g.2, g.3, fits_inserted p ty b u n ns h.0 h.1 f g.4)

pub inserted_first : (u : Term) (n : Standing) (ns : StandingBranches) → IsInserted u n ns (branch_standing u n ns)
inserted_first u n none_standing = refl
inserted_first u n (branch_standing w m ns) = inl refl

-- after all others
abbrev pub pushed : StandingBranches → Term → Standing → StandingBranches
pushed none_standing u n = branch_standing u n none_standing
pushed (branch_standing w m ns) u n = branch_standing w m (pushed ns u n)

pub inserted_last : (u : Term) (n : Standing) (ns : StandingBranches) → IsInserted u n ns (pushed ns u n)
inserted_last u n none_standing = refl
inserted_last u n (branch_standing w m ns) = inr (pushed ns u n, inserted_last u n ns, refl)

pub pushed_grown : (u : Term) (n : Standing) (ns : StandingBranches) → AreBranchesGrown u n n ns (pushed ns u n) (pushed ns u n)
pushed_grown u n none_standing = (refl, refl)
pushed_grown u n (branch_standing w m ns) = inr (pushed ns u n, pushed ns u n, pushed_grown u n ns, refl, refl)

-- a branch among others grows
pub replaced : (x : Term) (b : Standing) (u : Term) (n k : Standing) (ns ms : StandingBranches) → IsInserted u n ns ms → IsGrown x b n k
    → (more : StandingBranches) × IsInserted u k ns more × AreBranchesGrown x b b ms more more
replaced x b u n k none_standing ms h g =
    let Q : StandingBranches → Type 0 = λ ms. (more : StandingBranches) × IsInserted u k none_standing more × AreBranchesGrown x b b ms more more in
    subst Q (sym h) (branch_standing u k none_standing, refl, inl (k, k, g, refl, refl))
replaced x b u n k (branch_standing w m ns) ms (inl h) g =
    let Q : StandingBranches → Type 0 = λ ms. (more : StandingBranches) × IsInserted u k (branch_standing w m ns) more × AreBranchesGrown x b b ms more more in
    subst Q (sym h) (branch_standing u k (branch_standing w m ns), inl refl, inl (k, k, g, refl, refl))
replaced x b u n k (branch_standing w m ns) ms (inr h) g =
    let Q : StandingBranches → Type 0 = λ ms. (more : StandingBranches) × IsInserted u k (branch_standing w m ns) more × AreBranchesGrown x b b ms more more in
    let rest = replaced x b u n k ns h.0 h.1 g in
    subst Q (sym h.2) (branch_standing w m rest.0, inr (rest.0, rest.1, refl), inr (rest.0, rest.0, rest.2, refl, refl))

-- the others grow
pub shifted : (x : Term) (b : Standing) (u : Term) (n : Standing) (ns more ms : StandingBranches) → IsInserted u n ns ms → AreBranchesGrown x b b ns more more
    → (all : StandingBranches) × IsInserted u n more all × AreBranchesGrown x b b ms all all
shifted x b u n none_standing more ms h g =
    let Q : StandingBranches → Type 0 = λ ms. (all : StandingBranches) × IsInserted u n more all × AreBranchesGrown x b b ms all all in
    let new : StandingBranches = branch_standing x b none_standing in
    subst Q (sym h) (branch_standing u n new, subst (λ (l : StandingBranches). IsInserted u n l (branch_standing u n new)) (sym g.0) (inl refl), inr (new, new, (refl, refl), refl, refl))
shifted x b u n (branch_standing w m ns) more ms (inl h) g =
    let Q : StandingBranches → Type 0 = λ ms. (all : StandingBranches) × IsInserted u n more all × AreBranchesGrown x b b ms all all in
    subst Q (sym h) (branch_standing u n more, inserted_first u n more, inr (more, more, g, refl, refl))
shifted x b u n (branch_standing w m ns) more ms (inr h) (inl g) =
    let Q : StandingBranches → Type 0 = λ ms. (all : StandingBranches) × IsInserted u n more all × AreBranchesGrown x b b ms all all in
    let same : g.0 ≡ g.1 = cc (g.3, g.4) in
    subst Q (sym h.2)
    (branch_standing w g.0 h.0, subst (λ (l : StandingBranches). IsInserted u n l (branch_standing w g.0 h.0)) (sym g.3) (inr (h.0, h.1, refl)), inl (g.0, g.1, g.2, refl, ap (λ (k : Standing). branch_standing w k h.0) same))
shifted x b u n (branch_standing w m ns) more ms (inr h) (inr g) =
    let Q : StandingBranches → Type 0 = λ ms. (all : StandingBranches) × IsInserted u n more all × AreBranchesGrown x b b ms all all in
    let same : g.1 ≡ g.0 = cc (g.3, g.4) in
    let rest = shifted x b u n ns g.0 h.0 h.1 (subst (λ (l : StandingBranches). AreBranchesGrown x b b ns g.0 l) same g.2) in
    subst Q (sym h.2)
    (branch_standing w m rest.0, subst (λ (l : StandingBranches). IsInserted u n l (branch_standing w m rest.0)) (sym g.3) (inr (rest.0, rest.1, refl)), inr (rest.0, rest.0, rest.2, refl, refl))

-- how often a variable is selected in it
pub inserted_times : (v : Variable) (u : Term) (n : Standing) (ns ms : StandingBranches) → IsInserted u n ns ms
    → times v (branch_selected_variables ms) ≡ times v (selected_variables n) + times v (branch_selected_variables ns)
inserted_times v u n none_standing ms h = ap (λ (l : StandingBranches). times v (branch_selected_variables l)) h ∙ times-append v (selected_variables n) []
inserted_times v u n (branch_standing w m ns) ms (inl h) =
    ap (λ (l : StandingBranches). times v (branch_selected_variables l)) h ∙ times-append v (selected_variables n) (selected_variables m ++ branch_selected_variables ns)
inserted_times v u n (branch_standing w m ns) ms (inr h) =
    let rest = inserted_times v u n ns h.0 h.1 in
    let whole = ap (λ (l : StandingBranches). times v (branch_selected_variables l)) h.2 ∙ times-append v (selected_variables m) (branch_selected_variables h.0) in
    let parts = times-append v (selected_variables m) (branch_selected_variables ns) in
    omega (arith, rest, whole, parts)
