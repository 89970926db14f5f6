-- The deep formula of a tree as it is put together.
use Rattle.std.proofs.Common.{◌≡◌, List, [], Bool, true, sym, ◌∙◌, ap, subst, Result, Ok, Err, IfOk}
use Rattle.hol_terms.specs.Terms.{SimpleType, Term, truth_type, plain_term}
use Rattle.hol_terms.specs.Typing.{Typed, IsFormula}
use Rattle.hol_terms.specs.Indices.{instance_of}
use Rattle.hol_terms.specs.declared.terms.Tm.{Tm}
use Rattle.hol_conv.specs.Conversion.{Conv, Long, done, long, next}
use Rattle.hol_conv.proofs.Model.{form-typed}
use Rattle.hol_conv.proofs.Normals.{one_normal_form}
use Rattle.expansion_tree.specs.Trees.{ExpansionTree, ExpansionBranches, no_branch, branch}
use Rattle.expansion_tree.specs.Standing.{Standing, StandingBranches, at_expansion, none_standing, Stands, BranchesStand, IsNormalFormula, deep_formula, joined_deep, joining, compound_of}
use Rattle.expansion_tree.specs.Faults.{IsTree}
use Rattle.expansion_tree.specs.Fitted.{FittedTree, FitsAs}

conv-first : (types : List SimpleType) (t : SimpleType) (a b : Term) → Conv types t a b → Typed types a t
conv-first types t _ _ (done a h) = h
conv-first types t _ _ (next a b c h n r) = h

conv-ends : (types : List SimpleType) (t : SimpleType) (a b : Term) → Conv types t a b → Typed types b t
conv-ends types t _ _ (done a h) = h
conv-ends types t _ _ (next a b c h n r) = conv-ends types t b c r

-- what has a long normal form is a formula
pub normal_of_formula : (n a : Term) → IsNormalFormula n a → IsFormula a
normal_of_formula n a h = conv-ends [] truth_type n a h.1

-- a term of a branch has the type of its variable
pub long_typed : (u : Term) (s : SimpleType) → Long [] u s → Typed [] u s
long_typed u s h = form-typed long [] u s h

pub one_normal : (a n m : Term) → IsNormalFormula n a → IsNormalFormula m a → n ≡ m
one_normal a n m h g = one_normal_form [] a n m truth_type h g

-- the deep formula of branches, from that of the first and of the others
pub deep_of_branches : (E : Type 0) (u : Term) (t : ExpansionTree) (more bs : ExpansionBranches) (p : Bool) (ty : SimpleType) (b first : Term) (r : Result Tm E)
    → bs ≡ branch u t more
    → ((a : Term) (n : Standing) → IsNormalFormula a (instance_of b u) → Stands p a t n → first ≡ deep_formula n)
    → IfOk r (λ deep. (ns : StandingBranches) → BranchesStand p ty b more ns → plain_term deep ≡ joined_deep p first ns)
    → IfOk r (λ deep. (ns : StandingBranches) → BranchesStand p ty b bs ns → plain_term deep ≡ deep_formula (at_expansion p ns))
deep_of_branches E u t more bs p ty b first (Ok deep) e firsts rests = λ ns h. go ns (subst (λ (l : ExpansionBranches). BranchesStand p ty b l ns) e h)
  where
    go : (ns : StandingBranches) → BranchesStand p ty b (branch u t more) ns → plain_term deep ≡ deep_formula (at_expansion p ns)
    go ns h =
        rests h.5 h.6 ∙ ap (λ (a : Term). joined_deep p a h.5) (firsts h.1 h.3 h.2 h.4) ∙ ap (λ (l : StandingBranches). deep_formula (at_expansion p l)) (sym h.7)
deep_of_branches E u t more bs p ty b first (Err x) e firsts rests = rests

-- one branch more was joined
pub joined_on : (u : Term) (t : ExpansionTree) (more rest : ExpansionBranches) (p : Bool) (ty : SimpleType) (b before here both d : Term)
    → rest ≡ branch u t more
    → ((a : Term) (n : Standing) → IsNormalFormula a (instance_of b u) → Stands p a t n → here ≡ deep_formula n)
    → both ≡ compound_of (joining p) before here
    → ((ns : StandingBranches) → BranchesStand p ty b more ns → d ≡ joined_deep p both ns)
    → (ns : StandingBranches) → BranchesStand p ty b rest ns → d ≡ joined_deep p before ns
joined_on u t more rest p ty b before here both d e heres f rests ns h = go ns (subst (λ (l : ExpansionBranches). BranchesStand p ty b l ns) e h)
  where
    go : (ns : StandingBranches) → BranchesStand p ty b (branch u t more) ns → d ≡ joined_deep p before ns
    go ns h =
        rests h.5 h.6
        ∙ ap (λ (a : Term). joined_deep p a h.5) (f ∙ ap (compound_of (joining p) before) (heres h.1 h.3 h.2 h.4))
        ∙ ap (joined_deep p before) (sym h.7)

-- no branch is left
pub joined_last : (rest : ExpansionBranches) (p : Bool) (ty : SimpleType) (b d : Term) → rest ≡ no_branch → (ns : StandingBranches) → BranchesStand p ty b rest ns → d ≡ joined_deep p d ns
joined_last rest p ty b d e ns h =
    let none : ns ≡ none_standing = subst (λ (l : ExpansionBranches). BranchesStand p ty b l ns) e h in
    sym (ap (joined_deep p d) none)

-- the branches that are left stand
pub more_stand : (u : Term) (t : ExpansionTree) (more rest : ExpansionBranches) (p : Bool) (ty : SimpleType) (b : Term)
    → rest ≡ branch u t more → (ns : StandingBranches) × BranchesStand p ty b rest ns → (ns : StandingBranches) × BranchesStand p ty b more ns
more_stand u t more rest p ty b e (ns, h) = let g = subst (λ (l : ExpansionBranches). BranchesStand p ty b l ns) e h in (g.5, g.6)

-- the deep formula at one long normal form is that at another
pub deep_at_normal : (E : Type 0) (a formula : Term) (t : ExpansionTree) (p : Bool) (r : Result Tm E)
    → IsNormalFormula a formula
    → IfOk r (λ deep. (s : Standing) → Stands p a t s → plain_term deep ≡ deep_formula s)
    → IfOk r (λ deep. (c : Term) (n : Standing) → IsNormalFormula c formula → Stands p c t n → plain_term deep ≡ deep_formula n)
deep_at_normal E a formula t p (Ok deep) normal h = λ c n other stands. h n (subst (λ (x : Term). Stands p x t n) (one_normal formula c a other normal) stands)
deep_at_normal E a formula t p (Err x) normal h = h

pub stands_at_normal : (a formula : Term) (t : ExpansionTree) (p : Bool) → IsNormalFormula a formula → (c : Term) × IsNormalFormula c formula × (n : Standing) × Stands p c t n → (n : Standing) × Stands p a t n
stands_at_normal a formula t p normal (c, other, n, stands) = (n, subst (λ (x : Term). Stands p x t n) (one_normal formula c a other normal) stands)

-- what is fitted stands at the long normal form of its formula
pub fitted_formula : (formula : Term) (tree : ExpansionTree) (s : Standing) → IsTree formula tree s → IsFormula formula
fitted_formula formula tree s h = normal_of_formula h.normal formula h.is_normal

pub fitted_stands : (formula normal : Term) (tree : ExpansionTree) (s : Standing) → IsNormalFormula normal formula → IsTree formula tree s → Stands true normal tree s
fitted_stands formula normal tree s n h = subst (λ (a : Term). Stands true a tree s) (one_normal formula h.normal normal h.is_normal n) h.stands

pub deep_of_fitted : (E : Type 0) (f : FittedTree) (normal : Term) (r : Result Tm E)
    → IsNormalFormula normal f.formula
    → IfOk r (λ deep. (s : Standing) → Stands true normal f.tree s → plain_term deep ≡ deep_formula s)
    → IfOk r (λ deep. (s : Standing) → FitsAs f s → plain_term deep ≡ deep_formula s)
deep_of_fitted E f normal (Ok deep) n h = λ s fits. h s (fitted_stands f.formula normal f.tree s n fits.is_tree)
deep_of_fitted E f normal (Err x) n h = h
