-- New branches of all terms that are allowed.
use Rattle.std.proofs.Common.{List, [], ◌∷◌, ◌++◌, ◌≡◌, Bool, refl, sym, ap, subst, inl, inr, ◌⊎◌, All, Contains}
use Rattle.std.proofs.lemmas.List.Elements.{All-cons, All-contains_itself, All-head, All-nil, All-tail, All-weaker}
use Rattle.hol_terms.specs.Terms.{SimpleType, Term}
use Rattle.hol_terms.specs.Indices.{instance_of}
use Rattle.hol_conv.specs.Conversion.{Long}
use Rattle.expansion_tree.specs.Standing.{Standing, StandingBranches, none_standing, branch_standing, BranchesStand, IsNormalFormula}
use Rattle.expansion_tree.specs.Trees.{ExpansionBranches, no_branch, branch}
use Rattle.grown_trees.specs.Growths.{AreBranchesGrown, IsBare}
use Rattle.term_lists.specs.LongTerms.{AreLongTerms, IsLongTerm}
use Rattle.term_lists.proofs.Members.{contains-cons, contains-first, contains-cases, contains-none}
use Rattle.tree_growth.specs.Growths.{Allowance, AreBranchExtensions, GrownBranches, GrownTree, IsAllowed, IsBareGrowth, IsBranchExtension, IsBranchNamesake}
use Rattle.tree_growth.specs.Extending.{AreNewBranches, ExtendBranches, IsNewBranch}
use Rattle.tree_growth.proofs.Inverting.{stands_branch}

abbrev IsSuited : Allowance → SimpleType → Term → Type 0
IsSuited d ty u = IsAllowed d u × Long [] u ty

one_new : (d : Allowance) (p : Bool) (ty : SimpleType) (b u : Term) (g : GrownBranches) → IsSuited d ty u → IsNewBranch d p ty b u g
    → IsBranchExtension d p ty b none_standing g
one_new d p ty b u g suited (a, normal, h, bare, e) =
    let here : IsBranchExtension d p ty b none_standing (branch u h.0 no_branch, h.1) = record {
      term = u;
      allowed = suited.0;
      inner = bare.0;
      standing = branch_standing u bare.0 none_standing;
      grown = (refl, refl);
      stands = (suited.1, a, normal, bare.0, bare.1, none_standing, refl, refl);
      new = bare.2;
    } in
    subst (IsBranchExtension d p ty b none_standing) (sym e) here

each_new : (d : Allowance) (p : Bool) (ty : SimpleType) (b : Term) (us : List Term) (gs : List GrownBranches) → All (IsSuited d ty) us → AreNewBranches d p ty b us gs
    → All (IsBranchExtension d p ty b none_standing) gs
each_new d p ty b [] gs suited e = subst (All (IsBranchExtension d p ty b none_standing)) (sym e) (All-nil (IsBranchExtension d p ty b none_standing))
each_new d p ty b (u ∷ us) gs suited (g, rest, e, new, more) =
    let here = one_new d p ty b u g (All-head (IsSuited d ty) u us suited) new in
    let others = each_new d p ty b us rest (All-tail (IsSuited d ty) u us suited) more in
    subst (All (IsBranchExtension d p ty b none_standing)) (sym e) (All-cons (IsBranchExtension d p ty b none_standing) g rest here others)

new_of : (d : Allowance) (p : Bool) (ty : SimpleType) (b : Term) (us : List Term) (gs : List GrownBranches) (u : Term) → AreNewBranches d p ty b us gs → Contains us u
    → (g : GrownBranches) × Contains gs g × IsNewBranch d p ty b u g
new_of d p ty b [] gs u e there = absurd (contains-none u there)
new_of d p ty b (w ∷ us) gs u (h, rest, e, new, more) there = go (contains-cases w us u there) (new_of d p ty b us rest u more)
  where
    go : (w ≡ u) ⊎ Contains us u → (Contains us u → (g : GrownBranches) × Contains rest g × IsNewBranch d p ty b u g) → (g : GrownBranches) × Contains gs g × IsNewBranch d p ty b u g
    go (inl same) further =
        (h, subst (λ (l : List GrownBranches). Contains l h) (sym e) (contains-first h h rest refl), subst (λ (x : Term). IsNewBranch d p ty b x h) same new)
    go (inr behind) further =
        let x = further behind in
        (x.0, subst (λ (l : List GrownBranches). Contains l x.0) (sym e) (contains-cons h rest x.0 x.1), x.2)

new_extensions : (d : Allowance) (p : Bool) (ty : SimpleType) (b : Term) (us : List Term) (gs : List GrownBranches) → AreLongTerms [] d.heads ty d.weight us
    → AreNewBranches d p ty b us gs → AreBranchExtensions d p ty b none_standing gs
new_extensions d p ty b us gs listed new = record { each = each_new d p ty b us gs suited new; all = all }
  where
    suited : All (IsSuited d ty) us
    suited =
        All-weaker (Contains us) (IsSuited d ty)
        (λ u there. let x = (listed u).0 there in (record { weighs = x.weighs; over = x.is_over }, x.is_long)) us (All-contains_itself us)

    all : (u : Term) (c : Standing) (ms : StandingBranches) (bs : ExpansionBranches) → IsAllowed d u → AreBranchesGrown u c c none_standing ms ms → IsBare c
        → BranchesStand p ty b bs ms → (g : GrownBranches) × Contains gs g × IsBranchNamesake d p ty b none_standing u c ms g
    all u c ms bs allowed grown bare stands =
        let long : Long [] u ty = (stands_branch p b ty bs u c none_standing ms grown.0 stands).0 in
        let term : IsLongTerm [] d.heads ty d.weight u = record { is_long = long; weighs = allowed.weighs; is_over = allowed.over } in
        let x = new_of d p ty b us gs u new ((listed u).1 term) in
        (x.0, x.1, namesake long x.0 x.2)
      where
        namesake : Long [] u ty → (g : GrownBranches) → IsNewBranch d p ty b u g → IsBranchNamesake d p ty b none_standing u c ms g
        namesake long g (a, normal, h, found, e) =
            let here : IsBranchNamesake d p ty b none_standing u c ms (branch u h.0 no_branch, h.1) = record {
              inner = found.0;
              standing = branch_standing u found.0 none_standing;
              grown = (refl, grown.0);
              stands = (long, a, normal, found.0, found.1, none_standing, refl, refl);
              new = found.2;
            } in
            subst (IsBranchNamesake d p ty b none_standing u c ms) (sym e) here

pub extend_none : (d : Allowance) (p : Bool) (ty : SimpleType) (b : Term) (us : List Term) (gs : List GrownBranches) → AreLongTerms [] d.heads ty d.weight us
    → AreNewBranches d p ty b us gs → ExtendBranches d p ty b no_branch gs
extend_none d p ty b us gs listed new ns h =
    subst (λ (r : StandingBranches). AreBranchExtensions d p ty b r gs) (sym h) (new_extensions d p ty b us gs listed new)

pub long_terms_long : (ty : SimpleType) (d : Allowance) (us : List Term) → AreLongTerms [] d.heads ty d.weight us → All (λ (u : Term). Long [] u ty) us
long_terms_long ty d us listed = All-weaker (Contains us) (λ (u : Term). Long [] u ty) (λ u there. ((listed u).0 there).is_long) us (All-contains_itself us)

-- as the branches are made one after another

pub no_new : (d : Allowance) (p : Bool) (ty : SimpleType) (b : Term) → AreNewBranches d p ty b [] []
no_new d p ty b = refl

pub one_more_new : (d : Allowance) (p : Bool) (ty : SimpleType) (b u : Term) (us : List Term) (g : GrownBranches) (gs : List GrownBranches)
    → AreNewBranches d p ty b us gs → IsNewBranch d p ty b u g → AreNewBranches d p ty b (us ++ u ∷ []) (gs ++ g ∷ [])
one_more_new d p ty b u [] g gs e new = (g, [], ap (λ (l : List GrownBranches). l ++ g ∷ []) e, new, refl)
one_more_new d p ty b u (w ∷ us) g gs (h, rest, e, here, more) new =
    (h, rest ++ g ∷ [], ap (λ (l : List GrownBranches). l ++ g ∷ []) e, here, one_more_new d p ty b u us g rest more new)

pub new_branch_is : (d : Allowance) (p : Bool) (ty : SimpleType) (b u a : Term) (h : GrownTree) (g : GrownBranches) → IsNormalFormula a (instance_of b u)
    → IsBareGrowth d.taken d.from p a h → g ≡ (branch u h.0 no_branch, h.1) → IsNewBranch d p ty b u g
new_branch_is d p ty b u a h g normal bare e = (a, normal, h, bare, e)
