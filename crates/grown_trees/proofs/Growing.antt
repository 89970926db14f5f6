-- A tree that has come to a step of a target comes to the next one by one more branch.
use Rattle.std.proofs.Common.{◌≡◌, ◌≤◌, ◌<◌, ◌+◌, ℕ, List, [], ◌∷◌, ◌++◌, Bool, true, false, not, nat_eq, Contains, map, refl, sym, ap, subst, ◌∙◌, arith, inl, inr, ◌⊎◌}
use Rattle.std.specs.List.{AllByRecursion, IsDistinct}
use Rattle.hol_terms.specs.Terms.{SimpleType, Term, free, truth_type}
use Rattle.hol_terms.specs.Indices.{instance_of}
use Rattle.hol_conv.specs.Conversion.{Long}
use Rattle.hol_conv.proofs.Normals.{one_normal_form}
use Rattle.expansion_tree.specs.Standing.{Standing, at_negation, at_connective, at_selection, at_expansion, StandingBranches, IsNormalFormula, left_polarity, leaves, branch_leaves}
use Rattle.dependency.specs.Stages.{StagedTree, staged_leaf, staged_constant, staged_negation, staged_connective, staged_selection, staged_expansion, StagedBranches, none_staged, branch_staged, standing_of, standing_branches_of, Stage, stages, branch_stages}
use Rattle.dependency.specs.Walks.{is_in}
use Rattle.dependency.proofs.Elements.{Contains-image, first_or_later, none_there}
use Rattle.dependency.proofs.Lists.{distinct-head, distinct-tail, is_in_from_Contains}
use Rattle.grown_trees.specs.Growths.{IsGrown, AreBranchesGrown, IsBare}
use Rattle.grown_trees.specs.Targets.{Matches, BranchesMatch}
use Rattle.grown_trees.proofs.Every.{every_contained, every_left, every_right, every_weaker}
use Rattle.grown_trees.proofs.Fitting.{Fits, BranchesFit}
use Rattle.grown_trees.proofs.Inserted.{BranchFits, inserted_fits, fits_inserted, pushed, inserted_last, pushed_grown, replaced, shifted}
use Rattle.grown_trees.proofs.Selecting.{IsInside, IsAfter, stages_after}
use Rattle.grown_trees.proofs.Bareness.{bare_of, IsAtomic, bare_is_bare, bare_fits, bare_matches}

-- the one stage of a step

abbrev pub IsOther : ℕ → Stage → Type 0
IsOther j x = x.step ≡ j → ⊥

-- exactly one of the stages has the step
abbrev pub OnceAt : ℕ → List Stage → Type 0
OnceAt j [] = ⊥
OnceAt j (x ∷ xs) = ((x.step ≡ j) × AllByRecursion (IsOther j) xs) ⊎ ((x.step ≡ j → ⊥) × OnceAt j xs)

once_split : (j : ℕ) (xs ys : List Stage) → OnceAt j (xs ++ ys) → (OnceAt j xs × AllByRecursion (IsOther j) ys) ⊎ (AllByRecursion (IsOther j) xs × OnceAt j ys)
once_split j [] ys h = inr (tt, h)
once_split j (x ∷ xs) ys (inl h) = inl (inl (h.0, every_left (IsOther j) xs ys h.1), every_right (IsOther j) xs ys h.1)
once_split j (x ∷ xs) ys (inr h) = elim (once_split j xs ys h.1) [ inl p ↦ inl (inr (h.0, p.0), p.1) | inr p ↦ inr ((h.0, p.0), p.1) ]

once_not_after : (j k : ℕ) (xs : List Stage) → j ≤ k → AllByRecursion (IsAfter k) xs → OnceAt j xs → ⊥
once_not_after j k [] early h once = once
once_not_after j k (x ∷ xs) early h (inl once) = let late : k < x.step = h.0 in let at = once.0 in omega (arith, early, late, at)
once_not_after j k (x ∷ xs) early h (inr once) = once_not_after j k xs early h.1 once.1

abbrev pub step_of : Stage → ℕ
step_of x = x.step

pub distinct_once : (j : ℕ) (xs : List Stage) → IsDistinct nat_eq (map step_of xs) → Contains (map step_of xs) j → OnceAt j xs
distinct_once j [] distinct h = none_there j h
distinct_once j (x ∷ xs) distinct h = elim (first_or_later x.step (map step_of xs) j h) [
  | inl same ↦ inl (same, every_contained (IsOther j) xs (λ y there e. twice y there (e ∙ sym same)))
  | inr later ↦ inr ((λ e. again (subst (Contains (map step_of xs)) (sym e) later)), distinct_once j xs (distinct-tail x.step (map step_of xs) distinct) later)
]
  where
    again : Contains (map step_of xs) x.step → ⊥
    again there =
        let found : is_in (map step_of xs) x.step ≡ true = is_in_from_Contains (map step_of xs) x.step there in
        let none : is_in (map step_of xs) x.step ≡ false = distinct-head x.step (map step_of xs) distinct in
        cc

    twice : (y : Stage) → Contains xs y → y.step ≡ x.step → ⊥
    twice y there e = again (subst (Contains (map step_of xs)) e (Contains-image step_of xs y there))

-- where the next step isn't, nothing changes

mutual
  still_matches : (g : StagedTree) (above k : ℕ) (s : Standing) → AllByRecursion (IsOther (k + 1)) (stages above g) → Matches k g s → Matches (k + 1) g s
  still_matches (staged_leaf p a) above k s others h = h
  still_matches (staged_constant p v) above k s others h = h
  still_matches (staged_negation g) above k s others h = (h.0, still_matches g above k h.0 others h.1, h.2)
  still_matches (staged_connective op p g f) above k s others h = (
    h.0,
    h.1,
    still_matches g above k h.0 (every_left (IsOther (k + 1)) (stages above g) (stages above f) others) h.2,
    still_matches f above k h.1 (every_right (IsOther (k + 1)) (stages above g) (stages above f) others) h.3,
    h.4,
  )
  still_matches (staged_selection v g) above k s others h = (h.0, still_matches g above k h.0 others h.1, h.2)
  still_matches (staged_expansion p bs) above k s others h = (h.0, branches_still_match bs above k h.0 others h.1, h.2)

  branches_still_match : (bs : StagedBranches) (above k : ℕ) (ms : StandingBranches) → AllByRecursion (IsOther (k + 1)) (branch_stages above bs) → BranchesMatch k bs ms → BranchesMatch (k + 1) bs ms
  branches_still_match none_staged above k ms others h = h
  branches_still_match (branch_staged u step g bs) above k ms others (inl h) =
      let late : k < step = h.0 in
      let other : step ≡ k + 1 → ⊥ = others.0 in
      inl (omega (arith, late, other), branches_still_match bs above k ms (every_right (IsOther (k + 1)) (stages step g) (branch_stages above bs) others.1) h.1)
  branches_still_match (branch_staged u step g bs) above k ms others (inr h) =
      let early : step ≤ k = h.0 in
      inr (
        omega (arith, early),
        h.1,
        h.2,
        still_matches g step k h.1 (every_left (IsOther (k + 1)) (stages step g) (branch_stages above bs) others.1) h.3,
        branches_still_match bs above k h.2 (every_right (IsOther (k + 1)) (stages step g) (branch_stages above bs) others.1) h.4,
        h.5,
      )

-- where it is, a branch is added

-- the branch is inside of the one around it, and its term is as wanted where it is the next one
abbrev pub IsKnown : (Term → Type 0) → ℕ → Stage → Type 0
IsKnown P k x = (x.above < x.step) × (x.step ≡ k + 1 → P x.term)

known_inside : (P : Term → Type 0) (k : ℕ) (xs : List Stage) → AllByRecursion (IsKnown P k) xs → AllByRecursion IsInside xs
known_inside P k xs h = every_weaker (IsKnown P k) IsInside (λ x known. known.0) xs h

pub record Growth (P : Term → Type 0) (k : ℕ) (g : StagedTree) (p : Bool) (a : Term) (s : Standing) : Type 0 where
  pub term : Term
  pub tree : Standing
  pub grown : Standing
  pub is_grown : IsGrown term tree s grown
  pub is_bare : IsBare tree
  pub fits : Fits p a grown
  pub matches : Matches (k + 1) g grown
  pub wanted : P term

record BranchGrowth (P : Term → Type 0) (k : ℕ) (bs : StagedBranches) (p : Bool) (ty : SimpleType) (b : Term) (ms : StandingBranches) : Type 0 where
  term : Term
  tree : Standing
  grown : StandingBranches
  is_grown : AreBranchesGrown term tree tree ms grown grown
  is_bare : IsBare tree
  fits : BranchesFit p ty b grown
  matches : BranchesMatch (k + 1) bs grown
  wanted : P term

mutual
  pub grow : (g : StagedTree) (P : Term → Type 0) (above k : ℕ) (p : Bool) (a c : Term) (s : Standing) → a ≡ c → OnceAt (k + 1) (stages above g) → AllByRecursion (IsKnown P k) (stages above g)
      → AllByRecursion IsAtomic (leaves (standing_of g)) → Fits p a (standing_of g) → Fits p c s → Matches k g s → Growth P k g p c s
  grow (staged_leaf q x) P above k p a c s e once known atoms f r h = absurd once
  grow (staged_constant q v) P above k p a c s e once known atoms f r h = absurd once
  grow (staged_negation g) P above k p a c s e once known atoms f r h =
      let r : Fits p c (at_negation h.0) = subst (Fits p c) h.2 r in
      let below = grow g P above k (not p) f.0 r.0 h.0 (cc (f.1, e, r.1)) once known atoms f.2 r.2 h.1 in
      subst (Growth P k (staged_negation g) p c) (sym h.2) (record {
        term = below.term;
        tree = below.tree;
        grown = at_negation below.grown;
        is_grown = (below.grown, below.grown, below.is_grown, refl, refl);
        is_bare = below.is_bare;
        fits = (r.0, r.1, below.fits);
        matches = (below.grown, below.matches, refl);
        wanted = below.wanted;
      })
  grow (staged_connective op q g d) P above k p a c s e once known atoms f r h =
      let r : Fits p c (at_connective op q h.0 h.1) = subst (Fits p c) h.4 r in
      let here = stages above g in
      let there = stages above d in
      let left = leaves (standing_of g) in
      let right = leaves (standing_of d) in
      let one : f.1 ≡ r.1 = cc (f.3, e, r.3) in
      let other : f.2 ≡ r.2 = cc (f.3, e, r.3) in
      elim (once_split (k + 1) here there once) [
        | inl x ↦ (let below = grow g P above k (left_polarity op p) f.1 r.1 h.0 one x.0 (every_left (IsKnown P k) here there known) (every_left IsAtomic left right atoms) f.4 r.4 h.2 in
            subst (Growth P k (staged_connective op q g d) p c) (sym h.4) (record {
              term = below.term;
              tree = below.tree;
              grown = at_connective op q below.grown h.1;
              is_grown = inl (below.grown, below.grown, below.is_grown, refl, refl);
              is_bare = below.is_bare;
              fits = (r.0, r.1, r.2, r.3, below.fits, r.5);
              matches = (below.grown, h.1, below.matches, still_matches d above k h.1 x.1 h.3, refl);
              wanted = below.wanted;
            }))
        | inr x ↦ (let below = grow d P above k p f.2 r.2 h.1 other x.1 (every_right (IsKnown P k) here there known) (every_right IsAtomic left right atoms) f.5 r.5 h.3 in
            subst (Growth P k (staged_connective op q g d) p c) (sym h.4) (record {
              term = below.term;
              tree = below.tree;
              grown = at_connective op q h.0 below.grown;
              is_grown = inr (below.grown, below.grown, below.is_grown, refl, refl);
              is_bare = below.is_bare;
              fits = (r.0, r.1, r.2, r.3, r.4, below.fits);
              matches = (h.0, below.grown, still_matches g above k h.0 x.0 h.2, below.matches, refl);
              wanted = below.wanted;
            }))
      ]
  grow (staged_selection v g) P above k p a c s e once known atoms f r h =
      let r : Fits p c (at_selection v h.0) = subst (Fits p c) h.2 r in
      let body : f.0 ≡ r.0 = cc (f.1, e, r.1) in
      let below = grow g P above k p (instance_of f.0 (free v.0 v.1)) (instance_of r.0 (free v.0 v.1)) h.0 (ap (λ (b : Term). instance_of b (free v.0 v.1)) body) once known atoms f.2 r.2 h.1 in
      subst (Growth P k (staged_selection v g) p c) (sym h.2) (record {
        term = below.term;
        tree = below.tree;
        grown = at_selection v below.grown;
        is_grown = (below.grown, below.grown, below.is_grown, refl, refl);
        is_bare = below.is_bare;
        fits = (r.0, r.1, below.fits);
        matches = (below.grown, below.matches, refl);
        wanted = below.wanted;
      })
  grow (staged_expansion q bs) P above k p a c s e once known atoms f r h =
      let r : Fits p c (at_expansion q h.0) = subst (Fits p c) h.2 r in
      let ty : f.1 ≡ r.1 = cc (f.3, e, r.3) in
      let body : f.2 ≡ r.2 = cc (f.3, e, r.3) in
      let below = grow_branches bs P above k p f.1 r.1 f.2 r.2 h.0 ty body once known atoms f.4 r.4 h.1 in
      subst (Growth P k (staged_expansion q bs) p c) (sym h.2) (record {
        term = below.term;
        tree = below.tree;
        grown = at_expansion q below.grown;
        is_grown = (below.grown, below.grown, below.is_grown, refl, refl);
        is_bare = below.is_bare;
        fits = (r.0, r.1, r.2, r.3, below.fits);
        matches = (below.grown, below.matches, refl);
        wanted = below.wanted;
      })

  grow_branches : (bs : StagedBranches) (P : Term → Type 0) (above k : ℕ) (p : Bool) (ty other : SimpleType) (b d : Term) (ms : StandingBranches) → ty ≡ other → b ≡ d
      → OnceAt (k + 1) (branch_stages above bs) → AllByRecursion (IsKnown P k) (branch_stages above bs) → AllByRecursion IsAtomic (branch_leaves (standing_branches_of bs))
      → BranchesFit p ty b (standing_branches_of bs) → BranchesFit p other d ms → BranchesMatch k bs ms → BranchGrowth P k bs p other d ms
  grow_branches none_staged P above k p ty other b d ms same e once known atoms f r h = absurd once
  grow_branches (branch_staged u step g bs) P above k p ty other b d ms same e (inl once) known atoms f r (inr h) =
      absurd (let at = once.0 in let early = h.0 in omega (arith, at, early))
  grow_branches (branch_staged u step g bs) P above k p ty other b d ms same e (inl once) known atoms f r (inl h) =
      let inside = stages step g in
      let behind = branch_stages above bs in
      let at : step ≡ k + 1 = once.0 in
      let normal : IsNormalFormula f.1 (instance_of d u) = subst (λ (x : Term). IsNormalFormula f.1 (instance_of x u)) e f.2 in
      let fits : BranchFits p other d u (bare_of g) = (subst (λ (q : SimpleType). Long [] u q) same f.0, f.1, normal, bare_fits g p f.1 f.3) in
      let after : AllByRecursion (IsAfter step) inside = stages_after g step (known_inside P k inside (every_left (IsKnown P k) inside behind known.1)) in
      record {
        term = u;
        tree = bare_of g;
        grown = pushed ms u (bare_of g);
        is_grown = pushed_grown u (bare_of g) ms;
        is_bare = bare_is_bare g (every_left IsAtomic (leaves (standing_of g)) (branch_leaves (standing_branches_of bs)) atoms);
        fits = fits_inserted p other d u (bare_of g) ms (pushed ms u (bare_of g)) (inserted_last u (bare_of g) ms) fits r;
        matches = inr (
          omega (arith, at),
          bare_of g,
          ms,
          bare_matches g step (k + 1) (subst (λ (j : ℕ). AllByRecursion (IsAfter j) inside) at after),
          branches_still_match bs above k ms (every_right (IsOther (k + 1)) inside behind once.1) h.1,
          inserted_last u (bare_of g) ms,
        );
        wanted = known.0.1 at;
      }
  grow_branches (branch_staged u step g bs) P above k p ty other b d ms same e (inr once) known atoms f r (inl h) =
      let inside = stages step g in
      let behind = branch_stages above bs in
      let late : k < step = h.0 in
      let unlike : step ≡ k + 1 → ⊥ = once.0 in
      elim (once_split (k + 1) inside behind once.1) [
        | inl x ↦ absurd (once_not_after (k + 1) step inside (omega (arith, late)) (stages_after g step (known_inside P k inside (every_left (IsKnown P k) inside behind known.1))) x.0)
        | inr x ↦ (let later = grow_branches bs P above k p ty other b d ms same e x.1 (every_right (IsKnown P k) inside behind known.1)
            (every_right IsAtomic (leaves (standing_of g)) (branch_leaves (standing_branches_of bs)) atoms) f.4 r h.1 in
            record {
              term = later.term;
              tree = later.tree;
              grown = later.grown;
              is_grown = later.is_grown;
              is_bare = later.is_bare;
              fits = later.fits;
              matches = inl (omega (arith, late, unlike), later.matches);
              wanted = later.wanted;
            })
      ]
  grow_branches (branch_staged u step g bs) P above k p ty other b d ms same e (inr once) known atoms f r (inr h) =
      let inside = stages step g in
      let behind = branch_stages above bs in
      let early : step ≤ k = h.0 in
      let parts = inserted_fits p other d u h.1 h.2 ms h.5 r in
      let one : f.1 ≡ parts.0.1 = one_normal_form [] (instance_of b u) f.1 parts.0.1 truth_type f.2 (subst (λ (x : Term). IsNormalFormula parts.0.1 (instance_of x u)) (sym e) parts.0.2) in
      elim (once_split (k + 1) inside behind once.1) [
        | inl x ↦ (let below = grow g P step k p f.1 parts.0.1 h.1 one x.0 (every_left (IsKnown P k) inside behind known.1)
            (every_left IsAtomic (leaves (standing_of g)) (branch_leaves (standing_branches_of bs)) atoms) f.3 parts.0.3 h.3 in
            let all = replaced below.term below.tree u h.1 below.grown h.2 ms h.5 below.is_grown in
            record {
              term = below.term;
              tree = below.tree;
              grown = all.0;
              is_grown = all.2;
              is_bare = below.is_bare;
              fits = fits_inserted p other d u below.grown h.2 all.0 all.1 (parts.0.0, parts.0.1, parts.0.2, below.fits) parts.1;
              matches = inr (omega (arith, early), below.grown, h.2, below.matches, branches_still_match bs above k h.2 x.1 h.4, all.1);
              wanted = below.wanted;
            })
        | inr x ↦ (let later = grow_branches bs P above k p ty other b d h.2 same e x.1 (every_right (IsKnown P k) inside behind known.1)
            (every_right IsAtomic (leaves (standing_of g)) (branch_leaves (standing_branches_of bs)) atoms) f.4 parts.1 h.4 in
            let all = shifted later.term later.tree u h.1 h.2 later.grown ms h.5 later.is_grown in
            record {
              term = later.term;
              tree = later.tree;
              grown = all.0;
              is_grown = all.2;
              is_bare = later.is_bare;
              fits = fits_inserted p other d u h.1 later.grown all.0 all.1 parts.0 later.fits;
              matches = inr (omega (arith, early), h.1, later.grown, still_matches g step k h.1 x.0 h.3, later.matches, all.1);
              wanted = later.wanted;
            })
      ]
