-- The lists of trees of a search, one by one.
use Rattle.std.proofs.Common.{◌≡◌, ◌<◌, ◌+◌, ◌-◌, ℕ, zero, suc, List, [], ◌∷◌, ◌++◌, All, Contains, length, refl, sym, ap, subst, ◌∙◌, arith, inl, inr, ◌⊎◌}
use Rattle.std.proofs.lemmas.Bool.{cases_lt}
use Rattle.std.proofs.lemmas.List.Elements.{All-contains, All-from_recursion, Contains-append_left, Contains-append_right, Contains-append_cases}
use Rattle.std.proofs.lemmas.List.{get_or_append_left, length-append}
use Rattle.std.proofs.Math.Seq.{get_or-append_seam}
use Rattle.hol_terms.specs.Terms.{Term}
use Rattle.dependency.proofs.Elements.{Contains-first, first_or_later, none_there}
use Rattle.grown_trees.proofs.Every.{every_contained}
use Rattle.tree_growth.specs.Growths.{GrownTree}
use Rattle.plain_search.specs.Levels.{AreLevels, HasAllGrown, HasGrown, IsBareCandidate, IsCandidate, trees_at}

-- among more trees
pub grown_among : (formula : Term) (level : ℕ) (c : GrownTree) (weight : ℕ) (es fs : List GrownTree) → ((e : GrownTree) → Contains es e → Contains fs e) → HasGrown formula level c weight es → HasGrown formula level c weight fs
grown_among formula level c weight es fs more h s u b t tree is_tree grown bare new_tree over weighs =
    let found = h s u b t tree is_tree grown bare new_tree over weighs in
    (found.0, more found.0 found.1, found.2, found.3, found.4, found.5, found.6, found.7)

-- one more tree grown

pub none_grown : (formula : Term) (level weight : ℕ) (es : List GrownTree) → HasAllGrown formula level [] weight es es
none_grown formula level weight es = record { kept = λ e there. there; candidates = λ w all e there. inl there; grown = λ c there. absurd (none_there c there) }

pub one_more_grown : (formula : Term) (level : ℕ) (cs : List GrownTree) (c : GrownTree) (weight : ℕ) (old mid more : List GrownTree) → HasAllGrown formula level cs weight old mid
    → ((w : ℕ) → IsCandidate formula level w c → All (IsCandidate formula level (w + weight)) more) → HasGrown formula level c weight more → HasAllGrown formula level (cs ++ c ∷ []) weight old (mid ++ more)
one_more_grown formula level cs c weight old mid more h candidates grown = record {
  kept = λ e there. Contains-append_left mid more e (h.kept e there);
  candidates = λ w all e there. elim (Contains-append_cases mid more e there) [
    | inl left ↦ h.candidates w (All-from_recursion (IsCandidate formula level w) cs (every_contained (IsCandidate formula level w) cs (λ k among. All-contains (IsCandidate formula level w) (cs ++ c ∷ []) k all (Contains-append_left cs (c ∷ []) k among)))) e left
    | inr right ↦ inr (All-contains (IsCandidate formula level (w + weight)) more e
        (candidates w (All-contains (IsCandidate formula level w) (cs ++ c ∷ []) c all (Contains-append_right cs (c ∷ []) c (Contains-first c [])))) right)
  ];
  grown = λ k there. elim (Contains-append_cases cs (c ∷ []) k there) [
    | inl left ↦ grown_among formula level k weight mid (mid ++ more) (λ e among. Contains-append_left mid more e among) (h.grown k left)
    | inr right ↦ (elim (first_or_later c [] k right) [
      | inl same ↦ grown_among formula level k weight more (mid ++ more) (λ e among. Contains-append_right mid more e among) (subst (λ (k : GrownTree). HasGrown formula level k weight more) same grown)
      | inr later ↦ absurd (none_there k later)
    ])
  ];
}

-- the next list

-- the trees of the next weight that come of the trees of the weights below i
pub record HasNextUpTo (formula : Term) (level : ℕ) (levels : List (List GrownTree)) (i : ℕ) (es : List GrownTree) : Type 0 where
  pub candidates : (e : GrownTree) → Contains es e → IsCandidate formula level (length levels) e
  pub grown : (w : ℕ) (c : GrownTree) → w < i → Contains (trees_at levels w) c → HasGrown formula level c (length levels - w) es

pub none_next : (formula : Term) (level : ℕ) (levels : List (List GrownTree)) → HasNextUpTo formula level levels 0 []
none_next formula level levels = record { candidates = λ e there. absurd (none_there e there); grown = λ w c less there. absurd (omega (arith, less)) }

pub one_more_next : (formula : Term) (level : ℕ) (levels : List (List GrownTree)) (i more : ℕ) (es fs : List GrownTree) → AreLevels formula level levels → i < length levels → more ≡ length levels - i
    → HasNextUpTo formula level levels i es → HasAllGrown formula level (trees_at levels i) more es fs → HasNextUpTo formula level levels (i + 1) fs
one_more_next formula level levels i more es fs are less rest h all = record {
  candidates = λ e there.
      let here : All (IsCandidate formula level i) (trees_at levels i) = All-from_recursion (IsCandidate formula level i) (trees_at levels i) (every_contained (IsCandidate formula level i) (trees_at levels i) (λ c among. are.candidates i c among)) in
      elim (all.candidates i here e there) [
        | inl old ↦ h.candidates e old
        | inr new ↦ (let sum : i + more ≡ length levels = omega (arith, less, rest) in subst (λ (w : ℕ). IsCandidate formula level w e) sum new)
      ];
  grown = λ w c below there. elim (cases_lt w i) [
    | inl early ↦ grown_among formula level c (length levels - w) es fs all.kept (h.grown w c early there)
    | inr late ↦ (
        let same : w ≡ i = omega (arith, below, late) in
        let amount : more ≡ length levels - w = rest ∙ ap (λ (k : ℕ). length levels - k) (sym same) in
        subst (λ (k : ℕ). HasGrown formula level c k fs) amount (all.grown c (subst (λ (k : ℕ). Contains (trees_at levels k) c) same there)))
  ];
}

at_front : (levels : List (List GrownTree)) (es : List GrownTree) (w : ℕ) → w < length levels → trees_at (levels ++ es ∷ []) w ≡ trees_at levels w
at_front levels es w less = get_or_append_left levels (es ∷ []) [] w less

at_end : (levels : List (List GrownTree)) (es : List GrownTree) → trees_at (levels ++ es ∷ []) (length levels) ≡ es
at_end levels es = get_or-append_seam levels es [] []

-- where a tree of longer lists stands
where_more : (levels : List (List GrownTree)) (es : List GrownTree) (w : ℕ) (c : GrownTree) → Contains (trees_at (levels ++ es ∷ []) w) c
    → ((w < length levels) × Contains (trees_at levels w) c) ⊎ ((w ≡ length levels) × Contains es c)
where_more [] es zero c there = inr (refl, there)
where_more [] es (suc w) c there = absurd (none_there c there)
where_more (cs ∷ levels) es zero c there = inl (omega arith, there)
where_more (cs ∷ levels) es (suc w) c there = elim (where_more levels es w c there) [
  | inl before ↦ inl ((let less = before.0 in omega (arith, less)), before.1)
  | inr last ↦ inr ((let same = last.0 in omega (arith, same)), last.1)
]

pub next_levels : (formula : Term) (level : ℕ) (levels : List (List GrownTree)) (es : List GrownTree) → AreLevels formula level levels → 0 < length levels → HasNextUpTo formula level levels (length levels) es
    → AreLevels formula level (levels ++ es ∷ [])
next_levels formula level levels es are some next = record {
  first = (are.first.0, subst (λ (l : List GrownTree). Contains l are.first.0) (sym (at_front levels es 0 some)) are.first.1, are.first.2);
  candidates = λ w c there. elim (where_more levels es w c there) [
    | inl before ↦ are.candidates w c before.1
    | inr last ↦ subst (λ (w : ℕ). IsCandidate formula level w c) (sym last.0) (next.candidates c last.1)
  ];
  grown = λ w v c there low high.
      let long : length (levels ++ es ∷ []) ≡ length levels + 1 = length-append levels (es ∷ []) in
      elim (where_more levels es w c there) [
        | inl before ↦ elim (cases_lt (w + v) (length levels)) [
          | inl less ↦ subst (HasGrown formula level c v) (sym (at_front levels es (w + v) less)) (are.grown w v c before.1 low less)
          | inr last ↦ (
              let here : w + v ≡ length levels = omega (arith, last, high, long) in
              let amount : length levels - w ≡ v = omega (arith, here) in
              subst (λ (k : ℕ). HasGrown formula level c v (trees_at (levels ++ es ∷ []) k)) (sym here)
              (subst (HasGrown formula level c v) (sym (at_end levels es)) (subst (λ (k : ℕ). HasGrown formula level c k es) amount (next.grown w c before.0 before.1))))
        ]
        | inr last ↦ (let same = last.0 in absurd (omega (arith, same, low, high, long)))
      ];
}

-- the first list
pub first_levels : (formula : Term) (level : ℕ) (c : GrownTree) → IsBareCandidate formula level c → AreLevels formula level ((c ∷ []) ∷ [])
first_levels formula level c h = record {
  first = (c, Contains-first c [], h.1);
  candidates = candidates_here;
  grown = λ w v k there low high. absurd (omega (arith, low, high));
}
  where
    candidates_here : (w : ℕ) (k : GrownTree) → Contains (trees_at ((c ∷ []) ∷ []) w) k → IsCandidate formula level w k
    candidates_here zero k there = elim (first_or_later c [] k there) [ inl same ↦ subst (IsCandidate formula level 0) same h.0 | inr later ↦ absurd (none_there k later) ]
    candidates_here (suc w) k there = absurd (none_there k there)
