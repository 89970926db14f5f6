-- A candidate with one more branch is a candidate.
use Rattle.std.proofs.Common.{cond, ◌≡◌, ◌<◌, ◌≤◌, ◌+◌, ◌^◌, ◌↔◌, ℕ, zero, suc, List, [], ◌∷◌, ◌++◌, Bool, true, false, All, Contains, map, decimal, codes, refl, sym, ap, subst, ◌∙◌, arith, inl, inr, ◌⊎◌}
use Rattle.std.specs.List.{AllByRecursion}
use Rattle.std.proofs.lemmas.Fmt.{decimal_injective}
use Rattle.std.proofs.lemmas.List.Elements.{All-contains, All-from_recursion, Contains-append_left, Contains-append_right, Contains-append_cases}
use Rattle.hol_terms.specs.Terms.{Term, Variable}
use Rattle.hol_terms.specs.FreeVariables.{IsFree, free_variables_of}
use Rattle.hol_terms.specs.Computed.{same_variable}
use Rattle.hol_terms.proofs.Same.{same_variable_only}
use Rattle.expansion_tree.specs.Budgets.{Head, variable_head, constant_head, heads_of, HasVariableHead, IsFill, IsInSignature, IsSelected}
use Rattle.expansion_tree.specs.Faults.{AreNew, IsTree}
use Rattle.expansion_tree.specs.Occurrences.{term_weight}
use Rattle.expansion_tree.specs.Standing.{IsNormalFormula, Standing, at_leaf, at_constant, at_negation, at_connective, at_selection, at_expansion, StandingBranches, Stands, branch_leaves, leaves, selected_variables}
use Rattle.dependency.specs.Stages.{IsInOrder, Stage, StagedTree, staged_variables, stages, standing_of}
use Rattle.dependency.proofs.Elements.{first_or_later, none_there, Contains-image, image_of}
use Rattle.dependency.proofs.Weighing.{stages_weigh}
use Rattle.grown_trees.specs.Growths.{AreGrown, IsBare}
use Rattle.grown_trees.specs.Targets.{AreNoFill, IsOverHeads}
use Rattle.grown_trees.proofs.Every.{contained_every, every_contained}
use Rattle.grown_trees.proofs.Counted.{times, contains_times, times_contains, counted_here, counted_new, new_counted}
use Rattle.grown_trees.proofs.Places.{grown_times}
use Rattle.grown_trees.proofs.Selecting.{free_head}
use Rattle.tree_growth.specs.Growths.{AreNamed, GrownTree, HasNew, numbered_name}
use Rattle.plain_search.specs.Levels.{IsCandidate, IsNumberedBelow, with_selected}
use Rattle.plain_search.specs.Tasks.{names_of}
use Rattle.plain_search.proofs.Staged.{IsBefore, IsStagedGrowth, grow_staged}

-- the leaves of a tree without a branch

pub bare_atoms : (b : Standing) (leaf : Bool × Term) → IsBare b → Contains (leaves b) leaf → HasVariableHead leaf.1
bare_atoms (at_leaf p a) leaf h there = elim (first_or_later (p, a) [] leaf there) [
  | inl same ↦ subst (λ (leaf : Bool × Term). HasVariableHead leaf.1) same h
  | inr later ↦ absurd (none_there leaf later)
]
bare_atoms (at_constant p v) leaf h there = absurd (none_there leaf there)
bare_atoms (at_negation n) leaf h there = bare_atoms n leaf h there
bare_atoms (at_connective op p m n) leaf h there = elim (Contains-append_cases (leaves m) (leaves n) leaf there) [
  | inl left ↦ bare_atoms m leaf h.0 left
  | inr right ↦ bare_atoms n leaf h.1 right
]
bare_atoms (at_selection v n) leaf h there = bare_atoms n leaf h there
bare_atoms (at_expansion p ns) leaf h there = absurd (none_there leaf (subst (λ (ns : StandingBranches). Contains (branch_leaves ns) leaf) h there))

-- new names

numbered_once : (m n : ℕ) → m < 2 ^ 64 → n < 2 ^ 64 → numbered_name m ≡ numbered_name n → m ≡ n
numbered_once m n less below e = let same : decimal m ≡ decimal n = cc in decimal_injective m n less below same

-- the variable has a number from one on and below another, and its name isn't taken
pub record IsNamed (taken : List (List ℕ)) (from end : ℕ) (v : Variable) : Type 0 where
  pub number : ℕ
  pub low : from ≤ number
  pub high : number < end
  pub name : v.0 ≡ numbered_name number
  pub untaken : Contains taken v.0 → ⊥

named_rise : (taken : List (List ℕ)) (from end : ℕ) (vs : List Variable) → AreNamed taken from end vs → from ≤ end
named_rise taken from end [] h = h
named_rise taken from end (v ∷ vs) h = let rest = named_rise taken (h.0 + 1) end vs h.4 in omega (arith, rest, h.1)

each_named : (taken : List (List ℕ)) (from end : ℕ) (vs : List Variable) (v : Variable) → AreNamed taken from end vs → Contains vs v → IsNamed taken from end v
each_named taken from end [] v h there = absurd (none_there v there)
each_named taken from end (w ∷ vs) v h there = elim (first_or_later w vs v there) [
  | inl same ↦ subst (IsNamed taken from end) same (record { number = h.0; low = h.1; high = let rest = named_rise taken (h.0 + 1) end vs h.4 in omega (arith, rest); name = h.2; untaken = h.3 })
  | inr later ↦ (let one = each_named taken (h.0 + 1) end vs v h.4 later in record { number = one.number; low = let low = one.low in let first = h.1 in omega (arith, low, first); high = one.high; name = one.name; untaken = one.untaken })
]

none_times : (v : Variable) (vs : List Variable) → (Contains vs v → ⊥) → times v vs ≡ 0
none_times v vs none = go (times v vs) (times_contains v vs)
  where
    go : (n : ℕ) → (1 ≤ n → Contains vs v) → n ≡ 0
    go zero h = refl
    go (suc n) h = absurd (none (h (omega arith)))

named_times : (taken : List (List ℕ)) (from end : ℕ) (vs : List Variable) → end ≤ 2 ^ 64 → AreNamed taken from end vs → (v : Variable) → times v vs ≤ 1
named_times taken from end [] small h v = omega arith
named_times taken from end (w ∷ vs) small h v = by_test (same_variable v w) refl (named_times taken (h.0 + 1) end vs small h.4 v)
  where
    by_test : (b : Bool) → same_variable v w ≡ b → times v vs ≤ 1 → times v (w ∷ vs) ≤ 1
    by_test true e rest =
        let same : v ≡ w = same_variable_only v w e in
        let none : times v vs ≡ 0 = none_times v vs (λ there.
        let one = each_named taken (h.0 + 1) end vs v h.4 there in
        let low = one.low in
        let high = one.high in
        let names : numbered_name h.0 ≡ numbered_name one.number = sym h.2 ∙ ap (λ (v : Variable). v.0) (sym same) ∙ one.name in
        let equal = numbered_once h.0 one.number (omega (arith, low, high, small)) (omega (arith, high, small)) names in
        omega (arith, equal, low)) in
        let here = counted_here v w (sym same) in
        omega (arith, none, here)
    by_test false e rest = let here : times v (w ∷ vs) ≡ times v vs = ap (λ (b : Bool). cond b 1 0 + times v vs) e ∙ (omega arith) in omega (arith, rest, here)

-- no numbered name is FILL
pub numbered_no_fill : (n : ℕ) (v : Variable) → v.0 ≡ numbered_name n → IsFill v → ⊥
numbered_no_fill n v name fill =
    let same : numbered_name n ≡ codes "FILL" = sym name ∙ ap (λ (v : Variable). v.0) fill.3 in
    let first : ◌≡◌ {A = ℕ} 97 70 = cc in
    omega (arith, first)

-- a list of selected variables

pub selected_list : (vs : List Variable) (h : Head) → Contains (map variable_head vs) h ↔ IsSelected vs h
selected_list vs (variable_head v) = (
  (λ there. let q = image_of variable_head vs (variable_head v) there in let same : q.0 ≡ v = head_same q.0 v q.2 in subst (Contains vs) same q.1),
  (λ there. Contains-image variable_head vs v there),
)
  where
    head_same : (v w : Variable) → variable_head v ≡ variable_head w → v ≡ w
    head_same v w e = cc
selected_list vs (constant_head c) = ((λ there. let q = image_of variable_head vs (constant_head c) there in let other = q.2 in absurd (cc)), (λ h. absurd h))

-- variables before, those of a new branch, and all together

at_most_one : (all old new : ℕ) → all ≡ old + new → old ≤ 1 → new ≤ 1 → (1 ≤ new → old ≡ 0) → all ≤ 1
at_most_one all old zero e o n none = omega (arith, e, o)
at_most_one all old (suc new) e o n none = let zero_old = none (omega arith) in omega (arith, e, n, zero_old)

module _ (known olds news alls : List Variable) (next end : ℕ) (small : end ≤ 2 ^ 64) (fresh : AreNew known olds) (numbered : All (IsNumberedBelow next) olds)
    (named : AreNamed (map (λ (v : Variable). v.0) known) next end news) (sums : (v : Variable) → times v alls ≡ times v olds + times v news) where
  new_named : (v : Variable) → Contains news v → IsNamed (map (λ (v : Variable). v.0) known) next end v
  new_named v there = each_named (map (λ (v : Variable). v.0) known) next end news v named there

  pub apart : (v : Variable) → Contains olds v → Contains news v → ⊥
  apart v there new =
      let one = new_named v new in
      let old = All-contains (IsNumberedBelow next) olds v numbered there in
      let low = one.low in
      let high = one.high in
      let less = old.1 in
      let equal = numbered_once old.0 one.number (omega (arith, less, low, high, small)) (omega (arith, high, small)) (sym old.2 ∙ one.name) in
      omega (arith, equal, low, less)

  pub unknown : (v : Variable) → Contains news v → Contains known v → ⊥
  unknown v new there = (new_named v new).untaken (Contains-image (λ (v : Variable). v.0) known v there)

  pub all_new : AreNew known alls
  all_new = counted_new known alls (λ v.
      let sum = sums v in
      let old = new_counted known olds fresh v in
      let one = named_times (map (λ (v : Variable). v.0) known) next end news small named v in
      let none : 1 ≤ times v news → times v olds ≡ 0 = λ some. none_times v olds (λ there. apart v there (times_contains v news some)) in (
        at_most_one (times v alls) (times v olds) (times v news) sum old.0 one none,
        (λ there.
            let zero_old = old.1 there in
            let zero_new = none_times v news (λ new. unknown v new there) in
            omega (arith, sum, zero_old, zero_new)),
      ))

  pub old_there : (v : Variable) → Contains olds v → Contains alls v
  old_there v there = let some = contains_times v olds there in let sum = sums v in times_contains v alls (omega (arith, some, sum))

  pub new_there : (v : Variable) → Contains news v → Contains alls v
  new_there v there = let some = contains_times v news there in let sum = sums v in times_contains v alls (omega (arith, some, sum))

  pub old_or_new : (v : Variable) → Contains alls v → Contains olds v ⊎ Contains news v
  old_or_new v there = go (times v olds) refl
    where
      go : (n : ℕ) → times v olds ≡ n → Contains olds v ⊎ Contains news v
      go zero e = inr (let some = contains_times v alls there in let sum = sums v in times_contains v news (omega (arith, some, sum, e)))
      go (suc n) e = inl (times_contains v olds (omega (arith, e)))

  pub all_named : All (IsNumberedBelow end) alls
  all_named =
      All-from_recursion (IsNumberedBelow end) alls (every_contained (IsNumberedBelow end) alls (λ v there. elim (old_or_new v there) [
        | inl before ↦
            let old = All-contains (IsNumberedBelow next) olds v numbered before in
            let rise = named_rise (map (λ (v : Variable). v.0) known) next end news named in
            let less = old.1 in
            (old.0, omega (arith, less, rise), old.2)
        | inr new ↦ (let one = new_named v new in (one.number, one.high, one.name))
      ]))

  -- a term over the signature and the variables before has no new one
  pub unused : (level : ℕ) (formula u : Term) → known ≡ free_variables_of formula → IsOverHeads formula level olds u → (v : Variable) → IsFree v.0 v.1 u → Contains news v → ⊥
  unused level formula u same over v used new =
      let Q : Head → Type 0 = λ head. IsInSignature formula level head ⊎ IsSelected olds head in
      by_head (All-contains Q (heads_of u) (variable_head v) over (free_head u v used))
    where
      by_head : IsInSignature formula level (variable_head v) ⊎ IsSelected olds (variable_head v) → ⊥
      by_head (inl (inl there)) = unknown v new (subst (λ (l : List Variable). Contains l v) (sym same) there)
      by_head (inl (inr fill)) = let one = new_named v new in numbered_no_fill one.number v one.name fill
      by_head (inr among) = apart v among new

-- a term over fewer variables is over more
pub over_more : (formula : Term) (level : ℕ) (olds alls : List Variable) (u : Term) → ((v : Variable) → Contains olds v → Contains alls v) → IsOverHeads formula level olds u → IsOverHeads formula level alls u
over_more formula level olds alls u more over =
    let Q : Head → Type 0 = λ head. IsInSignature formula level head ⊎ IsSelected olds head in
    let R : Head → Type 0 = λ head. IsInSignature formula level head ⊎ IsSelected alls head in
    All-from_recursion R (heads_of u) (every_contained R (heads_of u) (λ head there. elim (All-contains Q (heads_of u) head over there) [
      | inl known ↦ inl known
      | inr among ↦ inr (go head among)
    ]))
  where
    go : (head : Head) → IsSelected olds head → IsSelected alls head
    go (variable_head v) among = more v among
    go (constant_head c) among = among

-- steps

abbrev pub AreBefore : ℕ → List (Variable × ℕ) → Type 0
AreBefore step vs = (q : Variable × ℕ) → Contains vs q → q.1 < step

after_stages : (xs : List Stage) → (step : ℕ) × AllByRecursion (IsBefore step) xs
after_stages [] = (0, tt)
after_stages (x ∷ xs) =
    let rest = after_stages xs in
    (rest.0 + x.step + 1, (omega arith, every_later xs rest.0 (rest.0 + x.step + 1) (omega arith) rest.1))
  where
    every_later : (xs : List Stage) (m n : ℕ) → m ≤ n → AllByRecursion (IsBefore m) xs → AllByRecursion (IsBefore n) xs
    every_later [] m n h all = tt
    every_later (x ∷ xs) m n h all = (let less : x.step < m = all.0 in omega (arith, h, less), every_later xs m n h all.1)

after_variables : (vs : List (Variable × ℕ)) → (step : ℕ) × AreBefore step vs
after_variables [] = (0, λ q there. absurd (none_there q there))
after_variables (r ∷ vs) =
    let rest = after_variables vs in (
      rest.0 + r.1 + 1,
      λ q there. elim (first_or_later r vs q there) [
        | inl same ↦ (let at : r.1 ≡ q.1 = ap (λ (q : Variable × ℕ). q.1) same in omega (arith, at))
        | inr later ↦ (let less = rest.1 q later in omega (arith, less))
      ],
    )

pub after_all : (xs : List Stage) (vs : List (Variable × ℕ)) → (step : ℕ) × (0 < step) × AllByRecursion (IsBefore step) xs × AreBefore step vs
after_all xs vs =
    let one = after_stages xs in
    let two = after_variables vs in (
      one.0 + two.0 + 1,
      omega arith,
      every_contained (IsBefore (one.0 + two.0 + 1)) xs (λ x there. let less = contained_every (IsBefore one.0) xs x one.1 there in omega (arith, less)),
      (λ q there. let less = two.1 q there in omega (arith, less)),
    )

-- a candidate with one more branch

-- with what is new in the other tree, beside what the first one selects
abbrev pub with_new : GrownTree → GrownTree → GrownTree
with_new c e = with_selected c.1.selected e

-- the branch of the term u is added to the candidate c, with the tree b; n is the long normal form of the formula
pub record IsAdded (formula : Term) (level : ℕ) (c e : GrownTree) (s : Standing) (u : Term) (b b' r x : Standing) : Type 0 where
  pub normal : Term
  pub is_normal : IsNormalFormula normal formula
  pub over : IsOverHeads formula level (selected_variables s) u
  pub grown : AreGrown u b b' s r x
  pub stands : Stands true normal e.0 r
  pub new : HasNew (names_of (free_variables_of formula)) c.1.next b e.1
  pub small : e.1.next ≤ 2 ^ 64

module _ (formula : Term) (level weight : ℕ) (c e : GrownTree) (candidate : IsCandidate formula level weight c) (u : Term) (b b' r x : Standing)
    (added : IsAdded formula level c e (standing_of candidate.staged) u b b' r x) where
  abbrev known : List Variable
  known = free_variables_of formula

  abbrev olds : List Variable
  olds = selected_variables (standing_of candidate.staged)

  abbrev news : List Variable
  news = selected_variables b

  abbrev alls : List Variable
  alls = selected_variables r

  sums : (v : Variable) → times v alls ≡ times v olds + times v news
  sums v = (grown_times v (standing_of candidate.staged) r x u b b' added.grown).0

  pub added_tree : IsTree formula e.0 r
  added_tree = record {
    normal = added.normal;
    is_normal = added.is_normal;
    stands = added.stands;
    selected = all_new known olds news alls c.1.next e.1.next added.small candidate.is_tree.selected candidate.named added.new.named sums;
  }

  pub added_named : All (IsNumberedBelow e.1.next) alls
  added_named = all_named known olds news alls c.1.next e.1.next added.small candidate.is_tree.selected candidate.named added.new.named sums

  pub added_no_fill : AreNoFill alls
  added_no_fill =
      All-from_recursion (λ (v : Variable). IsFill v → ⊥) alls (every_contained (λ (v : Variable). IsFill v → ⊥) alls (λ v there.
      let one = All-contains (IsNumberedBelow e.1.next) alls v added_named there in numbered_no_fill one.0 v one.2))

  added_selected : (h : Head) → Contains (c.1.selected ++ e.1.selected) h ↔ IsSelected alls h
  added_selected h =
      let listed : Contains e.1.selected h ↔ IsSelected news h = subst (λ (l : List Head). Contains l h ↔ IsSelected news h) (sym added.new.selected) (selected_list news h) in (
        (λ there. elim (Contains-append_cases c.1.selected e.1.selected h there) [
          | inl left ↦ old_selected h ((candidate.selected h).0 left)
          | inr right ↦ new_selected h (listed.0 right)
        ]),
        (λ among. elim (selected_of h among) [
          | inl before ↦ Contains-append_left c.1.selected e.1.selected h ((candidate.selected h).1 before)
          | inr new ↦ Contains-append_right c.1.selected e.1.selected h (listed.1 new)
        ]),
      )
    where
      old_selected : (h : Head) → IsSelected olds h → IsSelected alls h
      old_selected (variable_head v) among = old_there known olds news alls c.1.next e.1.next added.small candidate.is_tree.selected candidate.named added.new.named sums v among
      old_selected (constant_head k) among = among

      new_selected : (h : Head) → IsSelected news h → IsSelected alls h
      new_selected (variable_head v) among = new_there known olds news alls c.1.next e.1.next added.small candidate.is_tree.selected candidate.named added.new.named sums v among
      new_selected (constant_head k) among = among

      selected_of : (h : Head) → IsSelected alls h → IsSelected olds h ⊎ IsSelected news h
      selected_of (variable_head v) among = old_or_new known olds news alls c.1.next e.1.next added.small candidate.is_tree.selected candidate.named added.new.named sums v among
      selected_of (constant_head k) among = absurd among

  over_all : (w : Term) → IsOverHeads formula level olds w → IsOverHeads formula level alls w
  over_all w = over_more formula level olds alls w (old_there known olds news alls c.1.next e.1.next added.small candidate.is_tree.selected candidate.named added.new.named sums)

  none_used : (w : Term) → IsOverHeads formula level olds w → (v : Variable) → IsFree v.0 v.1 w → Contains news v → ⊥
  none_used w = unused known olds news alls c.1.next e.1.next added.small candidate.is_tree.selected candidate.named added.new.named sums level formula w refl

  -- with the staged tree that has the new branch at a step after all others
  module _ (step : ℕ) (after : 0 < step) (stages_before : AllByRecursion (IsBefore step) (stages 0 candidate.staged)) (variables_before : AreBefore step (staged_variables 0 candidate.staged))
      (h : StagedTree) (same : standing_of h ≡ r) (more : IsStagedGrowth 0 step u b candidate.staged h) where
    stage_over : (y : Stage) → Contains (stages 0 h) y → IsOverHeads formula level olds y.term
    stage_over y there = elim (more.placed y there) [
      | inl old ↦ All-contains (λ (y : Stage). IsOverHeads formula level olds y.term) (stages 0 candidate.staged) y candidate.heads old
      | inr new ↦ subst (IsOverHeads formula level olds) (sym new.1) added.over
    ]

    added_in_order : IsInOrder h
    added_in_order = record {
      inside = λ y there. elim (more.placed y there) [ inl old ↦ candidate.in_order.inside y old | inr new ↦ (let at = new.0 in let less = new.2 in omega (arith, at, less)) ];
      used = λ y v at there chosen is_free. elim (more.chosen (v, at) chosen) [
        | inl before ↦ (elim (more.placed y there) [
          | inl old ↦ candidate.in_order.used y v at old before is_free
          | inr new ↦ (let less : at < step = variables_before (v, at) before in let here = new.0 in omega (arith, less, here))
        ])
        | inr new ↦ absurd (none_used y.term (stage_over y there) v is_free new.0)
      ];
    }

    pub added_candidate : IsCandidate formula level (weight + term_weight u) (with_new c e)
    added_candidate = record {
      staged = h;
      is_tree = subst (IsTree formula e.0) (sym same) added_tree;
      in_order = added_in_order;
      atoms = All-from_recursion (λ (leaf : Bool × Term). HasVariableHead leaf.1) (leaves (standing_of h)) (every_contained (λ (leaf : Bool × Term). HasVariableHead leaf.1) (leaves (standing_of h)) (λ leaf there. elim (more.leaved leaf there) [
        | inl old ↦ All-contains (λ (leaf : Bool × Term). HasVariableHead leaf.1) (leaves (standing_of candidate.staged)) leaf candidate.atoms old
        | inr new ↦ bare_atoms b leaf added.new.bare new
      ]));
      heads = subst (λ (s : Standing). All (λ (y : Stage). IsOverHeads formula level (selected_variables s) y.term) (stages 0 h)) (sym same)
          (All-from_recursion (λ (y : Stage). IsOverHeads formula level alls y.term) (stages 0 h) (every_contained (λ (y : Stage). IsOverHeads formula level alls y.term) (stages 0 h) (λ y there. over_all y.term (stage_over y there))));
      weighs =
          let own = stages_weigh true added.normal e.0 r h added.stands same in
          let old = stages_weigh true candidate.is_tree.normal c.0 (standing_of candidate.staged) candidate.staged candidate.is_tree.stands refl in
          let sum = more.weighs in
          let before = candidate.weighs in
          omega (arith, own, old, sum, before);
      selected = λ head. subst (λ (s : Standing). Contains (c.1.selected ++ e.1.selected) head ↔ IsSelected (selected_variables s) head) (sym same) (added_selected head);
      named = subst (λ (s : Standing). All (IsNumberedBelow e.1.next) (selected_variables s)) (sym same) added_named;
    }

  pub kept : IsCandidate formula level (weight + term_weight u) (with_new c e)
  kept =
      let after = after_all (stages 0 candidate.staged) (staged_variables 0 candidate.staged) in
      let grown = grow_staged candidate.staged 0 after.0 u b b' r x after.1 added.new.bare after.2 added.grown in
      added_candidate after.0 after.1 after.2 after.3 grown.0 grown.1 grown.2
