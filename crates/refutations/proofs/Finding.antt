-- A split is put on the stack, and the terms of an expansion node are found.
use Rattle.std.proofs.Common.{◌≡◌, ◌≤◌, ◌<◌, ℕ, zero, suc, ◌+◌, ◌-◌, List, [], ◌∷◌, ◌++◌, map, Bool, true, false, cond, filter, Some, None, refl, sym, ◌∙◌, subst, ap, arith, inl, inr, ◌⊎◌, append_assoc, append-nil}
use Rattle.std.specs.List.{AllByRecursion}
use Rattle.std.proofs.lemmas.Bool.Decides.{nat_tests}
use Rattle.std.specs.Prelude.{Vec}
use Rattle.std.specs.declared.alloc.Global.{Global}
use Rattle.hol_terms.specs.Terms.{Term, plain_term}
use Rattle.expansion_tree.specs.Occurrences.{Occurrence, occurrences_of, occurrences_from}
use Rattle.expansion_tree.specs.Trees.{ExpansionTree, ExpansionBranches, no_branch, branch, expansion_node, node_count, branch_node_count, plain_tree}
use Rattle.expansion_tree.proofs.Counting.{node_count-positive}
use Rattle.dependency.specs.Dependencies.{occurrence_at}
use Rattle.dependency.proofs.Nested.{occurrence_within}
use Rattle.exp_check.specs.Accepted.{AcceptedProof, IsAccepted}
use Rattle.nd_rules.specs.Lines.{DeductionLine}
use Rattle.refutations.specs.declared.nodes.Place.{Place}
use Rattle.refutations.specs.declared.nodes.Node.{Node}
use Rattle.refutations.specs.declared.nodes.Front.{Front}
use Rattle.refutations.specs.declared.cases.Case.{Case}
use Rattle.refutations.specs.declared.duties.Duty.{Duty}
use Rattle.refutations.specs.Opens.{OpenNode, Open, at_node, at_term, plain_node, open_node, open_term, within, inside, times_inside, below, all_unwritten, place_below, place_past, place_in_branch, terms_below, occurrence_total, branch_occurrence_total, HasNodeLine, HasTermLine, HasLine}
use Rattle.refutations.specs.Cases.{HasTurnFrom, WaitsFrom, IsCase}
use Rattle.refutations.specs.Fronts.{is_waiting, terms_of}
use Rattle.refutations.specs.Stacks.{stacked, IsStack}
use Rattle.refutations.specs.States.{IsSplit, IsState, IsSpread, opens_of}
use Rattle.refutations.proofs.Descending.{length-occurrences, within_first}
use Rattle.refutations.proofs.Replacing.{all_joined, all_in_front, all_behind, times_inside-append, moved}
use Rattle.refutations.proofs.Rooms.{unwritten_both}
use Rattle.refutations.proofs.Spreading.{goes_on_freely}
use Rattle.refutations.proofs.Stepping.{expansion_step}
use Rattle.refutations.proofs.Turns.{item_there, all_at, IsBetween, tree_between, occurrence_item}
use Rattle.refutations.proofs.Waiting.{found_more, is_waiting_from}

-- each term stands at the number of its occurrence
abbrev pub HasKey : ℕ × Front → Type 0
HasKey entry = entry.1.node.place.occurrences ≡ entry.0

-- the entry's number isn't among so many after the first
abbrev pub IsOutside : ℕ → ℕ → ℕ × Front → Type 0
IsOutside first many entry = (entry.0 ≤ first) ⊎ (first + many < entry.0)

le_or_lt : (a b : ℕ) → (a ≤ b) ⊎ (b < a)
le_or_lt zero b = inl (omega arith)
le_or_lt (suc a) zero = inr (omega arith)
le_or_lt (suc a) (suc b) = elim (le_or_lt a b) [ inl low ↦ inl (omega (arith, low)) | inr past ↦ inr (omega (arith, past)) ]

-- a node that is among those of a tree
within_at : (k first many : ℕ) → first ≤ k → k < first + many → within k first many ≡ 1
within_at k first many low high = grind (arith, nat_tests)

-- a number is among those after the first, or it isn't
outside_or_between : (k first many : ℕ) → ((k ≤ first) ⊎ (first + many < k)) ⊎ ((first < k) × (k ≤ first + many))
outside_or_between k first many = elim (le_or_lt k first) [
  | inl low ↦ inl (inl low)
  | inr past ↦ elim (le_or_lt k (first + many)) [ inl within ↦ inr (past, within) | inr far ↦ inl (inr far) ]
]

module _ (g : AcceptedProof) (accepted : IsAccepted g) (lines : List DeductionLine) (hyps : List ℕ) (n : OpenNode) (h : HasNodeLine g lines hyps n) (done : ℕ) (waits : WaitsFrom g.order done (at_node n)) where
  -- an occurrence below an open node
  occurrence_below : (k : ℕ) → n.place.occurrences < k → k ≤ n.place.occurrences + occurrence_total n.tree
      → (o : Occurrence) × (occurrence_at (occurrences_of g.fitted.tree) k ≡ Some o) × IsBetween (n.place.node + 1) (n.place.node + node_count n.tree) o
  occurrence_below k low high =
      let i : ℕ = k - (n.place.occurrences + 1) in
      let many = length-occurrences n.place.node n.tree in
      let found = item_there (occurrences_from n.place.node n.tree) i (omega (arith, low, high, many)) in (
        found.0,
        occurrence_item (occurrences_of g.fitted.tree) k (n.place.occurrences + i) found.0 (omega (arith, low)) (h.stands_at.occurrences_are i found.0 found.1),
        all_at (IsBetween (n.place.node + 1) (n.place.node + node_count n.tree)) (occurrences_from n.place.node n.tree) i found.0 (tree_between n.place.node n.tree) found.1,
      )

  -- waits
  waits_below : (k : ℕ) → n.place.occurrences < k → k ≤ n.place.occurrences + occurrence_total n.tree → is_waiting g.order done k ≡ true
  waits_below k low high =
      let found = occurrence_below k low high in
      let number = occurrence_within (occurrences_of g.fitted.tree) k found.0 found.1 in
      is_waiting_from g.order done k (accepted.ordered.all k number.0 number.1) (waits k (omega (arith, low)) high)

  -- so the node of a term that was found there would stand in the tree of the node
  node_within : (u : Term) (m : OpenNode) → HasTermLine g lines hyps u m → n.place.occurrences < m.place.occurrences → m.place.occurrences ≤ n.place.occurrences + occurrence_total n.tree
      → (inside m.place.node (at_node n) ≡ 1) × (inside m.place.node (at_term u m) ≡ 1)
  node_within u m line low high =
      let found = occurrence_below m.place.occurrences low high in
      let some = node_count-positive m.tree in
      let own : Occurrence = record { first = m.place.node; last = m.place.node + node_count m.tree - 1; term = u } in
      let both : Some found.0 ≡ Some own = sym found.1 ∙ line.occurs in
      let same : found.0 ≡ own = cc in
      let between : IsBetween (n.place.node + 1) (n.place.node + node_count n.tree) own = subst (IsBetween (n.place.node + 1) (n.place.node + node_count n.tree)) same found.2 in
      (within_at m.place.node n.place.node (node_count n.tree) (omega (arith, between.0)) (omega (arith, between.1, some)), within_first m.place.node (node_count m.tree) some)

  unfound_below : (entries : List (ℕ × Front)) → AllByRecursion HasKey entries → AllByRecursion (HasLine g lines hyps) (terms_of g.order done entries)
      → ((k : ℕ) → inside k (at_node n) + times_inside k (terms_of g.order done entries) ≤ 1) → AllByRecursion (IsOutside n.place.occurrences (occurrence_total n.tree)) entries
  unfound_below [] keys lines_are once = tt
  unfound_below (x ∷ entries) keys lines_are once = go (is_waiting g.order done x.0) refl (unfound_below entries keys.1) lines_are once
    where
      kept : List (ℕ × Front)
      kept = filter (λ (e : ℕ × Front). is_waiting g.order done e.0) entries

      open_terms : List (ℕ × Front) → List Open
      open_terms es = map (λ (e : ℕ × Front). open_term e.1) es

      go : (b : Bool) → is_waiting g.order done x.0 ≡ b
          → (AllByRecursion (HasLine g lines hyps) (open_terms kept) → ((k : ℕ) → inside k (at_node n) + times_inside k (open_terms kept) ≤ 1)
          → AllByRecursion (IsOutside n.place.occurrences (occurrence_total n.tree)) entries)
          → AllByRecursion (HasLine g lines hyps) (open_terms (cond b (x ∷ kept) kept)) → ((k : ℕ) → inside k (at_node n) + times_inside k (open_terms (cond b (x ∷ kept) kept)) ≤ 1)
          → AllByRecursion (IsOutside n.place.occurrences (occurrence_total n.tree)) (x ∷ entries)
      go true there rest lines_are once = (
        elim (outside_or_between x.0 n.place.occurrences (occurrence_total n.tree)) [
          | inl outside ↦ outside
          | inr between ↦
              let u : Term = plain_term x.1.term.now in
              let m : OpenNode = plain_node x.1.node in
              let twice = node_within u m lines_are.0 (omega (arith, keys.0, between.0)) (omega (arith, keys.0, between.1)) in
              absurd (omega (arith, twice.0, twice.1, once m.place.node))
        ],
        rest lines_are.1 (λ k. omega (arith, once k)),
      )
      go false there rest lines_are once = (
        elim (outside_or_between x.0 n.place.occurrences (occurrence_total n.tree)) [
          | inl outside ↦ outside
          | inr between ↦ let waits = waits_below x.0 between.0 between.1 in absurd cc
        ],
        rest lines_are once,
      )

-- a split that was put on the stack
pub split_stacked : (g : AcceptedProof) (lines : List DeductionLine) (case next : Case) (hyps : List ℕ) (node : Node) (others : List Open) (done : ℕ)
    → IsState g lines case hyps (open_node node ∷ others) done → IsSplit node → IsStack next.splits → stacked next.splits ≡ node ∷ stacked case.splits → next.fronts ≡ case.fronts → next.held ≡ case.held → next.duties ≡ case.duties
    → IsSpread g lines case lines next hyps (open_node node) others done None
split_stacked g lines case next hyps node others done state split stack pushed fronts held duties =
    let x : List Open = open_node node ∷ [] in
    let old : List Open = opens_of g.order done case in
    let opens_are : opens_of g.order done next ≡ x ++ old =
    ap (λ (ns : List Node). map open_node ns ++ terms_of g.order done next.fronts.entries) pushed
    ∙ ap (λ (entries : List (ℕ × Front)). x ++ (map open_node (stacked case.splits) ++ terms_of g.order done entries)) (ap (λ m. m.entries) fronts) in
    let all_are : others ++ opens_of g.order done next ≡ others ++ x ++ old = ap (λ (os : List Open). others ++ os) opens_are ∙ sym (append_assoc others x old) in
    let is_case : IsCase g lines hyps (others ++ x ++ old) case.held.entries done = moved g lines hyps x others old case.held.entries done state.is_case in
    let is_case : IsCase g lines hyps (others ++ x ++ old) next.held.entries done = subst (λ (h : List (ℕ × ℕ)). IsCase g lines hyps (others ++ x ++ old) h done) (sym (ap (λ m. m.entries) held)) is_case in
    let many = ap all_unwritten all_are in
    let one = unwritten_both (others ++ x) old in
    let two = unwritten_both others x in
    let both = unwritten_both others old in
    goes_on_freely g lines lines case next hyps others done (all_unwritten (open_node node ∷ others ++ old)) (ap (λ (v : Vec Duty Global). v.items) duties)
    record {
      stack = stack;
      splits = subst (AllByRecursion IsSplit) (sym pushed) (split, state.splits);
      keys = subst (AllByRecursion HasKey) (sym (ap (λ m. m.entries) fronts)) state.keys;
      is_case = subst (λ (os : List Open). IsCase g lines hyps os next.held.entries done) (sym all_are) is_case;
    }
    (omega arith) (omega (arith, many, one, two, both))

-- no term was found at the occurrences below an expansion node
pub terms_unfound : (g : AcceptedProof) → IsAccepted g → (lines : List DeductionLine) (case : Case) (hyps : List ℕ) (node : Node) (bs : ExpansionBranches) (others : List Open) (done : ℕ)
    → IsState g lines case hyps (open_node node ∷ others) done → plain_tree node.tree.now ≡ expansion_node bs
    → AllByRecursion (λ (entry : ℕ × Front). (entry.0 ≤ node.place.occurrences) ⊎ (node.place.occurrences + branch_occurrence_total bs < entry.0)) case.fronts.entries
terms_unfound g accepted lines case hyps node bs others done state is =
    let n : OpenNode = plain_node node in
    let nodes : List Open = map open_node (stacked case.splits) in
    let terms : List Open = terms_of g.order done case.fronts.entries in
    let lines_are : AllByRecursion (HasLine g lines hyps) terms = all_behind (HasLine g lines hyps) nodes terms (all_behind (HasLine g lines hyps) others (nodes ++ terms) state.is_case.lines_are.1) in
    let once : (k : ℕ) → inside k (at_node n) + times_inside k terms ≤ 1 =
    λ k. let whole = state.is_case.once k in let first = times_inside-append k others (nodes ++ terms) in let second = times_inside-append k nodes terms in omega (arith, whole, first, second) in
    subst (λ (t : ExpansionTree). AllByRecursion (IsOutside node.place.occurrences (occurrence_total t)) case.fronts.entries) is
    (unfound_below g accepted lines hyps n state.is_case.lines_are.0 done state.is_case.waiting.0 case.fronts.entries state.keys lines_are once)

-- as many nodes without a line as below the expansion node
terms_unwritten : (p : Bool) (line : ℕ) (place : Place) (bs : ExpansionBranches) → all_unwritten (terms_below p line place bs) ≡ branch_node_count bs
terms_unwritten p line place no_branch = refl
terms_unwritten p line place (branch u t bs) = ap (λ (k : ℕ). node_count t + k) (terms_unwritten p line (place_past t (place_in_branch place)) bs)

-- terms that have lines, and whose occurrences have their turns then, are waiting
all_waiting : (g : AcceptedProof) → IsAccepted g → (lines : List DeductionLine) (hyps : List ℕ) (done : ℕ) (more : List (ℕ × Front)) → AllByRecursion HasKey more
    → AllByRecursion (HasLine g lines hyps) (map (λ (entry : ℕ × Front). open_term entry.1) more) → AllByRecursion (WaitsFrom g.order done) (map (λ (entry : ℕ × Front). open_term entry.1) more)
    → AllByRecursion (λ (entry : ℕ × Front). is_waiting g.order done entry.0 ≡ true) more
all_waiting g accepted lines hyps done [] keys lines_are waits = tt
all_waiting g accepted lines hyps done (x ∷ more) keys lines_are waits =
    let m : OpenNode = plain_node x.1.node in
    let k : ℕ = m.place.occurrences in
    let line : HasTermLine g lines hyps (plain_term x.1.term.now) m = lines_are.0 in
    let number = occurrence_within (occurrences_of g.fitted.tree) k (record { first = m.place.node; last = m.place.node + node_count m.tree - 1; term = plain_term x.1.term.now }) line.occurs in
    let turn : HasTurnFrom g.order done k = waits.0 k (omega arith) (omega arith) in
    let waiting : is_waiting g.order done k ≡ true = is_waiting_from g.order done k (accepted.ordered.all k number.0 number.1) turn in
    (subst (λ (e : ℕ). is_waiting g.order done e ≡ true) keys.0 waiting, all_waiting g accepted lines hyps done more keys.1 lines_are.1 waits.1)

-- the terms of an expansion node that were found
pub terms_found : (g : AcceptedProof) → IsAccepted g → (lines : List DeductionLine) (case next : Case) (hyps : List ℕ) (node : Node) (bs : ExpansionBranches) (others : List Open) (done : ℕ)
    → IsState g lines case hyps (open_node node ∷ others) done → plain_tree node.tree.now ≡ expansion_node bs
    → (more : List (ℕ × Front)) → next.fronts.entries ≡ case.fronts.entries ++ more
    → map (λ (entry : ℕ × Front). open_term entry.1) more ≡ terms_below node.positive node.line (place_below node.place) bs
    → AllByRecursion (λ (entry : ℕ × Front). entry.1.node.place.occurrences ≡ entry.0) more → next.splits ≡ case.splits → next.held ≡ case.held → next.duties ≡ case.duties
    → IsSpread g lines case lines next hyps (open_node node) others done None
terms_found g accepted lines case next hyps node bs others done state is more longer are keys splits held duties =
    let entries : List (ℕ × Front) = case.fronts.entries in
    let old : List Open = opens_of g.order done case in
    let nodes : List Open = map open_node (stacked case.splits) in
    let found : List Open = map (λ (entry : ℕ × Front). open_term entry.1) more in
    let step : IsCase g lines hyps (terms_below node.positive node.line (place_below node.place) bs ++ (others ++ old)) case.held.entries done =
    expansion_step g lines hyps (plain_node node) bs (others ++ old) case.held.entries done state.is_case is in
    let in_front : IsCase g lines hyps (found ++ (others ++ old)) case.held.entries done = subst (λ (os : List Open). IsCase g lines hyps (os ++ (others ++ old)) case.held.entries done) (sym are) step in
    let waiting : AllByRecursion (λ (entry : ℕ × Front). is_waiting g.order done entry.0 ≡ true) more =
    all_waiting g accepted lines hyps done more keys (all_in_front (HasLine g lines hyps) found (others ++ old) in_front.lines_are) (all_in_front (WaitsFrom g.order done) found (others ++ old) in_front.waiting) in
    let terms_are : terms_of g.order done next.fronts.entries ≡ terms_of g.order done entries ++ found = ap (terms_of g.order done) longer ∙ found_more g.order done entries more waiting in
    let opens_are : opens_of g.order done next ≡ old ++ found =
    ap (λ s. map open_node (stacked s) ++ terms_of g.order done next.fronts.entries) splits ∙ ap (λ (os : List Open). nodes ++ os) terms_are ∙ sym (append_assoc nodes (terms_of g.order done entries) found) in
    let all_are : others ++ opens_of g.order done next ≡ (others ++ old) ++ found = ap (λ (os : List Open). others ++ os) opens_are ∙ sym (append_assoc others old found) in
    let behind : IsCase g lines hyps (((others ++ old) ++ found) ++ []) case.held.entries done =
    moved g lines hyps found (others ++ old) [] case.held.entries done (subst (λ (os : List Open). IsCase g lines hyps os case.held.entries done) (sym (append-nil (found ++ (others ++ old)))) in_front) in
    let is_case : IsCase g lines hyps (others ++ opens_of g.order done next) case.held.entries done =
    subst (λ (os : List Open). IsCase g lines hyps os case.held.entries done) (append-nil ((others ++ old) ++ found) ∙ sym all_are) behind in
    let many = ap all_unwritten all_are in
    let both = unwritten_both (others ++ old) found in
    let few = ap all_unwritten are ∙ terms_unwritten node.positive node.line (place_below node.place) bs in
    let own = ap below is in
    goes_on_freely g lines lines case next hyps others done (all_unwritten (open_node node ∷ others ++ old)) (ap (λ (v : Vec Duty Global). v.items) duties)
    record {
      stack = subst IsStack (sym splits) state.stack;
      splits = subst (λ s. AllByRecursion IsSplit (stacked s)) (sym splits) state.splits;
      keys = subst (AllByRecursion HasKey) (sym longer) (all_joined HasKey entries more state.keys keys);
      is_case = subst (λ (l : List (ℕ × ℕ)). IsCase g lines hyps (others ++ opens_of g.order done next) l done) (sym (ap (λ m. m.entries) held)) is_case;
    }
    (omega arith) (omega (arith, many, both, few, own))
