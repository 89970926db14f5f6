-- The turns of the occurrences in the order: that of an open term comes before those of the occurrences below it, and a variable that
-- is free in a term is selected only below occurrences whose turns come before.
use Rattle.std.proofs.Common.{◌≡◌, ◌≤◌, ◌<◌, ℕ, zero, suc, ◌+◌, ◌-◌, List, [], ◌∷◌, length, Bool, true, false, Some, refl, sym, ◌∙◌, subst, ap, arith, inl, inr, ◌⊎◌, eq-or-lt_of_le}
use Rattle.std.specs.Prelude.{Contains, slice_get, nat_lt, if◌then◌else◌}
use Rattle.std.specs.List.{AllByRecursion}
use Rattle.std.proofs.lemmas.Bool.{ne_eqb, ltb-true, ltb-false}
use Rattle.hol_terms.specs.Terms.{Term}
use Rattle.hol_terms.specs.FreeVariables.{IsFree}
use Rattle.expansion_tree.specs.Trees.{ExpansionTree, leaf_node, constant_node, negation_node, connective_node, selection_node, expansion_node, ExpansionBranches, no_branch, branch, node_count, branch_node_count}
use Rattle.expansion_tree.specs.Occurrences.{Occurrence, occurrences_from, branch_occurrences_from, occurrences_of}
use Rattle.expansion_tree.specs.Standing.{Selection}
use Rattle.expansion_tree.proofs.Counting.{node_count-positive}
use Rattle.dependency.specs.Dependencies.{occurrence_at, Below}
use Rattle.dependency.proofs.Elements.{where_contained}
use Rattle.dependency.proofs.Nested.{occurrence_within}
use Rattle.exp_check.specs.Accepted.{AcceptedProof, IsAccepted}
use Rattle.nd_rules.specs.Lines.{DeductionLine}
use Rattle.refutations.specs.Opens.{OpenNode, Open, at_node, at_term, within, inside, times_inside, occurrence_total, HasTermLine, HasLine}
use Rattle.refutations.specs.Cases.{HasTurnFrom, WaitsFrom}
use Rattle.refutations.proofs.Descending.{length-occurrences}
use Rattle.refutations.proofs.Replacing.{all_joined, all_weaker}
use Rattle.refutations.proofs.Waiting.{IsTermFrom}

-- at each place below the length stands an element
pub item_there : {A : Type 0} (xs : List A) (k : ℕ) → k < length xs → (x : A) × (slice_get xs k ≡ Some x)
item_there [] k h = absurd (omega (arith, h))
item_there (x ∷ xs) zero h = (x, refl)
item_there (x ∷ xs) (suc k) h = item_there xs k (omega (arith, h))

pub all_at : {A : Type 0} (P : A → Type 0) (xs : List A) (i : ℕ) (x : A) → AllByRecursion P xs → slice_get xs i ≡ Some x → P x
all_at P [] i x h e = absurd (cc)
all_at P (y ∷ ys) zero x h e = let same : y ≡ x = cc in subst P same h.0
all_at P (y ∷ ys) (suc i) x h e = all_at P ys i x h.1 e

-- the occurrences of a tree

-- the branch has nodes from low to below high
abbrev pub IsBetween : ℕ → ℕ → Occurrence → Type 0
IsBetween low high o = (low ≤ o.first) × (o.last < high)

between_more : (low high low' high' : ℕ) (xs : List Occurrence) → low' ≤ low → high ≤ high' → AllByRecursion (IsBetween low high) xs → AllByRecursion (IsBetween low' high') xs
between_more low high low' high' xs l h k = all_weaker (IsBetween low high) (IsBetween low' high') (λ o q. (omega (arith, l, q), omega (arith, h, q))) xs k

mutual
  pub tree_between : (at : ℕ) (t : ExpansionTree) → AllByRecursion (IsBetween (at + 1) (at + node_count t)) (occurrences_from at t)
  tree_between at leaf_node = tt
  tree_between at constant_node = tt
  tree_between at (negation_node t) =
      between_more (at + 1 + 1) (at + 1 + node_count t) (at + 1) (at + (node_count t + 1)) (occurrences_from (at + 1) t) (omega arith) (omega arith) (tree_between (at + 1) t)
  tree_between at (connective_node op t u) =
      all_joined (IsBetween (at + 1) (at + (node_count t + node_count u + 1))) (occurrences_from (at + 1) t) (occurrences_from (at + 1 + node_count t) u)
      (between_more (at + 1 + 1) (at + 1 + node_count t) (at + 1) (at + (node_count t + node_count u + 1)) (occurrences_from (at + 1) t) (omega arith) (omega arith) (tree_between (at + 1) t))
      (between_more (at + 1 + node_count t + 1) (at + 1 + node_count t + node_count u) (at + 1) (at + (node_count t + node_count u + 1)) (occurrences_from (at + 1 + node_count t) u) (omega arith) (omega arith)
      (tree_between (at + 1 + node_count t) u))
  tree_between at (selection_node name t) =
      between_more (at + 1 + 1) (at + 1 + node_count t) (at + 1) (at + (node_count t + 1)) (occurrences_from (at + 1) t) (omega arith) (omega arith) (tree_between (at + 1) t)
  tree_between at (expansion_node bs) =
      between_more (at + 1) (at + 1 + branch_node_count bs) (at + 1) (at + (branch_node_count bs + 1)) (branch_occurrences_from (at + 1) bs) (omega arith) (omega arith) (branches_between (at + 1) bs)

  branches_between : (at : ℕ) (bs : ExpansionBranches) → AllByRecursion (IsBetween at (at + branch_node_count bs)) (branch_occurrences_from at bs)
  branches_between at no_branch = tt
  branches_between at (branch u t bs) =
      let some = node_count-positive t in
      let whole : ℕ = at + (node_count t + branch_node_count bs) in (
        (omega arith, omega (arith, some)),
        all_joined (IsBetween at whole) (occurrences_from at t) (branch_occurrences_from (at + node_count t) bs)
            (between_more (at + 1) (at + node_count t) at whole (occurrences_from at t) (omega arith) (omega arith) (tree_between at t))
            (between_more (at + node_count t) (at + node_count t + branch_node_count bs) at whole (branch_occurrences_from (at + node_count t) bs) (omega arith) (omega arith) (branches_between (at + node_count t) bs)),
      )

-- a node that is within has a number from the first one on
pub within_range : (k first many : ℕ) → 1 ≤ within k first many → (first ≤ k) × (k < first + many)
within_range k first many h = go (nat_lt k first) (nat_lt k (first + many)) refl refl h
  where
    go : (a b : Bool) → nat_lt k first ≡ a → nat_lt k (first + many) ≡ b → 1 ≤ (if a then 0 else (if b then 1 else 0)) → (first ≤ k) × (k < first + many)
    go true b e f h = absurd (omega (arith, h))
    go false true e f h = (ltb-false k first e, ltb-true k (first + many) f)
    go false false e f h = absurd (omega (arith, h))

-- it is within once
pub within_once : (k first many : ℕ) → within k first many ≤ 1
within_once k first many = go (nat_lt k first) (nat_lt k (first + many))
  where
    go : (a b : Bool) → (if a then 0 else (if b then 1 else 0)) ≤ 1
    go true b = omega arith
    go false true = omega arith
    go false false = omega arith

-- one of two numbers is positive where their sum is
positive_either : (a b : ℕ) → 1 ≤ a + b → (1 ≤ a) ⊎ (1 ≤ b)
positive_either zero b h = inr (omega (arith, h))
positive_either (suc a) b h = inl (omega arith)

-- the occurrence of a number stands one place before it
pub occurrence_item : (xs : List Occurrence) (e k : ℕ) (o : Occurrence) → e ≡ k + 1 → slice_get xs k ≡ Some o → occurrence_at xs e ≡ Some o
occurrence_item xs e k o at h =
    let back : e - 1 ≡ k = omega (arith, at) in
    rw (ne_eqb e 0 (λ z. absurd (omega (arith, z, at))), back) h

module _ (g : AcceptedProof) (accepted : IsAccepted g) where
  -- the place of an occurrence in the order
  turn_of : (e : ℕ) (o : Occurrence) → occurrence_at (occurrences_of g.fitted.tree) e ≡ Some o → (i : ℕ) × (slice_get g.order i ≡ Some e)
  turn_of e o is =
      let number = occurrence_within (occurrences_of g.fitted.tree) e o is in
      where_contained g.order e (accepted.ordered.all e number.0 number.1)

  -- those counted after the occurrence of an open term lie below it
  below_term : (lines : List DeductionLine) (hyps : List ℕ) (u : Term) (n : OpenNode) (e : ℕ) → HasTermLine g lines hyps u n → n.place.occurrences < e → e ≤ n.place.occurrences + occurrence_total n.tree
      → Below (occurrences_of g.fitted.tree) n.place.occurrences e
  below_term lines hyps u n e h low high =
      let k : ℕ = e - (n.place.occurrences + 1) in
      let many = length-occurrences n.place.node n.tree in
      let found = item_there (occurrences_from n.place.node n.tree) k (omega (arith, low, high, many)) in
      let between = all_at (IsBetween (n.place.node + 1) (n.place.node + node_count n.tree)) (occurrences_from n.place.node n.tree) k found.0 (tree_between n.place.node n.tree) found.1 in
      record {
        upper = record { first = n.place.node; last = n.place.node + node_count n.tree - 1; term = u };
        is_upper = h.occurs;
        inner = found.0;
        is_inner = occurrence_item (occurrences_of g.fitted.tree) e (n.place.occurrences + k) found.0 (omega (arith, low)) (h.stands_at.occurrences_are k found.0 found.1);
        starts = omega (arith, between.0);
        ends = omega (arith, between.1);
      }

  -- they have their turns after it
  pub below_later : (lines : List DeductionLine) (hyps : List ℕ) (u : Term) (n : OpenNode) (i e : ℕ) → HasTermLine g lines hyps u n → slice_get g.order i ≡ Some n.place.occurrences
      → n.place.occurrences < e → e ≤ n.place.occurrences + occurrence_total n.tree → HasTurnFrom g.order (i + 1) e
  below_later lines hyps u n i e h here low high j there =
      let less : i < j = accepted.ordered.below i j n.place.occurrences e here there (below_term lines hyps u n e h low high) in
      omega (arith, less)

  -- an open term whose turn comes from then on waits with all that is below it
  term_waits : (lines : List DeductionLine) (hyps : List ℕ) (done : ℕ) (o : Open) → HasLine g lines hyps o → IsTermFrom g.order done o → WaitsFrom g.order done o
  term_waits lines hyps done (at_node n) h later = absurd later
  term_waits lines hyps done (at_term u n) h later = λ e low high j there. go e low high j there (eq-or-lt_of_le low)
    where
      go : (e : ℕ) → n.place.occurrences ≤ e → e ≤ n.place.occurrences + occurrence_total n.tree → (j : ℕ) → slice_get g.order j ≡ Some e → (n.place.occurrences ≡ e) ⊎ (n.place.occurrences < e) → done ≤ j
      go e low high j there (inl same) = later j (there ∙ ap Some (sym same))
      go e low high j there (inr more) =
          let own = turn_of n.place.occurrences record { first = n.place.node; last = n.place.node + node_count n.tree - 1; term = u } h.occurs in
          let from : done ≤ own.0 = later own.0 own.1 in
          let behind = below_later lines hyps u n own.0 e h own.1 more high j there in
          omega (arith, from, behind)

  pub terms_wait_from : (lines : List DeductionLine) (hyps : List ℕ) (done : ℕ) (opens : List Open) → AllByRecursion (HasLine g lines hyps) opens → AllByRecursion (IsTermFrom g.order done) opens
      → AllByRecursion (WaitsFrom g.order done) opens
  terms_wait_from lines hyps done [] h later = tt
  terms_wait_from lines hyps done (o ∷ opens) h later = (term_waits lines hyps done o h.0 later.0, terms_wait_from lines hyps done opens h.1 later.1)

  -- a variable that is selected below an open term, and is free in the term of another occurrence: the other has its turn later
  used_later : (lines : List DeductionLine) (hyps : List ℕ) (u : Term) (n : OpenNode) (s : Selection) (f : ℕ) (p : Occurrence) (i j : ℕ) → HasTermLine g lines hyps u n → Contains g.fitted.selection_list s
      → 1 ≤ inside s.node (at_term u n) → occurrence_at (occurrences_of g.fitted.tree) f ≡ Some p → IsFree s.variable.0 s.variable.1 p.term → slice_get g.order i ≡ Some n.place.occurrences → slice_get g.order j ≡ Some f → i < j
  used_later lines hyps u n s f p i j h selected in_tree is used here there =
      let range = within_range s.node n.place.node (node_count n.tree) in_tree in
      let some = node_count-positive n.tree in
      accepted.ordered.before i j n.place.occurrences f here there (record {
        upper = record { first = n.place.node; last = n.place.node + node_count n.tree - 1; term = u };
        is_upper = h.occurs;
        later = p;
        is_later = is;
        selection = s;
        selected = selected;
        below = (range.0, omega (arith, range.1, some));
        used = used;
      })

  -- it is selected below none of the open terms that have their turns later than the other
  unused_below : (lines : List DeductionLine) (hyps : List ℕ) (done f : ℕ) (p : Occurrence) (s : Selection) (opens : List Open) → AllByRecursion (HasLine g lines hyps) opens
      → AllByRecursion (IsTermFrom g.order (done + 1)) opens → occurrence_at (occurrences_of g.fitted.tree) f ≡ Some p → slice_get g.order done ≡ Some f → Contains g.fitted.selection_list s
      → 1 ≤ times_inside s.node opens → IsFree s.variable.0 s.variable.1 p.term → ⊥
  unused_below lines hyps done f p s [] h later is here selected in_opens used = absurd (omega (arith, in_opens))
  unused_below lines hyps done f p s (at_node n ∷ opens) h later is here selected in_opens used = absurd later.0
  unused_below lines hyps done f p s (at_term u n ∷ opens) h later is here selected in_opens used = elim (positive_either (inside s.node (at_term u n)) (times_inside s.node opens) in_opens) [
    | inl first ↦
        let own = turn_of n.place.occurrences record { first = n.place.node; last = n.place.node + node_count n.tree - 1; term = u } h.0.occurs in
        let from : done + 1 ≤ own.0 = later.0 own.0 own.1 in
        let less : own.0 < done = used_later lines hyps u n s f p own.0 done h.0 selected first is used own.1 here in
        absurd (omega (arith, from, less))
    | inr rest ↦ unused_below lines hyps done f p s opens h.1 later.1 is here selected rest used
  ]

  -- no variable that is selected below what is open is free in the term whose turn it is
  pub unused_in_turn : (lines : List DeductionLine) (hyps : List ℕ) (u : Term) (n : OpenNode) (done : ℕ) (s : Selection) (rest : List Open) → HasTermLine g lines hyps u n → AllByRecursion (HasLine g lines hyps) rest
      → AllByRecursion (IsTermFrom g.order (done + 1)) rest → slice_get g.order done ≡ Some n.place.occurrences → Contains g.fitted.selection_list s → 1 ≤ times_inside s.node (at_term u n ∷ rest)
      → IsFree s.variable.0 s.variable.1 u → ⊥
  unused_in_turn lines hyps u n done s rest h lines_are later here selected in_opens used =
      let own : Occurrence = record { first = n.place.node; last = n.place.node + node_count n.tree - 1; term = u } in
      elim (positive_either (inside s.node (at_term u n)) (times_inside s.node rest) in_opens) [
        | inl first ↦
            let less : done < done = used_later lines hyps u n s n.place.occurrences own done done h selected first h.occurs used here here in
            absurd (omega (arith, less))
        | inr others ↦ unused_below lines hyps done n.place.occurrences own s rest lines_are later h.occurs here selected others used
      ]
