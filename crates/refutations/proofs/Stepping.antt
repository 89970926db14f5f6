-- How a step at one node leads from a case to the next.
use Rattle.std.proofs.Common.{◌≡◌, ◌≤◌, ℕ, ◌+◌, List, [], ◌∷◌, ◌++◌, Bool, true, false, not, sym, ◌∙◌, subst, ap, ap₂, arith, inl, inr, ◌⊎◌}
use Rattle.std.specs.Prelude.{All, Contains}
use Rattle.std.specs.List.{AllByRecursion}
use Rattle.std.proofs.lemmas.List.Elements.{All-contains, All-contains_itself, All-from_recursion, recursion_from_All}
use Rattle.hol_terms.specs.Terms.{SimpleType, Term, free}
use Rattle.hol_terms.specs.Indices.{instance_of}
use Rattle.hol_terms.specs.FreeVariables.{IsFree}
use Rattle.hol_terms.proofs.FreeLaws.{free_of_put}
use Rattle.expansion_tree.specs.declared.trees.Op.{Op}
use Rattle.expansion_tree.specs.Trees.{branch_node_count, ExpansionTree, leaf_node, constant_node, negation_node, connective_node, selection_node, expansion_node, ExpansionBranches, node_count}
use Rattle.expansion_tree.specs.Standing.{Selection, left_polarity, negation_of, compound_of, truth_value, quantified, selecting, expanding}
use Rattle.vertical_paths.specs.Matings.{IsGood, is_closed}
use Rattle.dependency.proofs.Preorder.{fitted_selections}
use Rattle.exp_check.specs.Accepted.{AcceptedProof, IsAccepted}
use Rattle.nd_rules.specs.Lines.{DeductionLine}
use Rattle.nd_steps.specs.Deductions.{IsDeduction, Assumes, Proves, AreAssumptions, Grows}
use Rattle.nd_steps.proofs.Growing.{proves_stays, assumptions_stay, free_in_none_stays}
use Rattle.refutations.specs.Opens.{said, Says, OpenNode, Open, at_node, inside, times_inside, gives_cases, place_below, place_past, terms_below, leaf_total, occurrence_total, HasNodeLine, HasLine}
use Rattle.refutations.specs.Covering.{Covers, IsNodeCovered, IsCovered}
use Rattle.refutations.specs.Cases.{leaves_of, HoldsLeaf, IsUnassumed, IsUnsaid, IsNew, WaitsFrom, IsCase}
use Rattle.refutations.specs.Duties.{IsChoice}
use Rattle.refutations.proofs.Assuming.{not_grown, not_twice, item_of, held_with, one_node, more_assumptions, more_unassumed, hypothesis_proves, unsaid_at}
use Rattle.refutations.proofs.Replacing.{all_joined, all_in_front, all_behind, all_weaker, holds_leaf_on, replaced}
use Rattle.refutations.proofs.Saying.{proves_says}
use Rattle.refutations.proofs.Uniting.{held_behind}
pub use Rattle.refutations.proofs.Descending.{node_below}
use Rattle.refutations.proofs.Descending.{known_node, within_part, within_parts, within_first, within_later, free_in_said, said_has_free, waits_within, cases_covered, sides_covered, covered_stands, negation_parts, connective_parts, selection_parts, expansion_parts, terms_have_line, terms_inside, terms_unsaid, terms_turn, negation_covered, selection_covered, compound_covered, expansion_covered, leaf_covered, constant_covered, leaf_there}

module _ (g : AcceptedProof) where
  -- Of what is open, one is replaced by others.
  pub advance : (lines lines' : List DeductionLine) (hyps hyps' : List ℕ) (x : Open) (ys rest : List Open) (held : List (ℕ × ℕ)) (done : ℕ)
      → IsCase g lines hyps (x ∷ rest) held done → Grows lines lines' → IsDeduction lines' → AreAssumptions lines' hyps' → All (Contains hyps') hyps
      → AllByRecursion (HasLine g lines' hyps') ys → ((k : ℕ) → times_inside k ys ≤ inside k x)
      → ((s : Selection) → Contains g.fitted.selection_list s → 1 ≤ times_inside s.node (ys ++ rest) → IsNew lines hyps (x ∷ rest) s → IsUnassumed lines' hyps' s × AllByRecursion (IsUnsaid lines' s) ys)
      → AllByRecursion (WaitsFrom g.order done) ys → ((found : List ℕ) → AllByRecursion (IsCovered lines' found) ys → IsCovered lines' found x)
      → IsCase g lines' hyps' (ys ++ rest) held done
  advance lines lines' hyps hyps' x ys rest held done case grown deduction assumptions more are within new waiting covered =
      replaced g lines lines' hyps hyps' x ys rest held held done case grown deduction assumptions more are
      (all_weaker (HoldsLeaf g lines hyps) (HoldsLeaf g lines' hyps') (holds_leaf_on g lines lines' hyps hyps' grown more) held case.held_are) case.unmated within new waiting (λ found wide. wide) (λ found wide all. covered found all)

  -- what is open is done with, where leaves that are held cover it
  done_with : (lines : List DeductionLine) (hyps : List ℕ) (x : Open) (rest : List Open) (held held' : List (ℕ × ℕ)) (done : ℕ) → IsCase g lines hyps (x ∷ rest) held done
      → AllByRecursion (HoldsLeaf g lines hyps) held' → is_closed g.mating (leaves_of held') ≡ false → ((found : List ℕ) → All (Contains found) (leaves_of held') → All (Contains found) (leaves_of held))
      → ((found : List ℕ) → All (Contains found) (leaves_of held') → IsCovered lines found x) → IsCase g lines hyps rest held' done
  done_with lines hyps x rest held held' done case held_are unmated all_held covered =
      replaced g lines lines hyps hyps x [] rest held held' done case (not_grown lines) case.deduction case.assumptions (All-contains_itself hyps) tt held_are unmated (λ k. omega arith)
      (λ s among there old. (old.unassumed, tt)) tt all_held (λ found wide all. covered found wide)

  -- A leaf is held, or was held before.
  pub held_step : (lines : List DeductionLine) (hyps : List ℕ) (x : OpenNode) (rest : List Open) (held : List (ℕ × ℕ)) (done : ℕ) → IsCase g lines hyps (at_node x ∷ rest) held done → x.tree ≡ leaf_node
      → is_closed g.mating (leaves_of held ++ (x.place.leaves + 1) ∷ []) ≡ false → IsCase g lines hyps rest (held ++ (x.place.leaves + 1, x.line) ∷ []) done
  held_step lines hyps x rest held done case is unmated =
      let y : OpenNode = node_below x.positive leaf_node x.line x.place in
      let case : IsCase g lines hyps (at_node y ∷ rest) held done = subst (λ (z : OpenNode). IsCase g lines hyps (at_node z ∷ rest) held done) (known_node x leaf_node is) case in
      let old : HasNodeLine g lines hyps y = case.lines_are.0 in
      let leaf : ℕ = x.place.leaves + 1 in
      let formula : Term = old.formula in
      let there = leaf_there g x.positive x.line x.place formula old.standing old.stands_at in
      let same = held_with held leaf x.line in
      let holds : AllByRecursion (HoldsLeaf g lines hyps) ((leaf, x.line) ∷ []) = (record { positive = x.positive; formula = formula; leaf = there; proves = old.proves }, tt) in
      let parts : (found : List ℕ) → All (Contains found) (leaves_of (held ++ (leaf, x.line) ∷ [])) → AllByRecursion (Contains found) (leaves_of held ++ leaf ∷ []) =
      λ found wide. subst (AllByRecursion (Contains found)) same (recursion_from_All (Contains found) (leaves_of (held ++ (leaf, x.line) ∷ [])) wide) in
      done_with lines hyps (at_node y) rest held (held ++ (leaf, x.line) ∷ []) done case
      (all_joined (HoldsLeaf g lines hyps) held ((leaf, x.line) ∷ []) case.held_are holds) (ap (is_closed g.mating) same ∙ unmated)
      (λ found wide. All-from_recursion (Contains found) (leaves_of held) (all_in_front (Contains found) (leaves_of held) (leaf ∷ []) (parts found wide)))
      (λ found wide.
      leaf_covered lines found x.positive x.line x.place formula (proves_says lines x.line hyps (said x.positive formula) old.proves) (all_behind (Contains found) (leaves_of held) (leaf ∷ []) (parts found wide)).0)

  pub kept_step : (lines : List DeductionLine) (hyps : List ℕ) (x : OpenNode) (rest : List Open) (held : List (ℕ × ℕ)) (done : ℕ) → IsCase g lines hyps (at_node x ∷ rest) held done → x.tree ≡ leaf_node
      → Contains (leaves_of held) (x.place.leaves + 1) → IsCase g lines hyps rest held done
  kept_step lines hyps x rest held done case is there =
      let y : OpenNode = node_below x.positive leaf_node x.line x.place in
      let case : IsCase g lines hyps (at_node y ∷ rest) held done = subst (λ (z : OpenNode). IsCase g lines hyps (at_node z ∷ rest) held done) (known_node x leaf_node is) case in
      let old : HasNodeLine g lines hyps y = case.lines_are.0 in
      done_with lines hyps (at_node y) rest held held done case case.held_are case.unmated (λ found wide. wide)
      (λ found wide.
      leaf_covered lines found x.positive x.line x.place old.formula (proves_says lines x.line hyps (said x.positive old.formula) old.proves) (All-contains (Contains found) (leaves_of held) (x.place.leaves + 1) wide there))

  -- Of a leaf and a held one that is mated with it, one line says that the formula is true, and the other that it is false.
  pub mated_opposed : (lines : List DeductionLine) (hyps : List ℕ) (x : OpenNode) (rest : List Open) (held : List (ℕ × ℕ)) (done : ℕ) (partner m : ℕ) → All (IsGood g.fitted.leaf_list) g.mating
      → IsCase g lines hyps (at_node x ∷ rest) held done → x.tree ≡ leaf_node → Contains held (partner, m)
      → (Contains g.mating (x.place.leaves + 1, partner) ⊎ Contains g.mating (partner, x.place.leaves + 1))
      → (p : Bool) × (a : Term) × Proves lines x.line hyps (said p a) × Proves lines m hyps (said (not p) a)
  mated_opposed lines hyps x rest held done partner m good case is there pair =
      let y : OpenNode = node_below x.positive leaf_node x.line x.place in
      let case : IsCase g lines hyps (at_node y ∷ rest) held done = subst (λ (z : OpenNode). IsCase g lines hyps (at_node z ∷ rest) held done) (known_node x leaf_node is) case in
      let old : HasNodeLine g lines hyps y = case.lines_are.0 in
      let leaf : ℕ = x.place.leaves + 1 in
      let here = leaf_there g x.positive x.line x.place old.formula old.standing old.stands_at in
      let other : HoldsLeaf g lines hyps (partner, m) = All-contains (HoldsLeaf g lines hyps) held (partner, m) (All-from_recursion (HoldsLeaf g lines hyps) held case.held_are) there in
      let P : ℕ → Bool × Term → Type 0 = λ n l. Proves lines n hyps (said l.0 l.1) in
      let mine : Bool × Term = (x.positive, old.formula) in
      let its : Bool × Term = (other.positive, other.formula) in
      elim pair [
        | inl among ↦
            let q = All-contains (IsGood g.fitted.leaf_list) g.mating (leaf, partner) good among in
            (q.0, q.1, subst (P x.line) (item_of mine (q.0, q.1) (sym here ∙ q.2)) old.proves, subst (P m) (item_of its (not q.0, q.1) (sym other.leaf ∙ q.3)) other.proves)
        | inr among ↦
            let q = All-contains (IsGood g.fitted.leaf_list) g.mating (partner, leaf) good among in
            let first : P m (q.0, q.1) = subst (P m) (item_of its (q.0, q.1) (sym other.leaf ∙ q.2)) other.proves in
            (not q.0, q.1, subst (P x.line) (item_of mine (not q.0, q.1) (sym here ∙ q.3)) old.proves, subst (λ (p : Bool). Proves lines m hyps (said p q.1)) (sym (not_twice q.0)) first)
      ]

  -- A constant that is as its polarity wants it closes the case, and any other is left.
  pub constant_step : (lines : List DeductionLine) (hyps : List ℕ) (x : OpenNode) (rest : List Open) (held : List (ℕ × ℕ)) (done : ℕ) → IsCase g lines hyps (at_node x ∷ rest) held done → x.tree ≡ constant_node
      → (v : Bool) → Says lines x.line (said x.positive (truth_value v)) → v ≡ not x.positive → IsCase g lines hyps rest held done
  constant_step lines hyps x rest held done case is v says other =
      let y : OpenNode = node_below x.positive constant_node x.line x.place in
      let case : IsCase g lines hyps (at_node y ∷ rest) held done = subst (λ (z : OpenNode). IsCase g lines hyps (at_node z ∷ rest) held done) (known_node x constant_node is) case in
      done_with lines hyps (at_node y) rest held held done case case.held_are case.unmated (λ found wide. wide) (λ found wide. constant_covered lines found x.positive v x.line x.place says other)

  -- Where nothing is open there is no case.
  pub none_open : (lines : List DeductionLine) (hyps : List ℕ) (held : List (ℕ × ℕ)) (done : ℕ) → IsCase g lines hyps [] held done → ⊥
  none_open lines hyps held done case =
      let closed : is_closed g.mating (leaves_of held) ≡ true = case.spanned (leaves_of held) (All-contains_itself (leaves_of held)) tt in
      let both : true ≡ false = sym closed ∙ case.unmated in
      cc

  -- a node is replaced by one below it
  node_step : (lines lines' : List DeductionLine) (hyps hyps' : List ℕ) (y z : OpenNode) (rest : List Open) (held : List (ℕ × ℕ)) (done : ℕ)
      → IsCase g lines hyps (at_node y ∷ rest) held done → Grows lines lines' → IsDeduction lines' → AreAssumptions lines' hyps' → All (Contains hyps') hyps → (has : HasNodeLine g lines' hyps' z)
      → y.place.node ≤ z.place.node → z.place.node + node_count z.tree ≤ y.place.node + node_count y.tree
      → y.place.occurrences ≤ z.place.occurrences → z.place.occurrences + occurrence_total z.tree ≤ y.place.occurrences + occurrence_total y.tree
      → ((s : Selection) → Contains g.fitted.selection_list s → 1 ≤ times_inside s.node (at_node z ∷ rest) → IsNew lines hyps (at_node y ∷ rest) s → IsUnassumed lines' hyps' s × (IsFree s.variable.0 s.variable.1 has.formula → ⊥))
      → ((found : List ℕ) → IsNodeCovered lines' found z → IsNodeCovered lines' found y) → IsCase g lines' hyps' (at_node z ∷ rest) held done
  node_step lines lines' hyps hyps' y z rest held done case grown deduction assumptions more has low high first last new covered =
      advance lines lines' hyps hyps' (at_node y) (at_node z ∷ []) rest held done case grown deduction assumptions more (has, tt)
      (λ k. let part = within_part k z.place.node (node_count z.tree) y.place.node (node_count y.tree) low high in omega (arith, part))
      (λ s among there old. let both = new s among there old in (both.0, (unsaid_at lines' hyps' s z has.formula has.proves both.1, tt)))
      (waits_within g.order done (at_node y) (at_node z) (omega (arith, first)) last case.waiting.0, tt)
      (λ found all. covered found all.0)

  pub negation_step : (lines lines' : List DeductionLine) (hyps : List ℕ) (x : OpenNode) (t : ExpansionTree) (m : ℕ) (rest : List Open) (held : List (ℕ × ℕ)) (done : ℕ) → IsCase g lines hyps (at_node x ∷ rest) held done
      → x.tree ≡ negation_node t → Grows lines lines' → IsDeduction lines' → ((b : Term) → Says lines x.line (said x.positive (negation_of b)) → Proves lines' m hyps (said (not x.positive) b))
      → IsCase g lines' hyps (at_node (node_below (not x.positive) t m (place_below x.place)) ∷ rest) held done
  negation_step lines lines' hyps x t m rest held done case is grown deduction proves =
      let p : Bool = x.positive in
      let y : OpenNode = node_below p (negation_node t) x.line x.place in
      let case : IsCase g lines hyps (at_node y ∷ rest) held done = subst (λ (z : OpenNode). IsCase g lines hyps (at_node z ∷ rest) held done) (known_node x (negation_node t) is) case in
      let old : HasNodeLine g lines hyps y = case.lines_are.0 in
      let parts = negation_parts g p t x.line m x.place old.formula old.standing old.stands_at in
      let b : Term = parts.0 in
      let upper : Proves lines x.line hyps (said p (negation_of b)) = subst (λ (a : Term). Proves lines x.line hyps (said p a)) parts.1 old.proves in
      let says : Says lines x.line (said p (negation_of b)) = proves_says lines x.line hyps (said p (negation_of b)) upper in
      let says_on : Says lines' x.line (said p (negation_of b)) = proves_says lines' x.line hyps (said p (negation_of b)) (proves_stays lines lines' x.line hyps (said p (negation_of b)) grown upper) in
      let lower : Proves lines' m hyps (said (not p) b) = proves b says in
      node_step lines lines' hyps hyps y (node_below (not p) t m (place_below x.place)) rest held done case grown deduction (assumptions_stay lines lines' hyps grown case.assumptions) (All-contains_itself hyps)
      (record { formula = b; standing = parts.2; stands_at = parts.3; proves = lower }) (omega arith) (omega arith) (omega arith) (omega arith)
      (λ s among there new. (
        free_in_none_stays lines lines' hyps s.variable.0 s.variable.1 grown case.assumptions new.unassumed,
        λ used. new.unsaid.0 (said p (negation_of b)) says (said_has_free s.variable.0 s.variable.1 p (negation_of b) (inr used)),
      ))
      (λ found all. negation_covered lines' hyps found p t x.line m x.place b says_on lower all)

  pub sides_step : (lines lines' : List DeductionLine) (hyps : List ℕ) (x : OpenNode) (op : Op) (t u : ExpansionTree) (m k : ℕ) (rest : List Open) (held : List (ℕ × ℕ)) (done : ℕ) → IsCase g lines hyps (at_node x ∷ rest) held done
      → x.tree ≡ connective_node op t u → gives_cases op x.positive ≡ false → Grows lines lines' → IsDeduction lines'
      → ((b c : Term) → Says lines x.line (said x.positive (compound_of op b c)) → Proves lines' m hyps (said (left_polarity op x.positive) b) × Proves lines' k hyps (said x.positive c))
      → IsCase g lines' hyps (at_node (node_below (left_polarity op x.positive) t m (place_below x.place)) ∷ at_node (node_below x.positive u k (place_past t (place_below x.place))) ∷ rest) held done
  sides_step lines lines' hyps x op t u m k rest held done case is both grown deduction proves =
      let p : Bool = x.positive in
      let y : OpenNode = node_below p (connective_node op t u) x.line x.place in
      let case : IsCase g lines hyps (at_node y ∷ rest) held done = subst (λ (z : OpenNode). IsCase g lines hyps (at_node z ∷ rest) held done) (known_node x (connective_node op t u) is) case in
      let old : HasNodeLine g lines hyps y = case.lines_are.0 in
      let parts = connective_parts g op p t u x.line m k x.place old.formula old.standing old.stands_at in
      let b : Term = parts.0 in
      let c : Term = parts.1 in
      let whole : Term = compound_of op b c in
      let upper : Proves lines x.line hyps (said p whole) = subst (λ (a : Term). Proves lines x.line hyps (said p a)) parts.2 old.proves in
      let says : Says lines x.line (said p whole) = proves_says lines x.line hyps (said p whole) upper in
      let says_on : Says lines' x.line (said p whole) = proves_says lines' x.line hyps (said p whole) (proves_stays lines lines' x.line hyps (said p whole) grown upper) in
      let left : OpenNode = node_below (left_polarity op p) t m (place_below x.place) in
      let right : OpenNode = node_below p u k (place_past t (place_below x.place)) in
      let lower = proves b c says in
      advance lines lines' hyps hyps (at_node y) (at_node left ∷ at_node right ∷ []) rest held done case grown deduction (assumptions_stay lines lines' hyps grown case.assumptions) (All-contains_itself hyps)
      (record { formula = b; standing = parts.3; stands_at = parts.4; proves = lower.0 }, (record { formula = c; standing = parts.5; stands_at = parts.6; proves = lower.1 }, tt))
      (λ n.
      let inner = within_parts n (x.place.node + 1) (node_count t) (x.place.node + 1 + node_count t) (node_count u) x.place.node (node_count t + node_count u + 1) (omega arith) (omega arith) (omega arith) in
      omega (arith, inner))
      (λ s among there new.
      let not_free : IsFree s.variable.0 s.variable.1 whole → ⊥ = λ used. new.unsaid.0 (said p whole) says (said_has_free s.variable.0 s.variable.1 p whole used) in (
        free_in_none_stays lines lines' hyps s.variable.0 s.variable.1 grown case.assumptions new.unassumed,
        (unsaid_at lines' hyps s left b lower.0 (λ used. not_free (inl (inr used))), (unsaid_at lines' hyps s right c lower.1 (λ used. not_free (inr used)), tt)),
      )) (
        waits_within g.order done (at_node y) (at_node left) (omega arith) (omega arith) case.waiting.0,
        (waits_within g.order done (at_node y) (at_node right) (omega arith) (omega arith) case.waiting.0, tt),
      )
      (λ found all.
      compound_covered lines' found op p t u x.line x.place b c all.0.standing all.1.0.standing says_on (covered_stands lines' hyps found left b lower.0 all.0) (covered_stands lines' hyps found right c lower.1 all.1.0)
      (sides_covered op p (Covers found x.place.leaves all.0.standing) (Covers found (x.place.leaves + leaf_total t) all.1.0.standing) both all.0.covers all.1.0.covers))

  -- a case, by a hypothesis that says what it says of one side
  pub left_case : (lines lines' : List DeductionLine) (hyps : List ℕ) (x : OpenNode) (op : Op) (t u : ExpansionTree) (h : ℕ) (rest : List Open) (held : List (ℕ × ℕ)) (done : ℕ) → IsCase g lines hyps (at_node x ∷ rest) held done
      → x.tree ≡ connective_node op t u → gives_cases op x.positive ≡ true → Grows lines lines' → IsDeduction lines'
      → ((b c : Term) → Says lines x.line (said x.positive (compound_of op b c)) → Assumes lines' h (said (left_polarity op x.positive) b))
      → IsCase g lines' (h ∷ hyps) (at_node (node_below (left_polarity op x.positive) t h (place_below x.place)) ∷ rest) held done
  left_case lines lines' hyps x op t u h rest held done case is cases grown deduction assumes =
      let p : Bool = x.positive in
      let y : OpenNode = node_below p (connective_node op t u) x.line x.place in
      let case : IsCase g lines hyps (at_node y ∷ rest) held done = subst (λ (z : OpenNode). IsCase g lines hyps (at_node z ∷ rest) held done) (known_node x (connective_node op t u) is) case in
      let old : HasNodeLine g lines hyps y = case.lines_are.0 in
      let parts = connective_parts g op p t u x.line h h x.place old.formula old.standing old.stands_at in
      let b : Term = parts.0 in
      let c : Term = parts.1 in
      let whole : Term = compound_of op b c in
      let upper : Proves lines x.line hyps (said p whole) = subst (λ (a : Term). Proves lines x.line hyps (said p a)) parts.2 old.proves in
      let says : Says lines x.line (said p whole) = proves_says lines x.line hyps (said p whole) upper in
      let says_on : Says lines' x.line (said p whole) = proves_says lines' x.line hyps (said p whole) (proves_stays lines lines' x.line hyps (said p whole) grown upper) in
      let left : OpenNode = node_below (left_polarity op p) t h (place_below x.place) in
      let assumed = assumes b c says in
      let lower : Proves lines' h (h ∷ hyps) (said (left_polarity op p) b) = hypothesis_proves lines' hyps h (said (left_polarity op p) b) deduction assumed in
      node_step lines lines' hyps (h ∷ hyps) y left rest held done case grown deduction (more_assumptions lines lines' hyps h (said (left_polarity op p) b) grown case.assumptions assumed) (held_behind h hyps)
      (record { formula = b; standing = parts.3; stands_at = parts.4; proves = lower }) (omega arith) (omega arith) (omega arith) (omega arith)
      (λ s among there new.
      let not_free : IsFree s.variable.0 s.variable.1 b → ⊥ = λ used. new.unsaid.0 (said p whole) says (said_has_free s.variable.0 s.variable.1 p whole (inl (inr used))) in (
        more_unassumed lines lines' hyps h (said (left_polarity op p) b) s grown case.assumptions assumed new.unassumed (λ used. not_free (free_in_said s.variable.0 s.variable.1 (left_polarity op p) b used)),
        not_free,
      ))
      (λ found all.
      compound_covered lines' found op p t u x.line x.place b c all.standing parts.5 says_on (covered_stands lines' (h ∷ hyps) found left b lower all) parts.6.stands
      (cases_covered op p (Covers found x.place.leaves all.standing) (Covers found (x.place.leaves + leaf_total t) parts.5) cases (inl all.covers)))

  pub right_case : (lines lines' : List DeductionLine) (hyps : List ℕ) (x : OpenNode) (op : Op) (t u : ExpansionTree) (h : ℕ) (rest : List Open) (held : List (ℕ × ℕ)) (done : ℕ) → IsCase g lines hyps (at_node x ∷ rest) held done
      → x.tree ≡ connective_node op t u → gives_cases op x.positive ≡ true → Grows lines lines' → IsDeduction lines'
      → ((b c : Term) → Says lines x.line (said x.positive (compound_of op b c)) → Assumes lines' h (said x.positive c))
      → IsCase g lines' (h ∷ hyps) (at_node (node_below x.positive u h (place_past t (place_below x.place))) ∷ rest) held done
  right_case lines lines' hyps x op t u h rest held done case is cases grown deduction assumes =
      let p : Bool = x.positive in
      let y : OpenNode = node_below p (connective_node op t u) x.line x.place in
      let case : IsCase g lines hyps (at_node y ∷ rest) held done = subst (λ (z : OpenNode). IsCase g lines hyps (at_node z ∷ rest) held done) (known_node x (connective_node op t u) is) case in
      let old : HasNodeLine g lines hyps y = case.lines_are.0 in
      let parts = connective_parts g op p t u x.line h h x.place old.formula old.standing old.stands_at in
      let b : Term = parts.0 in
      let c : Term = parts.1 in
      let whole : Term = compound_of op b c in
      let upper : Proves lines x.line hyps (said p whole) = subst (λ (a : Term). Proves lines x.line hyps (said p a)) parts.2 old.proves in
      let says : Says lines x.line (said p whole) = proves_says lines x.line hyps (said p whole) upper in
      let says_on : Says lines' x.line (said p whole) = proves_says lines' x.line hyps (said p whole) (proves_stays lines lines' x.line hyps (said p whole) grown upper) in
      let right : OpenNode = node_below p u h (place_past t (place_below x.place)) in
      let assumed = assumes b c says in
      let lower : Proves lines' h (h ∷ hyps) (said p c) = hypothesis_proves lines' hyps h (said p c) deduction assumed in
      node_step lines lines' hyps (h ∷ hyps) y right rest held done case grown deduction (more_assumptions lines lines' hyps h (said p c) grown case.assumptions assumed) (held_behind h hyps)
      (record { formula = c; standing = parts.5; stands_at = parts.6; proves = lower }) (omega arith) (omega arith) (omega arith) (omega arith)
      (λ s among there new.
      let not_free : IsFree s.variable.0 s.variable.1 c → ⊥ = λ used. new.unsaid.0 (said p whole) says (said_has_free s.variable.0 s.variable.1 p whole (inr used)) in (
        more_unassumed lines lines' hyps h (said p c) s grown case.assumptions assumed new.unassumed (λ used. not_free (free_in_said s.variable.0 s.variable.1 p c used)),
        not_free,
      ))
      (λ found all.
      compound_covered lines' found op p t u x.line x.place b c parts.3 all.standing says_on parts.4.stands (covered_stands lines' (h ∷ hyps) found right c lower all)
      (cases_covered op p (Covers found x.place.leaves parts.3) (Covers found (x.place.leaves + leaf_total t) all.standing) cases (inr all.covers)))

  -- a selected variable, by a hypothesis that says of it what the line says of all or some
  pub selection_step : IsAccepted g → (lines lines' : List DeductionLine) (hyps : List ℕ) (x : OpenNode) (name : List ℕ) (t : ExpansionTree) (h : ℕ) (rest : List Open) (held : List (ℕ × ℕ)) (done : ℕ) → IsCase g lines hyps (at_node x ∷ rest) held done
      → x.tree ≡ selection_node name t → Grows lines lines' → IsDeduction lines'
      → ((ty : SimpleType) (b : Term) → Says lines x.line (said x.positive (quantified (selecting x.positive ty) ty b)) → Assumes lines' h (said x.positive (instance_of b (free name ty))))
      → IsCase g lines' (h ∷ hyps) (at_node (node_below x.positive t h (place_below x.place)) ∷ rest) held done × IsChoice lines' hyps x.positive x.line h name
  selection_step accepted lines lines' hyps x name t h rest held done case is grown deduction assumes =
      let p : Bool = x.positive in
      let y : OpenNode = node_below p (selection_node name t) x.line x.place in
      let below : OpenNode = node_below p t h (place_below x.place) in
      let case : IsCase g lines hyps (at_node y ∷ rest) held done = subst (λ (z : OpenNode). IsCase g lines hyps (at_node z ∷ rest) held done) (known_node x (selection_node name t) is) case in
      let old : HasNodeLine g lines hyps y = case.lines_are.0 in
      let parts = selection_parts g p name t x.line h x.place old.formula old.standing old.stands_at in
      let ty : SimpleType = parts.0 in
      let b : Term = parts.1 in
      let whole : Term = quantified (selecting p ty) ty b in
      let instance : Term = instance_of b (free name ty) in
      let upper : Proves lines x.line hyps (said p whole) = subst (λ (a : Term). Proves lines x.line hyps (said p a)) parts.2 old.proves in
      let upper_on : Proves lines' x.line hyps (said p whole) = proves_stays lines lines' x.line hyps (said p whole) grown upper in
      let says : Says lines x.line (said p whole) = proves_says lines x.line hyps (said p whole) upper in
      let assumed : Assumes lines' h (said p instance) = assumes ty b says in
      let lower : Proves lines' h (h ∷ hyps) (said p instance) = hypothesis_proves lines' hyps h (said p instance) deduction assumed in
      let v : Selection = record { node = x.place.node; variable = (name, ty) } in
      let inside_here : inside x.place.node (at_node y) ≡ 1 = within_first x.place.node (node_count t + 1) (omega arith) in
      let new : IsNew lines hyps (at_node y ∷ rest) v = case.fresh v parts.4 (omega (arith, inside_here)) in
      let apart : (s : Selection) → Contains g.fitted.selection_list s → 1 ≤ times_inside s.node (at_node below ∷ rest) → IsNew lines hyps (at_node y ∷ rest) s → IsFree s.variable.0 s.variable.1 instance → ⊥ =
      λ s among there other used.
      elim (free_of_put s.variable.0 s.variable.1 0 (free name ty) b used) [
        | inl in_body ↦ other.unsaid.0 (said p whole) says (said_has_free s.variable.0 s.variable.1 p whole (inr in_body))
        | inr itself ↦
            let same : s.variable ≡ v.variable = ap₂ (λ (n : List ℕ) (r : SimpleType). (n, r)) itself.1.0 itself.1.1 in
            let node : s.node ≡ x.place.node = one_node g.fitted.selection_list s v (fitted_selections g.fitted accepted.fits) among parts.4 same in
            let here : inside s.node (at_node y) ≡ 1 = subst (λ (n : ℕ). inside n (at_node y) ≡ 1) (sym node) inside_here in
            let later : inside s.node (at_node below) ≡ 0 = within_later s.node (x.place.node + 1) (node_count t) (omega (arith, node)) in
            let once = case.once s.node in
            omega (arith, here, later, once, there)
      ] in (
        node_step lines lines' hyps (h ∷ hyps) y below rest held done case grown deduction (more_assumptions lines lines' hyps h (said p instance) grown case.assumptions assumed) (held_behind h hyps)
            (record { formula = instance; standing = parts.5; stands_at = parts.6; proves = lower }) (omega arith) (omega arith) (omega arith) (omega arith)
            (λ s among there other. (
              more_unassumed lines lines' hyps h (said p instance) s grown case.assumptions assumed other.unassumed (λ used. apart s among there other (free_in_said s.variable.0 s.variable.1 p instance used)),
              apart s among there other,
            ))
            (λ found all. selection_covered lines' (h ∷ hyps) found p name t x.line h x.place ty b (proves_says lines' x.line hyps (said p whole) upper_on) lower all),
        record {
          ty = ty;
          body = b;
          typed = parts.3;
          proved = upper_on;
          assumed = assumed;
          new = λ used. new.unsaid.0 (said p whole) says (said_has_free name ty p whole (inr used));
          free_in_none = free_in_none_stays lines lines' hyps name ty grown case.assumptions new.unassumed;
        },
      )

  -- an expansion node leaves its terms
  pub expansion_step : (lines : List DeductionLine) (hyps : List ℕ) (x : OpenNode) (bs : ExpansionBranches) (rest : List Open) (held : List (ℕ × ℕ)) (done : ℕ) → IsCase g lines hyps (at_node x ∷ rest) held done
      → x.tree ≡ expansion_node bs → IsCase g lines hyps (terms_below x.positive x.line (place_below x.place) bs ++ rest) held done
  expansion_step lines hyps x bs rest held done case is =
      let p : Bool = x.positive in
      let y : OpenNode = node_below p (expansion_node bs) x.line x.place in
      let case : IsCase g lines hyps (at_node y ∷ rest) held done = subst (λ (z : OpenNode). IsCase g lines hyps (at_node z ∷ rest) held done) (known_node x (expansion_node bs) is) case in
      let old : HasNodeLine g lines hyps y = case.lines_are.0 in
      let parts = expansion_parts g p bs x.line x.place old.formula old.standing old.stands_at in
      let ty : SimpleType = parts.0 in
      let b : Term = parts.1 in
      let whole : Term = quantified (expanding p ty) ty b in
      let upper : Proves lines x.line hyps (said p whole) = subst (λ (a : Term). Proves lines x.line hyps (said p a)) parts.2 old.proves in
      let says : Says lines x.line (said p whole) = proves_says lines x.line hyps (said p whole) upper in
      advance lines lines hyps hyps (at_node y) (terms_below p x.line (place_below x.place) bs) rest held done case (not_grown lines) case.deduction case.assumptions (All-contains_itself hyps)
      (terms_have_line g lines hyps p ty b x.line bs (place_below x.place) parts.4 parts.5 parts.3 upper parts.6 parts.7 parts.8)
      (λ k.
      let few = terms_inside k p x.line bs (place_below x.place) in
      let part = within_part k (x.place.node + 1) (branch_node_count bs) x.place.node (branch_node_count bs + 1) (omega arith) (omega arith) in
      omega (arith, few, part))
      (λ s among there new. (new.unassumed, terms_unsaid lines s p x.line bs (place_below x.place) new.unsaid.0))
      (terms_turn g.order done p x.line bs (place_below x.place) case.waiting.0)
      (λ found all. expansion_covered lines found p ty b x.line bs x.place parts.4 parts.5 says all)
