-- The first step at a node that gives no cases, and how the case goes on from there.
use Rattle.std.proofs.Common.{◌≡◌, ◌≤◌, ℕ, ◌+◌, ◌*◌, ◌^◌, List, [], ◌∷◌, ◌++◌, length, Bool, false, not, append-nil, refl, sym, subst, ap, arith}
use Rattle.std.specs.Borrow.{Bor}
use Rattle.hol_terms.specs.Terms.{SimpleType, Term, free}
use Rattle.hol_terms.specs.Indices.{instance_of}
use Rattle.expansion_tree.specs.declared.trees.Op.{Op}
use Rattle.expansion_tree.specs.Trees.{ExpansionTree, leaf_node, constant_node, negation_node, connective_node, selection_node, expansion_node, node_count, plain_tree}
use Rattle.expansion_tree.specs.Standing.{Stands, left_polarity, negation_of, compound_of, quantified, selecting}
use Rattle.exp_check.specs.Accepted.{AcceptedProof, IsAccepted}
use Rattle.nd_rules.specs.Lines.{DeductionLine}
use Rattle.nd_steps.specs.Deductions.{IsDeduction, Assumes, Proves, AreAssumptions, Grows}
use Rattle.refutations.specs.declared.nodes.Place.{Place}
use Rattle.refutations.specs.declared.nodes.Node.{Node}
use Rattle.refutations.specs.declared.duties.Duty.TheVariants.{Choice}
use Rattle.refutations.specs.declared.cases.Case.{Case}
use Rattle.refutations.specs.Opens.{said, Says, Open, at_node, plain_node, open_node, below, all_unwritten, gives_cases, place_below, place_past}
use Rattle.refutations.specs.Cases.{IsCase}
use Rattle.refutations.specs.Reaching.{Reaches}
use Rattle.refutations.specs.States.{IsState, opens_of, GoesOn}
use Rattle.refutations.proofs.Alike.{IsAlike, alike_opens, alike_state}
use Rattle.refutations.proofs.Replacing.{moved}
use Rattle.refutations.proofs.Saying.{proves_says, says_one, said_read}
use Rattle.refutations.proofs.Stepping.{node_below, negation_step, sides_step, selection_step}
use Rattle.refutations.proofs.Spreading.{goes_on_by}

one_negated : (a b : Term) → negation_of a ≡ negation_of b → a ≡ b
one_negated a b e = cc

-- a node and those below it
pub node_and_below : (t : ExpansionTree) → node_count t ≡ below t + 1
node_and_below leaf_node = refl
node_and_below constant_node = refl
node_and_below (negation_node t) = refl
node_and_below (connective_node op t u) = refl
node_and_below (selection_node name t) = refl
node_and_below (expansion_node bs) = refl

module _ (g : AcceptedProof) (lines lines' : List DeductionLine) (case : Case) (hyps : List ℕ) (node : Node) (others : List Open) (done : ℕ) (state : IsState g lines case hyps (open_node node ∷ others) done) (deduction : IsDeduction lines') where
  abbrev rest : List Open
  rest = others ++ opens_of g.order done case

  abbrev here : ℕ
  here = all_unwritten (open_node node ∷ rest)

  -- the same case with what is open in the node's place
  pub replaced_by : (hyps' : List ℕ) (ys : List Open) → IsCase g lines' hyps' (ys ++ others ++ opens_of g.order done case) case.held.entries done → IsState g lines' case hyps' (ys ++ others) done
  replaced_by hyps' ys is_case = record { stack = state.stack; splits = state.splits; keys = state.keys; is_case = is_case }

  -- the line of a negation, of a compound, of a selection

  pub negation_said : (t : ExpansionTree) → plain_tree node.tree.now ≡ negation_node t → (b : Term) × Proves lines node.line hyps (said node.positive (negation_of b))
  negation_said t is =
      let line = state.is_case.lines_are.0 in
      let stands = subst (λ (r : ExpansionTree). Stands node.positive line.formula r line.standing) is line.stands_at.stands in
      (stands.0, subst (λ (a : Term). Proves lines node.line hyps (said node.positive a)) stands.1 line.proves)

  pub compound_said : (op : Op) (t u : ExpansionTree) → plain_tree node.tree.now ≡ connective_node op t u → (b : Term) × (c : Term) × Proves lines node.line hyps (said node.positive (compound_of op b c))
  compound_said op t u is =
      let line = state.is_case.lines_are.0 in
      let stands = subst (λ (r : ExpansionTree). Stands node.positive line.formula r line.standing) is line.stands_at.stands in
      (stands.0, stands.1, subst (λ (a : Term). Proves lines node.line hyps (said node.positive a)) stands.2 line.proves)

  pub selection_said : (name : List ℕ) (t : ExpansionTree) → plain_tree node.tree.now ≡ selection_node name t → (ty : SimpleType) × (b : Term) × Proves lines node.line hyps (said node.positive (quantified (selecting node.positive ty) ty b))
  selection_said name t is =
      let line = state.is_case.lines_are.0 in
      let stands = subst (λ (r : ExpansionTree). Stands node.positive line.formula r line.standing) is line.stands_at.stands in
      (stands.0, stands.1, subst (λ (a : Term). Proves lines node.line hyps (said node.positive a)) stands.2 line.proves)

  -- a negation is followed by the node below it
  pub negation_on : (t : ExpansionTree) (m : ℕ) (place : Place) → plain_tree node.tree.now ≡ negation_node t → place ≡ place_below node.place
      → ((hs : List ℕ) (b : Term) → AreAssumptions lines hs → Proves lines node.line hs (said node.positive (negation_of b)) → Reaches 1 lines lines' m hs (said (not node.positive) b))
      → GoesOn g lines case lines' case hyps (at_node (node_below (not node.positive) t m place) ∷ others) done (24 * 2 ^ here) here
  negation_on t m place is placed reaches =
      let parent = negation_said t is in
      let reached = reaches hyps parent.0 state.is_case.assumptions parent.1 in
      let y : Open = at_node (node_below (not node.positive) t m place) in
      let proves : (b : Term) → Says lines node.line (said node.positive (negation_of b)) → Proves lines' m hyps (said (not node.positive) b) =
      λ b says. subst (λ (a : Term). Proves lines' m hyps (said (not node.positive) a)) (one_negated parent.0 b (said_read lines node.line node.positive (negation_of b) (negation_of parent.0) says (proves_says lines node.line hyps (said node.positive (negation_of parent.0)) parent.1))) reached.proves in
      let P : Place → Type 0 = λ p. IsCase g lines' hyps (at_node (node_below (not node.positive) t m p) ∷ rest) case.held.entries done in
      let is_case : P place = subst P (sym placed) (negation_step g lines lines' hyps (plain_node node) t m rest case.held.entries done state.is_case is reached.grown deduction proves) in
      let size : below (plain_tree node.tree.now) ≡ node_count t = ap below is in
      goes_on_by g lines lines' case case hyps (y ∷ others) done here [] hyps (sym (append-nil case.duties.items)) refl (replaced_by hyps (y ∷ []) is_case) (omega (arith, reached.few)) (omega (arith, size, node_and_below t))

  -- a compound that gives both sides is followed by them, the right one first
  pub sides_on : (op : Op) (q : Bool) (t u : ExpansionTree) (m k : ℕ) (place second : Place) → q ≡ left_polarity op node.positive → plain_tree node.tree.now ≡ connective_node op t u → gives_cases op node.positive ≡ false
      → place ≡ place_below node.place → second ≡ place_past t place
      → ((hs : List ℕ) (b c : Term) → AreAssumptions lines hs → Proves lines node.line hs (said node.positive (compound_of op b c)) → Proves lines' m hs (said (left_polarity op node.positive) b))
      → ((hs : List ℕ) (b c : Term) → AreAssumptions lines hs → Proves lines node.line hs (said node.positive (compound_of op b c)) → Proves lines' k hs (said node.positive c))
      → Grows lines lines' → length lines' ≤ length lines + 2
      → GoesOn g lines case lines' case hyps (at_node (node_below node.positive u k second) ∷ at_node (node_below q t m place) ∷ others) done (24 * 2 ^ here) here
  sides_on op q t u m k place second polarity is both placed past left right grown few =
      let parent = compound_said op t u is in
      let l : Bool → Place → Open = λ q p. at_node (node_below q t m p) in
      let r : Place → Open = λ p. at_node (node_below node.positive u k p) in
      let again : (b c : Term) → Says lines node.line (said node.positive (compound_of op b c)) → Proves lines node.line hyps (said node.positive (compound_of op b c)) =
      λ b c says. subst (λ (a : Term). Proves lines node.line hyps a) (says_one lines node.line (said node.positive (compound_of op parent.0 parent.1)) (said node.positive (compound_of op b c)) (proves_says lines node.line hyps (said node.positive (compound_of op parent.0 parent.1)) parent.2) says) parent.2 in
      let step = sides_step g lines lines' hyps (plain_node node) op t u m k rest case.held.entries done state.is_case is both grown deduction
      (λ b c says. (left hyps b c state.is_case.assumptions (again b c says), right hyps b c state.is_case.assumptions (again b c says))) in
      let turned = moved g lines' hyps (l (left_polarity op node.positive) (place_below node.place) ∷ []) (r (place_past t (place_below node.place)) ∷ []) rest case.held.entries done step in
      let O : Bool → Type 0 = λ q. IsCase g lines' hyps (r (place_past t (place_below node.place)) ∷ l q (place_below node.place) ∷ rest) case.held.entries done in
      let P : Place → Type 0 = λ p. IsCase g lines' hyps (r (place_past t p) ∷ l q p ∷ rest) case.held.entries done in
      let Q : Place → Type 0 = λ p. IsCase g lines' hyps (r p ∷ l q place ∷ rest) case.held.entries done in
      let is_case : Q second = subst Q (sym past) (subst P (sym placed) (subst O (sym polarity) turned)) in
      let size : below (plain_tree node.tree.now) ≡ node_count t + node_count u = ap below is in
      goes_on_by g lines lines' case case hyps (r second ∷ l q place ∷ others) done here [] hyps (sym (append-nil case.duties.items)) refl (replaced_by hyps (r second ∷ l q place ∷ []) is_case) (omega (arith, few))
      (omega (arith, size, node_and_below t, node_and_below u))

  -- a selection is followed by the node below it, with one duty more
  pub selection_on : IsAccepted g → (name : Bor (List ℕ)) (t : ExpansionTree) (h : ℕ) (place : Place) (next : Case) → plain_tree node.tree.now ≡ selection_node name.now t → place ≡ place_below node.place
      → ((ty : SimpleType) (b : Term) → Says lines node.line (said node.positive (quantified (selecting node.positive ty) ty b)) → Assumes lines' h (said node.positive (instance_of b (free name.now ty))))
      → Grows lines lines' → length lines' ≡ length lines + 1 → next.splits ≡ case.splits → next.fronts ≡ case.fronts → next.held ≡ case.held → next.duties.items ≡ case.duties.items ++ Choice node.positive node.line h name ∷ []
      → GoesOn g lines case lines' next hyps (at_node (node_below node.positive t h place) ∷ others) done (24 * 2 ^ here) here
  selection_on accepted name t h place next is placed assumes grown one splits fronts held pushed =
      let alike : IsAlike case next = record { cells = ap (λ s. s.cells.items) splits; top = ap (λ s. s.top) splits; fronts = ap (λ f. f.entries) fronts; held = ap (λ h. h.entries) held } in
      let y : Place → Open = λ p. at_node (node_below node.positive t h p) in
      let step = selection_step g accepted lines lines' hyps (plain_node node) name.now t h rest case.held.entries done state.is_case is grown deduction assumes in
      let P : Place → Type 0 = λ p. IsCase g lines' (h ∷ hyps) (y p ∷ rest) case.held.entries done in
      let is_case : P place = subst P (sym placed) step.0 in
      let size : below (plain_tree node.tree.now) ≡ node_count t = ap below is in
      let many : all_unwritten (y place ∷ others ++ opens_of g.order done next) ≡ all_unwritten (y place ∷ rest) =
      ap (λ (opens : List Open). all_unwritten (y place ∷ others ++ opens)) (alike_opens g.order done case next alike) in
      goes_on_by g lines lines' case next hyps (y place ∷ others) done here (Choice node.positive node.line h name ∷ []) (h ∷ hyps) pushed (step.1, refl)
      (alike_state g lines' case next (h ∷ hyps) (y place ∷ others) done alike (replaced_by (h ∷ hyps) (y place ∷ []) is_case)) (omega (arith, one))
      (omega (arith, size, many, node_and_below t))
