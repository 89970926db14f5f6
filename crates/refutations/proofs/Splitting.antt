-- The two cases of a split.
use Rattle.std.proofs.Common.{◌≡◌, ◌≤◌, ℕ, suc, ◌+◌, List, [], ◌∷◌, ◌++◌, length, length-append, append-nil, Bool, true, false, not, Option, Some, None, refl, sym, ◌∙◌, subst, ap, ap₂, arith, inl, inr}
use Rattle.std.specs.Prelude.{if◌then◌else◌}
use Rattle.std.specs.Option.{option_map}
use Rattle.std.proofs.lemmas.List.Elements.{recursion_from_All}
use Rattle.hol_terms.specs.Terms.{Term, constant, falsehood}
use Rattle.hol_terms.specs.Truth.{Holds, Follows}
use Rattle.hol_terms.proofs.Truths.{holds_or_not}
use Rattle.expansion_tree.specs.declared.trees.Op.{Op}
use Rattle.expansion_tree.specs.declared.trees.Op.TheVariants.{And, Or, Imp}
use Rattle.expansion_tree.specs.Trees.{ExpansionTree, connective_node, node_count, plain_tree}
use Rattle.expansion_tree.specs.Standing.{left_polarity, compound_of}
use Rattle.exp_check.specs.Accepted.{AcceptedProof}
use Rattle.nd_rules.specs.Lines.{DeductionLine, line_of}
use Rattle.nd_steps.specs.Deductions.{IsDeduction, Assumes, Proves, Grows}
use Rattle.nd_steps.specs.Premises.{either}
use Rattle.nd_steps.proofs.Numbering.{found_stays}
use Rattle.nd_steps.proofs.Growing.{grows_on, proves_stays, assumes_stays, assumptions_stay}
use Rattle.refutations.specs.declared.nodes.Place.{Place}
use Rattle.refutations.specs.declared.nodes.Node.{Node}
use Rattle.refutations.specs.declared.duties.Duty.{Duty}
use Rattle.refutations.specs.declared.cases.Case.{Case}
use Rattle.refutations.specs.Opens.{said, Says, Open, at_node, plain_node, open_node, below, all_unwritten, gives_cases, place_below, place_past, OpenNode}
use Rattle.refutations.specs.Cases.{IsCase}
use Rattle.refutations.specs.Duties.{hyp_of, IsDuty, IsSecondCase}
use Rattle.refutations.specs.Reaching.{Reaches}
use Rattle.refutations.specs.States.{IsState, opens_of, room, IsClosed, GoesOn}
use Rattle.refutations.proofs.Alike.{IsAlike, alike_opens, alike_state}
use Rattle.refutations.proofs.Saying.{proves_says}
use Rattle.refutations.proofs.Stepping.{node_below, left_case, right_case}
use Rattle.refutations.proofs.Rooms.{power_less, power_positive, power_step}
use Rattle.refutations.proofs.Descents.{node_and_below, replaced_by, compound_said}

-- Where a compound gives two cases, what is said of it leaves what is said of one side or of the other.
pub cases_follow : (op : Op) (p : Bool) (b c : Term) → gives_cases op p ≡ true → Follows (said p (compound_of op b c) ∷ []) (either (said (left_polarity op p) b) (said p c))
cases_follow And true b c e atoms all = let h = (recursion_from_All (Holds atoms) (said true (compound_of And b c) ∷ []) all).0 in elim (holds_or_not atoms b) [
  | inl b_holds ↦ inr (λ c_holds. h (b_holds, c_holds))
  | inr b_fails ↦ inl b_fails
]
cases_follow And false b c e atoms all = cc
cases_follow Or true b c e atoms all = cc
cases_follow Or false b c e atoms all = (recursion_from_All (Holds atoms) (compound_of Or b c ∷ []) all).0
cases_follow Imp true b c e atoms all = cc
cases_follow Imp false b c e atoms all = let h = (recursion_from_All (Holds atoms) (compound_of Imp b c ∷ []) all).0 in elim (holds_or_not atoms b) [
  | inl b_holds ↦ inr (h b_holds)
  | inr b_fails ↦ inl b_fails
]

-- The left side of a compound, or the right one.

abbrev pub side_polarity : Op → Bool → Bool → Bool
side_polarity op p left = if left then left_polarity op p else p

abbrev pub side_tree : Bool → ExpansionTree → ExpansionTree → ExpansionTree
side_tree left t u = if left then t else u

abbrev pub side_place : Bool → ExpansionTree → Place → Place
side_place left t p = if left then place_below p else place_past t (place_below p)

abbrev pub side_said : Op → Bool → Bool → Term → Term → Term
side_said op p left b c = if left then said (left_polarity op p) b else said p c

side_follows : (op : Op) (p left : Bool) (b c : Term) → gives_cases op p ≡ true → Follows (said p (compound_of op b c) ∷ []) (either (side_said op p left b c) (side_said op p (not left) b c))
side_follows op p true b c e = cases_follow op p b c e
side_follows op p false b c e = λ atoms all. elim (cases_follow op p b c e atoms all) [ inl x ↦ inr x | inr y ↦ inl y ]

side_below : (left : Bool) (t u : ExpansionTree) → below (side_tree left t u) + 2 ≤ node_count t + node_count u
side_below true t u = omega (arith, node_and_below t, node_and_below u)
side_below false t u = omega (arith, node_and_below t, node_and_below u)

-- a case, by a hypothesis that says what it says of that side
side_case : (left : Bool) (g : AcceptedProof) (lines lines' : List DeductionLine) (hyps : List ℕ) (x : OpenNode) (op : Op) (t u : ExpansionTree) (h : ℕ) (rest : List Open) (held : List (ℕ × ℕ)) (done : ℕ) → IsCase g lines hyps (at_node x ∷ rest) held done
    → x.tree ≡ connective_node op t u → gives_cases op x.positive ≡ true → Grows lines lines' → IsDeduction lines'
    → ((b c : Term) → Says lines x.line (said x.positive (compound_of op b c)) → Assumes lines' h (side_said op x.positive left b c))
    → IsCase g lines' (h ∷ hyps) (at_node (node_below (side_polarity op x.positive left) (side_tree left t u) h (side_place left t x.place)) ∷ rest) held done
side_case true g lines lines' hyps x op t u h rest held done case is cases grown deduction assumes = left_case g lines lines' hyps x op t u h rest held done case is cases grown deduction assumes
side_case false g lines lines' hyps x op t u h rest held done case is cases grown deduction assumes = right_case g lines lines' hyps x op t u h rest held done case is cases grown deduction assumes

-- what a line says it says where lines are added
said_later : (old new : List DeductionLine) (n : ℕ) (a : Term) → Grows old new → Says old n a → Says new n a
said_later old new n a grown says = go (line_of old n) refl says
  where
    go : (r : Option DeductionLine) → line_of old n ≡ r → option_map (λ (l : DeductionLine). l.formula) r ≡ Some a → Says new n a
    go None e h = cc
    go (Some l) e h = ap (option_map (λ (l : DeductionLine). l.formula)) (ap (λ (ls : List DeductionLine). line_of ls n) grown.1 ∙ found_stays old grown.0 n l e) ∙ h

module _ (g : AcceptedProof) (lines : List DeductionLine) (case : Case) (hyps : List ℕ) (node : Node) (done : ℕ) (state : IsState g lines case hyps (open_node node ∷ []) done) (op : Op) (t u : ExpansionTree) (is : plain_tree node.tree.now ≡ connective_node op t u)
    (cases : gives_cases op node.positive ≡ true) (left : Bool) where
  abbrev rest : List Open
  rest = opens_of g.order done case

  abbrev here : ℕ
  here = all_unwritten (open_node node ∷ rest)

  -- the first case
  module _ (lines' : List DeductionLine) (first : Node) (grown : Grows lines lines') (deduction : IsDeduction lines') (assumes : (b c : Term) → Says lines node.line (said node.positive (compound_of op b c)) → Assumes lines' first.line (side_said op node.positive left b c))
      (positive : first.positive ≡ side_polarity op node.positive left) (tree : plain_tree first.tree.now ≡ side_tree left t u) (place : first.place ≡ side_place left t node.place) where
    pub first_state : IsState g lines' case (first.line ∷ hyps) (open_node first ∷ []) done
    first_state =
        let is_node : open_node first ≡ at_node (node_below (side_polarity op node.positive left) (side_tree left t u) first.line (side_place left t node.place)) = λ i. at_node (record { positive = positive i; tree = tree i; line = first.line; place = place i }) in
        let P : Open → Type 0 = λ o. IsCase g lines' (first.line ∷ hyps) (o ∷ rest) case.held.entries done in
        replaced_by g lines lines' case hyps node [] done state deduction (first.line ∷ hyps) (open_node first ∷ [])
        (subst P (sym is_node) (side_case left g lines lines' hyps (plain_node node) op t u first.line rest case.held.entries done state.is_case is cases grown deduction assumes))

    pub first_smaller : all_unwritten (open_node first ∷ rest) + 2 ≤ here
    first_smaller =
        let one : below (plain_tree first.tree.now) ≡ below (side_tree left t u) = ap below tree in
        let two : below (plain_tree node.tree.now) ≡ node_count t + node_count u = ap below is in
        omega (arith, one, two, side_below left t u)

  -- The second one, where the first was contradicted by a line, and the hypothesis of the second is one more duty.
  pub second_on : (lines₁ lines₂ lines₃ : List DeductionLine) (next : Case) (first second : Node) (line most : ℕ) (duty : Duty) → Grows lines lines₁ → Grows lines₁ lines₂ → Grows lines₂ lines₃ → IsDeduction lines₃ → length lines₁ ≡ length lines + 1 → length lines₃ ≡ length lines₂ + 1
      → plain_tree first.tree.now ≡ side_tree left t u → plain_tree second.tree.now ≡ side_tree (not left) t u → second.positive ≡ side_polarity op node.positive (not left) → second.place ≡ side_place (not left) t node.place
      → ((b c : Term) → Says lines node.line (said node.positive (compound_of op b c)) → Assumes lines₁ first.line (side_said op node.positive left b c))
      → ((b c : Term) → Says lines₂ node.line (said node.positive (compound_of op b c)) → Assumes lines₃ second.line (side_said op node.positive (not left) b c))
      → Reaches (room (open_node first ∷ rest)) lines₁ lines₂ line (first.line ∷ hyps) (constant falsehood)
      → ((hs : List ℕ) → IsSecondCase lines₃ hs node.line first.line line second.line → IsDuty lines₃ hs duty) → hyp_of duty ≡ second.line
      → IsAlike case next → next.duties.items ≡ case.duties.items ++ duty ∷ [] → here ≡ most + 1
      → GoesOn g lines case lines₃ next hyps (open_node second ∷ []) done (room (open_node node ∷ rest)) most
  second_on lines₁ lines₂ lines₃ next first second line most duty grown₁ grown₂ grown₃ deduction one₁ one₃ first_tree second_tree positive place assumes₁ assumes₃ reached is_duty duty_hyp alike pushed strict =
      let parent = compound_said g lines lines₃ case hyps node [] done state deduction op t u is in
      let b : Term = parent.0 in
      let c : Term = parent.1 in
      let whole : Term = said node.positive (compound_of op b c) in
      let until₂ = grows_on lines lines₁ lines₂ grown₁ grown₂ in
      let until₃ = grows_on lines lines₂ lines₃ until₂ grown₃ in
      let says : Says lines node.line whole = proves_says lines node.line hyps whole parent.2 in
      let says₂ : Says lines₂ node.line whole = proves_says lines₂ node.line hyps whole (proves_stays lines lines₂ node.line hyps whole until₂ parent.2) in
      let assumed : (b c : Term) → Says lines node.line (said node.positive (compound_of op b c)) → Assumes lines₃ second.line (side_said op node.positive (not left) b c) =
      λ b' c' said_so. assumes₃ b' c' (said_later lines lines₂ node.line (said node.positive (compound_of op b' c')) until₂ said_so) in
      let opposite : Assumes lines₁ first.line (side_said op node.positive left b c) = assumes₁ b c says in
      let second_case : IsSecondCase lines₃ hyps node.line first.line line second.line = record {
        formula = whole;
        first = side_said op node.positive left b c;
        second = side_said op node.positive (not left) b c;
        proved = proves_stays lines lines₃ node.line hyps whole until₃ parent.2;
        cases = side_follows op node.positive left b c cases;
        not_first = record {
          assumed = assumes_stays lines₁ lines₃ first.line (side_said op node.positive left b c) (grows_on lines₁ lines₂ lines₃ grown₂ grown₃) opposite;
          proved = proves_stays lines₂ lines₃ line (first.line ∷ hyps) (constant falsehood) grown₃ reached.proves;
        };
        assumed = assumes₃ b c says₂;
      } in
      let is_node : open_node second ≡ at_node (node_below (side_polarity op node.positive (not left)) (side_tree (not left) t u) second.line (side_place (not left) t node.place)) = λ i. at_node (record { positive = positive i; tree = second_tree i; line = second.line; place = place i }) in
      let P : Open → Type 0 = λ o. IsCase g lines₃ (second.line ∷ hyps) (o ∷ rest) case.held.entries done in
      let is_case : P (open_node second) = subst P (sym is_node) (side_case (not left) g lines lines₃ hyps (plain_node node) op t u second.line rest case.held.entries done state.is_case is cases until₃ deduction assumed) in
      let here_state : IsState g lines₃ case (second.line ∷ hyps) (open_node second ∷ []) done = replaced_by g lines lines₃ case hyps node [] done state deduction (second.line ∷ hyps) (open_node second ∷ []) is_case in
      let opens : opens_of g.order done next ≡ rest = alike_opens g.order done case next alike in
      let unwritten_so : all_unwritten (open_node second ∷ opens_of g.order done next) ≡ below (side_tree (not left) t u) + all_unwritten rest = ap₂ (λ (r : ExpansionTree) (os : List Open). below r + all_unwritten os) second_tree opens in
      let size : below (plain_tree node.tree.now) ≡ node_count t + node_count u = ap below is in
      let first_size : all_unwritten (open_node first ∷ rest) ≡ below (side_tree left t u) + all_unwritten rest = ap (λ (r : ExpansionTree). below r + all_unwritten rest) first_tree in
      record {
        added = duty ∷ [];
        all_are = pushed;
        more = second.line ∷ hyps;
        are_duties = (is_duty hyps second_case, ap (λ (h : ℕ). h ∷ hyps) (sym duty_hyp));
        state = alike_state g lines₃ case next (second.line ∷ hyps) (open_node second ∷ []) done alike here_state;
        few =
            let half₁ = power_less (suc (all_unwritten (open_node first ∷ rest))) here (omega (arith, size, first_size, side_below left t u)) in
            let half₂ = power_less (suc (all_unwritten (open_node second ∷ opens_of g.order done next))) here (omega (arith, size, unwritten_so, side_below (not left) t u)) in
            let twice₁ = power_step (all_unwritten (open_node first ∷ rest)) in
            let twice₂ = power_step (all_unwritten (open_node second ∷ opens_of g.order done next)) in
            let some = power_positive (all_unwritten (open_node first ∷ rest)) in
            let many = ap length pushed ∙ length-append case.duties.items (duty ∷ []) in
            omega (arith, half₁, half₂, twice₁, twice₂, some, many, one₁, one₃, reached.few);
        fewer = omega (arith, size, unwritten_so, side_below (not left) t u, strict);
      }

  -- The first case's line closes the whole where it doesn't rest on the case's hypothesis.
  pub first_closes : (lines₁ lines₂ : List DeductionLine) (next : Case) (first : Node) (line : ℕ) → Grows lines lines₁ → Grows lines₁ lines₂ → length lines₁ ≡ length lines + 1 → plain_tree first.tree.now ≡ side_tree left t u → Reaches (room (open_node first ∷ rest)) lines₁ lines₂ line (first.line ∷ hyps) (constant falsehood)
      → Proves lines₂ line hyps (constant falsehood) → next.duties.items ≡ case.duties.items → IsClosed lines case.duties.items lines₂ next.duties.items hyps (room (open_node node ∷ rest)) line
  first_closes lines₁ lines₂ next first line grown₁ grown₂ one₁ first_tree reached proves same = record {
    added = [];
    all_are = same ∙ sym (append-nil case.duties.items);
    more = hyps;
    are_duties = refl;
    assumptions = assumptions_stay lines lines₂ hyps (grows_on lines lines₁ lines₂ grown₁ grown₂) state.is_case.assumptions;
    few =
        let size : below (plain_tree node.tree.now) ≡ node_count t + node_count u = ap below is in
        let first_size : all_unwritten (open_node first ∷ rest) ≡ below (side_tree left t u) + all_unwritten rest = ap (λ (r : ExpansionTree). below r + all_unwritten rest) first_tree in
        let half = power_less (all_unwritten (open_node first ∷ rest)) here (omega (arith, size, first_size, side_below left t u)) in
        let some = power_positive (all_unwritten (open_node first ∷ rest)) in
        let many = ap length same in
        omega (arith, half, some, many, one₁, reached.few);
    proves = proves;
  }
