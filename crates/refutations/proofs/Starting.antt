-- The first case of a refutation, and the term whose turn it is.
use Rattle.std.proofs.Common.{◌≡◌, ◌≤◌, ℕ, ◌+◌, List, [], ◌∷◌, true, Some, refl, ◌∙◌, subst, ap, arith, inl, inr}
use Rattle.std.specs.Prelude.{Contains, slice_get}
use Rattle.std.specs.List.{AllByRecursion}
use Rattle.std.proofs.lemmas.List.Elements.{All-from_recursion, All-contains_itself, All-contains}
use Rattle.hol_terms.specs.Terms.{SimpleType, Term}
use Rattle.hol_terms.specs.Indices.{instance_of}
use Rattle.hol_terms.specs.FreeVariables.{IsFree}
use Rattle.hol_terms.proofs.FreeLaws.{free_of_put}
use Rattle.expansion_tree.specs.Occurrences.{occurrences_of, occurrences_from}
use Rattle.expansion_tree.specs.Standing.{Standing, Stands, Selection, leaves, quantified, expanding, negation_of, IsNormalFormula}
use Rattle.expansion_tree.specs.Trees.{node_count}
use Rattle.expansion_tree.proofs.Formulas.{normal_formula, long_instance_formula}
use Rattle.vertical_paths.specs.Matings.{is_closed}
use Rattle.vertical_paths.proofs.Closing.{empty_open}
use Rattle.exp_check.specs.Accepted.{AcceptedProof, IsAccepted}
use Rattle.nd_rules.specs.Lines.{DeductionLine}
use Rattle.nd_steps.specs.Deductions.{IsDeduction, Assumes, Proves, Grows}
use Rattle.nd_steps.proofs.Growing.{assumptions_stay, assumes_one, assumes_proves, free_in_none_stays}
use Rattle.refutations.specs.declared.nodes.Place.{Place}
use Rattle.refutations.specs.Opens.{said, Says, OpenNode, Open, at_node, at_term, IsPartAt, StandsAt, HasNodeLine, HasTermLine, HasLine, times_inside}
use Rattle.refutations.specs.Covering.{IsNodeCovered, IsTermCovered, IsCovered}
use Rattle.refutations.specs.Cases.{HoldsLeaf, IsUnsaid, IsCase}
use Rattle.refutations.proofs.Accepting.{accepted_standing, accepted_stands, accepted_selections, accepted_new, accepted_covered}
use Rattle.refutations.proofs.Descending.{free_in_said, said_has_free}
use Rattle.refutations.proofs.NormalVariables.{not_free_in_normal}
use Rattle.refutations.proofs.Replacing.{all_weaker, all_weaker_by, has_line_on, holds_leaf_on, unsaid_on, covered_back}
use Rattle.refutations.proofs.Saying.{proves_says, assumes_says, says_one, said_read}
use Rattle.refutations.proofs.Turns.{within_once, below_later, terms_wait_from, unused_in_turn}
use Rattle.refutations.proofs.Waiting.{IsTermFrom}

-- the place of the root: no leaf and no occurrence comes before it
abbrev pub root_place : Place
root_place = record { node = 1; leaves = 0; occurrences = 0 }

-- a list stands in itself
part_of_itself : {A : Type 0} (whole part : List A) → whole ≡ part → IsPartAt whole 0 part
part_of_itself whole part same i x e =
    let there : 0 + i ≡ i = omega arith in
    ap (slice_get whole) there ∙ ap (λ l. slice_get l i) same ∙ e

module _ (g : AcceptedProof) (accepted : IsAccepted g) where
  -- The hypothesis that the long normal form is false begins the first case, where nothing is held.
  pub start : (lines : List DeductionLine) (h : ℕ) (normal : Term) → IsDeduction lines → IsNormalFormula normal g.fitted.formula → Assumes lines h (negation_of normal)
      → IsCase g lines (h ∷ []) (at_node (record { positive = true; tree = g.fitted.tree; line = h; place = root_place }) ∷ []) [] 0
  start lines h normal deduction is_normal assumes = record {
    deduction = deduction;
    assumptions = All-from_recursion (λ k. (a : Term) × Assumes lines k a) (h ∷ []) ((negation_of normal, assumes), tt);
    lines_are = (here, tt);
    held_are = tt;
    unmated = empty_open g.mating;
    once = λ k. let one = within_once k 1 (node_count g.fitted.tree) in omega (arith, one);
    fresh = λ x there in_tree. record {
      unassumed = All-from_recursion (λ k. (a : Term) → Assumes lines k a → IsFree x.variable.0 x.variable.1 a → ⊥) (h ∷ [])
          ((λ a assumed used. not_free x there (subst (IsFree x.variable.0 x.variable.1) (assumes_one lines h a (negation_of normal) assumed assumes) used)), tt);
      unsaid = ((λ a says used. not_free x there (subst (IsFree x.variable.0 x.variable.1) (says_one lines h a (negation_of normal) says (assumes_says lines h (negation_of normal) assumes)) used)), tt);
    };
    waiting = ((λ e low high i is. omega arith), tt);
    spanned = λ found held covered. whole found covered.0;
  }
    where
      root : OpenNode
      root = record { positive = true; tree = g.fitted.tree; line = h; place = root_place }

      here : HasNodeLine g lines (h ∷ []) root
      here = record {
        formula = normal;
        standing = accepted_standing g accepted;
        stands_at = record {
          stands = accepted_stands g accepted normal is_normal;
          formed = normal_formula normal g.fitted.formula is_normal;
          selected = accepted_selections g accepted;
          leaves_are = part_of_itself g.fitted.leaf_list (leaves (accepted_standing g accepted)) accepted.fits.1.leaf_list;
          occurrences_are = part_of_itself (occurrences_of g.fitted.tree) (occurrences_from 1 g.fitted.tree) refl;
        };
        proves = assumes_proves lines h (h ∷ []) (negation_of normal) deduction (All-contains (Contains (h ∷ [])) (h ∷ []) h (All-contains_itself (h ∷ [])) (0, omega arith, refl)) assumes;
      }

      not_free : (x : Selection) → Contains g.fitted.selection_list x → IsFree x.variable.0 x.variable.1 (negation_of normal) → ⊥
      not_free x there used = accepted_new g accepted normal x is_normal there (free_in_said x.variable.0 x.variable.1 true normal used)

      whole : (found : List ℕ) → IsNodeCovered lines found root → is_closed g.mating found ≡ true
      whole found c =
          let same : c.formula ≡ normal = said_read lines h true normal c.formula (assumes_says lines h (negation_of normal) assumes) c.says in
          accepted_covered g accepted normal c.standing found is_normal (subst (λ (a : Term). Stands true a g.fitted.tree c.standing) same c.stands) c.covers

  -- Where only terms are open, whose turns are later, the place of the order moves on.
  pub pass : (lines : List DeductionLine) (hyps : List ℕ) (rest : List Open) (held : List (ℕ × ℕ)) (done : ℕ) → IsCase g lines hyps rest held done → AllByRecursion (IsTermFrom g.order (done + 1)) rest → IsCase g lines hyps rest held (done + 1)
  pass lines hyps rest held done case later = record {
    deduction = case.deduction;
    assumptions = case.assumptions;
    lines_are = case.lines_are;
    held_are = case.held_are;
    unmated = case.unmated;
    once = case.once;
    fresh = case.fresh;
    waiting = terms_wait_from g accepted lines hyps (done + 1) rest case.lines_are later;
    spanned = case.spanned;
  }

  -- The term whose turn it is, where else only terms are open, is replaced by the node below it with a line of its own.
  pub turn : (lines lines' : List DeductionLine) (hyps : List ℕ) (u : Term) (n : OpenNode) (m : ℕ) (rest : List Open) (held : List (ℕ × ℕ)) (done : ℕ) → IsCase g lines hyps (at_term u n ∷ rest) held done
      → AllByRecursion (IsTermFrom g.order (done + 1)) rest → slice_get g.order done ≡ Some n.place.occurrences → Grows lines lines' → IsDeduction lines'
      → ((ty : SimpleType) (b lower : Term) (s : Standing) → Says lines n.line (said n.positive (quantified (expanding n.positive ty) ty b)) → IsNormalFormula lower (instance_of b u) → Stands n.positive lower n.tree s → Proves lines' m hyps (said n.positive lower))
      → IsCase g lines' hyps (at_node (record { positive = n.positive; tree = n.tree; line = m; place = n.place }) ∷ rest) held (done + 1)
  turn lines lines' hyps u n m rest held done case later here grown deduction proves = record {
    deduction = deduction;
    assumptions = assumptions_stay lines lines' hyps grown case.assumptions;
    lines_are = (record { formula = term.lower; standing = term.standing; stands_at = stands_there; proves = proved }, all_weaker (HasLine g lines hyps) (HasLine g lines' hyps) (has_line_on g lines lines' hyps hyps grown (All-contains_itself hyps)) rest case.lines_are.1);
    held_are = all_weaker (HoldsLeaf g lines hyps) (HoldsLeaf g lines' hyps) (holds_leaf_on g lines lines' hyps hyps grown (All-contains_itself hyps)) held case.held_are;
    unmated = case.unmated;
    once = case.once;
    fresh = λ x there in_opens. let new = case.fresh x there in_opens in record {
      unassumed = free_in_none_stays lines lines' hyps x.variable.0 x.variable.1 grown case.assumptions new.unassumed;
      unsaid = (unsaid_here x there in_opens new.unsaid.0, all_weaker_by (HasLine g lines hyps) (IsUnsaid lines x) (IsUnsaid lines' x) (unsaid_on g lines lines' hyps x grown) rest case.lines_are.1 new.unsaid.1);
    };
    waiting = ((λ e low high. below_later g accepted lines hyps u n done e term here (omega (arith, low)) high), terms_wait_from g accepted lines hyps (done + 1) rest case.lines_are.1 later);
    spanned = λ found leaves_found covered. case.spanned found leaves_found (covered_here found covered.0, all_weaker_by (HasLine g lines hyps) (IsCovered lines' found) (IsCovered lines found) (covered_back g lines lines' hyps found grown) rest case.lines_are.1 covered.1);
  }
    where
      below : OpenNode
      below = record { positive = n.positive; tree = n.tree; line = m; place = n.place }

      term : HasTermLine g lines hyps u n
      term = case.lines_are.0

      upper : Term
      upper = quantified (expanding n.positive term.ty) term.ty term.body

      says : Says lines n.line (said n.positive upper)
      says = proves_says lines n.line hyps (said n.positive upper) term.proves

      stands_there : StandsAt g below term.lower term.standing
      stands_there = record {
        stands = term.stands_at.stands;
        formed = term.stands_at.formed;
        selected = term.stands_at.selected;
        leaves_are = term.stands_at.leaves_are;
        occurrences_are = term.stands_at.occurrences_are;
      }

      proved : Proves lines' m hyps (said n.positive term.lower)
      proved = proves term.ty term.body term.lower term.standing says term.normal term.stands_at.stands

      -- a variable that is selected in what is open is free neither in the body nor in the term
      unsaid_here : (x : Selection) → Contains g.fitted.selection_list x → 1 ≤ times_inside x.node (at_term u n ∷ rest) → IsUnsaid lines x (at_term u n) → IsUnsaid lines' x (at_node below)
      unsaid_here x there in_opens none a said_there used =
          let name : List ℕ = x.variable.0 in
          let ty : SimpleType = x.variable.1 in
          let same : a ≡ said n.positive term.lower = says_one lines' m a (said n.positive term.lower) said_there (proves_says lines' m hyps (said n.positive term.lower) proved) in
          let in_lower : IsFree name ty term.lower = free_in_said name ty n.positive term.lower (subst (IsFree name ty) same used) in
          not_free_in_normal name ty (instance_of term.body u) term.lower (long_instance_formula term.ty u term.body term.typed term.long) term.normal
          (λ in_instance. elim (free_of_put name ty 0 u term.body in_instance) [
            | inl in_body ↦ none (said n.positive upper) says (said_has_free name ty n.positive upper (inr in_body))
            | inr in_term ↦ unused_in_turn g accepted lines hyps u n done x rest term case.lines_are.1 later here there in_opens in_term.1
          ]) in_lower

      covered_here : (found : List ℕ) → IsNodeCovered lines' found below → IsTermCovered lines found u n
      covered_here found c =
          let same : c.formula ≡ term.lower =
          said_read lines' m n.positive term.lower c.formula (proves_says lines' m hyps (said n.positive term.lower) proved) c.says in
          record {
            ty = term.ty;
            body = term.body;
            lower = term.lower;
            standing = c.standing;
            normal = term.normal;
            stands = subst (λ (a : Term). Stands n.positive a n.tree c.standing) same c.stands;
            says = says;
            covers = c.covers;
          }
