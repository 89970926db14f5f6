-- The turn of a term, and the first case as the program begins it.
use Rattle.std.proofs.Common.{◌≡◌, ◌<◌, ℕ, zero, suc, ◌+◌, ◌*◌, ◌^◌, ◌-◌, List, [], ◌∷◌, ◌++◌, length, append_assoc, append-nil, map, reverse, Bool, true, false, cond, Option, Some, None, Result, Ok, Err, refl, sym, ◌∙◌, subst, ap, ap₂, arith}
use Rattle.std.specs.Prelude.{slice_get, nat_eq, IfOk, OnOk}
use Rattle.std.specs.List.{AllByRecursion, filter}
use Rattle.std.specs.Map.{lookup}
use Rattle.std.proofs.Math.Nat.{lt_of_not-le}
use Rattle.std.proofs.lemmas.Bool.{eq-eqb, eqb-true}
use Rattle.std.proofs.lemmas.Map.{NonePasses}
use Rattle.hol_terms.specs.Terms.{SimpleType, Term, plain_term}
use Rattle.hol_terms.specs.Indices.{instance_of}
use Rattle.expansion_tree.specs.Occurrences.{Occurrence, occurrences_of}
use Rattle.expansion_tree.specs.Standing.{quantified, expanding, negation_of, IsNormalFormula}
use Rattle.expansion_tree.specs.Trees.{node_count, plain_tree}
use Rattle.dependency.specs.Dependencies.{occurrence_at}
use Rattle.exp_check.specs.Accepted.{AcceptedProof, IsAccepted}
use Rattle.nd_rules.specs.Lines.{DeductionLine}
use Rattle.nd_steps.specs.Deductions.{IsDeduction, Assumes, Proves, AreAssumptions}
use Rattle.refutations.specs.declared.nodes.Node.{Node}
use Rattle.refutations.specs.declared.nodes.Front.{Front}
use Rattle.refutations.specs.declared.cases.Case.{Case}
use Rattle.refutations.specs.Opens.{said, Open, at_node, open_node, open_term, plain_node, within, inside, times_inside, below, all_unwritten, HasTermLine, HasLine}
use Rattle.refutations.specs.Cases.{IsCase}
use Rattle.refutations.specs.Fronts.{is_waiting, terms_of}
use Rattle.refutations.specs.Reaching.{Reaches}
use Rattle.refutations.specs.Stacks.{stacked, chain_in, AreCells}
use Rattle.refutations.specs.States.{IsSplit, IsState, opens_of, room, GoesOn}
use Rattle.refutations.proofs.Descending.{within_first}
use Rattle.refutations.proofs.Descents.{node_and_below}
use Rattle.refutations.proofs.Replacing.{all_behind, times_inside-append, moved}
use Rattle.refutations.proofs.Rooms.{power_most, unwritten_both}
use Rattle.refutations.proofs.Saying.{proves_says, says_one}
use Rattle.refutations.proofs.Spreading.{goes_on_by, goes_on_freely}
use Rattle.refutations.proofs.Starting.{root_place, start, pass, turn}
use Rattle.refutations.proofs.Stepping.{none_open}
use Rattle.refutations.proofs.Waiting.{IsTermFrom, terms_wait, terms_apart, first_waits, one_found, none_found, none_left}

-- none of these was found at the occurrence
abbrev pub NoneAt : ℕ → List (ℕ × Front) → Type 0
NoneAt e entries = AllByRecursion (λ (x : ℕ × Front). (x.0 ≡ e) → ⊥) entries

none_at : (e : ℕ) (entries : List (ℕ × Front)) → NonePasses (nat_eq e) entries → NoneAt e entries
none_at e [] h = tt
none_at e (x ∷ entries) h = ((λ same. let yes : nat_eq e x.0 ≡ true = eq-eqb e x.0 (sym same) in let no : nat_eq e x.0 ≡ false = h.0 in absurd cc), none_at e entries h.1)

-- a term that was found at the occurrence, and those before and after it
pub record IsFoundAt (e : ℕ) (entries : List (ℕ × Front)) (f : Front) : Type 0 where
  pub before : List (ℕ × Front)
  pub after : List (ℕ × Front)
  pub entries_are : entries ≡ before ++ (e, f) ∷ after
  pub none_before : NoneAt e before

found_at : (e : ℕ) (entries : List (ℕ × Front)) (f : Front) → lookup (nat_eq e) entries ≡ Some f → IsFoundAt e entries f
found_at e [] f h = absurd cc
found_at e (x ∷ entries) f h = go (nat_eq e x.0) refl h (found_at e entries f)
  where
    go : (b : Bool) → nat_eq e x.0 ≡ b → cond b (Some x.1) (lookup (nat_eq e) entries) ≡ Some f → (lookup (nat_eq e) entries ≡ Some f → IsFoundAt e entries f) → IsFoundAt e (x ∷ entries) f
    go true same here rest =
        let there : x.1 ≡ f = cc in
        record { before = []; after = entries; entries_are = ap₂ (λ (k : ℕ) (y : Front). (k, y) ∷ entries) (sym (eqb-true e x.0 same)) there; none_before = tt }
    go false other later rest =
        let found = rest later in
        record {
          before = x ∷ found.before;
          after = found.after;
          entries_are = ap (λ es. x ∷ es) found.entries_are;
          none_before = ((λ same. let yes : nat_eq e x.0 ≡ true = eq-eqb e x.0 (sym same) in absurd cc), found.none_before);
        }

-- the occurrence whose turn it is waits
waits_now : (order : List ℕ) (done e : ℕ) → slice_get order done ≡ Some e → is_waiting order done e ≡ true
waits_now [] done e here = absurd cc
waits_now (x ∷ order) zero e here = let same : x ≡ e = cc in rw (eq-eqb x e same) refl
waits_now (x ∷ order) (suc done) e here = waits_now order done e here

-- the node at which an occurrence begins
abbrev first_node : Option Occurrence → ℕ
first_node (Some o) = o.first
first_node None = 0

-- a term whose turn it is, and the other open terms
pub record IsTurn (order : List ℕ) (done : ℕ) (entries : List (ℕ × Front)) (f : Front) : Type 0 where
  pub before : List Open
  pub after : List Open
  pub opens_are : terms_of order done entries ≡ before ++ open_term f ∷ after
  pub later_are : terms_of order (done + 1) entries ≡ before ++ after
  pub here : slice_get order done ≡ Some f.node.place.occurrences

-- the line for the node below the term
abbrev pub Expands : List DeductionLine → List DeductionLine → Front → ℕ → Type 0
Expands old new f m =
    (hyps : List ℕ) (ty : SimpleType) (b lower : Term) → AreAssumptions old hyps → Proves old f.node.line hyps (said f.node.positive (quantified (expanding f.node.positive ty) ty b)) → IsNormalFormula lower (instance_of b (plain_term f.term.now))
    → Reaches 6 old new m hyps (said f.node.positive lower)

module _ (g : AcceptedProof) (accepted : IsAccepted g) (lines : List DeductionLine) (case : Case) (hyps : List ℕ) (done : ℕ) (state : IsState g lines case hyps [] done) (none : stacked case.splits ≡ []) where
  -- only terms are open
  only_terms : (k : ℕ) → opens_of g.order k case ≡ terms_of g.order k case.fronts.entries
  only_terms k = ap (λ (ns : List Node). map open_node ns ++ terms_of g.order k case.fronts.entries) none

  terms_case : IsCase g lines hyps (terms_of g.order done case.fronts.entries) case.held.entries done
  terms_case = subst (λ (os : List Open). IsCase g lines hyps os case.held.entries done) (only_terms done) state.is_case

  -- some term is open, so the order isn't over
  pub turn_within : done < length g.order
  turn_within = lt_of_not-le (λ past. none_open g lines hyps case.held.entries done (subst (λ (os : List Open). IsCase g lines hyps os case.held.entries done) (none_left g.order done case.fronts.entries past) terms_case))

  later : AllByRecursion (IsTermFrom g.order (done + 1)) (terms_of g.order (done + 1) case.fronts.entries)
  later = terms_wait g.order (done + 1) case.fronts.entries accepted.ordered.once state.keys

  -- no term was found at the occurrence whose turn it is
  pub turn_passes : (e : ℕ) → slice_get g.order done ≡ Some e → NonePasses (nat_eq e) case.fronts.entries
      → GoesOn g lines case lines case hyps [] (done + 1) (room (opens_of g.order done case)) (all_unwritten (opens_of g.order done case))
  turn_passes e here absent =
      let same = none_found g.order done e case.fronts.entries here (none_at e case.fronts.entries absent) in
      let passed : IsCase g lines hyps (terms_of g.order (done + 1) case.fronts.entries) case.held.entries (done + 1) =
      pass g accepted lines hyps (terms_of g.order (done + 1) case.fronts.entries) case.held.entries done (subst (λ (os : List Open). IsCase g lines hyps os case.held.entries done) (sym same) terms_case) later in
      let next : IsState g lines case hyps [] (done + 1) =
      record { stack = state.stack; splits = state.splits; keys = state.keys; is_case = subst (λ (os : List Open). IsCase g lines hyps os case.held.entries (done + 1)) (sym (only_terms (done + 1))) passed } in
      let as_many = ap all_unwritten (only_terms (done + 1) ∙ same ∙ sym (only_terms done)) in
      goes_on_freely g lines lines case case hyps [] (done + 1) (all_unwritten (opens_of g.order done case)) refl next (omega arith) (omega (arith, as_many))

  -- no other open term has the occurrence of one, in whose tree the occurrence's first node stands
  alone : (e : ℕ) (p : Occurrence) (xs : List (ℕ × Front)) → is_waiting g.order done e ≡ true → occurrence_at (occurrences_of g.fitted.tree) e ≡ Some p → AllByRecursion (λ (x : ℕ × Front). x.1.node.place.occurrences ≡ x.0) xs
      → AllByRecursion (HasLine g lines hyps) (terms_of g.order done xs) → times_inside p.first (terms_of g.order done xs) ≡ 0 → NoneAt e xs
  alone e p [] waits is keys lines_are nowhere = tt
  alone e p (x ∷ xs) waits is keys lines_are nowhere = go (is_waiting g.order done x.0) refl lines_are nowhere (alone e p xs waits is keys.1)
    where
      kept : List (ℕ × Front)
      kept = filter (λ (y : ℕ × Front). is_waiting g.order done y.0) xs

      open_terms : List (ℕ × Front) → List Open
      open_terms es = map (λ (y : ℕ × Front). open_term y.1) es

      inside_one : x.0 ≡ e → HasLine g lines hyps (open_term x.1) → inside p.first (open_term x.1) ≡ 1
      inside_one same line =
          let n = x.1.node in
          let first : n.place.node ≡ p.first = ap first_node (sym line.occurs ∙ ap (occurrence_at (occurrences_of g.fitted.tree)) (keys.0 ∙ same) ∙ is) in
          let some = node_and_below (plain_tree n.tree.now) in
          ap (λ k. within k n.place.node (node_count (plain_tree n.tree.now))) (sym first) ∙ within_first n.place.node (node_count (plain_tree n.tree.now)) (omega (arith, some))

      go : (b : Bool) → is_waiting g.order done x.0 ≡ b → AllByRecursion (HasLine g lines hyps) (open_terms (cond b (x ∷ kept) kept)) → times_inside p.first (open_terms (cond b (x ∷ kept) kept)) ≡ 0
          → (AllByRecursion (HasLine g lines hyps) (open_terms kept) → times_inside p.first (open_terms kept) ≡ 0 → NoneAt e xs) → NoneAt e (x ∷ xs)
      go true waiting h nowhere rest = ((λ same. let one = inside_one same h.0 in absurd (omega (arith, one, nowhere))), rest h.1 (omega (arith, nowhere)))
      go false over h nowhere rest = ((λ same. let waits_too : is_waiting g.order done x.0 ≡ true = ap (is_waiting g.order done) same ∙ waits in absurd cc), rest h nowhere)

  -- the term that was found at the occurrence whose turn it is
  pub turn_found : (e : ℕ) (f : Front) → slice_get g.order done ≡ Some e → lookup (nat_eq e) case.fronts.entries ≡ Some f → IsTurn g.order done case.fronts.entries f
  turn_found e f here found =
      let at = found_at e case.fronts.entries f found in
      let waits : is_waiting g.order done e ≡ true = waits_now g.order done e here in
      let keys = subst (AllByRecursion (λ (x : ℕ × Front). x.1.node.place.occurrences ≡ x.0)) at.entries_are state.keys in
      let key = all_behind (λ (x : ℕ × Front). x.1.node.place.occurrences ≡ x.0) at.before ((e, f) ∷ at.after) keys in
      let front : List Open = terms_of g.order done at.before in
      let back : List Open = terms_of g.order done at.after in
      let split : terms_of g.order done case.fronts.entries ≡ front ++ open_term f ∷ back =
      ap (terms_of g.order done) at.entries_are ∙ terms_apart g.order done at.before ((e, f) ∷ at.after) ∙ ap (λ os. front ++ os) (first_waits g.order done e f at.after waits) in
      let parted : IsCase g lines hyps (front ++ open_term f ∷ back) case.held.entries done = subst (λ (os : List Open). IsCase g lines hyps os case.held.entries done) split terms_case in
      let lines_are = all_behind (HasLine g lines hyps) front (open_term f ∷ back) parted.lines_are in
      let term : HasTermLine g lines hyps (plain_term f.term.now) (plain_node f.node) = lines_are.0 in
      let p : Occurrence = record { first = f.node.place.node; last = f.node.place.node + node_count (plain_tree f.node.tree.now) - 1; term = plain_term f.term.now } in
      let there : occurrence_at (occurrences_of g.fitted.tree) e ≡ Some p = ap (occurrence_at (occurrences_of g.fitted.tree)) (sym key.0) ∙ term.occurs in
      let some = node_and_below (plain_tree f.node.tree.now) in
      let inside_here : inside p.first (open_term f) ≡ 1 = within_first f.node.place.node (node_count (plain_tree f.node.tree.now)) (omega (arith, some)) in
      let once = parted.once p.first in
      let all = times_inside-append p.first front (open_term f ∷ back) in
      let none_after : NoneAt e at.after = alone e p at.after waits there key.1 lines_are.1 (omega (arith, inside_here, once, all)) in
      let turns = one_found g.order done e at.before at.after f here accepted.ordered.once at.none_before none_after in
      record {
        before = terms_of g.order (done + 1) at.before;
        after = terms_of g.order (done + 1) at.after;
        opens_are = ap (terms_of g.order done) at.entries_are ∙ turns.0;
        later_are = ap (terms_of g.order (done + 1)) at.entries_are ∙ turns.1;
        here = here ∙ ap Some (sym key.0);
      }

  module _ (f : Front) (it : IsTurn g.order done case.fronts.entries f) where
    term_first : IsCase g lines hyps (open_term f ∷ (it.before ++ it.after)) case.held.entries done
    term_first =
        moved g lines hyps it.before (open_term f ∷ []) it.after case.held.entries done
        (subst (λ (os : List Open). IsCase g lines hyps os case.held.entries done) (it.opens_are ∙ sym (append_assoc it.before (open_term f ∷ []) it.after)) terms_case)

    pub turn_line : HasTermLine g lines hyps (plain_term f.term.now) (plain_node f.node)
    turn_line = term_first.lines_are.0

    pub turn_reaches : (lines' : List DeductionLine) (m : ℕ) → Expands lines lines' f m → Reaches 6 lines lines' m hyps (said f.node.positive turn_line.lower)
    turn_reaches lines' m expands = expands hyps turn_line.ty turn_line.body turn_line.lower term_first.assumptions turn_line.proves turn_line.normal

    -- the node below it has a line, and is open in its place
    pub turn_goes_on : (lines' : List DeductionLine) (m : ℕ) → IsDeduction lines' → Expands lines lines' f m
        → GoesOn g lines case lines' case hyps (open_node (record { positive = f.node.positive; tree = f.node.tree; line = m; place = f.node.place }) ∷ []) (done + 1) (room (opens_of g.order done case)) (all_unwritten (opens_of g.order done case))
    turn_goes_on lines' m deduction expands =
        let node : Node = record { positive = f.node.positive; tree = f.node.tree; line = m; place = f.node.place } in
        let reached = turn_reaches lines' m expands in
        let u : Term = plain_term f.term.now in
        let upper : Term = quantified (expanding f.node.positive turn_line.ty) turn_line.ty turn_line.body in
        let turned : IsCase g lines' hyps (open_node node ∷ (it.before ++ it.after)) case.held.entries (done + 1) =
        turn g accepted lines lines' hyps u (plain_node f.node) m (it.before ++ it.after) case.held.entries done term_first (subst (AllByRecursion (IsTermFrom g.order (done + 1))) it.later_are later) it.here reached.grown deduction
        (λ ty b lower s says normal stands.
        let same = says_one lines f.node.line (said f.node.positive upper) (said f.node.positive (quantified (expanding f.node.positive ty) ty b)) (proves_says lines f.node.line hyps (said f.node.positive upper) turn_line.proves) says in
        (expands hyps ty b lower term_first.assumptions (subst (λ (a : Term). Proves lines f.node.line hyps a) same turn_line.proves) normal).proves) in
        let next : IsState g lines' case hyps (open_node node ∷ []) (done + 1) = record {
          stack = state.stack;
          splits = state.splits;
          keys = state.keys;
          is_case = subst (λ (os : List Open). IsCase g lines' hyps (open_node node ∷ os) case.held.entries (done + 1)) (sym (only_terms (done + 1) ∙ it.later_are)) turned;
        } in
        let old_opens = ap all_unwritten (only_terms done ∙ it.opens_are) ∙ unwritten_both it.before (open_term f ∷ it.after) in
        let new_opens = ap all_unwritten (only_terms (done + 1) ∙ it.later_are) ∙ unwritten_both it.before it.after in
        let less = node_and_below (plain_tree f.node.tree.now) in
        let few = reached.few in
        goes_on_by g lines lines' case case hyps (open_node node ∷ []) (done + 1) (all_unwritten (opens_of g.order done case)) [] hyps (sym (append-nil case.duties.items)) refl next (omega (arith, few)) (omega (arith, old_opens, new_opens, less))

-- Both facts of a call that gave a value.

pub ok_both : {X E : Type 0} (r : Result X E) (P Q : X → Type 0) (R : Type 0) → ((x : X) → R → P x → Q x) → OnOk r R → IfOk r P → IfOk r Q
ok_both (Ok x) P Q R f h k = f x h k
ok_both (Err e) P Q R f h k = tt

-- a case in which nothing was found
module _ (g : AcceptedProof) (case : Case) (cells : case.splits.cells.items ≡ []) (fronts : case.fronts.entries ≡ []) where
  none_stacked : stacked case.splits ≡ []
  none_stacked = ap (λ cs. chain_in (reverse cs) case.splits.top) cells

  pub nothing_found : opens_of g.order 0 case ≡ []
  nothing_found = ap₂ (λ (ns : List Node) (es : List (ℕ × Front)). map open_node ns ++ terms_of g.order 0 es) none_stacked fronts

  -- the hypothesis that the long normal form is false begins it
  pub first_state : IsAccepted g → (lines : List DeductionLine) (h : ℕ) (normal : Term) (root : Node) → IsDeduction lines → IsNormalFormula normal g.fitted.formula → Assumes lines h (negation_of normal)
      → case.splits.top ≡ 0 → case.held.entries ≡ [] → open_node root ≡ at_node (record { positive = true; tree = g.fitted.tree; line = h; place = root_place }) → IsState g lines case (h ∷ []) (open_node root ∷ []) 0
  first_state accepted lines h normal root deduction is_normal assumes top held is_root =
      let began = start g accepted lines h normal deduction is_normal assumes in
      record {
        stack = record { cells = subst (λ cs. AreCells (reverse cs)) (sym cells) tt; within = omega (arith, top) };
        splits = subst (AllByRecursion IsSplit) (sym none_stacked) tt;
        keys = subst (AllByRecursion (λ (x : ℕ × Front). x.1.node.place.occurrences ≡ x.0)) (sym fronts) tt;
        is_case =
            subst (λ (es : List (ℕ × ℕ)). IsCase g lines (h ∷ []) ((open_node root ∷ []) ++ opens_of g.order 0 case) es 0) (sym held)
            (subst (λ (os : List Open). IsCase g lines (h ∷ []) os [] 0) (sym (ap₂ (λ (x : Open) (os : List Open). x ∷ os) is_root nothing_found)) began);
      }

  -- it is closed within the room of the tree
  pub first_reaches : (old new : List DeductionLine) (n : ℕ) (hyps : List ℕ) (a : Term) (root : Node) → Reaches (room (open_node root ∷ opens_of g.order 0 case)) old new n hyps a → Reaches (24 * 2 ^ node_count (plain_tree root.tree.now)) old new n hyps a
  first_reaches old new n hyps a root h =
      let less = node_and_below (plain_tree root.tree.now) in
      let none = ap all_unwritten nothing_found in
      let most = power_most (below (plain_tree root.tree.now) + all_unwritten (opens_of g.order 0 case)) (node_count (plain_tree root.tree.now)) (omega (arith, less, none)) in
      let few = h.few in
      record { grown = h.grown; few = omega (arith, few, most); proves = h.proves }
