-- How steps of a case go on from one to the next.
use Rattle.std.proofs.Common.{◌≡◌, ◌≤◌, ◌<◌, ℕ, ◌+◌, ◌*◌, ◌^◌, List, [], ◌∷◌, ◌++◌, length, length-append, append_assoc, append-nil, Option, Some, None, refl, sym, ◌∙◌, ap, arith}
use Rattle.std.specs.Prelude.{Result, Ok, Err, IfOk, OnOk}
use Rattle.std.proofs.lemmas.Result.{IfOk-weaker}
use Rattle.hol_terms.specs.Terms.{constant, falsehood}
use Rattle.exp_check.specs.Accepted.{AcceptedProof}
use Rattle.nd_rules.specs.Lines.{DeductionLine}
use Rattle.nd_steps.specs.Deductions.{Proves, AreAssumptions, Grows}
use Rattle.nd_steps.proofs.Growing.{grows_on}
use Rattle.refutations.specs.declared.duties.Duty.{Duty}
use Rattle.refutations.specs.declared.cases.Case.{Case}
use Rattle.refutations.specs.Opens.{Open, all_unwritten}
use Rattle.refutations.specs.Duties.{AreDuties}
use Rattle.refutations.specs.States.{IsState, opens_of, room, HasMore, IsClosed, GoesOn, IsSpreadBy, Spreads}
use Rattle.refutations.proofs.Owing.{duties_stay, duties_on, assumed_before}
use Rattle.refutations.proofs.Rooms.{power_less, power_most, power_positive}

-- Lists that got longer, and longer again

pub has_more_then : (old mid new : Case) → HasMore old mid → HasMore mid new → HasMore old new
has_more_then old mid new h k = record {
  splits = (h.splits.0 ++ k.splits.0, k.splits.1 ∙ ap (λ cs. cs ++ k.splits.0) h.splits.1 ∙ append_assoc old.splits.cells.items h.splits.0 k.splits.0);
  fronts = (h.fronts.0 ++ k.fronts.0, k.fronts.1 ∙ ap (λ cs. cs ++ k.fronts.0) h.fronts.1 ∙ append_assoc old.fronts.entries h.fronts.0 k.fronts.0);
  held = (h.held.0 ++ k.held.0, k.held.1 ∙ ap (λ cs. cs ++ k.held.0) h.held.1 ∙ append_assoc old.held.entries h.held.0 k.held.0);
}

module _ (g : AcceptedProof) (old mid new : List DeductionLine) (case between next : Case) (hyps : List ℕ) (others : List Open) (reached done : ℕ) (budget most : ℕ) where
  spent_then : (ds es : List Duty) → between.duties.items ≡ case.duties.items ++ ds → next.duties.items ≡ between.duties.items ++ es → next.duties.items ≡ case.duties.items ++ (ds ++ es)
  spent_then ds es e f = f ∙ ap (λ (xs : List Duty). xs ++ es) e ∙ append_assoc case.duties.items ds es

  -- a case that went on and is closed then, or goes on
  pub goes_on_then : (rest : List Open) (r : Option ℕ) (first : GoesOn g old case mid between hyps rest reached budget most) → Grows mid new
      → IsSpreadBy g mid between new next first.more others done (room (rest ++ opens_of g.order reached between)) (all_unwritten (rest ++ opens_of g.order reached between)) r
      → IsSpreadBy g old case new next hyps others done budget most r
  goes_on_then rest None first grown second = record {
    added = first.added ++ second.added;
    all_are = spent_then first.added second.added first.all_are second.all_are;
    more = second.more;
    are_duties = duties_on new hyps first.added second.added first.more second.more (duties_stay mid new hyps first.added first.more grown (assumed_before mid hyps first.added first.more first.are_duties first.state.is_case.assumptions) first.are_duties) second.are_duties;
    state = second.state;
    few = let one = first.few in let two = second.few in omega (arith, one, two);
    fewer = let one = first.fewer in let two = second.fewer in omega (arith, one, two);
  }
  goes_on_then rest (Some n) first grown second = record {
    added = first.added ++ second.added;
    all_are = spent_then first.added second.added first.all_are second.all_are;
    more = second.more;
    are_duties = duties_on new hyps first.added second.added first.more second.more (duties_stay mid new hyps first.added first.more grown (assumed_before mid hyps first.added first.more first.are_duties first.state.is_case.assumptions) first.are_duties) second.are_duties;
    assumptions = second.assumptions;
    few = let one = first.few in let two = second.few in omega (arith, one, two);
    proves = second.proves;
  }

module _ (g : AcceptedProof) (old mid : List DeductionLine) (case next : Case) (hyps : List ℕ) (others : List Open) (done most : ℕ) where
  -- a step that leaves fewer nodes without a line, and costs at most 24 lines with those for its duties
  pub goes_on_by : (added : List Duty) (more : List ℕ) → next.duties.items ≡ case.duties.items ++ added → AreDuties mid hyps added more → IsState g mid next more others done → length mid + 4 * length added ≤ length old + 24
      → all_unwritten (others ++ opens_of g.order done next) < most → GoesOn g old case mid next hyps others done (24 * 2 ^ most) most
  goes_on_by added more all_are are_duties state cost less = record {
    added = added;
    all_are = all_are;
    more = more;
    are_duties = are_duties;
    state = state;
    few =
        let half = power_less (all_unwritten (others ++ opens_of g.order done next)) most less in
        let some = power_positive (all_unwritten (others ++ opens_of g.order done next)) in
        let many = ap length all_are ∙ length-append case.duties.items added in
        omega (arith, half, some, many, cost);
    fewer = omega (arith, less);
  }

  -- a step that costs no line
  pub goes_on_freely : next.duties.items ≡ case.duties.items → IsState g mid next hyps others done → length mid ≤ length old → all_unwritten (others ++ opens_of g.order done next) ≤ most → GoesOn g old case mid next hyps others done (24 * 2 ^ most) most
  goes_on_freely same state cost fewer = record {
    added = [];
    all_are = same ∙ sym (append-nil case.duties.items);
    more = hyps;
    are_duties = refl;
    state = state;
    few = let less = power_most (all_unwritten (others ++ opens_of g.order done next)) most fewer in let many = ap length same in omega (arith, less, many, cost);
    fewer = fewer;
  }

-- a line of FALSEHOOD
pub closed_by : (old new : List DeductionLine) (case next : Case) (hyps : List ℕ) (n most : ℕ) → next.duties.items ≡ case.duties.items → AreAssumptions new hyps → length new ≤ length old + 24 → Proves new n hyps (constant falsehood)
    → IsClosed old case.duties.items new next.duties.items hyps (24 * 2 ^ most) n
closed_by old new case next hyps n most same assumptions cost proves = record {
  added = [];
  all_are = same ∙ sym (append-nil case.duties.items);
  more = hyps;
  are_duties = refl;
  assumptions = assumptions;
  few = let some = power_positive most in let many = ap length same in omega (arith, some, many, cost);
  proves = proves;
}

-- a step of a case, and then what comes of the next open one
pub spreads_then : {E : Type 0} (r : Result (Option ℕ) E) (g : AcceptedProof) (old mid new : List DeductionLine) (case between next : Case) (x y : Open) (ys : List Open)
    → ((hyps : List ℕ) (others : List Open) (done : ℕ) → IsState g old case hyps (x ∷ others) done
    → GoesOn g old case mid between hyps (y ∷ ys ++ others) done (room (x ∷ others ++ opens_of g.order done case)) (all_unwritten (x ∷ others ++ opens_of g.order done case)))
    → IfOk r (λ o. (hyps : List ℕ) (others : List Open) (done : ℕ) (budget most : ℕ) (first : GoesOn g old case mid between hyps (y ∷ ys ++ others) done budget most) → IsSpreadBy g old case new next hyps others done budget most o)
    → IfOk r (Spreads g old case new next x)
spreads_then r g old mid new case between next x y ys step h =
    IfOk-weaker r (λ o. (hyps : List ℕ) (others : List Open) (done : ℕ) (budget most : ℕ) (first : GoesOn g old case mid between hyps (y ∷ ys ++ others) done budget most) → IsSpreadBy g old case new next hyps others done budget most o)
    (Spreads g old case new next x)
    (λ o k hyps others done state. k hyps others done (room (x ∷ others ++ opens_of g.order done case)) (all_unwritten (x ∷ others ++ opens_of g.order done case)) (step hyps others done state)) h

-- the next open one alone
pub alone_then : {E : Type 0} (r : Result (Option ℕ) E) (g : AcceptedProof) (old mid new : List DeductionLine) (case between next : Case) (y : Open) → IfOk r (Spreads g mid between new next y) → OnOk r (Grows mid new)
    → IfOk r (λ o. (hyps : List ℕ) (others : List Open) (done : ℕ) (budget most : ℕ) (first : GoesOn g old case mid between hyps (y ∷ others) done budget most) → IsSpreadBy g old case new next hyps others done budget most o)
alone_then (Ok o) g old mid new case between next y h grown = λ hyps others done budget most first.
    goes_on_then g old mid new case between next hyps others done done budget most (y ∷ others) o first grown (h first.more others done first.state)
alone_then (Err e) g old mid new case between next y h grown = tt

pub on_ok_grows : {T E : Type 0} (r : Result T E) (old mid new : List DeductionLine) → Grows old mid → OnOk r (Grows mid new) → OnOk r (Grows old new)
on_ok_grows (Ok x) old mid new g h = grows_on old mid new g h
on_ok_grows (Err e) old mid new g h = tt
