-- Whatever was read can be completed to a phrase, so reading stops at the first token that no phrase has there.
use Rattle.std.proofs.Common.{◌≡◌, ◌≢◌, ℕ, zero, suc, ◌<◌, true, List, [], ◌∷◌, ◌++◌, Option, Some, None, refl, sym, ◌∙◌, ap, subst, arith, append_assoc, codes, decimal, inl, inr}
use Rattle.hol_terms.specs.Names.{IsName}
use Rattle.hol_terms.specs.Terms.{SimpleType, Constant, base_type, forall, exists}
use Rattle.hol_terms.proofs.Naming.{numbered_is_name}
use Rattle.tps_reader.specs.Faults.{IsPhraseFault}
use Rattle.tps_reader.specs.Parsing.{DiesAt, EndsEarly, IsParseFault}
use Rattle.tps_reader.specs.Grammar.{BeginsFormula, IsFormula, OnlyBegins, StopsAt, joined, moved, truth_constant}
use Rattle.tps_reader.specs.Raws.{RawFormula, raw_constant, raw_variable}
use Rattle.tps_reader.specs.Tokens.{close_round, close_square, word, Token, token}
use Rattle.tps_reader.specs.Machine.{bind, Frame, open_bracket, open_dot, open_negation, open_binding, open_side, open_application, Target, for_variable, for_binding, for_quantifier, Mode, wanting, having, naming, binding, binding_name, typing, ending, State, begun, filled, finish_in, group_end, parsed, run, settled, step, wanted_rank, whole, with_atom}
use Rattle.tps_reader.specs.declared.faults.RawFault.{RawFault}
use Rattle.tps_reader.specs.declared.faults.RawFault.TheVariants.{NotUtf8, BadCharacter, TooDeep, Unexpected, Memory}
use Rattle.tps_reader.specs.declared.raws.Binder.{Binder}
use Rattle.tps_reader.specs.declared.raws.Binder.TheVariants as binder
use Rattle.tps_reader.specs.declared.raws.Infix.{Infix}
use Rattle.tps_reader.specs.declared.raws.Infix.TheVariants as joint
use Rattle.tps_reader.proofs.Meanings.{name_role}
use Rattle.tps_reader.proofs.Reached.{formula_parsed}
use Rattle.tps_reader.proofs.Running.{run_append, run_none, settled_one, settled_twice}
use Rattle.tps_reader.proofs.Sound.{Aims, Consumed, IsQuantifier, Sound, finish_sound, run_consumed}

-- some more tokens make a phrase
Completes : State → Type 0
Completes state = (ts : List Token) × (v : RawFormula) × (finish_in (run ts (Some state)) ≡ Some v)

step_completes : (state next : State) (t : Token) → step state t ≡ Some next → Completes next → Completes state
unfolding Completes
step_completes state next t e h = (t ∷ h.0, h.1, ap (λ s. finish_in (run h.0 s)) e ∙ h.2)

close : Token
close = token close_square 0 1

-- this many closing brackets
abbrev closing : ℕ → List Token
closing zero = []
closing (suc n) = token close_square 0 1 ∷ closing n

abbrev end_of : ℕ → List Frame → RawFormula → Option RawFormula
end_of n fs v = finish_in (run (closing n) (Some (fs, having v)))

same_end : (n : ℕ) (gs fs : List Frame) (w v : RawFormula) → settled 0 gs w ≡ settled 0 fs v → end_of n gs w ≡ end_of n fs v
same_end zero gs fs w v e = ap whole e
same_end (suc n) gs fs w v e = ap (λ (r : List Frame × RawFormula). finish_in (run (closing n) (group_end r.0 r.1))) e

some_rank : (op : Infix) (left : RawFormula) → 0 < wanted_rank (open_side op left)
some_rank joint.And left = omega arith
some_rank joint.Or left = omega arith
some_rank joint.Implies left = omega arith
some_rank joint.Equiv left = omega arith

atom_end : (n : ℕ) (fs : List Frame) (v : RawFormula) → end_of n (settled 6 fs v).0 (settled 6 fs v).1 ≡ end_of n fs v
atom_end n fs v = same_end n (settled 6 fs v).0 fs (settled 6 fs v).1 v (settled_twice fs v 0 6 (omega arith))

-- closing brackets close all groups
close_all : (fs : List Frame) (v : RawFormula) → (n : ℕ) × (u : RawFormula) × (end_of n fs v ≡ Some u)
close_all [] v = (0, v, refl)
close_all (open_bracket k ∷ fs) v = let r = close_all fs (moved k v) in (suc r.0, r.1, atom_end r.0 fs (moved k v) ∙ r.2)
close_all (open_dot k ∷ fs) v = let r = close_all fs (filled (open_dot k) v) in (r.0, r.1, same_end r.0 (open_dot k ∷ fs) fs v (filled (open_dot k) v) (settled_one (open_dot k) fs v 0 (omega arith)) ∙ r.2)
close_all (open_negation k ∷ fs) v =
    let r = close_all fs (filled (open_negation k) v) in (r.0, r.1, same_end r.0 (open_negation k ∷ fs) fs v (filled (open_negation k) v) (settled_one (open_negation k) fs v 0 (omega arith)) ∙ r.2)
close_all (open_binding b name ty k ∷ fs) v =
    let r = close_all fs (filled (open_binding b name ty k) v) in
    (r.0, r.1, same_end r.0 (open_binding b name ty k ∷ fs) fs v (filled (open_binding b name ty k) v) (settled_one (open_binding b name ty k) fs v 0 (omega arith)) ∙ r.2)
close_all (open_side op left ∷ fs) v =
    let r = close_all fs (filled (open_side op left) v) in
    (r.0, r.1, same_end r.0 (open_side op left ∷ fs) fs v (filled (open_side op left) v) (settled_one (open_side op left) fs v 0 (some_rank op left)) ∙ r.2)
close_all (open_application f ∷ fs) v =
    let r = close_all fs (filled (open_application f) v) in (r.0, r.1, same_end r.0 (open_application f ∷ fs) fs v (filled (open_application f) v) (settled_one (open_application f) fs v 0 (omega arith)) ∙ r.2)

having_completes : (fs : List Frame) (v : RawFormula) → Completes (fs, having v)
unfolding Completes
having_completes fs v = let r = close_all fs v in (closing r.0, r.1, r.2)

atom_completes : (fs : List Frame) (v : RawFormula) → Completes (with_atom fs v)
atom_completes fs v = having_completes (settled 6 fs v).0 (settled 6 fs v).1

truth_token : Token
truth_token = token (word (codes "TRUTH")) 0 5

wanting_completes : (fs : List Frame) → Completes (fs, wanting)
unfolding truth_token
wanting_completes fs = step_completes (fs, wanting) (with_atom fs (raw_constant (truth_constant true) 0)) truth_token refl (atom_completes fs (raw_constant (truth_constant true) 0))

naming_end : (n : ℕ) (fs : List Frame) (name : List ℕ) (here : ℕ) → finish_in (run (closing n) (Some (fs, naming name here))) ≡ end_of n fs (raw_variable name None here)
naming_end zero fs name here = refl
naming_end (suc n) fs name here = ap (λ (r : List Frame × RawFormula). finish_in (run (closing n) (group_end r.0 r.1))) (settled_twice fs (raw_variable name None here) 0 6 (omega arith))

naming_completes : (fs : List Frame) (name : List ℕ) (here : ℕ) → Completes (fs, naming name here)
unfolding Completes
naming_completes fs name here = let r = close_all fs (raw_variable name None here) in (closing r.0, r.1, naming_end r.0 fs name here ∙ r.2)

bound_completes : (fs : List Frame) (b : Binder) (name : List ℕ) (here : ℕ) → Completes (fs, binding_name b name here)
unfolding truth_token
bound_completes fs b name here =
    let gs : List Frame = open_binding b name None here ∷ fs in
    let v : RawFormula = raw_constant (truth_constant true) 0 in
    step_completes (fs, binding_name b name here) (with_atom gs v) truth_token refl (atom_completes gs v)

binding_completes : (fs : List Frame) (b : Binder) (here : ℕ) → Completes (fs, binding b here)
binding_completes fs b here =
    let name : List ℕ = 97 ∷ decimal 0 in
    let named : IsName name = numbered_is_name 0 (omega arith) in
    step_completes (fs, binding b here) (fs, binding_name b name here) (token (word name) 0 2) (ap (bind fs b here) (name_role name named)) (bound_completes fs b name here)

ending_completes : (fs : List Frame) (con : Constant) (here : ℕ) → Completes (fs, ending con here)
ending_completes fs con here = step_completes (fs, ending con here) (with_atom fs (raw_constant con here)) (token close_square 0 1) refl (atom_completes fs (raw_constant con here))

abbrev AimsAtType : Target → Type 0
AimsAtType (for_variable name place) = Unit {0}
AimsAtType (for_binding b name place) = Unit {0}
AimsAtType (for_quantifier b place) = IsQuantifier b

quantifier_completes : (fs : List Frame) (b : Binder) (place : ℕ) (ty : SimpleType) → IsQuantifier b → Completes (fs, typing (for_quantifier b place) (Some ty) [])
quantifier_completes fs binder.Forall place ty h = step_completes (fs, typing (for_quantifier binder.Forall place) (Some ty) []) (fs, ending (forall ty) place) (token close_round 0 1) refl (ending_completes fs (forall ty) place)
quantifier_completes fs binder.Exists place ty h = step_completes (fs, typing (for_quantifier binder.Exists place) (Some ty) []) (fs, ending (exists ty) place) (token close_round 0 1) refl (ending_completes fs (exists ty) place)
quantifier_completes fs binder.Lambda place ty h = absurd h

type_completes : (around : List (Option SimpleType)) (fs : List Frame) (target : Target) (ty : SimpleType) → AimsAtType target → Completes (fs, typing target (Some ty) around)
type_completes [] fs (for_variable name place) ty h =
    step_completes (fs, typing (for_variable name place) (Some ty) []) (with_atom fs (raw_variable name (Some ty) place)) (token close_round 0 1) refl (atom_completes fs (raw_variable name (Some ty) place))
type_completes [] fs (for_binding b name place) ty h =
    step_completes (fs, typing (for_binding b name place) (Some ty) []) (open_binding b name (Some ty) place ∷ fs, wanting) (token close_round 0 1) refl (wanting_completes (open_binding b name (Some ty) place ∷ fs))
type_completes [] fs (for_quantifier b place) ty h = quantifier_completes fs b place ty h
type_completes (outer ∷ around) fs target ty h =
    step_completes (fs, typing target (Some ty) (outer ∷ around)) (fs, typing target (Some (joined outer ty)) around) (token close_round 0 1) refl (type_completes around fs target (joined outer ty) h)

typing_completes : (around : List (Option SimpleType)) (fs : List Frame) (target : Target) (part : Option SimpleType) → AimsAtType target → Completes (fs, typing target part around)
typing_completes around fs target part h =
    step_completes (fs, typing target part around) (fs, typing target (Some (joined part (base_type 79))) around) (token (word (79 ∷ [])) 0 1) refl (type_completes around fs target (joined part (base_type 79)) h)

aims : (target : Target) (fs : List Frame) (own : List Token) → Aims target fs own → AimsAtType target
aims (for_variable name place) fs own h = tt
aims (for_binding b name place) fs own h = tt
aims (for_quantifier b place) fs own h = h.4

completes : (fs : List Frame) (mode : Mode) (ts : List Token) → Consumed fs mode ts → Completes (fs, mode)
completes fs wanting ts h = wanting_completes fs
completes fs (having v) ts h = having_completes fs v
completes fs (naming name here) ts h = naming_completes fs name here
completes fs (binding b here) ts h = binding_completes fs b here
completes fs (binding_name b name here) ts h = bound_completes fs b name here
completes fs (typing target part around) ts h = typing_completes around fs target part (aims target fs h.1 h.6)
completes fs (ending con here) ts h = ending_completes fs con here

-- what is read as a phrase is one
pub parsed_formula : (ts : List Token) (v : RawFormula) → parsed ts ≡ Some v → IsFormula ts v
parsed_formula ts v h = go (run ts (Some begun)) (run_consumed ts) h
  where
    go : (found : Option State) → Sound found ts → finish_in found ≡ Some v → IsFormula ts v
    go None s h = cc
    go (Some (fs, mode)) s h = finish_sound fs mode ts v s h

-- what is read begins a phrase
begins : (ts : List Token) (state : State) → run ts (Some begun) ≡ Some state → BeginsFormula ts
unfolding Completes
begins ts (fs, mode) h =
    let c = completes fs mode ts (subst (λ (found : Option State). Sound found ts) h (run_consumed ts)) in
    (c.0, c.1, parsed_formula (ts ++ c.0) c.1 (ap finish_in (run_append ts c.0 (Some begun) ∙ ap (run c.0) h) ∙ c.2))

stops_at : (ts : List Token) (place : ℕ) → DiesAt ts place → StopsAt ts place
stops_at ts place h = record {
  before = h.before;
  s = h.s;
  long = h.long;
  after = h.after;
  parts = h.parts;
  begins = begins h.before h.state h.runs;
  stops = λ b.
      let t : Token = token h.s place h.long in
      let read : parsed ((h.before ++ (t ∷ [])) ++ b.0) ≡ Some b.1 = formula_parsed ((h.before ++ (t ∷ [])) ++ b.0) b.1 b.2 in
      let dead : run ((h.before ++ (t ∷ [])) ++ b.0) (Some begun) ≡ None =
      run_append (h.before ++ (t ∷ [])) b.0 (Some begun) ∙ ap (run b.0) (run_append h.before (t ∷ []) (Some begun) ∙ ap (run (t ∷ [])) h.runs ∙ h.dies) ∙ run_none b.0 in
      let clash : Some b.1 ≡ None = sym read ∙ ap finish_in dead in
      cc;
}

only_begins : (ts : List Token) → EndsEarly ts → OnlyBegins ts
only_begins ts h = record {
  begins = begins ts h.state h.runs;
  none = λ v f. let clash : Some v ≡ None = sym (formula_parsed ts v f) ∙ ap finish_in h.runs ∙ h.open_end in cc;
}

pub phrase_fault : (ts : List Token) (last : ℕ) (fault : RawFault) → IsParseFault ts last fault → IsPhraseFault ts last fault
phrase_fault ts last NotUtf8 h = h
phrase_fault ts last (BadCharacter place) h = h
phrase_fault ts last (TooDeep depth) h = h
phrase_fault ts last (Unexpected place) (inl h) = inl (stops_at ts place h)
phrase_fault ts last (Unexpected place) (inr h) = inr (h.0, only_begins ts h.1)
phrase_fault ts last Memory h = tt

-- tokens with a fault are no phrase
pub no_phrase : (ts : List Token) (last : ℕ) (fault : RawFault) (v : RawFormula) → IsPhraseFault ts last fault → fault ≢ Memory → IsFormula ts v → ⊥
no_phrase ts last NotUtf8 v h real f = h
no_phrase ts last (BadCharacter place) v h real f = h
no_phrase ts last (TooDeep depth) v h real f = h
no_phrase ts last (Unexpected place) v (inl h) real f =
    let t : Token = token h.s place h.long in
    let e : ts ≡ (h.before ++ (t ∷ [])) ++ h.after = h.parts ∙ sym (append_assoc h.before (t ∷ []) h.after) in
    h.stops (h.after, v, subst (λ (ts : List Token). IsFormula ts v) e f)
no_phrase ts last (Unexpected place) v (inr h) real f = h.1.none v f
no_phrase ts last Memory v h real f = real refl

-- tokens are one phrase at most
pub one_phrase : (ts : List Token) (v w : RawFormula) → IsFormula ts v → IsFormula ts w → w ≡ v
one_phrase ts v w g h = let same : Some w ≡ Some v = sym (formula_parsed ts w h) ∙ formula_parsed ts v g in cc
