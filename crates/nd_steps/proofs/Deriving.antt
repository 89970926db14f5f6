-- Steps that are made of others.
use Rattle.std.proofs.Common.{◌≡◌, ℕ, zero, ◌+◌, List, [], ◌∷◌, ◌++◌, length, Some, refl, sym, ◌∙◌, ap, subst, arith, inl, inr}
use Rattle.std.specs.Prelude.{All, Contains, Result, Ok, Err, IfOk, OnErr}
use Rattle.std.specs.Option.{option_map}
use Rattle.std.proofs.lemmas.List.Elements.{recursion_from_All, All-from_recursion, All-weaker, All-push, All-contains_itself, Contains-append_left, Contains-append_right, Contains-push}
use Rattle.std.proofs.lemmas.Result.{IfOk-weaker}
use Rattle.hol_terms.specs.Lists.{IsAboveLast}
use Rattle.hol_terms.specs.Terms.{SimpleType, function_type, Term, constant, falsehood, truth_type, free}
use Rattle.hol_terms.specs.Typing.{Typed, IsFormula}
use Rattle.hol_terms.specs.Indices.{instance_of}
use Rattle.hol_terms.specs.Truth.{Holds, Follows}
use Rattle.hol_terms.proofs.Truths.{holds_or_not}
use Rattle.hol_conv.specs.Conversion.{Conv}
use Rattle.hol_conv.proofs.Uniqueness.{conv-sym}
use Rattle.nd_rules.specs.Lines.{Justification, hypothesis, DeductionLine, line_of}
use Rattle.nd_rules.specs.Rules.{implies, universal}
use Rattle.nd_steps.specs.Deductions.{IsNumberedFrom, IsDeduction, Assumes, Proves, AreAssumptions, Grows, next_line, AddsLine, IsNextJustified, Derives}
use Rattle.nd_steps.specs.Premises.{FollowsFrom, Instantiates, Generalizes, Converts, not_so, either, InstantiatesTo, Contradicts, DeniesUniversal}
use Rattle.nd_steps.proofs.Forming.{assumed_formed}
use Rattle.nd_steps.proofs.Growing.{grows_on, same_grows, proves_stays, assumes_stays, assumptions_stay, free_in_none_stays, proves_from_more}
use Rattle.nd_steps.proofs.Justifying.{assume_justified}
use Rattle.nd_steps.proofs.Numbering.{found_last, numbered_within}

-- One step after another

pub derives_then : (i j k : ℕ) (old mid new : List DeductionLine) (m n : ℕ) (hyps others : List ℕ) (a b : Term) → i + j ≡ k → Derives i old mid m hyps a → Derives j mid new n others b → Derives k old new n others b
derives_then i j k old mid new m n hyps others a b sum d e = record {
  grown = grows_on old mid new d.grown e.grown;
  longer = omega (arith, sum, d.longer, e.longer);
  last = e.last;
  proves = e.proves;
}

pub ok_derives_then : {E : Type 0} (r : Result ℕ E) (i j k : ℕ) (old mid new : List DeductionLine) (m : ℕ) (hyps others : List ℕ) (a b : Term) → i + j ≡ k → Derives i old mid m hyps a → IfOk r (λ n. Derives j mid new n others b) → IfOk r (λ n. Derives k old new n others b)
ok_derives_then r i j k old mid new m hyps others a b sum d h =
    IfOk-weaker r (λ n. Derives j mid new n others b) (λ n. Derives k old new n others b) (λ n e. derives_then i j k old mid new m n hyps others a b sum d e) h

-- Whether a step adds its line or not, the lines from before stay.
pub step_grows : {E : Type 0} (r : Result ℕ E) (k : ℕ) (old new : List DeductionLine) (hyps : List ℕ) (formula : Term) → IfOk r (λ n. Derives k old new n hyps formula) → OnErr r (new ≡ old) → Grows old new
step_grows (Ok n) k old new hyps formula derives same = derives.grown
step_grows (Err e) k old new hyps formula derives same = same_grows old new same

pub step_grows_on : {E : Type 0} (r : Result ℕ E) (k : ℕ) (old mid new : List DeductionLine) (hyps : List ℕ) (formula : Term) → Grows old mid → IfOk r (λ n. Derives k mid new n hyps formula) → OnErr r (new ≡ mid) → Grows old new
step_grows_on r k old mid new hyps formula grown derives same = grows_on old mid new grown (step_grows r k mid new hyps formula derives same)

-- P

pub own_justified : (lines : List DeductionLine) (d : IsDeduction lines) (n : ℕ) (own : List ℕ) (formula : Term) → n ≡ length lines + 1 → own ≡ n ∷ [] → IsNextJustified lines own formula hypothesis
own_justified lines d n own formula next e =
    let P : List ℕ → Type 0 = λ hs. IsNextJustified lines hs formula hypothesis in
    subst P (sym e) (assume_justified lines d n formula next)

pub ok_assumes : {E : Type 0} (r : Result ℕ E) (old new : List DeductionLine) (hyps : List ℕ) (formula : Term) → IsDeduction old → IfOk r (λ n. AddsLine old new n hyps formula hypothesis) → IfOk r (λ n. Assumes new n formula)
ok_assumes r old new hyps formula d h = IfOk-weaker r (λ n. AddsLine old new n hyps formula hypothesis) (λ n. Assumes new n formula) each h
  where
    each : (n : ℕ) → AddsLine old new n hyps formula hypothesis → Assumes new n formula
    each n a = record {
      line = next_line old hyps formula hypothesis;
      found = ap (λ (ls : List DeductionLine). line_of ls n) a.lines ∙ found_last 1 old (next_line old hyps formula hypothesis) n d.numbered (sym a.number) (omega (arith, a.number));
      assumed = refl;
      says = refl;
    }

numbered_front : (k : ℕ) (xs ys : List DeductionLine) → IsNumberedFrom k (xs ++ ys) → IsNumberedFrom k xs
numbered_front k [] ys h = tt
numbered_front k (x ∷ xs) ys h = (h.0, numbered_front (k + 1) xs ys h.1)

-- the new line's number is above the hypotheses
pub above_assumptions : (old new : List DeductionLine) (n : ℕ) (hyps own : List ℕ) (formula : Term) (why : Justification) → IsDeduction new → AddsLine old new n own formula why → AreAssumptions old hyps → IsAboveLast hyps n
above_assumptions old new n hyps own formula why d a assumed k last =
    let numbered : IsNumberedFrom 1 old = numbered_front 1 old (next_line old own formula why ∷ []) (subst (IsNumberedFrom 1) a.lines d.numbered) in
    let held = assumed k 0 (omega (arith, last)) in
    let within = numbered_within 1 old _ held.1.line numbered held.1.found in
    omega (arith, within, a.number)

pub assumptions_with : (old new : List DeductionLine) (n : ℕ) (hyps more : List ℕ) (formula : Term) → Grows old new → AreAssumptions old hyps → Assumes new n formula → more ≡ hyps ++ n ∷ [] → AreAssumptions new more
assumptions_with old new n hyps more formula g assumed a e =
    subst (AreAssumptions new) (sym e) (All-push (λ h. (t : Term) × Assumes new h t) hyps n (assumptions_stay old new hyps g assumed) (formula, a))

-- what a hypothesis proves from itself and others
pub derives_with : (old new : List DeductionLine) (n : ℕ) (hyps more : List ℕ) (formula : Term) → Derives 1 old new n (n ∷ []) formula → more ≡ hyps ++ n ∷ [] → Derives 1 old new n more formula
derives_with old new n hyps more formula d e =
    let P : List ℕ → Type 0 = λ ns. Proves new n ns formula in
    record {
      grown = d.grown;
      longer = d.longer;
      last = d.last;
      proves = subst P (sym e) (proves_from_more new n (n ∷ []) (hyps ++ n ∷ []) formula (All-from_recursion (Contains (hyps ++ n ∷ [])) (n ∷ []) (Contains-push hyps n, tt)) d.proves);
    }

-- RULEP from one, two and three sources

pub from_one : (lines : List DeductionLine) (hyps sources : List ℕ) (n : ℕ) (formula : Term) → sources ≡ n ∷ [] → ((a : Term) × Proves lines n hyps a × Follows (a ∷ []) formula) → FollowsFrom lines hyps sources formula
from_one lines hyps sources n formula e h =
    let P : List ℕ → Type 0 = λ ns. FollowsFrom lines hyps ns formula in
    let made : FollowsFrom lines hyps (n ∷ []) formula = record { premises = h.0 ∷ []; proved = (h.0, h.1, [], refl, refl); follows = h.2 } in
    subst P (sym e) made

pub from_two : (lines : List DeductionLine) (hyps sources : List ℕ) (m n : ℕ) (formula : Term) → sources ≡ m ∷ n ∷ [] → ((a : Term) × (b : Term) × Proves lines m hyps a × Proves lines n hyps b × Follows (a ∷ b ∷ []) formula) → FollowsFrom lines hyps sources formula
from_two lines hyps sources m n formula e h =
    let P : List ℕ → Type 0 = λ ns. FollowsFrom lines hyps ns formula in
    let made : FollowsFrom lines hyps (m ∷ n ∷ []) formula = record { premises = h.0 ∷ h.1 ∷ []; proved = (h.0, h.2, h.1 ∷ [], (h.1, h.3, [], refl, refl), refl); follows = h.4 } in
    subst P (sym e) made

pub from_three : (lines : List DeductionLine) (hyps sources : List ℕ) (m n k : ℕ) (formula : Term) → sources ≡ m ∷ n ∷ k ∷ []
    → ((a : Term) × (b : Term) × (c : Term) × Proves lines m hyps a × Proves lines n hyps b × Proves lines k hyps c × Follows (a ∷ b ∷ c ∷ []) formula) → FollowsFrom lines hyps sources formula
from_three lines hyps sources m n k formula e h =
    let P : List ℕ → Type 0 = λ ns. FollowsFrom lines hyps ns formula in
    let made : FollowsFrom lines hyps (m ∷ n ∷ k ∷ []) formula = record { premises = h.0 ∷ h.1 ∷ h.2 ∷ []; proved = (h.0, h.3, h.1 ∷ h.2 ∷ [], (h.1, h.4, h.2 ∷ [], (h.2, h.5, [], refl, refl), refl), refl); follows = h.6 } in
    subst P (sym e) made

-- What follows by assignments

pub by_double_negation : (a : Term) → Follows (implies (not_so a) (constant falsehood) ∷ []) a
by_double_negation a atoms h =
    let given = (recursion_from_All (Holds atoms) (implies (not_so a) (constant falsehood) ∷ []) h).0 in
    elim (holds_or_not atoms a) [ inl yes_so ↦ yes_so | inr not ↦ absurd (given not) ]

pub by_falsehood : (a : Term) → Follows (implies a (constant falsehood) ∷ []) (not_so a)
by_falsehood a atoms h = (recursion_from_All (Holds atoms) (implies a (constant falsehood) ∷ []) h).0

pub by_opposites : (a : Term) → Follows (not_so a ∷ a ∷ []) (constant falsehood)
by_opposites a atoms h = let given = recursion_from_All (Holds atoms) (not_so a ∷ a ∷ []) h in given.0 given.1.0

pub by_cases : (c a b : Term) → Follows (c ∷ []) (either a b) → Follows (c ∷ implies a (constant falsehood) ∷ implies b (constant falsehood) ∷ []) (constant falsehood)
by_cases c a b follows atoms h =
    let given = recursion_from_All (Holds atoms) (c ∷ implies a (constant falsehood) ∷ implies b (constant falsehood) ∷ []) h in
    elim (follows atoms (All-from_recursion (Holds atoms) (c ∷ []) (given.0, tt))) [ inl x ↦ given.1.0 x | inr y ↦ given.1.1.0 y ]

-- What was read from a line

pub assumed_read : (lines : List DeductionLine) (n : ℕ) (a t : Term) → Assumes lines n a → option_map (λ (l : DeductionLine). l.formula) (line_of lines n) ≡ Some t → t ≡ a
assumed_read lines n a t p e =
    let read : Some p.line.formula ≡ Some t = sym (ap (option_map (λ (l : DeductionLine). l.formula)) p.found) ∙ e in
    let here : t ≡ p.line.formula = cc in
    here ∙ p.says

pub proved_read : (lines : List DeductionLine) (n : ℕ) (hyps : List ℕ) (a t : Term) → Proves lines n hyps a → option_map (λ (l : DeductionLine). l.formula) (line_of lines n) ≡ Some t → t ≡ a
proved_read lines n hyps a t p e =
    let read : Some p.line.formula ≡ Some t = sym (ap (option_map (λ (l : DeductionLine). l.formula)) p.found) ∙ e in
    let here : t ≡ p.line.formula = cc in
    here ∙ p.says

pub one_negated : (a b : Term) → not_so a ≡ not_so b → a ≡ b
one_negated a b e = cc

-- Contradictions

negated_formed : (a : Term) → IsFormula (not_so a) → IsFormula a
negated_formed a h =
    let whole : function_type truth_type truth_type ≡ function_type truth_type h.0 = h.1 in
    let same : h.0 ≡ truth_type = cc in
    subst (λ (s : SimpleType). Typed [] a s) same h.2

-- what stays after a step
pub contradicts_stays : (old new : List DeductionLine) (hyps : List ℕ) (h n : ℕ) (a : Term) → Grows old new → Contradicts old hyps h n a → Contradicts new hyps h n a
contradicts_stays old new hyps h n a g c = record { assumed = assumes_stays old new h a g c.assumed; proved = proves_stays old new n (h ∷ hyps) (constant falsehood) g c.proved }

-- NOT A, contradicted: A is a formula
pub contradicted_formed : (old new : List DeductionLine) (hyps : List ℕ) (h n : ℕ) (a : Term) → IsDeduction new → Grows old new → Contradicts old hyps h n (not_so a) → IsFormula a
contradicted_formed old new hyps h n a d g c = negated_formed a (assumed_formed new d h (not_so a) (assumes_stays old new h (not_so a) g c.assumed))

-- the lists of hypotheses with one more
with_last : (h : ℕ) (hyps : List ℕ) → All (Contains (hyps ++ h ∷ [])) hyps
with_last h hyps = All-weaker (Contains hyps) (Contains (hyps ++ h ∷ [])) (λ k held. Contains-append_left hyps (h ∷ []) k held) hyps (All-contains_itself hyps)

last_first : (h : ℕ) (hyps : List ℕ) → All (Contains (h ∷ hyps)) (hyps ++ h ∷ [])
last_first h hyps =
    All-push (Contains (h ∷ hyps)) hyps h
    (All-weaker (Contains hyps) (Contains (h ∷ hyps)) (λ k held. Contains-append_right (h ∷ []) hyps k held) hyps (All-contains_itself hyps))
    (zero, omega arith, refl)

pub proves_with : (lines : List DeductionLine) (n h : ℕ) (hyps more : List ℕ) (a : Term) → more ≡ hyps ++ h ∷ [] → Proves lines n hyps a → Proves lines n more a
proves_with lines n h hyps more a e p =
    let P : List ℕ → Type 0 = λ ns. All (Contains ns) hyps in
    proves_from_more lines n hyps more a (subst P (sym e) (with_last h hyps)) p

-- what is proved with one hypothesis more contradicts it
pub contradicts_with : (old new : List DeductionLine) (hyps more : List ℕ) (h n : ℕ) (a f : Term) → more ≡ hyps ++ h ∷ [] → f ≡ constant falsehood → Grows old new → Assumes old h a → Proves new n more f → Contradicts new hyps h n a
contradicts_with old new hyps more h n a f e is g assumed proved =
    let P : Term → Type 0 = λ t. Proves new n (h ∷ hyps) t in
    record {
      assumed = assumes_stays old new h a g assumed;
      proved = subst P is (proves_from_more new n more (h ∷ hyps) f (subst (All (Contains (h ∷ hyps))) (sym e) (last_first h hyps)) proved);
    }

-- NOT A and A
pub opposed : (lines : List DeductionLine) (hyps : List ℕ) (m n : ℕ) (a b f : Term) → b ≡ a → f ≡ constant falsehood → Proves lines m hyps (not_so a) → Proves lines n hyps b
    → (x : Term) × (y : Term) × Proves lines m hyps x × Proves lines n hyps y × Follows (x ∷ y ∷ []) f
opposed lines hyps m n a b f e is p q =
    let P : Term → Type 0 = λ t. Proves lines n hyps t in
    let Q : Term → Type 0 = λ t. Follows (not_so a ∷ a ∷ []) t in
    (not_so a, a, p, subst P e q, subst Q (sym is) (by_opposites a))

-- the A of NOT A, copied from a line
pub negated_read : (lines : List DeductionLine) (n : ℕ) (hyps : List ℕ) (a t u v : Term) → Proves lines n hyps (not_so a) → option_map (λ (l : DeductionLine). l.formula) (line_of lines n) ≡ Some t → t ≡ not_so u → v ≡ u → v ≡ a
negated_read lines n hyps a t u v p e split copy = copy ∙ one_negated u a (sym split ∙ proved_read lines n hyps (not_so a) t p e)

pub negated_assumed : (lines : List DeductionLine) (n : ℕ) (a t u v : Term) → Assumes lines n (not_so a) → option_map (λ (l : DeductionLine). l.formula) (line_of lines n) ≡ Some t → t ≡ not_so u → v ≡ u → v ≡ a
negated_assumed lines n a t u v p e split copy = copy ∙ one_negated u a (sym split ∙ assumed_read lines n (not_so a) t p e)

-- UI and LAMBDA

pub reads_universal : (lines : List DeductionLine) (hyps : List ℕ) (n : ℕ) (term formula t instance : Term) → InstantiatesTo lines hyps n term formula → option_map (λ (l : DeductionLine). l.formula) (line_of lines n) ≡ Some t
    → ((s : SimpleType) (b : Term) → t ≡ universal s b → instance ≡ instance_of b term) → Instantiates lines hyps n term instance
reads_universal lines hyps n term formula t instance c e made =
    record { ty = c.ty; body = c.body; proved = c.proved; typed = c.typed; is = made c.ty c.body (proved_read lines n hyps (universal c.ty c.body) t c.proved e) }

-- a convertible formula, after the step that proved its instance
pub converts_back : (lines : List DeductionLine) (hyps : List ℕ) (n : ℕ) (given formula instance : Term) → Proves lines n hyps formula → Conv [] truth_type given formula → instance ≡ given → Converts lines hyps n instance
converts_back lines hyps n given formula instance p conv e =
    let P : Term → Type 0 = λ t. Conv [] truth_type formula t in
    record { given = formula; proved = p; converted = subst P (sym e) (conv-sym [] truth_type given formula conv) }

-- Two cases

pub splits : (lines : List DeductionLine) (hyps : List ℕ) (n m k : ℕ) (c a b f : Term) → f ≡ constant falsehood → Follows (c ∷ []) (either a b) → Proves lines n hyps c → Proves lines m hyps (implies a (constant falsehood)) → Proves lines k hyps (implies b (constant falsehood))
    → (x : Term) × (y : Term) × (z : Term) × Proves lines n hyps x × Proves lines m hyps y × Proves lines k hyps z × Follows (x ∷ y ∷ z ∷ []) f
splits lines hyps n m k c a b f is follows p q r =
    let P : Term → Type 0 = λ t. Follows (c ∷ implies a (constant falsehood) ∷ implies b (constant falsehood) ∷ []) t in
    (c, implies a (constant falsehood), implies b (constant falsehood), p, q, r, subst P (sym is) (by_cases c a b follows))

-- NOT ALL

pub generalizes : (old new : List DeductionLine) (hyps : List ℕ) (source hyp contradiction n : ℕ) (name : List ℕ) (a u : Term) (p : DeniesUniversal old hyps source hyp contradiction name) → Grows old new → AreAssumptions old hyps
    → a ≡ instance_of p.body (free name p.ty) → u ≡ universal p.ty p.body → Proves new n hyps a → Generalizes new hyps n name u
generalizes old new hyps source hyp contradiction n name a u p g assumed instance_is is proved = record {
  ty = p.ty;
  body = p.body;
  instance = a;
  proved = proved;
  over = (sym instance_is, p.new);
  is = is;
  free_in_none = free_in_none_stays old new hyps name p.ty g assumed p.free_in_none;
}
