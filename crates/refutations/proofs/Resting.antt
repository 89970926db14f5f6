-- What lines rest on: each needs no hypotheses but its own.
use Rattle.std.proofs.Common.{◌≡◌, ◌≤◌, ℕ, List, [], ◌∷◌, Bool, true, false, Some, sym, ◌∙◌, ap, subst, arith}
use Rattle.std.specs.Prelude.{All, Contains, Result, IfOk}
use Rattle.std.specs.Option.{option_map}
use Rattle.std.proofs.lemmas.List.{append-nil}
use Rattle.std.proofs.lemmas.List.Elements.{All-weaker, All-contains}
use Rattle.std.proofs.lemmas.Result.{IfOk-weaker}
use Rattle.hol_terms.specs.Terms.{SimpleType, Term, constant, falsehood, free, truth_type}
use Rattle.hol_terms.specs.Typing.{Typed}
use Rattle.hol_terms.specs.Indices.{instance_of}
use Rattle.hol_terms.specs.FreeVariables.{IsFree}
use Rattle.hol_conv.specs.Conversion.{Conv}
use Rattle.expansion_tree.specs.Standing.{expanding, quantified, selecting}
use Rattle.nd_rules.specs.Lines.{DeductionLine, line_of}
use Rattle.nd_steps.specs.Deductions.{Assumes, Proves, AreAssumptions, IsFreeInNone, Derives}
use Rattle.nd_steps.specs.Premises.{Chooses, DeniesInstance, DeniesUniversal, InstantiatesTo, Splits}
use Rattle.nd_steps.proofs.Growing.{proves_from_more}
use Rattle.refutations.specs.Duties.{IsChoice, IsSecondCase}
use Rattle.refutations.specs.Opens.{said}
use Rattle.refutations.specs.Reaching.{Reaches}
use Rattle.refutations.proofs.Uniting.{held_on, held_with}

-- line n rests on these hypotheses
abbrev pub RestsOn : List DeductionLine → ℕ → List ℕ → Type 0
RestsOn lines n own = option_map (λ (l : DeductionLine). l.hypotheses) (line_of lines n) ≡ Some own

pub copied_rests : (lines : List DeductionLine) (n : ℕ) (own copy : List ℕ) → RestsOn lines n own → copy ≡ own → RestsOn lines n copy
copied_rests lines n own copy rests e = rests ∙ ap Some (sym e)

rests_read : (lines : List DeductionLine) (n : ℕ) (own hyps : List ℕ) (a : Term) → RestsOn lines n own → (p : Proves lines n hyps a) → p.line.hypotheses ≡ own
rests_read lines n own hyps a rests p = let read : Some p.line.hypotheses ≡ Some own = sym (ap (option_map (λ (l : DeductionLine). l.hypotheses)) p.found) ∙ rests in cc

-- they are among any from which it proves its formula
pub rests_within : (lines : List DeductionLine) (n : ℕ) (own hyps : List ℕ) (a : Term) → RestsOn lines n own → Proves lines n hyps a → All (Contains hyps) own
rests_within lines n own hyps a rests p = let P : List ℕ → Type 0 = λ ns. All (Contains hyps) ns in subst P (rests_read lines n own hyps a rests p) p.rests

-- and it proves it from any that hold them
pub proves_from_own : (lines : List DeductionLine) (n : ℕ) (own more hyps : List ℕ) (a : Term) → RestsOn lines n own → All (Contains more) own → Proves lines n hyps a → Proves lines n more a
proves_from_own lines n own more hyps a rests held p =
    let P : List ℕ → Type 0 = λ ns. All (Contains more) ns in
    record { line = p.line; found = p.found; rests = subst P (sym (rests_read lines n own hyps a rests p)) held; says = p.says }

-- Fewer hypotheses

pub assumptions_among : (lines : List DeductionLine) (own hyps : List ℕ) → All (Contains hyps) own → AreAssumptions lines hyps → AreAssumptions lines own
assumptions_among lines own hyps held assumed = All-weaker (Contains hyps) (λ h. (t : Term) × Assumes lines h t) (λ h there. All-contains (λ k. (t : Term) × Assumes lines k t) hyps h assumed there) own held

pub free_in_none_among : (lines : List DeductionLine) (own hyps name : List ℕ) (s : SimpleType) → All (Contains hyps) own → IsFreeInNone lines hyps name s → IsFreeInNone lines own name s
free_in_none_among lines own hyps name s held none =
    All-weaker (Contains hyps) (λ h. (t : Term) → Assumes lines h t → IsFree name s t → ⊥) (λ h there. All-contains (λ k. (t : Term) → Assumes lines k t → IsFree name s t → ⊥) hyps h none there) own held

-- More hypotheses

derives_from_more : (added : ℕ) (old new : List DeductionLine) (n : ℕ) (own hyps : List ℕ) (a : Term) → All (Contains hyps) own → Derives added old new n own a → Derives added old new n hyps a
derives_from_more added old new n own hyps a held d = record { grown = d.grown; longer = d.longer; last = d.last; proves = proves_from_more new n own hyps a held d.proves }

pub ok_derives_from_more : {E : Type 0} (r : Result ℕ E) (added : ℕ) (old new : List DeductionLine) (own hyps : List ℕ) (a : Term) → All (Contains hyps) own → IfOk r (λ n. Derives added old new n own a)
    → IfOk r (λ n. Derives added old new n hyps a)
ok_derives_from_more r added old new own hyps a held h =
    IfOk-weaker r (λ n. Derives added old new n own a) (λ n. Derives added old new n hyps a) (λ n d. derives_from_more added old new n own hyps a held d) h

reaches_from_more : (added most : ℕ) (old new : List DeductionLine) (n : ℕ) (own hyps : List ℕ) (a : Term) → added ≤ most → All (Contains hyps) own → Derives added old new n own a → Reaches most old new n hyps a
reaches_from_more added most old new n own hyps a few held d = record { grown = d.grown; few = omega (arith, few, d.longer); proves = proves_from_more new n own hyps a held d.proves }

pub ok_reaches_from_more : {E : Type 0} (r : Result ℕ E) (added most : ℕ) (old new : List DeductionLine) (own hyps : List ℕ) (a : Term) → added ≤ most → All (Contains hyps) own
    → IfOk r (λ n. Derives added old new n own a) → IfOk r (λ n. Reaches most old new n hyps a)
ok_reaches_from_more r added most old new own hyps a few held h =
    IfOk-weaker r (λ n. Derives added old new n own a) (λ n. Reaches most old new n hyps a) (λ n d. reaches_from_more added most old new n own hyps a few held d) h

-- where no line is added
pub reaches_none : (most : ℕ) (lines : List DeductionLine) (n : ℕ) (hyps : List ℕ) (a : Term) → Proves lines n hyps a → Reaches most lines lines n hyps a
reaches_none most lines n hyps a p = record { grown = ([], sym (append-nil lines)); few = omega arith; proves = p }

-- Expansions

pub denies_instance : (lines : List DeductionLine) (own : List ℕ) (source : ℕ) (positive : Bool) (ty : SimpleType) (b term lower : Term) → positive ≡ true
    → Proves lines source own (said positive (quantified (expanding positive ty) ty b)) → Typed [] term ty
    → Conv [] truth_type (instance_of b term) lower → DeniesInstance lines own source term lower
denies_instance lines own source positive ty b term lower e p typed conv =
    let P : Bool → Type 0 = λ v. Proves lines source own (said v (quantified (expanding v ty) ty b)) in
    record { ty = ty; body = b; proved = subst P e p; typed = typed; converted = conv }

pub instantiates : (lines : List DeductionLine) (own : List ℕ) (source : ℕ) (positive : Bool) (ty : SimpleType) (b term lower : Term) → positive ≡ false
    → Proves lines source own (said positive (quantified (expanding positive ty) ty b)) → Typed [] term ty
    → Conv [] truth_type (instance_of b term) lower → InstantiatesTo lines own source term lower
instantiates lines own source positive ty b term lower e p typed conv =
    let P : Bool → Type 0 = λ v. Proves lines source own (said v (quantified (expanding v ty) ty b)) in
    record { ty = ty; body = b; proved = subst P e p; typed = typed; converted = conv }

-- Discharged hypotheses

-- what line n rests on beside one hypothesis
pub record RestsBeside (lines : List DeductionLine) (n h : ℕ) (others : List ℕ) : Type 0 where
  pub own : List ℕ
  pub rests : RestsOn lines n own
  pub all : All (Contains (h ∷ others)) own
  pub only : (more : List ℕ) → All (Contains (h ∷ more)) own → All (Contains more) others

pub beside_within : (lines : List DeductionLine) (n h : ℕ) (others hyps : List ℕ) (a : Term) → RestsBeside lines n h others → Proves lines n (h ∷ hyps) a → All (Contains hyps) others
beside_within lines n h others hyps a r p = r.only hyps (rests_within lines n r.own (h ∷ hyps) a r.rests p)

pub proves_beside : (lines : List DeductionLine) (n h : ℕ) (others more hyps : List ℕ) (a : Term) → RestsBeside lines n h others → All (Contains more) others → Proves lines n (h ∷ hyps) a
    → Proves lines n (h ∷ more) a
proves_beside lines n h others more hyps a r held p = proves_from_own lines n r.own (h ∷ more) (h ∷ hyps) a r.rests (held_on r.own (h ∷ others) (h ∷ more) r.all (held_with h others more held)) p

pub denies_universal : (lines : List DeductionLine) (own hyps : List ℕ) (positive : Bool) (source h n : ℕ) (name copy : List ℕ) (c : IsChoice lines hyps positive source h name) → positive ≡ true
    → copy ≡ name → All (Contains hyps) own
    → Proves lines source own (said positive (quantified (selecting positive c.ty) c.ty c.body)) → Proves lines n (h ∷ own) (constant falsehood) → DeniesUniversal lines own source h n copy
denies_universal lines own hyps positive source h n name copy c e same within p q =
    let P : Bool → Type 0 = λ v. Proves lines source own (said v (quantified (selecting v c.ty) c.ty c.body)) in
    let Q : Bool → Type 0 = λ v. Assumes lines h (said v (instance_of c.body (free name c.ty))) in
    let R : List ℕ → Type 0 = λ v. DeniesUniversal lines own source h n v in
    let denied : DeniesUniversal lines own source h n name = record {
      ty = c.ty;
      body = c.body;
      proved = subst P e p;
      contradicted = record { assumed = subst Q e c.assumed; proved = q };
      new = c.new;
      free_in_none = free_in_none_among lines own hyps name c.ty within c.free_in_none;
    } in
    subst R (sym same) denied

pub chooses : (lines : List DeductionLine) (own hyps : List ℕ) (positive : Bool) (source h n : ℕ) (name copy : List ℕ) (f : Term) (c : IsChoice lines hyps positive source h name) → positive ≡ false
    → copy ≡ name → f ≡ constant falsehood → All (Contains hyps) own
    → Proves lines source own (said positive (quantified (selecting positive c.ty) c.ty c.body)) → Proves lines n (h ∷ own) (constant falsehood) → Chooses lines own source h n copy f
chooses lines own hyps positive source h n name copy f c e same is within p q =
    let P : Bool → Type 0 = λ v. Proves lines source own (said v (quantified (selecting v c.ty) c.ty c.body)) in
    let Q : Bool → Type 0 = λ v. Assumes lines h (said v (instance_of c.body (free name c.ty))) in
    let R : List ℕ → Type 0 = λ v. Chooses lines own source h n v (constant falsehood) in
    let S : Term → Type 0 = λ t. Chooses lines own source h n copy t in
    let chosen : Chooses lines own source h n name (constant falsehood) = record {
      ty = c.ty;
      body = c.body;
      exists_one = subst P e p;
      assumed = subst Q e c.assumed;
      proved = q;
      new = c.new;
      not_free = λ x. x;
      free_in_none = free_in_none_among lines own hyps name c.ty within c.free_in_none;
    } in
    subst S (sym is) (subst R (sym same) chosen)

pub splits : (lines : List DeductionLine) (own hyps : List ℕ) (source first first_line second second_line : ℕ) (c : IsSecondCase lines hyps source first first_line second) → Proves lines source own c.formula
    → Proves lines first_line (first ∷ own) (constant falsehood) → Proves lines second_line (second ∷ own) (constant falsehood) → Splits lines own source first first_line second second_line
splits lines own hyps source first first_line second second_line c p q r = record {
  formula = c.formula;
  first = c.first;
  second = c.second;
  proved = p;
  cases = c.cases;
  not_first = record { assumed = c.not_first.assumed; proved = q };
  not_second = record { assumed = c.assumed; proved = r };
}
