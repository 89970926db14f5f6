-- Variables as they are collected: what is gained, and which names two of them share.
use Rattle.std.proofs.Common.{ℕ, suc, ◌+◌, ◌<◌, List, [], ◌∷◌, ◌++◌, Bool, true, false, not, ◌≡◌, refl, sym, ap, subst, ◌∙◌, length, take, arith, inl, inr, ◌⊎◌, Some, None, get_or, drop, drop-cons}
use Rattle.std.specs.Prelude.{Contains, slice_get}
use Rattle.std.specs.declared.option.Option.{Option}
use Rattle.std.proofs.lemmas.List.Elements.{Contains-append_left, Contains-append_right, Contains-append_cases}
use Rattle.hol_terms.proofs.FreeLaws.{contains_stands, stands_contains}
use Rattle.std.proofs.lemmas.List.{take_more}
use Rattle.std.proofs.lemmas.Option.{get_or_from_slice_get, slice_get_within}
use Rattle.hol_terms.specs.Places.{place_of}
use Rattle.hol_terms.proofs.Placing.{place_held, place_none}
use Rattle.hol_terms.specs.Terms.{SimpleType, Term, free, bound, constant, application, abstraction, Constant, Variable, truth_type}
use Rattle.nd_rules.specs.Lines.{DeductionLine}
use Rattle.etps_script.specs.Tallies.{AreFreeBefore, AreFreeIn, AreTallied, AreUnshared, GainsFree, IsGained, IsKept, IsMarked}

-- a list of one
in_one : (v w : Variable) → Contains (v ∷ []) w → w ≡ v
in_one v w h = elim (contains_stands w (v ∷ []) h) [ inl e ↦ sym e | inr h ↦ absurd h ]

one_in : (v : Variable) → Contains (v ∷ []) v
one_in v = stands_contains v (v ∷ []) (inl refl)

pub gained_put : (old new : List Variable) (v : Variable) → new ≡ old ++ v ∷ [] → IsGained old new v
gained_put old new v e =
    let P : List Variable → Type 0 = λ l. IsGained old l v in
    subst P (sym e) (record {
      kept = λ w h. Contains-append_left old (v ∷ []) w h;
      gained = Contains-append_right old (v ∷ []) v (one_in v);
      only = λ w h. elim (Contains-append_cases old (v ∷ []) w h) [ inl p ↦ inl p | inr p ↦ inr (in_one v w p) ];
    })

pub gained_held : (old new : List Variable) (v : Variable) → Contains old v → new ≡ old → IsGained old new v
gained_held old new v held e =
    let P : List Variable → Type 0 = λ l. IsGained old l v in
    subst P (sym e) (record { kept = λ w h. h; gained = held; only = λ w h. inl h })

-- the free variables of a term

pub gains_variable : (old new : List Variable) (n : List ℕ) (s : SimpleType) → IsGained old new (n, s) → GainsFree old new (free n s)
gains_variable old new n s g = record {
  kept = λ m r h. g.kept (m, r) h;
  gained = λ m r h. subst (Contains new) (λ i. (sym h.0 i, sym h.1 i)) g.gained;
  only = λ m r h. elim (g.only (m, r) h) [ inl p ↦ inl p | inr p ↦ inr (ap (λ (v : Variable). v.0) p, ap (λ (v : Variable). v.1) p) ];
}

pub gains_bound : (old : List Variable) (i : ℕ) → GainsFree old old (bound i)
gains_bound old i = record { kept = λ m r h. h; gained = λ m r h. absurd h; only = λ m r h. inl h }

pub gains_constant : (old : List Variable) (c : Constant) → GainsFree old old (constant c)
gains_constant old c = record { kept = λ m r h. h; gained = λ m r h. absurd h; only = λ m r h. inl h }

pub gains_both : (old middle new : List Variable) (f a : Term) → GainsFree old middle f → GainsFree middle new a → GainsFree old new (application f a)
gains_both old middle new f a g h = record {
  kept = λ m r p. h.kept m r (g.kept m r p);
  gained = λ m r p. elim p [ inl q ↦ h.kept m r (g.gained m r q) | inr q ↦ h.gained m r q ];
  only = λ m r p. elim (h.only m r p) [ inl q ↦ elim (g.only m r q) [ inl z ↦ inl z | inr z ↦ inr (inl z) ] | inr q ↦ inr (inr q) ];
}

pub gains_body : (old new : List Variable) (s : SimpleType) (b : Term) → GainsFree old new b → GainsFree old new (abstraction s b)
gains_body old new s b g = record { kept = g.kept; gained = g.gained; only = g.only }

-- the lines

pub free_before_none : (lines : List DeductionLine) → AreFreeBefore lines lines []
free_before_none lines = record { free = λ m r h. absurd (contains_stands (m, r) [] h); left = λ m r h. h; all = λ m r h. inr h }

pub free_before_more : (lines : List DeductionLine) (l : DeductionLine) (rest : List DeductionLine) (old new : List Variable)
    → AreFreeBefore lines (l ∷ rest) old → GainsFree old new l.formula → AreFreeBefore lines rest new
free_before_more lines l rest old new b g = record {
  free = λ m r h. elim (g.only m r h) [ inl p ↦ b.free m r p | inr p ↦ b.left m r (inl p) ];
  left = λ m r h. b.left m r (inr h);
  all = λ m r h. elim (b.all m r h) [ inl p ↦ inl (g.kept m r p) | inr p ↦ elim p [ inl q ↦ inl (g.gained m r q) | inr q ↦ inr q ] ];
}

pub free_before_all : (lines : List DeductionLine) (variables : List Variable) → AreFreeBefore lines [] variables → AreFreeIn lines variables
free_before_all lines variables b = record {
  free = b.free;
  all = λ m r h. elim (b.all m r h) [ inl p ↦ p | inr p ↦ absurd p ];
}

-- names and shared names

pub tallied_none : AreTallied [] [] []
tallied_none = record {
  named = λ m r h. absurd (contains_stands (m, r) [] h);
  some_type = λ m h. absurd (contains_stands (m, truth_type) [] h);
  two_types = λ m h. absurd (contains_stands (m, truth_type) [] h);
  one_type = λ m no s r h k. absurd (contains_stands (m, s) [] h);
}

-- a variable that is new, with a name that is new
pub tallied_new_name : (old new names more shared marked : List Variable) (n : List ℕ) (s : SimpleType)
    → AreTallied old names shared → new ≡ old ++ (n, s) ∷ [] → (Contains names (n, truth_type) → ⊥) → IsGained names more (n, truth_type) → marked ≡ shared
    → AreTallied new more marked
tallied_new_name old new names more shared marked n s t put fresh gain same =
    let g : IsGained old new (n, s) = gained_put old new (n, s) put in
    let other : (m : List ℕ) (r : SimpleType) → Contains new (m, r) → Contains old (m, r) ⊎ ((m ≡ n) × (r ≡ s)) =
    λ m r h. elim (g.only (m, r) h) [ inl p ↦ inl p | inr p ↦ inr (ap (λ (v : Variable). v.0) p, ap (λ (v : Variable). v.1) p) ] in
    let no_old : (m : List ℕ) (r : SimpleType) → m ≡ n → Contains old (m, r) → ⊥ =
    λ m r e h. fresh (subst (λ (l : List ℕ). Contains names (l, truth_type)) e (t.named m r h)) in
    record {
      named = λ m r h. elim (other m r h) [ inl p ↦ gain.kept (m, truth_type) (t.named m r p) | inr p ↦ subst (λ (l : List ℕ). Contains more (l, truth_type)) (sym p.0) gain.gained ];
      some_type = λ m h. elim (gain.only (m, truth_type) h) [
        | inl p ↦ let old_one = t.some_type m p in (old_one.0, g.kept (m, old_one.0) old_one.1)
        | inr p ↦ (s, subst (λ (l : List ℕ). Contains new (l, s)) (sym (ap (λ (v : Variable). v.0) p)) g.gained)
      ];
      two_types = λ m h. let two = t.two_types m (subst (λ (l : List Variable). Contains l (m, truth_type)) same h) in
          (two.0, two.1, g.kept (m, two.0) two.2, g.kept (m, two.1) two.3, two.4);
      one_type = λ m no q r h k. elim (other m q h) [
        | inl p ↦ elim (other m r k) [ inl o ↦ t.one_type m (λ x. no (subst (λ (l : List Variable). Contains l (m, truth_type)) (sym same) x)) q r p o | inr o ↦ absurd (no_old m q o.0 p) ]
        | inr p ↦ elim (other m r k) [ inl o ↦ absurd (no_old m r p.0 o) | inr o ↦ p.1 ∙ sym o.1 ]
      ];
    }

-- a variable that is new, with a name that another has
pub tallied_new_type : (old new names shared marked : List Variable) (n : List ℕ) (s : SimpleType)
    → AreTallied old names shared → (Contains old (n, s) → ⊥) → new ≡ old ++ (n, s) ∷ [] → Contains names (n, truth_type) → IsGained shared marked (n, truth_type)
    → AreTallied new names marked
tallied_new_type old new names shared marked n s t absent put there gain =
    let g : IsGained old new (n, s) = gained_put old new (n, s) put in
    let other : (m : List ℕ) (r : SimpleType) → Contains new (m, r) → Contains old (m, r) ⊎ ((m ≡ n) × (r ≡ s)) =
    λ m r h. elim (g.only (m, r) h) [ inl p ↦ inl p | inr p ↦ inr (ap (λ (v : Variable). v.0) p, ap (λ (v : Variable). v.1) p) ] in
    let marked_name : (m : List ℕ) → m ≡ n → Contains marked (m, truth_type) =
    λ m e. subst (λ (l : List ℕ). Contains marked (l, truth_type)) (sym e) gain.gained in
    let first = t.some_type n there in
    record {
      named = λ m r h. elim (other m r h) [ inl p ↦ t.named m r p | inr p ↦ subst (λ (l : List ℕ). Contains names (l, truth_type)) (sym p.0) there ];
      some_type = λ m h. let one = t.some_type m h in (one.0, g.kept (m, one.0) one.1);
      two_types = λ m h. elim (gain.only (m, truth_type) h) [
        | inl p ↦ let two = t.two_types m p in (two.0, two.1, g.kept (m, two.0) two.2, g.kept (m, two.1) two.3, two.4)
        | inr p ↦ let e : n ≡ m = sym (ap (λ (v : Variable). v.0) p) in (
          first.0,
          s,
          subst (λ (l : List ℕ). Contains new (l, first.0)) e (g.kept (n, first.0) first.1),
          subst (λ (l : List ℕ). Contains new (l, s)) e g.gained,
          λ same. absurd (absent (subst (λ (r : SimpleType). Contains old (n, r)) same first.1)),
        )
      ];
      one_type = λ m no q r h k. elim (other m q h) [
        | inl p ↦ elim (other m r k) [ inl o ↦ t.one_type m (λ x. no (gain.kept (m, truth_type) x)) q r p o | inr o ↦ absurd (no (marked_name m o.0)) ]
        | inr p ↦ absurd (no (marked_name m p.0))
      ];
    }

-- by the answer whether the name is new
pub tallied_more : (old new names more shared marked : List Variable) (n : List ℕ) (s : SimpleType) (is_new : Bool)
    → AreTallied old names shared → (Contains old (n, s) → ⊥) → new ≡ old ++ (n, s) ∷ []
    → (is_new ≡ true → (Contains names (n, truth_type) → ⊥) × (more ≡ names ++ (n, truth_type) ∷ []))
    → (is_new ≡ false → Contains names (n, truth_type) × (more ≡ names))
    → IsMarked shared marked (not is_new) n → AreTallied new more marked
tallied_more old new names more shared marked n s true t absent put fresh there mark =
    tallied_new_name old new names more shared marked n s t put (fresh refl).0 (gained_put names more (n, truth_type) (fresh refl).1) mark
tallied_more old new names more shared marked n s false t absent put fresh there mark =
    subst (λ (l : List Variable). AreTallied new l marked) (sym (there refl).1)
    (tallied_new_type old new names shared marked n s t absent put (there refl).0 mark)

-- the known variables

pub kept_put : (shared old new : List Variable) (v : Variable) → (Contains shared (v.0, truth_type) → ⊥) → new ≡ old ++ v ∷ [] → IsKept shared old new v
kept_put shared old new v none e = record { out = λ h. absurd (none h); put = λ h. e }

pub kept_out : (shared old new : List Variable) (v : Variable) → Contains shared (v.0, truth_type) → new ≡ old → IsKept shared old new v
kept_out shared old new v there e = record { out = λ h. e; put = λ h. absurd (h there) }

pub unshared_none : (shared variables : List Variable) → AreUnshared shared [] []
unshared_none shared variables = record {
  there = λ v h. h;
  apart = λ v h. absurd (contains_stands v [] h);
  all = λ v h. absurd (contains_stands v [] h);
}

-- one variable more, by the test whether its name is shared
pub unshared_more : (shared variables more old new : List Variable) (v : Variable) → AreUnshared shared variables old → more ≡ variables ++ v ∷ [] → (Contains shared (v.0, truth_type) ⊎ (Contains shared (v.0, truth_type) → ⊥)) → IsKept shared old new v → AreUnshared shared more new
unshared_more shared variables more old new v u taken (inl there) k =
    let g : IsGained variables more v = gained_put variables more v taken in
    let P : List Variable → Type 0 = λ l. AreUnshared shared more l in
    subst P (sym (k.out there)) (record {
      there = λ w h. g.kept w (u.there w h);
      apart = u.apart;
      all = λ w h no. elim (g.only w h) [ inl p ↦ u.all w p no | inr p ↦ absurd (no (subst (λ (x : Variable). Contains shared (x.0, truth_type)) (sym p) there)) ];
    })
unshared_more shared variables more old new v u taken (inr none) k =
    let g : IsGained variables more v = gained_put variables more v taken in
    let h : IsGained old new v = gained_put old new v (k.put none) in
    record {
      there = λ w p. elim (h.only w p) [ inl q ↦ g.kept w (u.there w q) | inr q ↦ subst (Contains more) (sym q) g.gained ];
      apart = λ w p. elim (h.only w p) [ inl q ↦ u.apart w q | inr q ↦ subst (λ (x : Variable). Contains shared (x.0, truth_type) → ⊥) (sym q) none ];
      all = λ w p no. elim (g.only w p) [ inl q ↦ h.kept w (u.all w q no) | inr q ↦ subst (Contains new) (sym q) h.gained ];
    }

-- a variable is in a list or not
pub in_or_not : (v : Variable) (xs : List Variable) → Contains xs v ⊎ (Contains xs v → ⊥)
in_or_not v xs = by_place (place_of v xs) refl
  where
    by_place : (place : Option ℕ) → place ≡ place_of v xs → Contains xs v ⊎ (Contains xs v → ⊥)
    by_place None e = inr ((place_none v xs None e).0 refl)
    by_place (Some k) e = inl (place_held v xs (Some k) e refl)

-- the items up to one that was read
pub take_got : (xs : List Variable) (i : ℕ) (x : Variable) → slice_get xs i ≡ Some x → take (i + 1) xs ≡ take i xs ++ x ∷ []
take_got xs i x e =
    take_more xs i x (slice_get_within xs i x e) ∙ ap (λ (y : Variable). take i xs ++ y ∷ []) (get_or_from_slice_get xs i x x e)

-- the items from one on that was read
pub drop_got : {X : Type 0} (xs : List X) (i : ℕ) (x : X) → i < length xs → x ≡ get_or xs i x → drop i xs ≡ x ∷ drop (i + 1) xs
drop_got xs i x within e = drop-cons xs i x within ∙ ap (λ y. y ∷ drop (suc i) xs) (sym e) ∙ ap (λ n. x ∷ drop n xs) (let one : suc i ≡ i + 1 = omega arith in one)
