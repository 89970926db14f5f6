-- Under each assignment a formula holds or doesn't, since equality of terms is decided.
use Rattle.std.proofs.Common.{ℕ, zero, suc, List, [], ◌∷◌, Bool, true, false, ◌≡◌, ◌≢◌, refl, sym, ap, ap₂, ◌∙◌, eqb, ◌⊎◌, inl, inr, arith, ◌<◌, length}
use Rattle.std.proofs.lemmas.Bool.Decides.{nat_tests}
use Rattle.std.specs.Prelude.{Contains, ◌↔◌}
use Rattle.hol_terms.specs.Terms.{SimpleType, Constant, negation, conjunction, disjunction, implication, truth, falsehood, forall, exists, Term, free, bound, constant, application, abstraction}
use Rattle.hol_terms.specs.Computed.{same_type, same_name}
use Rattle.hol_terms.specs.Truth.{Holds, IsAtom}
use Rattle.hol_terms.proofs.Same.{same_type_refl, same_type_only, same_name_refl, same_name_only}

-- equality is decided

by_test : {X : Type 0} → (a b : X) (test : Bool) → (test ≡ true → a ≡ b) → (a ≡ b → test ≡ true) → (a ≡ b) ⊎ (a ≢ b)
by_test a b true only from = inl (only refl)
by_test a b false only from = inr (λ e. let no : false ≡ true = from e in cc)

pub number_decided : (m n : ℕ) → (m ≡ n) ⊎ (m ≢ n)
number_decided m n = by_test m n (eqb m n) (λ h. grind (arith, nat_tests)) (λ h. grind (arith, nat_tests))

pub type_decided : (a b : SimpleType) → (a ≡ b) ⊎ (a ≢ b)
type_decided a b = by_test a b (same_type a b) (same_type_only a b) (λ e. ap (λ b. same_type a b) (sym e) ∙ same_type_refl a)

pub name_decided : (a b : List ℕ) → (a ≡ b) ⊎ (a ≢ b)
name_decided a b = by_test a b (same_name a b) (same_name_only a b) (λ e. ap (λ b. same_name a b) (sym e) ∙ same_name_refl a)

pub constant_decided : (a b : Constant) → (a ≡ b) ⊎ (a ≢ b)
constant_decided negation negation = inl refl
constant_decided conjunction conjunction = inl refl
constant_decided disjunction disjunction = inl refl
constant_decided implication implication = inl refl
constant_decided truth truth = inl refl
constant_decided falsehood falsehood = inl refl
constant_decided (forall s) (forall r) = elim (type_decided s r) [ inl e ↦ inl (ap forall e) | inr other ↦ inr (λ e. other (let same : s ≡ r = cc in same)) ]
constant_decided (exists s) (exists r) = elim (type_decided s r) [ inl e ↦ inl (ap exists e) | inr other ↦ inr (λ e. other (let same : s ≡ r = cc in same)) ]
constant_decided _ _ = inr (λ e. cc)

pub term_decided : (a b : Term) → (a ≡ b) ⊎ (a ≢ b)
term_decided (free n s) (free m r) = both (name_decided n m) (type_decided s r)
  where
    both : (n ≡ m) ⊎ (n ≢ m) → (s ≡ r) ⊎ (s ≢ r) → (free n s ≡ free m r) ⊎ (free n s ≢ free m r)
    both (inl e) (inl f) = inl (ap₂ free e f)
    both (inr other) f = inr (λ e. other (let same : n ≡ m = cc in same))
    both (inl e) (inr other) = inr (λ e. other (let same : s ≡ r = cc in same))
term_decided (bound i) (bound j) = elim (number_decided i j) [ inl e ↦ inl (ap bound e) | inr other ↦ inr (λ e. other (let same : i ≡ j = cc in same)) ]
term_decided (constant c) (constant d) =
    elim (constant_decided c d) [ inl e ↦ inl (ap constant e) | inr other ↦ inr (λ e. other (let same : c ≡ d = cc in same)) ]
term_decided (application f a) (application g b) = both (term_decided f g) (term_decided a b)
  where
    both : (f ≡ g) ⊎ (f ≢ g) → (a ≡ b) ⊎ (a ≢ b) → (application f a ≡ application g b) ⊎ (application f a ≢ application g b)
    both (inl e) (inl h) = inl (ap₂ application e h)
    both (inr other) h = inr (λ e. other (let same : f ≡ g = cc in same))
    both (inl e) (inr other) = inr (λ e. other (let same : a ≡ b = cc in same))
term_decided (abstraction s b) (abstraction r c) = both (type_decided s r) (term_decided b c)
  where
    both : (s ≡ r) ⊎ (s ≢ r) → (b ≡ c) ⊎ (b ≢ c) → (abstraction s b ≡ abstraction r c) ⊎ (abstraction s b ≢ abstraction r c)
    both (inl e) (inl h) = inl (ap₂ abstraction e h)
    both (inr other) h = inr (λ e. other (let same : s ≡ r = cc in same))
    both (inl e) (inr other) = inr (λ e. other (let same : b ≡ c = cc in same))
term_decided _ _ = inr (λ e. cc)

-- so is membership

contains_here : (x y : Term) (xs : List Term) → x ≡ y → Contains (x ∷ xs) y
contains_here x y xs e = (zero, omega arith, e)

contains_later : (x y : Term) (xs : List Term) → Contains xs y → Contains (x ∷ xs) y
contains_later x y xs h = (suc h.0, (let within : h.0 < length xs = h.1 in omega arith), h.2)

contains_parts : (x y : Term) (xs : List Term) → Contains (x ∷ xs) y → (x ≡ y) ⊎ Contains xs y
contains_parts x y xs (zero, within, e) = inl e
contains_parts x y xs (suc k, within, e) = inr (k, omega arith, e)

pub member_decided : (xs : List Term) (y : Term) → Contains xs y ⊎ (Contains xs y → ⊥)
member_decided [] y = inr (λ (h : Contains [] y). let within : h.0 < 0 = h.1 in absurd (omega arith))
member_decided (x ∷ xs) y = either (term_decided x y) (member_decided xs y)
  where
    either : (x ≡ y) ⊎ (x ≢ y) → Contains xs y ⊎ (Contains xs y → ⊥) → Contains (x ∷ xs) y ⊎ (Contains (x ∷ xs) y → ⊥)
    either (inl e) h = inl (contains_here x y xs e)
    either (inr other) (inl h) = inl (contains_later x y xs h)
    either (inr other) (inr none) = inr (λ h. elim (contains_parts x y xs h) [ inl e ↦ other e | inr h ↦ none h ])

-- truth

not_decided : {P : Type 0} → P ⊎ (P → ⊥) → (P → ⊥) ⊎ ((P → ⊥) → ⊥)
not_decided (inl p) = inr (λ none. none p)
not_decided (inr none) = inl none

and_decided : {P Q : Type 0} → P ⊎ (P → ⊥) → Q ⊎ (Q → ⊥) → (P × Q) ⊎ (P × Q → ⊥)
and_decided (inl p) (inl q) = inl (p, q)
and_decided (inr none) q = inr (λ h. none h.0)
and_decided (inl p) (inr none) = inr (λ h. none h.1)

or_decided : {P Q : Type 0} → P ⊎ (P → ⊥) → Q ⊎ (Q → ⊥) → (P ⊎ Q) ⊎ (P ⊎ Q → ⊥)
or_decided (inl p) q = inl (inl p)
or_decided (inr none) (inl q) = inl (inr q)
or_decided (inr no_left) (inr no_right) = inr (λ h. elim h [ inl p ↦ no_left p | inr q ↦ no_right q ])

implies_decided : {P Q : Type 0} → P ⊎ (P → ⊥) → Q ⊎ (Q → ⊥) → (P → Q) ⊎ ((P → Q) → ⊥)
implies_decided (inr none) q = inl (λ p. absurd (none p))
implies_decided (inl p) (inl q) = inl (λ h. q)
implies_decided (inl p) (inr none) = inr (λ h. none (h p))

-- each formula holds or doesn't
pub holds_or_not : (true_atoms : List Term) (formula : Term) → Holds true_atoms formula ⊎ (Holds true_atoms formula → ⊥)
holds_or_not l (application (constant negation) a) = not_decided (holds_or_not l a)
holds_or_not l (application (application (constant conjunction) a) b) = and_decided (holds_or_not l a) (holds_or_not l b)
holds_or_not l (application (application (constant disjunction) a) b) = or_decided (holds_or_not l a) (holds_or_not l b)
holds_or_not l (application (application (constant implication) a) b) = implies_decided (holds_or_not l a) (holds_or_not l b)
holds_or_not l (constant truth) = inl tt
holds_or_not l (constant falsehood) = inr (λ h. h)
holds_or_not l atom = member_decided l atom

-- an atom holds exactly where it is in the list
pub atom_holds : (true_atoms : List Term) (formula : Term) → IsAtom formula → (Holds true_atoms formula ↔ Contains true_atoms formula)
atom_holds l (application (constant negation) a) is_atom = absurd is_atom
atom_holds l (application (application (constant conjunction) a) b) is_atom = absurd is_atom
atom_holds l (application (application (constant disjunction) a) b) is_atom = absurd is_atom
atom_holds l (application (application (constant implication) a) b) is_atom = absurd is_atom
atom_holds l (constant truth) is_atom = absurd is_atom
atom_holds l (constant falsehood) is_atom = absurd is_atom
atom_holds l atom is_atom = ((λ h. h), (λ h. h))
