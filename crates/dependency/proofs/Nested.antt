-- Laws of nested branches, and of the edges of the dependency graph.
use Rattle.std.proofs.Common.{◌≡◌, ◌-◌, ◌<◌, ◌≤◌, ℕ, zero, suc, List, [], ◌∷◌, length, slice_get, Some, Option, refl, arith, inl, inr}
use Rattle.std.proofs.lemmas.Bool.{ne_eqb}
use Rattle.expansion_tree.specs.Occurrences.{Occurrence}
use Rattle.expansion_tree.specs.Standing.{Selection}
use Rattle.dependency.specs.Dependencies.{Before, occurrence_at}
use Rattle.dependency.specs.Nesting.{AreNested, IsInnermost, IsUse}

-- numbers of occurrences

pub occurrence_none : (occurrences : List Occurrence) (o : Occurrence) → occurrence_at occurrences 0 ≡ Some o → ⊥
occurrence_none occurrences o e = cc

slice_within : {A : Type 0} (xs : List A) (k : ℕ) (x : A) → slice_get xs k ≡ Some x → k < length xs
slice_within [] k x e = absurd (cc)
slice_within (y ∷ ys) zero x e = omega arith
slice_within (y ∷ ys) (suc k) x e = let less = slice_within ys k x e in omega (arith, less)

slice_there : {A : Type 0} (xs : List A) (k : ℕ) → k < length xs → (x : A) × (slice_get xs k ≡ Some x)
slice_there [] k h = absurd (omega (arith, h))
slice_there (y ∷ ys) zero h = (y, refl)
slice_there (y ∷ ys) (suc k) h = slice_there ys k (omega (arith, h))

pub occurrence_within : (occurrences : List Occurrence) (e : ℕ) (o : Occurrence) → occurrence_at occurrences e ≡ Some o → (1 ≤ e) × (e ≤ length occurrences)
occurrence_within occurrences zero o h = absurd (cc)
occurrence_within occurrences (suc e) o h =
    let less = slice_within occurrences (suc e - 1) o (rw (ne_eqb (suc e) 0 (λ z. absurd (omega (arith, z)))) at h) in
    (omega arith, omega (arith, less))

pub occurrence_there : (occurrences : List Occurrence) (e : ℕ) → 1 ≤ e → e ≤ length occurrences → (o : Occurrence) × (occurrence_at occurrences e ≡ Some o)
occurrence_there occurrences e low high =
    let p = slice_there occurrences (e - 1) (omega (arith, low, high)) in
    (p.0, rw (ne_eqb e 0 (λ z. absurd (omega (arith, z, low)))) p.1)

-- the branch of x stands in the branch of z, or is that branch
pub record Covers (occurrences : List Occurrence) (z x : ℕ) : Type 0 where
  pub outer : Occurrence
  pub is_outer : occurrence_at occurrences z ≡ Some outer
  pub inner : Occurrence
  pub is_inner : occurrence_at occurrences x ≡ Some inner
  pub starts : outer.first ≤ inner.first
  pub ends : inner.last ≤ outer.last

pub covers_same : (occurrences : List Occurrence) (x : ℕ) (o : Occurrence) → occurrence_at occurrences x ≡ Some o → Covers occurrences x x
covers_same occurrences x o h = record { outer = o; is_outer = h; inner = o; is_inner = h; starts = omega arith; ends = omega arith }

pub same_occurrence : {A : Type 0} (a : Option A) (x y : A) → a ≡ Some x → a ≡ Some y → x ≡ y
same_occurrence a x y e f = cc

pub covers_on : (occurrences : List Occurrence) (z x y : ℕ) → Covers occurrences z x → Covers occurrences x y → Covers occurrences z y
covers_on occurrences z x y h k =
    let same : h.inner ≡ k.outer = same_occurrence (occurrence_at occurrences x) h.inner k.outer h.is_inner k.is_outer in
    let starts : h.outer.first ≤ k.outer.first = rw same at h.starts in
    let ends : k.outer.last ≤ h.outer.last = rw same at h.ends in
    record { outer = h.outer; is_outer = h.is_outer; inner = k.inner; is_inner = k.is_inner; starts = omega (arith, starts, k.starts); ends = omega (arith, ends, k.ends) }

-- what is selected in a branch is selected in those around it
pub before_around : (occurrences : List Occurrence) (selections : List Selection) (z x y : ℕ) → Covers occurrences z x → Before occurrences selections x y → Before occurrences selections z y
before_around occurrences selections z x y h b =
    let same : h.inner ≡ b.upper = same_occurrence (occurrence_at occurrences x) h.inner b.upper h.is_inner b.is_upper in
    let starts : h.outer.first ≤ b.upper.first = rw same at h.starts in
    let ends : b.upper.last ≤ h.outer.last = rw same at h.ends in
    record {
      upper = h.outer;
      is_upper = h.is_outer;
      later = b.later;
      is_later = b.is_later;
      selection = b.selection;
      selected = b.selected;
      below = (omega (arith, starts, b.below), omega (arith, ends, b.below));
      used = b.used;
    }

-- an occurrence is covered by the one right above it
pub parent_covers : (occurrences : List Occurrence) (f : ℕ) (p : Occurrence) (e : ℕ) → AreNested occurrences → occurrence_at occurrences f ≡ Some p → IsInnermost occurrences (f - 1) p.first e → 1 ≤ e
    → Covers occurrences e f
parent_covers occurrences f p e nested is_p h low =
    let number = occurrence_within occurrences f p is_p in
    let there = occurrence_there occurrences e low (omega (arith, h.within, number)) in
    let less : e < f = omega (arith, h.within, number) in
    let reaches = h.reaches there.0 there.1 in
    let ends : p.last ≤ there.0.last = elim (nested.apart e f there.0 p there.1 is_p less) [ inl away ↦ absurd (omega (arith, away, reaches)) | inr ends ↦ ends ] in
    let starts = nested.rising e f there.0 p there.1 is_p less in
    record { outer = there.0; is_outer = there.1; inner = p; is_inner = is_p; starts = omega (arith, starts); ends = ends }

-- a use leads from an occurrence that is directly before
pub use_before : (occurrences : List Occurrence) (selections : List Selection) (f : ℕ) (p : Occurrence) (e : ℕ) → occurrence_at occurrences f ≡ Some p → IsUse occurrences selections p e → 1 ≤ e
    → Before occurrences selections e f
use_before occurrences selections f p e is_p h low =
    let there = occurrence_there occurrences e low h.owner.within in
    record {
      upper = there.0;
      is_upper = there.1;
      later = p;
      is_later = is_p;
      selection = h.selection;
      selected = h.selected;
      below = h.owner.around there.0 there.1;
      used = h.used;
    }
