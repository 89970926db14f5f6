-- The innermost occurrence around a node, found from an occurrence upwards.
use Rattle.std.proofs.Common.{◌≡◌, ◌+◌, ◌-◌, ◌<◌, ◌≤◌, ℕ, List, [], ◌∷◌, ◌++◌, length, slice_get, Some, arith, inl, inr}
use Rattle.std.proofs.lemmas.Bool.Decides.{eqb_tells, leb_tells}
use Rattle.std.proofs.lemmas.Bool.{ne_eqb}
use Rattle.std.proofs.lemmas.List.{get_or_append_left, get_or_push, length_push}
use Rattle.expansion_tree.specs.Occurrences.{Occurrence}
use Rattle.expansion_tree.specs.Standing.{Selection}
use Rattle.dependency.specs.Dependencies.{occurrence_at}
use Rattle.dependency.specs.Nesting.{AreNested, AreOwners, AreParents, IsInnermost, IsOwner, IsPast, IsScanned}
use Rattle.dependency.proofs.Nested.{occurrence_within, same_occurrence}

-- what the view of an occurrence says
pub occurrence_seen : (occurrences : List Occurrence) (e : ℕ) (o : Occurrence) → 0 < e → slice_get occurrences (e - 1) ≡ Some o → occurrence_at occurrences e ≡ Some o
occurrence_seen occurrences e o low h = rw (ne_eqb e 0 (λ z. absurd (omega (arith, z, low)))) h

-- how far the way up is
pub record IsClimb (occurrences : List Occurrence) (from node e : ℕ) : Type 0 where
  pub range : e ≤ from
  pub starts : (o : Occurrence) → occurrence_at occurrences e ≡ Some o → o.first ≤ node
  pub past : IsPast occurrences e from node

-- one more occurrence has its parent
pub AreParents-push : (occurrences : List Occurrence) (parents : List ℕ) (e p : ℕ) (o : Occurrence) → length parents ≡ e + 1 → occurrence_at occurrences (e + 1) ≡ Some o
    → IsInnermost occurrences e o.first p → AreParents occurrences parents → AreParents occurrences (parents ++ p ∷ [])
AreParents-push occurrences parents e p o many is_o up h f q less is_q =
    elim (leb_tells (length parents) f) [
      | inr t ↦ rw (get_or_append_left parents (p ∷ []) 0 f t.1) (h f q t.1 is_q)
      | inl t ↦ (let last : f ≡ e + 1 = omega (arith, less, length_push parents p, t.1, many) in
          let one : o ≡ q = same_occurrence (occurrence_at occurrences f) o q (rw last is_o) is_q in
          let place : f - 1 ≡ e = omega (arith, last) in
          rw (← one, place, get_or_push parents p 0 f (omega (arith, many, last))) up)
    ]

-- where one occurrence begins after a node, so do those after it
pub begin_behind : (occurrences : List Occurrence) (e node : ℕ) (o : Occurrence) → AreNested occurrences → slice_get occurrences (e + 1 - 1) ≡ Some o → node < o.first
    → (f : ℕ) (p : Occurrence) → e < f → occurrence_at occurrences f ≡ Some p → node < p.first
begin_behind occurrences e node o nested at behind f p less is_p =
    let is_o = occurrence_seen occurrences (e + 1) o (omega arith) at in
    elim (eqb_tells f (e + 1)) [
      | inl same ↦ (let one : o ≡ p = same_occurrence (occurrence_at occurrences f) o p (rw same.1 is_o) is_p in rw (← one) behind)
      | inr other ↦ (let rise = nested.rising (e + 1) f o p is_o is_p (omega (arith, less, other.1)) in omega (arith, rise, behind))
    ]

pub none_behind : (occurrences : List Occurrence) (e : ℕ) → length occurrences ≤ e → (f : ℕ) (p : Occurrence) → e < f → occurrence_at occurrences f ≡ Some p → ⊥
none_behind occurrences e most f p less is_p = let number = occurrence_within occurrences f p is_p in omega (arith, number, most, less)

-- one more selected variable has its owner
pub AreOwners-push : (occurrences : List Occurrence) (selections : List Selection) (owners : List ℕ) (k u : ℕ) (s : Selection) → length owners ≡ k → slice_get selections k ≡ Some s
    → IsOwner occurrences s.node u → AreOwners occurrences selections owners → AreOwners occurrences selections (owners ++ u ∷ [])
AreOwners-push occurrences selections owners k u s many is_s owner h j t less is_t =
    elim (leb_tells (length owners) j) [
      | inr before ↦ rw (get_or_append_left owners (u ∷ []) 0 j before.1) (h j t before.1 is_t)
      | inl last ↦ (let same : j ≡ k = omega (arith, less, length_push owners u, last.1, many) in
          let one : s ≡ t = same_occurrence (slice_get selections j) s t (rw same is_s) is_t in
          rw (← one, get_or_push owners u 0 j (omega (arith, many, same))) owner)
    ]

-- what is scanned up to a node is so up to a later one
pub scanned_on : (occurrences : List Occurrence) (opened innermost node later : ℕ) → node ≤ later → IsScanned occurrences opened innermost node → IsScanned occurrences opened innermost later
scanned_on occurrences opened innermost node later more h = record {
  within = h.within;
  among = h.among;
  started = λ f o most at. (let first = h.started f o most at in omega (arith, first, more));
  past = λ f o less most at. (let end = h.past f o less most at in omega (arith, end, more));
}
