-- Names among binders and among known variables.
use Rattle.std.proofs.Common.{ℕ, ◌+◌, List, ◌∷◌, drop, Bool, true, false, cond, ◌≡◌, ◌≢◌, refl, sym, ap, ◌∙◌, Some}
use Rattle.std.specs.Prelude.{slice_get}
use Rattle.std.proofs.lemmas.List.{drop_more}
use Rattle.std.proofs.lemmas.Option.{slice_get_within, get_or_from_slice_get}
use Rattle.hol_terms.specs.Terms.{SimpleType, Variable}
use Rattle.hol_terms.specs.Computed.{same_name}
use Rattle.hol_terms.proofs.Same.{same_name_refl, same_name_only}
use Rattle.type_infer.specs.Annotations.{innermost, further, known_type}

pub same_name_here : (n m : List ℕ) → n ≡ m → same_name n m ≡ true
same_name_here n m e = ap (same_name n) (sym e) ∙ same_name_refl n

pub same_name_other : (n m : List ℕ) → n ≢ m → same_name n m ≡ false
same_name_other n m other = by_test (same_name n m) refl
  where
    by_test : (b : Bool) → same_name n m ≡ b → same_name n m ≡ false
    by_test true e = absurd (other (same_name_only n m e))
    by_test false e = e

pub innermost_here : (n m : List ℕ) (k : ℕ) (around : List (List ℕ × ℕ)) → n ≡ m → innermost n ((m, k) ∷ around) ≡ Some (0, k)
innermost_here n m k around e = ap (λ (b : Bool). cond b (Some (0, k)) (further (innermost n around))) (same_name_here n m e)

pub innermost_other : (n m : List ℕ) (k : ℕ) (around : List (List ℕ × ℕ)) → n ≢ m → innermost n ((m, k) ∷ around) ≡ further (innermost n around)
innermost_other n m k around e = ap (λ (b : Bool). cond b (Some (0, k)) (further (innermost n around))) (same_name_other n m e)

pub known_here : (n m : List ℕ) (s : SimpleType) (known : List Variable) → n ≡ m → known_type ((m, s) ∷ known) n ≡ Some s
known_here n m s known e = ap (λ (b : Bool). cond b (Some s) (known_type known n)) (same_name_here n m e)

pub known_other : (n m : List ℕ) (s : SimpleType) (known : List Variable) → n ≢ m → known_type ((m, s) ∷ known) n ≡ known_type known n
known_other n m s known e = ap (λ (b : Bool). cond b (Some s) (known_type known n)) (same_name_other n m e)

drop_at : (xs : List Variable) (i : ℕ) (v : Variable) → slice_get xs i ≡ Some v → drop i xs ≡ v ∷ drop (i + 1) xs
drop_at xs i v e = drop_more xs i v (slice_get_within xs i v e) ∙ ap (λ (y : Variable). y ∷ drop (i + 1) xs) (get_or_from_slice_get xs i v v e)

pub known_found : (known : List Variable) (n m : List ℕ) (s : SimpleType) (i : ℕ) → known_type known n ≡ known_type (drop i known) n
    → slice_get known i ≡ Some (m, s) → n ≡ m → known_type known n ≡ Some s
known_found known n m s i so_far at e = so_far ∙ ap (λ (vs : List Variable). known_type vs n) (drop_at known i (m, s) at) ∙ known_here n m s (drop (i + 1) known) e

pub known_passed : (known : List Variable) (n m : List ℕ) (s : SimpleType) (i : ℕ) → known_type known n ≡ known_type (drop i known) n
    → slice_get known i ≡ Some (m, s) → n ≢ m → known_type known n ≡ known_type (drop (i + 1) known) n
known_passed known n m s i so_far at e = so_far ∙ ap (λ (vs : List Variable). known_type vs n) (drop_at known i (m, s) at) ∙ known_other n m s (drop (i + 1) known) e
