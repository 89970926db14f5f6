-- A variable that isn't free in a typed term isn't free in its long normal form.
use Rattle.std.proofs.Common.{◌≡◌, ◌≢◌, ℕ, List, [], ◌∷◌, length, Bool, true, false, cond, refl, sym, ◌∙◌, subst, ap, arith, inl, inr}
use Rattle.hol_terms.specs.Terms.{SimpleType, Term, free, bound, constant, application, abstraction, truth_type}
use Rattle.hol_terms.specs.Typing.{Typed, IsFormula}
use Rattle.hol_terms.specs.Computed.{same_variable}
use Rattle.hol_terms.specs.FreeVariables.{IsFree, replace_free}
use Rattle.hol_terms.proofs.Same.{same_variable_of}
use Rattle.hol_terms.proofs.Replacing.{replace_free-not_free}
use Rattle.hol_conv.specs.NormalForms.{normal_form}
use Rattle.hol_conv.proofs.Normals.{normal_is, normal_renamed}
use Rattle.hol_conv.proofs.Uniqueness.{conv-sym}
use Rattle.expansion_tree.specs.Standing.{IsNormalFormula}

-- another variable of the type was put for it everywhere
replaced_away : (n m : List ℕ) (s : SimpleType) (t : Term) → n ≢ m → IsFree n s (replace_free n s (free m s) t) → ⊥
replaced_away n m s (free k r) other h = go (same_variable (n, s) (k, r)) refl h
  where
    go : (b : Bool) → same_variable (n, s) (k, r) ≡ b → IsFree n s (cond b (free m s) (free k r)) → ⊥
    go true e h = other h.0
    go false e h = let yes' = same_variable_of n k s r h.0 h.1 in cc
replaced_away n m s (bound i) other h = h
replaced_away n m s (constant c) other h = h
replaced_away n m s (application f a) other h = elim h [ inl x ↦ replaced_away n m s f other x | inr x ↦ replaced_away n m s a other x ]
replaced_away n m s (abstraction r b) other h = replaced_away n m s b other h

longer_name : (n : List ℕ) → n ≢ 0 ∷ n
longer_name n e = let longer : length n ≡ length (0 ∷ n) = ap length e in absurd (omega (arith, longer))

pub not_free_normal : (n : List ℕ) (s : SimpleType) (t : Term) (r : SimpleType) → Typed [] t r → (IsFree n s t → ⊥) → IsFree n s (normal_form [] t) → ⊥
not_free_normal n s t r typed none h =
    let unchanged : replace_free n s (free (0 ∷ n) s) t ≡ t = replace_free-not_free n s (free (0 ∷ n) s) t none in
    let renamed : normal_form [] (replace_free n s (free (0 ∷ n) s) t) ≡ replace_free n s (free (0 ∷ n) s) (normal_form [] t) = normal_renamed [] n (0 ∷ n) s r t typed in
    let both : normal_form [] t ≡ replace_free n s (free (0 ∷ n) s) (normal_form [] t) = ap (normal_form []) (sym unchanged) ∙ renamed in
    replaced_away n (0 ∷ n) s (normal_form [] t) (longer_name n) (subst (IsFree n s) both h)

-- nor, where the term is a formula, in the long normal form that is given
pub not_free_in_normal : (n : List ℕ) (s : SimpleType) (a lower : Term) → IsFormula a → IsNormalFormula lower a → (IsFree n s a → ⊥) → IsFree n s lower → ⊥
not_free_in_normal n s a lower formula normal none h =
    let same : normal_form [] a ≡ lower = normal_is [] a lower truth_type normal.0 (conv-sym [] truth_type lower a normal.1) in
    not_free_normal n s a truth_type formula none (subst (IsFree n s) (sym same) h)
