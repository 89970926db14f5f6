-- The formulas of the table are formulas.
use Rattle.std.proofs.Common.{◌≡◌, ◌∙◌, ℕ, List, [], ◌∷◌, Bool, true, false, Some, None, refl, sym, ap, subst}
use Rattle.std.specs.Prelude.{Option, if◌then◌else◌}
use Rattle.hol_terms.specs.Computed.{is_found, same_type, type_in}
use Rattle.hol_terms.specs.FreeVariables.{IsBodyOver}
use Rattle.hol_terms.specs.Indices.{instance_of}
use Rattle.hol_terms.specs.Terms.{SimpleType, function_type, Term, abstraction, application, constant, forall, truth_type}
use Rattle.hol_terms.specs.Typing.{IsFormula, Typed}
use Rattle.hol_terms.proofs.Same.{found_here, same_type_only, same_type_refl}
use Rattle.hol_terms.proofs.Typings.{typed_from, typed_to}
use Rattle.hol_terms.proofs.TypingLaws.{body_is, typed_body, typed_instance, typed_is_closed}
use Rattle.nd_rules.specs.Rules.{implies, universal}
use Rattle.etps_session.specs.Tables.{generalization_of, instance_in, universal_in, universal_parts}

pub implies_typed : (a b t : Term) → IsFormula a → IsFormula b → t ≡ implies a b → IsFormula t
implies_typed a b t h k e = subst IsFormula (sym e) (truth_type, (truth_type, refl, h), k)

body_typed : (s : SimpleType) (b : Term) → IsFormula (universal s b) → Typed (s ∷ []) b truth_type
body_typed s b h =
    let outer : function_type truth_type (function_type truth_type s) ≡ function_type truth_type h.0 = h.1 in
    let inner : function_type h.2.0 s ≡ h.0 = h.2.2 in
    let same : h.2.0 ≡ truth_type = cc in
    subst (λ (r : SimpleType). Typed (s ∷ []) b r) same h.2.1

pub instance_typed : (a b t i : Term) (s : SimpleType) → IsFormula a → a ≡ universal s b → Typed [] t s → i ≡ instance_of b t → IsFormula i
instance_typed a b t i s h e typed f =
    subst IsFormula (sym f) (typed_instance [] s t b truth_type typed (body_typed s b (subst IsFormula e h)))

pub universal_typed : (n : List ℕ) (s : SimpleType) (a b t : Term) → IsFormula a → IsBodyOver n s a b → t ≡ universal s b → IsFormula t
universal_typed n s a b t h over e =
    subst IsFormula (sym e) (function_type truth_type s, refl, (truth_type, typed_body n s a b truth_type h over, refl))

pub universal_is : (n : List ℕ) (s : SimpleType) (a b t : Term) → IsFormula a → IsBodyOver n s a b → t ≡ universal s b → Some t ≡ generalization_of (n, s) (Some a)
universal_is n s a b t h over e = ap Some (e ∙ ap (universal s) (body_is n s a b (typed_is_closed a truth_type h) over))

-- universal formulas and their instances

parts_of_universal : (s : SimpleType) (b : Term) → universal_parts (universal s b) ≡ Some (s, b)
parts_of_universal s b = ap (λ (t : Bool). if t then Some (s, b) else None) (same_type_refl s)

no_parts : (a : Term) → ((s : SimpleType) (b : Term) → a ≡ universal s b → ⊥) → universal_parts a ≡ None
no_parts (application (constant (forall s)) (abstraction r b)) h = go (same_type s r) refl
  where
    go : (t : Bool) → same_type s r ≡ t → if◌then◌else◌ {A = Option (SimpleType × Term)} t (Some (s, b)) None ≡ None
    go true e = absurd (h s b (ap (λ (q : SimpleType). application (constant (forall s)) (abstraction q b)) (sym (same_type_only s r e))))
    go false e = refl
no_parts a h = refl

found_typed : (t : Term) (s : SimpleType) → Typed [] t s → is_found (type_in [] t) s ≡ true
found_typed t s h = ap (λ (o : Option SimpleType). is_found o s) (typed_to [] t s h) ∙ found_here s s refl

not_found : (t : Term) (s : SimpleType) → (Typed [] t s → ⊥) → is_found (type_in [] t) s ≡ false
not_found t s h = go (type_in [] t) refl
  where
    by_test : (r : SimpleType) (b : Bool) → same_type r s ≡ b → type_in [] t ≡ Some r → b ≡ false
    by_test r true e f = absurd (h (typed_from [] t s (f ∙ ap Some (same_type_only r s e))))
    by_test r false e f = refl

    go : (o : Option SimpleType) → type_in [] t ≡ o → is_found o s ≡ false
    go None e = refl
    go (Some r) e = by_test r (same_type r s) refl e

pub instance_made : (a b t i : Term) (s : SimpleType) → a ≡ universal s b → Typed [] t s → i ≡ instance_of b t → Some i ≡ instance_in (universal_in (Some a)) t
instance_made a b t i s e typed f =
    ap Some f ∙ sym (ap (λ (test : Bool). if test then Some (instance_of b t) else None) (found_typed t s typed))
    ∙ sym (ap (λ (o : Option (SimpleType × Term)). instance_in o t) (ap universal_parts e ∙ parts_of_universal s b))

pub instance_untyped : (a b t : Term) (s : SimpleType) → a ≡ universal s b → (Typed [] t s → ⊥) → None ≡ instance_in (universal_in (Some a)) t
instance_untyped a b t s e h =
    sym (ap (λ (test : Bool). if test then Some (instance_of b t) else None) (not_found t s h))
    ∙ sym (ap (λ (o : Option (SimpleType × Term)). instance_in o t) (ap universal_parts e ∙ parts_of_universal s b))

pub instance_of_none : (a t : Term) → ((s : SimpleType) (b : Term) → a ≡ universal s b → ⊥) → None ≡ instance_in (universal_in (Some a)) t
instance_of_none a t h = sym (ap (λ (o : Option (SimpleType × Term)). instance_in o t) (no_parts a h))
