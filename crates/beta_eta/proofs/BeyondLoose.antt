-- What has no loose index to be replaced stays, and the normal form depends on the types of the loose indices alone.
use Rattle.std.proofs.Common.{ℕ, zero, suc, ◌+◌, ◌-◌, ◌<◌, List, [], ◌∷◌, slice_get, Some, None, Bool, true, false, cond, eqb, nat_lt, ◌≡◌, refl, ap, ◌∙◌, arith}
use Rattle.std.proofs.lemmas.Bool.Decides.{nat_tests}
use Rattle.hol_terms.specs.Terms.{SimpleType, Term, free, bound, constant, application, abstraction}
use Rattle.hol_terms.specs.Indices.{IsClosed, IsClosedBelow, raise}
use Rattle.hol_conv.specs.NormalForms.{apply_all, apply_abstractions, apply_long, hereditary, long_head, normal_form, normal_with, put_long, put_long_index, type_of_index}

index_stays : (apply : Term → List Term → Term) (k : ℕ) (u : Term) (i : ℕ) (rest : List Term) → i < k → put_long_index apply k u i rest ≡ apply_all (bound i) rest
index_stays apply k u i rest below =
    let other : eqb i k ≡ false = grind (arith, nat_tests) in
    let less : nat_lt i k ≡ true = grind (arith, nat_tests) in
    ap (λ (b : Bool). cond b (apply (raise k 0 u) rest) (cond (nat_lt i k) (apply_all (bound i) rest) (apply_all (bound (i - 1)) rest))) other
    ∙ ap (λ (b : Bool). cond b (apply_all (bound i) rest) (apply_all (bound (i - 1)) rest)) less

pub put_beyond_loose : (apply : Term → List Term → Term) (k : ℕ) (u t : Term) (rest : List Term) → IsClosedBelow k t → put_long apply k u t rest ≡ apply_all t rest
put_beyond_loose apply k u (free n s) rest closed = refl
put_beyond_loose apply k u (bound i) rest closed = index_stays apply k u i rest closed
put_beyond_loose apply k u (constant c) rest closed = refl
put_beyond_loose apply k u (application f a) rest closed =
    put_beyond_loose apply k u f (put_long apply k u a [] ∷ rest) closed.0
    ∙ ap (λ (x : Term). apply_all (application f x) rest) (put_beyond_loose apply k u a [] closed.1)
put_beyond_loose apply k u (abstraction s b) rest closed = ap (λ (x : Term). apply_all (abstraction s x) rest) (put_beyond_loose apply (k + 1) u b [] closed)

pub hereditary_beyond_loose : (s : SimpleType) (k : ℕ) (u t : Term) → IsClosedBelow k t → hereditary s k u t ≡ t
hereditary_beyond_loose s k u t closed = put_beyond_loose (apply_long s) k u t [] closed

-- the types of the indices below k are the same in both lists
record AgreeBelow (k : ℕ) (types others : List SimpleType) : Type 0 where
  at : (i : ℕ) → i < k → slice_get types i ≡ slice_get others i

agree_under : (k : ℕ) (types others : List SimpleType) (s : SimpleType) → AgreeBelow k types others → AgreeBelow (k + 1) (s ∷ types) (s ∷ others)
agree_under k types others s agree = record { at = λ i below. by i below }
  where
    by : (i : ℕ) → i < k + 1 → slice_get (s ∷ types) i ≡ slice_get (s ∷ others) i
    by zero below = refl
    by (suc i) below = agree.at i (omega arith)

same_index_type : (types others : List SimpleType) (i : ℕ) → slice_get types i ≡ slice_get others i → type_of_index types i ≡ type_of_index others i
same_index_type [] [] i same = refl
same_index_type [] (s ∷ others) zero same = let e : None ≡ Some s = same in cc
same_index_type [] (s ∷ others) (suc i) same = same_index_type [] others i same
same_index_type (s ∷ types) [] zero same = let e : Some s ≡ None = same in cc
same_index_type (s ∷ types) [] (suc i) same = same_index_type types [] i same
same_index_type (s ∷ types) (r ∷ others) zero same = let e : Some s ≡ Some r = same in cc
same_index_type (s ∷ types) (r ∷ others) (suc i) same = same_index_type types others i same

normal_by_agreement : (k : ℕ) (types others : List SimpleType) (t : Term) (rest : List Term) → IsClosedBelow k t → AgreeBelow k types others
    → normal_with types t rest ≡ normal_with others t rest
normal_by_agreement k types others (free n s) rest closed agree = refl
normal_by_agreement k types others (bound i) rest closed agree =
    ap (λ (s : SimpleType). long_head s (bound i) rest) (same_index_type types others i (agree.at i closed))
normal_by_agreement k types others (constant c) rest closed agree = refl
normal_by_agreement k types others (application f a) rest closed agree =
    ap (λ (x : Term). normal_with types f (x ∷ rest)) (normal_by_agreement k types others a [] closed.1 agree)
    ∙ normal_by_agreement k types others f (normal_with others a [] ∷ rest) closed.0 agree
normal_by_agreement k types others (abstraction s b) rest closed agree =
    ap (λ (x : Term). apply_abstractions (abstraction s x) rest)
    (normal_by_agreement (k + 1) (s ∷ types) (s ∷ others) b [] closed (agree_under k types others s agree))

pub normal_by_loose_types : (k : ℕ) (types others : List SimpleType) (t : Term) → IsClosedBelow k t → ((i : ℕ) → i < k → slice_get types i ≡ slice_get others i)
    → normal_form types t ≡ normal_form others t
normal_by_loose_types k types others t closed same = normal_by_agreement k types others t [] closed (record { at = same })

pub normal_of_closed : (types : List SimpleType) (t : Term) → IsClosed t → normal_form types t ≡ normal_form [] t
normal_of_closed types t closed = normal_by_loose_types 0 types [] t closed (λ i below. absurd (omega arith))
