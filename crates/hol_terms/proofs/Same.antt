-- The tests of types, names and variables decide their equality.
use Rattle.std.proofs.Common.{ℕ, List, [], ◌∷◌, Bool, true, false, cond, eqb, ◌&&◌, ◌≡◌, ◌≢◌, refl, ap, ap₂, sym, ◌∙◌, Option, Some, None, arith}
use Rattle.std.proofs.lemmas.Bool.Decides.{nat_tests}
use Rattle.hol_terms.specs.Terms.{SimpleType, base_type, function_type, Variable}
use Rattle.hol_terms.specs.Computed.{same_type, same_name, same_variable, is_found, applied, abstracted}
use Rattle.hol_terms.specs.Found.{found_type, split_found}
use Rattle.hol_terms.specs.declared.typing.FoundFunction.{FoundFunction}

pub same_type_refl : (a : SimpleType) → same_type a a ≡ true
same_type_refl (base_type n) = grind (arith, nat_tests)
same_type_refl (function_type r s) = grind (arith, nat_tests, same_type_refl r, same_type_refl s)

functions_equal : (x y : Bool) (r q s p : SimpleType) → (x ≡ true → r ≡ q) → (y ≡ true → s ≡ p) → (x && y) ≡ true → function_type r s ≡ function_type q p
functions_equal true true r q s p f g e = let a : r ≡ q = f refl in let b : s ≡ p = g refl in cc
functions_equal true false r q s p f g e = cc
functions_equal false y r q s p f g e = cc

pub same_type_only : (a b : SimpleType) → same_type a b ≡ true → a ≡ b
same_type_only (base_type n) (base_type m) h = let e : n ≡ m = grind (arith, nat_tests) in ap base_type e
same_type_only (base_type n) (function_type r s) h = cc
same_type_only (function_type r s) (base_type n) h = cc
same_type_only (function_type r s) (function_type q p) h =
    functions_equal (same_type r q) (same_type s p) r q s p (same_type_only r q) (same_type_only s p) h

pub same_name_refl : (a : List ℕ) → same_name a a ≡ true
same_name_refl [] = refl
same_name_refl (c ∷ cs) = grind (arith, nat_tests, same_name_refl cs)

names_equal : (x y : Bool) (c d : ℕ) (cs ds : List ℕ) → (x ≡ true → c ≡ d) → (y ≡ true → cs ≡ ds) → (x && y) ≡ true → (c ∷ cs) ≡ (d ∷ ds)
names_equal true true c d cs ds f g e = let a : c ≡ d = f refl in let b : cs ≡ ds = g refl in cc
names_equal true false c d cs ds f g e = cc
names_equal false y c d cs ds f g e = cc

pub same_name_only : (a b : List ℕ) → same_name a b ≡ true → a ≡ b
same_name_only [] [] h = refl
same_name_only [] (d ∷ ds) h = cc
same_name_only (c ∷ cs) [] h = cc
same_name_only (c ∷ cs) (d ∷ ds) h = names_equal (eqb c d) (same_name cs ds) c d cs ds (λ e. grind (arith, nat_tests)) (same_name_only cs ds) h

both_true : (x y : Bool) → (x && y) ≡ true → (x ≡ true) × (y ≡ true)
both_true true true e = (refl, refl)
both_true true false e = cc
both_true false y e = cc

pub same_variable_refl : (v : Variable) → same_variable v v ≡ true
same_variable_refl v = ap₂ ◌&&◌ (same_name_refl v.0) (same_type_refl v.1)

pub same_variable_of : (n m : List ℕ) (s r : SimpleType) → n ≡ m → s ≡ r → same_variable (n, s) (m, r) ≡ true
same_variable_of n m s r e f = ap₂ ◌&&◌ (ap (same_name n) (sym e) ∙ same_name_refl n) (ap (same_type s) (sym f) ∙ same_type_refl s)

pub same_variable_parts : (n m : List ℕ) (s r : SimpleType) → same_variable (n, s) (m, r) ≡ true → (n ≡ m) × (s ≡ r)
same_variable_parts n m s r e = let p = both_true (same_name n m) (same_type s r) e in (same_name_only n m p.0, same_type_only s r p.1)

pub same_variable_only : (v w : Variable) → same_variable v w ≡ true → v ≡ w
same_variable_only v w e = let p = same_variable_parts v.0 w.0 v.1 w.1 e in (λ i. (p.0 i, p.1 i))

-- a type that was found

-- an abstraction has a function type where it is over a variable of its argument and the body has its result
pub found_abstracted : (o : Option SimpleType) (s r p : SimpleType) → s ≡ p → is_found (abstracted s o) (function_type r p) ≡ is_found o r
found_abstracted None s r p e = refl
found_abstracted (Some q) s r p e = right_true (same_type q r) (same_type s p) (ap (same_type s) (sym e) ∙ same_type_refl s)
  where
    right_true : (x y : Bool) → y ≡ true → (x && y) ≡ x
    right_true true y h = h
    right_true false y h = refl

pub found_abstracted_over_other : (o : Option SimpleType) (s r p : SimpleType) → s ≢ p → is_found (abstracted s o) (function_type r p) ≡ false
found_abstracted_over_other None s r p other = refl
found_abstracted_over_other (Some q) s r p other = by_test (same_type q r) (same_type s p) refl
  where
    by_test : (x y : Bool) → same_type s p ≡ y → (x && y) ≡ false
    by_test x true e = absurd (other (same_type_only s p e))
    by_test true false e = refl
    by_test false false e = refl

pub found_abstracted_at_letter : (o : Option SimpleType) (s : SimpleType) (l : ℕ) → is_found (abstracted s o) (base_type l) ≡ false
found_abstracted_at_letter None s l = refl
found_abstracted_at_letter (Some q) s l = refl

pub found_here : (r s : SimpleType) → r ≡ s → is_found (Some r) s ≡ true
found_here r s e = ap (λ s. same_type r s) (sym e) ∙ same_type_refl r

pub found_other : (r s : SimpleType) → r ≢ s → is_found (Some r) s ≡ false
found_other r s other = by_test (same_type r s) refl
  where
    by_test : (b : Bool) → same_type r s ≡ b → same_type r s ≡ false
    by_test true e = absurd (other (same_type_only r s e))
    by_test false e = e

-- the type of an application by the parts of its function's type

pub applied_right : (parts : FoundFunction) (t : SimpleType) (a : Option SimpleType) → split_found (Some parts) t
    → is_found a (found_type parts.argument) ≡ true → applied (Some t) a ≡ Some (found_type parts.result_type)
applied_right parts (base_type l) a h e = absurd h
applied_right parts (function_type r s) a h e =
    ap (λ (s : SimpleType). cond (is_found a s) (Some r) None) (sym h.1) ∙ ap (λ (b : Bool). cond b (Some r) None) e ∙ ap (λ (r : SimpleType). Some r) (sym h.0)

pub applied_wrong : (parts : FoundFunction) (t : SimpleType) (a : Option SimpleType) → split_found (Some parts) t
    → is_found a (found_type parts.argument) ≡ false → applied (Some t) a ≡ None
applied_wrong parts (base_type l) a h e = absurd h
applied_wrong parts (function_type r s) a h e =
    ap (λ (s : SimpleType). cond (is_found a s) (Some r) None) (sym h.1) ∙ ap (λ (b : Bool). cond b (Some r) None) e

pub applied_letter : (t : SimpleType) (a : Option SimpleType) → split_found None t → applied (Some t) a ≡ None
applied_letter (base_type l) a h = refl
applied_letter (function_type r s) a h = absurd h
