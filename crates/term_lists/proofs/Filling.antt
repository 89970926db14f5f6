-- The parts of a signature as they are added.
use Rattle.std.proofs.Common.{ℕ, zero, suc, ◌+◌, ◌-◌, ◌<◌, ◌≤◌, List, [], ◌∷◌, ◌++◌, Bool, true, false, cond, ◌||◌, not, ◌≡◌, ◌⊎◌, inl, inr, refl, sym, ap, subst, ◌∙◌, map, Contains, codes, arith}
use Rattle.std.specs.Prelude.{encode_utf8_all, IsTrue, slice_index}
use Rattle.std.specs.Char.{IsScalar}
use Rattle.std.specs.List.{list_any, range_with_len}
use Rattle.std.proofs.lemmas.Bool.Decides.{nat_tests}
use Rattle.std.proofs.lemmas.Str.{encodes_same}
use Rattle.std.proofs.lemmas.List.{map-append}
use Rattle.std.proofs.lemmas.List.Elements.{All-nil, All-cons, filter-append}
use Rattle.unicode_ident.specs.Ident.{is_xid_continue}
use Rattle.unicode_ident.proofs.IdentLemmas.{is_xid_start-ascii, is_xid_continue-ascii}
use Rattle.hol_terms.specs.Names.{IsName, IsReserved}
use Rattle.hol_terms.specs.Terms.{SimpleType, base_type, Term, Variable}
use Rattle.hol_terms.specs.Computed.{same_variable}
use Rattle.hol_terms.specs.FreeVariables.{IsFree, free_variables_of}
use Rattle.hol_terms.proofs.Same.{same_variable_refl, same_variable_only}
use Rattle.hol_terms.proofs.FreeLaws.{free_variables-contains}
use Rattle.expansion_tree.specs.Budgets.{variable_head}
use Rattle.term_lists.specs.Signatures.{fill_at, new_variables}
use Rattle.term_lists.proofs.Members.{any-contains, contains-first, contains-cons}

-- FILL is a name

fill_letter : (c : ℕ) → (c ≡ 70) ⊎ ((c ≡ 73) ⊎ (c ≡ 76)) → IsTrue (is_xid_continue c)
fill_letter c which = let low : c < 128 = grind arith in is_xid_continue-ascii c low ∙ grind (arith, nat_tests)

other_second : (c d e : ℕ) (xs ys : List ℕ) → ((c < d) ⊎ (d < c)) → e ∷ c ∷ xs ≡ e ∷ d ∷ ys → ⊥
other_second c d e xs ys h same = let both : c ≡ d = cc in absurd (grind arith)

other_first : (c d : ℕ) (xs ys : List ℕ) → ((c < d) ⊎ (d < c)) → c ∷ xs ≡ d ∷ ys → ⊥
other_first c d xs ys h same = let both : c ≡ d = ap (λ (l : List ℕ). slice_index l 0) same in absurd (grind arith)

fill_not_reserved : IsReserved (codes "FILL") → ⊥
fill_not_reserved (inl e) = other_first 70 65 _ _ (inr (omega arith)) e
fill_not_reserved (inr (inl e)) = other_first 70 79 _ _ (inl (omega arith)) e
fill_not_reserved (inr (inr (inl e))) = other_first 70 73 _ _ (inl (omega arith)) e
fill_not_reserved (inr (inr (inr (inl e)))) = other_first 70 69 _ _ (inr (omega arith)) e
fill_not_reserved (inr (inr (inr (inr (inl e))))) = other_first 70 84 _ _ (inl (omega arith)) e
fill_not_reserved (inr (inr (inr (inr (inr (inl e)))))) = other_second 73 65 70 (codes "LL") (codes "LSEHOOD") (inr (omega arith)) e
fill_not_reserved (inr (inr (inr (inr (inr (inr (inl e))))))) = other_second 73 79 70 (codes "LL") (codes "RALL") (inl (omega arith)) e
fill_not_reserved (inr (inr (inr (inr (inr (inr (inr (inl e)))))))) = other_first 70 69 _ _ (inr (omega arith)) e
fill_not_reserved (inr (inr (inr (inr (inr (inr (inr (inr e)))))))) = other_first 70 76 _ _ (inl (omega arith)) e

pub fill_is_name : IsName (codes "FILL")
fill_is_name = (
  (
    All-cons IsScalar 70 (codes "ILL") refl (All-cons IsScalar 73 (codes "LL") refl (All-cons IsScalar 76 (codes "L") refl (All-cons IsScalar 76 [] refl (All-nil IsScalar)))),
    (omega arith),
    (
      is_xid_start-ascii 70 (omega arith),
      All-cons (λ c. IsTrue (is_xid_continue c)) 73 (codes "LL") (fill_letter 73 (inr (inl refl)))
          (All-cons (λ c. IsTrue (is_xid_continue c)) 76 (codes "L") (fill_letter 76 (inr (inr refl)))
          (All-cons (λ c. IsTrue (is_xid_continue c)) 76 [] (fill_letter 76 (inr (inr refl))) (All-nil (λ c. IsTrue (is_xid_continue c))))),
    ),
  ),
  (λ e. let same : 70 ≡ 95 = e in absurd (omega arith)),
  fill_not_reserved,
)

pub fill_bytes : encode_utf8_all (codes "FILL") ≡ codes "FILL"
unfolding lib.Utf8.encode
fill_bytes = refl

pub fill_from_bytes : (characters : List ℕ) → encode_utf8_all characters ≡ codes "FILL" → characters ≡ codes "FILL"
fill_from_bytes characters e = encodes_same characters (codes "FILL") (e ∙ sym fill_bytes)

-- the variable FILL at one type

test_of_free : (formula : Term) (v : Variable) → IsFree v.0 v.1 formula → list_any (same_variable v) (free_variables_of formula) ≡ true
test_of_free formula v h = any-contains same_variable same_variable_refl v (free_variables_of formula) ((free_variables-contains v.0 v.1 formula).1 h)

pub variable_from_any : (v : Variable) (xs : List Variable) → list_any (same_variable v) xs ≡ true → Contains xs v
variable_from_any v [] e = absurd (cc)
variable_from_any v (x ∷ xs) e = go (same_variable v x) refl e (variable_from_any v xs)
  where
    go : (b : Bool) → same_variable v x ≡ b → (b || list_any (same_variable v) xs) ≡ true → (list_any (same_variable v) xs ≡ true → Contains xs v) → Contains (x ∷ xs) v
    go true same f rest = contains-first x v xs (sym (same_variable_only v x same))
    go false same f rest = contains-cons x xs v (rest f)

pub fill_known : (formula : Term) (l : ℕ) (n : List ℕ) (s : SimpleType) → n ≡ codes "FILL" → s ≡ base_type l → IsFree n s formula
    → new_variables (free_variables_of formula) (fill_at l ∷ []) ≡ []
fill_known formula l n s e f h =
    let free_there : IsFree (codes "FILL") (base_type l) formula =
    subst (λ (m : List ℕ). IsFree m (base_type l) formula) e (subst (λ (r : SimpleType). IsFree n r formula) f h)
    in
    ap (λ (b : Bool). cond (not b) (fill_at l ∷ []) []) (test_of_free formula (fill_at l) free_there)

pub fill_new : (formula : Term) (l : ℕ) (n : List ℕ) (s : SimpleType) → n ≡ codes "FILL" → s ≡ base_type l → (IsFree n s formula → ⊥)
    → new_variables (free_variables_of formula) (fill_at l ∷ []) ≡ (n, s) ∷ []
fill_new formula l n s e f h = go (list_any (same_variable (fill_at l)) (free_variables_of formula)) refl
  where
    go : (b : Bool) → list_any (same_variable (fill_at l)) (free_variables_of formula) ≡ b → cond (not b) (fill_at l ∷ []) [] ≡ (n, s) ∷ []
    go true test =
        let free_there : IsFree (codes "FILL") (base_type l) formula =
        (free_variables-contains (codes "FILL") (base_type l) formula).0 (variable_from_any (fill_at l) (free_variables_of formula) test)
        in
        absurd (h (subst (λ (m : List ℕ). IsFree m s formula) (sym e) (subst (λ (r : SimpleType). IsFree (codes "FILL") r formula) (sym f) free_there)))
    go false test = λ i. (sym e i, sym f i) ∷ []

-- the letters

range_more : (a n : ℕ) → range_with_len a (n + 1) ≡ range_with_len a n ++ (a + n) ∷ []
range_more a zero = ap (λ (k : ℕ). k ∷ []) (omega arith)
range_more a (suc n) =
    let on : suc n + 1 ≡ suc (n + 1) = omega arith in
    let at : a + 1 + n ≡ a + suc n = omega arith in
    ap (range_with_len a) on ∙ ap (λ (l : List ℕ). a ∷ l) (range_more (a + 1) n ∙ ap (λ (k : ℕ). range_with_len (a + 1) n ++ k ∷ []) at)

pub fills_more : (known : List Variable) (byte : ℕ) → 65 ≤ byte
    → map variable_head (new_variables known (map fill_at (range_with_len 65 (byte + 1 - 65))))
    ≡ map variable_head (new_variables known (map fill_at (range_with_len 65 (byte - 65)))) ++ map variable_head (new_variables known (fill_at byte ∷ []))
fills_more known byte low =
    let on : byte + 1 - 65 ≡ byte - 65 + 1 = omega arith in
    let at : 65 + (byte - 65) ≡ byte = omega arith in
    let before : List ℕ = range_with_len 65 (byte - 65) in
    ap (λ (n : ℕ). map variable_head (new_variables known (map fill_at (range_with_len 65 n)))) on
    ∙ ap (λ (l : List ℕ). map variable_head (new_variables known (map fill_at l))) (range_more 65 (byte - 65) ∙ ap (λ (k : ℕ). before ++ k ∷ []) at)
    ∙ ap (λ (l : List Variable). map variable_head (new_variables known l)) (map-append fill_at before (byte ∷ []))
    ∙ ap (map variable_head) (filter-append (λ v. not (list_any (same_variable v) known)) (map fill_at before) (fill_at byte ∷ []))
    ∙ map-append variable_head (new_variables known (map fill_at before)) (new_variables known (fill_at byte ∷ []))
