-- A letter is a name.
use Rattle.std.proofs.Common.{◌≡◌, ◌∙◌, ℕ, zero, suc, ◌<◌, List, [], ◌∷◌, length, true, false, inl, inr, sym, ap, subst, arith}
use Rattle.std.proofs.lemmas.Bool.Decides.{nat_tests}
use Rattle.std.specs.Prelude.{encode_utf8_all, IsTrue}
use Rattle.std.specs.Char.{IsScalar, is_ascii_alphabetic}
use Rattle.std.specs.Str.{IsAscii}
use Rattle.std.proofs.lemmas.Str.{encodes-IsAscii, encodes_same}
use Rattle.std.proofs.lemmas.List.Elements.{All-nil, All-cons}
use Rattle.unicode_ident.specs.Ident.{is_xid_continue}
use Rattle.unicode_ident.proofs.IdentLemmas.{is_xid_start-ascii}
use Rattle.hol_terms.specs.Names.{IsName, IsReserved}
use Rattle.tps_gen.specs.Letters.{IsLetter}

letter_small : (c : ℕ) → is_ascii_alphabetic c ≡ true → c < 128
letter_small c h = grind (arith, nat_tests)

letter_is_ascii : (c : ℕ) → c < 128 → IsAscii (c ∷ [])
letter_is_ascii c h zero = omega arith
letter_is_ascii c h (suc i) = omega arith

letter_encodes : (text : List ℕ) → IsLetter text → encode_utf8_all text ≡ text
letter_encodes text h =
    subst (λ (t : List ℕ). encode_utf8_all t ≡ t) (sym h.1) (encodes-IsAscii (h.0 ∷ []) (letter_is_ascii h.0 (letter_small h.0 h.2)))

other_length : (c : ℕ) (word : List ℕ) → 1 < length word → c ∷ [] ≡ word → ⊥
other_length c word h e = let same : 1 ≡ length word = ap length e in absurd (omega arith)

not_reserved : (c : ℕ) → IsReserved (c ∷ []) → ⊥
not_reserved c (inl e) = other_length c _ (omega arith) e
not_reserved c (inr (inl e)) = other_length c _ (omega arith) e
not_reserved c (inr (inr (inl e))) = other_length c _ (omega arith) e
not_reserved c (inr (inr (inr (inl e)))) = other_length c _ (omega arith) e
not_reserved c (inr (inr (inr (inr (inl e))))) = other_length c _ (omega arith) e
not_reserved c (inr (inr (inr (inr (inr (inl e)))))) = other_length c _ (omega arith) e
not_reserved c (inr (inr (inr (inr (inr (inr (inl e))))))) = other_length c _ (omega arith) e
not_reserved c (inr (inr (inr (inr (inr (inr (inr (inl e)))))))) = other_length c _ (omega arith) e
not_reserved c (inr (inr (inr (inr (inr (inr (inr (inr e)))))))) = other_length c _ (omega arith) e

no_underscore : (c : ℕ) → is_ascii_alphabetic c ≡ true → c ≡ 95 → ⊥
no_underscore c h e = let other : false ≡ true = subst (λ (d : ℕ). is_ascii_alphabetic d ≡ true) e h in cc

one_letter : (c : ℕ) → is_ascii_alphabetic c ≡ true → IsName (c ∷ [])
one_letter c h =
    let small : c < 128 = letter_small c h in (
      (
        All-cons IsScalar c [] (grind (arith, nat_tests)) (All-nil IsScalar),
        omega arith,
        (is_xid_start-ascii c small ∙ h, All-nil (λ d. IsTrue (is_xid_continue d))),
      ),
      no_underscore c h,
      not_reserved c,
    )

-- no text of a letter is refused as a name
pub letter_is_name : (text : List ℕ) → IsLetter text → ((name : List ℕ) → encode_utf8_all name ≡ text → IsName name → ⊥) → ⊥
letter_is_name text h none = none text (letter_encodes text h) (subst IsName (sym h.1) (one_letter h.0 h.2))

-- the name with the text of a letter is that letter
pub named_by_letter : (name text : List ℕ) → IsLetter text → encode_utf8_all name ≡ text → name ≡ text
named_by_letter name text h e = encodes_same name text (e ∙ sym (letter_encodes text h))
