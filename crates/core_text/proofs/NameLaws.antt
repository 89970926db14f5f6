-- The test of names on bytes is the library's notion of a name.
use Rattle.std.proofs.Common.{◌≡◌, ℕ, true, List, [], ◌∷◌, length, All, codes, refl, sym, ◌∙◌, ap, inl, inr, Result, Ok, Err, arith}
use Rattle.std.specs.Prelude.{encode_utf8_all, IsUtf8}
use Rattle.std.specs.Char.{IsScalar}
use Rattle.std.specs.Str.{all_scalars, chars}
use Rattle.std.proofs.lemmas.Slice.Eq.{bytes_eq-Decides}
use Rattle.std.proofs.lemmas.Bool.{and_from, and_parts, false_from_ne_true, leb-true, le-leb, or_cases, not-true, not_from_false, both_ways}
use Rattle.std.proofs.lemmas.Str.{IsUtf8-from_is_utf8, chars-encodes, encodes-chars, encodes_same, is_utf8-from_IsUtf8}
use Rattle.std.proofs.lemmas.List.Elements.{All-head, All-tail}
use Rattle.std.proofs.lemmas.List.Sums.{AllPass-from_list_all, list_all-from_AllPass}
use Rattle.unicode_ident.specs.Ident.{is_xid_start, is_xid_continue}
use Rattle.unicode_ident.proofs.IdentLemmas.{is_xid_start-ascii, is_xid_start-is_xid_continue}
use Rattle.hol_terms.specs.Names.{BeginsWithUnderscore, IsIdentifier, IsName, IsReserved, IsWord}
use Rattle.hol_terms.proofs.Naming.{reserved_characters, reserved_text, scalars_of_text}
use Rattle.core_text.specs.Placed.{word_at}
use Rattle.core_text.specs.Reading.{name_at}
use Rattle.core_text.specs.Words.{is_identifier, is_name, is_reserved, is_word, same_bytes}

pub same_bytes-refl : (w : List ℕ) → same_bytes w w ≡ true
same_bytes-refl w = (bytes_eq-Decides w w).1 refl

pub same_bytes-only : (v w : List ℕ) → same_bytes v w ≡ true → v ≡ w
same_bytes-only v w h = (bytes_eq-Decides v w).0 h

scalars_from : (cs : List ℕ) → All IsScalar cs → all_scalars cs ≡ true
scalars_from [] h = refl
scalars_from (c ∷ cs) h = and_from _ _ (All-head IsScalar c cs h) (scalars_from cs (All-tail IsScalar c cs h))

utf8_of : (cs : List ℕ) → All IsScalar cs → IsUtf8 (encode_utf8_all cs)
utf8_of cs h = (cs, (scalars_from cs h, refl))

identifier_from : (cs : List ℕ) → IsIdentifier cs → is_identifier cs ≡ true
identifier_from [] h = absurd h
identifier_from (c ∷ cs) h = and_from _ _ h.0 (and_from _ _ (is_xid_start-is_xid_continue c h.0) (list_all-from_AllPass is_xid_continue cs h.1))

identifier_to : (cs : List ℕ) → is_identifier cs ≡ true → IsIdentifier cs
identifier_to [] h = cc
identifier_to (c ∷ cs) h = let parts = and_parts _ _ h in (parts.0, AllPass-from_list_all is_xid_continue cs (and_parts _ _ parts.1).1)

-- the words on characters are those on bytes
pub is_word-encoded : (cs : List ℕ) → IsWord cs → is_word (encode_utf8_all cs) ≡ true
is_word-encoded cs h =
    let back : chars (encode_utf8_all cs) ≡ cs = chars-encodes cs (scalars_from cs h.0) in
    rw (is_utf8-from_IsUtf8 (encode_utf8_all cs) (utf8_of cs h.0), back, le-leb (length cs) 64 h.1, identifier_from cs h.2) refl

pub IsWord-chars : (w : List ℕ) → is_word w ≡ true → IsWord (chars w) × (encode_utf8_all (chars w) ≡ w)
IsWord-chars w h =
    let parts = and_parts _ _ h in
    let utf8 = IsUtf8-from_is_utf8 w parts.0 in
    let rest = and_parts _ _ parts.1 in
    ((scalars_of_text (chars w) w utf8 (encodes-chars w utf8), leb-true _ _ rest.0, identifier_to (chars w) rest.1), encodes-chars w utf8)

reserved_to : (w : List ℕ) → is_reserved w ≡ true → IsReserved w
reserved_to w h = elim (or_cases _ _ h) [
  | inl e ↦ inl (same_bytes-only w (codes "AND") e)
  | inr h ↦ inr (elim (or_cases _ _ h) [
    | inl e ↦ inl (same_bytes-only w (codes "OR") e)
    | inr h ↦ inr (elim (or_cases _ _ h) [
      | inl e ↦ inl (same_bytes-only w (codes "IMPLIES") e)
      | inr h ↦ inr (elim (or_cases _ _ h) [
        | inl e ↦ inl (same_bytes-only w (codes "EQUIV") e)
        | inr h ↦ inr (elim (or_cases _ _ h) [
          | inl e ↦ inl (same_bytes-only w (codes "TRUTH") e)
          | inr h ↦ inr (elim (or_cases _ _ h) [
            | inl e ↦ inl (same_bytes-only w (codes "FALSEHOOD") e)
            | inr h ↦ inr (elim (or_cases _ _ h) [
              | inl e ↦ inl (same_bytes-only w (codes "FORALL") e)
              | inr h ↦ inr (elim (or_cases _ _ h) [
                | inl e ↦ inl (same_bytes-only w (codes "EXISTS") e)
                | inr e ↦ inr (same_bytes-only w (codes "LAMBDA") e)
              ])
            ])
          ])
        ])
      ])
    ])
  ])
]

at_word : (w k : List ℕ) → is_reserved k ≡ true → w ≡ k → is_reserved w ≡ true
at_word w k h e = ap is_reserved e ∙ h

reserved_from : (w : List ℕ) → IsReserved w → is_reserved w ≡ true
reserved_from w (inl e) = at_word w (codes "AND") refl e
reserved_from w (inr (inl e)) = at_word w (codes "OR") refl e
reserved_from w (inr (inr (inl e))) = at_word w (codes "IMPLIES") refl e
reserved_from w (inr (inr (inr (inl e)))) = at_word w (codes "EQUIV") refl e
reserved_from w (inr (inr (inr (inr (inl e))))) = at_word w (codes "TRUTH") refl e
reserved_from w (inr (inr (inr (inr (inr (inl e)))))) = at_word w (codes "FALSEHOOD") refl e
reserved_from w (inr (inr (inr (inr (inr (inr (inl e))))))) = at_word w (codes "FORALL") refl e
reserved_from w (inr (inr (inr (inr (inr (inr (inr (inl e)))))))) = at_word w (codes "EXISTS") refl e
reserved_from w (inr (inr (inr (inr (inr (inr (inr (inr e)))))))) = at_word w (codes "LAMBDA") refl e

no_underscore : (cs : List ℕ) → IsIdentifier cs → BeginsWithUnderscore cs → ⊥
no_underscore [] h e = h
no_underscore (c ∷ cs) h e = both_ways (is_xid_start c) (ap is_xid_start e ∙ is_xid_start-ascii 95 (omega arith)) h.0

pub is_name-encoded : (cs : List ℕ) → IsName cs → is_name (encode_utf8_all cs) ≡ true
is_name-encoded cs h =
    and_from _ _ (is_word-encoded cs h.0) (not_from_false _ (false_from_ne_true _ (λ e. h.2 (reserved_characters cs (encode_utf8_all cs) refl (reserved_to (encode_utf8_all cs) e)))))

pub IsName-chars : (w : List ℕ) → is_name w ≡ true → IsName (chars w) × (encode_utf8_all (chars w) ≡ w)
IsName-chars w h =
    let parts = and_parts _ _ h in
    let word = IsWord-chars w parts.0 in
    ((word.0, no_underscore (chars w) word.0.2, λ r. both_ways (is_reserved w) (not-true _ parts.1) (reserved_from w (reserved_text (chars w) w word.1 r))), word.1)

-- a name is found exactly where the bytes are one
pub name_found : (w name : List ℕ) (k : ℕ) → encode_utf8_all name ≡ w → IsName name → name_at (word_at w k) ≡ Ok name
name_found w name k e h =
    let found : is_name w ≡ true = ap is_name (sym e) ∙ is_name-encoded name h in
    let wrap : List ℕ → Result (List ℕ) ℕ = λ cs. Ok cs in
    rw found (ap wrap (encodes_same (chars w) name ((IsName-chars w found).1 ∙ sym e)))

pub no_name_found : (w : List ℕ) (k : ℕ) → ((name : List ℕ) → encode_utf8_all name ≡ w → IsName name → ⊥) → name_at (word_at w k) ≡ Err k
no_name_found w k h = rw (false_from_ne_true (is_name w) (λ e. let n = IsName-chars w e in h (chars w) n.1 n.0)) refl

pub no_name_in_bytes : (w : List ℕ) (k : ℕ) → (IsUtf8 w → ⊥) → name_at (word_at w k) ≡ Err k
no_name_in_bytes w k h = rw (false_from_ne_true (is_name w) (λ e. h (IsUtf8-from_is_utf8 w (and_parts _ _ (and_parts _ _ e).0).0))) refl
