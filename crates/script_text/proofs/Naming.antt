-- Tokens that are names.
use Rattle.std.proofs.Common.{◌≡◌, ℕ, Bool, true, false, cond, List, [], ◌∷◌, Some, None, refl, sym, ◌∙◌, ap, subst, decimal, arith, inl, inr}
use Rattle.std.specs.Prelude.{encode_utf8_all}
use Rattle.std.specs.Str.{chars}
use Rattle.std.proofs.lemmas.Bool.{false_from_ne_true}
use Rattle.std.proofs.lemmas.Str.{encodes_same}
use Rattle.hol_terms.specs.Names.{IsName}
use Rattle.hol_terms.proofs.Naming.{numbered_is_name}
use Rattle.core_text.specs.Words.{is_name}
use Rattle.core_text.proofs.NameLaws.{IsName-chars, is_name-encoded}
use Rattle.tps_reader.specs.Tokens.{Sign, open_square, close_square, open_round, close_round, dot, tilde, semicolon, number, word, Token, token, sign_of, token_place}
use Rattle.script_text.specs.Languages.{LeavesFirst}
use Rattle.script_text.specs.Tails.{HasTail, bare_name}
use Rattle.script_text.specs.Variables.{name_in}
use Rattle.script_text.proofs.Leaving.{stops_behind, stops_first}

-- what a text's name is
pub name_found : (w name : List ℕ) → encode_utf8_all name ≡ encode_utf8_all w → IsName name → Some name ≡ cond (is_name (encode_utf8_all w)) (Some w) None
name_found w name e h =
    let same : w ≡ name = encodes_same w name (sym e) in
    let found : is_name (encode_utf8_all w) ≡ true = ap is_name (sym e) ∙ is_name-encoded name h in
    rw found (ap (λ (n : List ℕ). Some n) (sym same))

pub no_name_found : (w : List ℕ) → ((name : List ℕ) → encode_utf8_all name ≡ encode_utf8_all w → IsName name → ⊥) → None ≡ cond (is_name (encode_utf8_all w)) (Some w) None
no_name_found w h = rw (false_from_ne_true (is_name (encode_utf8_all w)) (λ e. let n = IsName-chars (encode_utf8_all w) e in h (chars (encode_utf8_all w)) n.1 n.0)) refl

pub name_is : (name : List ℕ) → IsName name → name_in (word name) ≡ Some name
name_is name h = rw (is_name-encoded name h) refl

word_is : (w name : List ℕ) → name_in (word w) ≡ Some name → (word w ≡ word name) × IsName name
word_is w name h = go (is_name (encode_utf8_all w)) refl h
  where
    go : (b : Bool) → is_name (encode_utf8_all w) ≡ b → cond b (Some w) None ≡ Some name → (word w ≡ word name) × IsName name
    go true e h =
        let n = IsName-chars (encode_utf8_all w) e in
        let same : chars (encode_utf8_all w) ≡ w = encodes_same (chars (encode_utf8_all w)) w n.1 in
        let named : w ≡ name = cc in
        (ap word named, subst IsName (same ∙ named) n.0)
    go false e h = cc

pub named_is : (s : Sign) (name : List ℕ) → name_in s ≡ Some name → (s ≡ word name) × IsName name
named_is open_square name h = cc
named_is close_square name h = cc
named_is open_round name h = cc
named_is close_round name h = cc
named_is dot name h = cc
named_is tilde name h = cc
named_is semicolon name h = cc
named_is (number n) name h = cc
named_is (word w) name h = word_is w name h

-- a name
unfoldable pub some_name : List ℕ
some_name = 97 ∷ decimal 0

pub some_is_name : IsName some_name
unfolding some_name
some_is_name = numbered_is_name 0 (omega arith)

unfoldable pub name_token : Token
unfolding some_name
name_token = token (word some_name) 0 2

pub some_bare : HasTail bare_name (name_token ∷ [])
unfolding name_token
some_bare = (some_name, (refl, refl), some_is_name)

-- the faults of tokens that aren't a bare name
pub bare_ends : (last : ℕ) → LeavesFirst (HasTail bare_name) [] last last
bare_ends last = inr (refl, record { begins = (name_token ∷ [], some_bare); none = λ h. h.1 })

pub bare_first : (t : Token) (rest : List Token) (last : ℕ) → name_in (sign_of t) ≡ None → LeavesFirst (HasTail bare_name) (t ∷ rest) last (token_place t)
bare_first t rest last e =
    inl (stops_first (HasTail bare_name) t rest (name_token ∷ [], some_bare) (λ more h. let clash : Some h.0 ≡ None = sym (name_is h.0 h.2) ∙ ap name_in (sym h.1.0) ∙ e in cc))

pub bare_second : (t u : Token) (rest : List Token) (n : List ℕ) (last : ℕ) → name_in (sign_of t) ≡ Some n → LeavesFirst (HasTail bare_name) (t ∷ u ∷ rest) last (token_place u)
bare_second t u rest n last e =
    let is = named_is (sign_of t) n e in
    inl (stops_behind (HasTail bare_name) (t ∷ []) rest u ([], (n, (is.0, refl), is.1)) (λ more h. let clash : u ∷ more ≡ [] = h.1.1 in cc))
