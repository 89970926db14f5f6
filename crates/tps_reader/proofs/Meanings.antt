-- What tokens are in a phrase.
use Rattle.std.proofs.Common.{◌≡◌, ℕ, Bool, true, false, cond, List, codes, refl, sym, ◌∙◌, ap, subst, inl, inr}
use Rattle.std.specs.Prelude.{encode_utf8_all}
use Rattle.std.specs.Str.{chars}
use Rattle.std.proofs.lemmas.Bool.{false_from_ne_true}
use Rattle.std.proofs.lemmas.Str.{encodes_same}
use Rattle.hol_terms.specs.Names.{IsName, IsReserved}
use Rattle.core_text.specs.Words.{is_name, same_bytes}
use Rattle.core_text.proofs.NameLaws.{IsName-chars, is_name-encoded, same_bytes-only}
use Rattle.tps_reader.specs.Grammar.{binder_word, infix_word, truth_word}
use Rattle.tps_reader.specs.Machine.{Role, a_name, a_truth, a_binder, an_infix, an_opening, a_closing, a_dot, a_tilde, a_parenthesis, another, name_or_other, role_of, word_role}
use Rattle.tps_reader.specs.Tokens.{Sign, open_square, close_square, open_round, close_round, dot, tilde, semicolon, number, word}
use Rattle.tps_reader.specs.declared.raws.Binder.{Binder}
use Rattle.tps_reader.specs.declared.raws.Infix.{Infix}
use Rattle.tps_reader.specs.declared.raws.Binder.TheVariants as binder
use Rattle.tps_reader.specs.declared.raws.Infix.TheVariants as joint

pub name_found : (w name : List ℕ) → encode_utf8_all name ≡ encode_utf8_all w → IsName name → a_name name ≡ name_or_other w
name_found w name e h =
    let same : w ≡ name = encodes_same w name (sym e) in
    let found : is_name (encode_utf8_all w) ≡ true = ap is_name (sym e) ∙ is_name-encoded name h in
    rw found (ap a_name (sym same))

pub no_name_found : (w : List ℕ) → ((name : List ℕ) → encode_utf8_all name ≡ encode_utf8_all w → IsName name → ⊥) → another ≡ name_or_other w
no_name_found w h = rw (false_from_ne_true (is_name (encode_utf8_all w)) (λ e. let n = IsName-chars (encode_utf8_all w) e in h (chars (encode_utf8_all w)) n.1 n.0)) refl

-- what a sign is, where it has this role
abbrev pub Means : Role → Sign → Type 0
Means (a_name name) s = (s ≡ word name) × IsName name
Means (a_truth value) s = s ≡ word (truth_word value)
Means (a_binder b) s = s ≡ word (binder_word b)
Means (an_infix op) s = s ≡ word (infix_word op)
Means an_opening s = s ≡ open_square
Means a_closing s = s ≡ close_square
Means a_dot s = s ≡ dot
Means a_tilde s = s ≡ tilde
Means a_parenthesis s = s ≡ open_round
Means another s = Unit {0}

name_means : (w : List ℕ) → Means (name_or_other w) (word w)
name_means w = go (is_name (encode_utf8_all w)) refl
  where
    go : (b : Bool) → is_name (encode_utf8_all w) ≡ b → Means (cond b (a_name w) another) (word w)
    go true e =
        let n = IsName-chars (encode_utf8_all w) e in
        let same : chars (encode_utf8_all w) ≡ w = encodes_same (chars (encode_utf8_all w)) w n.1 in
        (refl, subst IsName same n.0)
    go false e = tt

test : (w k : List ℕ) (r other : Role) → (w ≡ k → Means r (word w)) → Means other (word w) → Means (cond (same_bytes w k) r other) (word w)
test w k r other f g = go (same_bytes w k) refl
  where
    go : (b : Bool) → same_bytes w k ≡ b → Means (cond b r other) (word w)
    go true e = f (same_bytes-only w k e)
    go false e = g

word_means : (w : List ℕ) → Means (word_role w) (word w)
word_means w =
    test w (codes "AND") (an_infix joint.And) _ (ap word) (test w (codes "OR") (an_infix joint.Or) _ (ap word) (test w (codes "IMPLIES") (an_infix joint.Implies) _ (ap word)
    (test w (codes "EQUIV") (an_infix joint.Equiv) _ (ap word) (test w (codes "TRUTH") (a_truth true) _ (ap word) (test w (codes "FALSEHOOD") (a_truth false) _ (ap word)
    (test w (codes "FORALL") (a_binder binder.Forall) _ (ap word) (test w (codes "EXISTS") (a_binder binder.Exists) _ (ap word) (test w (codes "LAMBDA") (a_binder binder.Lambda) _ (ap word)
    (name_means w)))))))))

pub role_means : (s : Sign) → Means (role_of s) s
role_means open_square = refl
role_means close_square = refl
role_means open_round = refl
role_means close_round = tt
role_means dot = refl
role_means tilde = refl
role_means semicolon = tt
role_means (number n) = tt
role_means (word w) = word_means w

-- the roles of words
pub infix_role : (op : Infix) → role_of (word (infix_word op)) ≡ an_infix op
infix_role joint.And = refl
infix_role joint.Or = refl
infix_role joint.Implies = refl
infix_role joint.Equiv = refl

pub binder_role : (b : Binder) → role_of (word (binder_word b)) ≡ a_binder b
binder_role binder.Forall = refl
binder_role binder.Exists = refl
binder_role binder.Lambda = refl

pub truth_role : (value : Bool) → role_of (word (truth_word value)) ≡ a_truth value
truth_role true = refl
truth_role false = refl

pub name_role : (name : List ℕ) → IsName name → role_of (word name) ≡ a_name name
name_role name h =
    rw (
      no (codes "AND") (λ e. inl e),
      no (codes "OR") (λ e. inr (inl e)),
      no (codes "IMPLIES") (λ e. inr (inr (inl e))),
      no (codes "EQUIV") (λ e. inr (inr (inr (inl e)))),
      no (codes "TRUTH") (λ e. inr (inr (inr (inr (inl e))))),
      no (codes "FALSEHOOD") (λ e. inr (inr (inr (inr (inr (inl e)))))),
      no (codes "FORALL") (λ e. inr (inr (inr (inr (inr (inr (inl e))))))),
      no (codes "EXISTS") (λ e. inr (inr (inr (inr (inr (inr (inr (inl e)))))))),
      no (codes "LAMBDA") (λ e. inr (inr (inr (inr (inr (inr (inr (inr e)))))))),
      is_name-encoded name h,
    ) refl
  where
    no : (k : List ℕ) → (name ≡ k → IsReserved name) → same_bytes name k ≡ false
    no k f = false_from_ne_true (same_bytes name k) (λ e. h.2 (f (same_bytes-only name k e)))
