-- Reading a form answers exactly the value that the table gives it.
use Rattle.std.proofs.Common.{◌≡◌, ℕ, Bool, true, false, List, [], ◌∷◌, if◌then◌else◌, Result, Ok, Err, codes, refl, sym, ◌∙◌, ap, subst, inl, inr}
use Rattle.std.specs.Prelude.{encode_utf8_all, ◌⊎◌}
use Rattle.std.specs.Str.{chars}
use Rattle.std.proofs.lemmas.Bool.{and_parts, leb-true, le-leb}
use Rattle.hol_terms.specs.Names.{IsName}
use Rattle.hol_terms.specs.Terms.{SimpleType, base_type, function_type, Constant, negation, conjunction, disjunction, implication, truth, falsehood, forall, exists, Term, free, bound, constant, application, abstraction}
use Rattle.core_text.specs.Forms.{Form, word_form, number_form, list_form, Forms, no_forms, more_forms}
use Rattle.core_text.specs.Placed.{Placed, word_at, number_at, list_at, PlacedAll, none_at, more_at, form, forms}
use Rattle.core_text.specs.CoreForms.{ConstantHasLetters, HasLetters, HasNames, IsFormOfName, IsFormOfTerm, IsFormOfType, pair_form, triple_form, type_form, constant_form, term_form}
use Rattle.core_text.specs.Reading.{◌>>=◌, constant_in, letter_in, name_at, number_in, pair_at, term_at, type_at, variable_at}
use Rattle.core_text.specs.Words.{is_letter, is_name, same_bytes}
use Rattle.core_text.proofs.NameLaws.{IsName-chars, name_found, same_bytes-only}
use Rattle.core_text.proofs.Shapes.{number_shape, pair_shape, triple_shape, word_shape}

pub bind_ok : {A B E : Type 0} (r : Result A E) (f : A → Result B E) (b : B) → (r >>= f) ≡ Ok b → (a : A) × (r ≡ Ok a) × (f a ≡ Ok b)
bind_ok (Ok a) f b e = (a, refl, e)
bind_ok (Err k) f b e = cc

pub choice_ok : {A : Type 0} (test : Bool) (p q : Result A ℕ) (a : A) → (if test then p else q) ≡ Ok a → ((test ≡ true) × (p ≡ Ok a)) ⊎ (q ≡ Ok a)
choice_ok true p q a e = inl (refl, e)
choice_ok false p q a e = inr e

-- a letter
letter_read : (w : List ℕ) (k : ℕ) (s : SimpleType) → letter_in w k ≡ Ok s → (word_form w ≡ type_form s) × HasLetters s
letter_read [] k s e = cc
letter_read (b ∷ c ∷ bs) k s e = cc
letter_read (b ∷ []) k s e = go (is_letter (b ∷ [])) refl e
  where
    go : (t : Bool) → is_letter (b ∷ []) ≡ t → (if t then Ok (base_type b) else Err k) ≡ Ok s → (word_form (b ∷ []) ≡ type_form s) × HasLetters s
    go true h e =
        let same : base_type b ≡ s = cc in
        let parts = and_parts _ _ h in
        let P : SimpleType → Type 0 = λ s. (word_form (b ∷ []) ≡ type_form s) × HasLetters s in
        subst P same (refl, (leb-true 65 b parts.0, leb-true b 90 parts.1))
    go false h e = cc

pub type_read : (p : Placed) (s : SimpleType) → type_at p ≡ Ok s → IsFormOfType (form p) s
type_read (word_at w k) s e = letter_read w k s e
type_read (number_at n k) s e = cc
type_read (list_at none_at k) s e = cc
type_read (list_at (more_at r none_at) k) s e = cc
type_read (list_at (more_at r (more_at x (more_at y ps))) k) s e = cc
type_read (list_at (more_at r (more_at x none_at)) k) s e =
    let one = bind_ok (type_at r) (λ p. type_at x >>= λ q. Ok (function_type p q)) s e in
    let two = bind_ok (type_at x) (λ q. Ok (function_type one.0 q)) s one.2 in
    let same : function_type one.0 two.0 ≡ s = cc in
    let f = type_read r one.0 one.1 in
    let g = type_read x two.0 two.1 in
    let P : SimpleType → Type 0 = λ s. IsFormOfType (pair_form (form r) (form x)) s in
    subst P same (rw (f.0, g.0) refl, (f.1, g.1))

pub type_spelled : (s : SimpleType) (p : Placed) → form p ≡ type_form s → HasLetters s → type_at p ≡ Ok s
type_spelled (base_type b) p e h =
    let shape = word_shape p (b ∷ []) e in
    rw (shape.1, le-leb 65 b h.0, le-leb b 90 h.1) refl
type_spelled (function_type r s) p e h =
    let shape = pair_shape p (type_form r) (type_form s) e in
    rw (shape.is, type_spelled r shape.first shape.is_first h.0, type_spelled s shape.second shape.is_second h.1) refl

-- a name and a number
pub name_read : (p : Placed) (name : List ℕ) → name_at p ≡ Ok name → IsFormOfName (form p) name
name_read (number_at n k) name e = cc
name_read (list_at fs k) name e = cc
name_read (word_at w k) name e = go (is_name w) refl e
  where
    go : (t : Bool) → is_name w ≡ t → (if t then Ok (chars w) else Err k) ≡ Ok name → (word_form w ≡ word_form (encode_utf8_all name)) × IsName name
    go true h e =
        let same : chars w ≡ name = cc in
        let found = IsName-chars w h in
        let P : List ℕ → Type 0 = λ n. (word_form w ≡ word_form (encode_utf8_all n)) × IsName n in
        subst P same (ap word_form (sym found.1), found.0)
    go false h e = cc

pub name_spelled : (name : List ℕ) (p : Placed) → form p ≡ word_form (encode_utf8_all name) → IsName name → name_at p ≡ Ok name
name_spelled name p e h = let shape = word_shape p (encode_utf8_all name) e in rw shape.1 (name_found (encode_utf8_all name) name shape.0 refl h)

pub number_read : (p : Placed) (n : ℕ) → number_in p ≡ Ok n → form p ≡ number_form n
number_read (word_at w k) n e = cc
number_read (number_at m k) n e = cc
number_read (list_at fs k) n e = cc

-- the constant of a word
named : (w v : List ℕ) (c : Constant) (t : Term) → word_form v ≡ constant_form c → ConstantHasLetters c → same_bytes w v ≡ true → ◌≡◌ {A = Result Term ℕ} (Ok (constant c)) (Ok t) → IsFormOfTerm (word_form w) t
named w v c t spells letters h e =
    let same : constant c ≡ t = cc in
    let P : Term → Type 0 = λ t. IsFormOfTerm (word_form w) t in
    subst P same (ap word_form (same_bytes-only w v h) ∙ spells, letters)

constant_read : (w : List ℕ) (k : ℕ) (t : Term) → constant_in w k ≡ Ok t → IsFormOfTerm (word_form w) t
constant_read w k t e = elim (choice_ok (same_bytes w (codes "NOT")) (Ok (constant negation)) _ t e) [
  | inl h ↦ named w (codes "NOT") negation t refl tt h.0 h.1
  | inr e ↦ elim (choice_ok (same_bytes w (codes "AND")) (Ok (constant conjunction)) _ t e) [
    | inl h ↦ named w (codes "AND") conjunction t refl tt h.0 h.1
    | inr e ↦ elim (choice_ok (same_bytes w (codes "OR")) (Ok (constant disjunction)) _ t e) [
      | inl h ↦ named w (codes "OR") disjunction t refl tt h.0 h.1
      | inr e ↦ elim (choice_ok (same_bytes w (codes "IMPLIES")) (Ok (constant implication)) _ t e) [
        | inl h ↦ named w (codes "IMPLIES") implication t refl tt h.0 h.1
        | inr e ↦ elim (choice_ok (same_bytes w (codes "TRUTH")) (Ok (constant truth)) _ t e) [
          | inl h ↦ named w (codes "TRUTH") truth t refl tt h.0 h.1
          | inr e ↦ elim (choice_ok (same_bytes w (codes "FALSEHOOD")) (Ok (constant falsehood)) (Err k) t e) [
            | inl h ↦ named w (codes "FALSEHOOD") falsehood t refl tt h.0 h.1
            | inr e ↦ cc
          ]
        ]
      ]
    ]
  ]
]

-- an index or a quantifier
index_read : (w : List ℕ) (x : Placed) (t : Term) → same_bytes w (codes "B") ≡ true → (number_in x >>= λ n. Ok (bound n)) ≡ Ok t → IsFormOfTerm (pair_form (word_form w) (form x)) t
index_read w x t h e =
    let one = bind_ok (number_in x) (λ n. Ok (bound n)) t e in
    let same : bound one.0 ≡ t = cc in
    let number = number_read x one.0 one.1 in
    let P : Term → Type 0 = λ t. IsFormOfTerm (pair_form (word_form w) (form x)) t in
    subst P same (rw (same_bytes-only w (codes "B") h, number) refl, tt)

quantifier_read : (w v : List ℕ) (c : SimpleType → Constant) (x : Placed) (t : Term) → ((s : SimpleType) → constant_form (c s) ≡ pair_form (word_form v) (type_form s)) → ((s : SimpleType) → HasLetters s → ConstantHasLetters (c s))
    → same_bytes w v ≡ true → (type_at x >>= λ s. Ok (constant (c s))) ≡ Ok t → IsFormOfTerm (pair_form (word_form w) (form x)) t
quantifier_read w v c x t spells letters h e =
    let one = bind_ok (type_at x) (λ s. Ok (constant (c s))) t e in
    let same : constant (c one.0) ≡ t = cc in
    let read = type_read x one.0 one.1 in
    let P : Term → Type 0 = λ t. IsFormOfTerm (pair_form (word_form w) (form x)) t in
    subst P same (rw (same_bytes-only w v h, read.0) (sym (spells one.0)), letters one.0 read.1)

pair_read : (w : List ℕ) (x : Placed) (k : ℕ) (t : Term) → pair_at w x k ≡ Ok t → IsFormOfTerm (pair_form (word_form w) (form x)) t
pair_read w x k t e = elim (choice_ok (same_bytes w (codes "B")) (number_in x >>= λ n. Ok (bound n)) _ t e) [
  | inl h ↦ index_read w x t h.0 h.1
  | inr e ↦ elim (choice_ok (same_bytes w (codes "ALL")) (type_at x >>= λ s. Ok (constant (forall s))) _ t e) [
    | inl h ↦ quantifier_read w (codes "ALL") (λ s. forall s) x t (λ s. refl) (λ s l. l) h.0 h.1
    | inr e ↦ elim (choice_ok (same_bytes w (codes "SOME")) (type_at x >>= λ s. Ok (constant (exists s))) (Err k) t e) [
      | inl h ↦ quantifier_read w (codes "SOME") (λ s. exists s) x t (λ s. refl) (λ s l. l) h.0 h.1
      | inr e ↦ cc
    ]
  ]
]

variable_read : (w : List ℕ) (x y : Placed) (t : Term) → same_bytes w (codes "V") ≡ true → variable_at x y ≡ Ok t → IsFormOfTerm (triple_form (word_form w) (form x) (form y)) t
variable_read w x y t h e =
    let one = bind_ok (name_at x) (λ name. type_at y >>= λ s. Ok (free name s)) t e in
    let two = bind_ok (type_at y) (λ s. Ok (free one.0 s)) t one.2 in
    let same : free one.0 two.0 ≡ t = cc in
    let name = name_read x one.0 one.1 in
    let type = type_read y two.0 two.1 in
    let P : Term → Type 0 = λ t. IsFormOfTerm (triple_form (word_form w) (form x) (form y)) t in
    subst P same (rw (same_bytes-only w (codes "V") h, name.0, type.0) refl, (name.1, type.1))

pub term_read : (p : Placed) (t : Term) → term_at p ≡ Ok t → IsFormOfTerm (form p) t
term_read (word_at w k) t e = constant_read w k t e
term_read (list_at (more_at (word_at w j) (more_at x none_at)) k) t e = pair_read w x k t e
term_read (list_at (more_at (word_at w j) (more_at x (more_at y none_at))) k) t e = elim (choice_ok (same_bytes w (codes "V")) (variable_at x y) _ t e) [
  | inl h ↦ variable_read w x y t h.0 h.1
  | inr e ↦ elim (choice_ok (same_bytes w (codes "A")) (term_at x >>= λ f. term_at y >>= λ a. Ok (application f a)) _ t e) [
    | inl h ↦
        let one = bind_ok (term_at x) (λ f. term_at y >>= λ a. Ok (application f a)) t h.1 in
        let two = bind_ok (term_at y) (λ a. Ok (application one.0 a)) t one.2 in
        let same : application one.0 two.0 ≡ t = cc in
        let f = term_read x one.0 one.1 in
        let a = term_read y two.0 two.1 in
        let P : Term → Type 0 = λ t. IsFormOfTerm (triple_form (word_form w) (form x) (form y)) t in
        subst P same (rw (same_bytes-only w (codes "A") h.0, f.0, a.0) refl, (f.1, a.1))
    | inr e ↦ elim (choice_ok (same_bytes w (codes "L")) (type_at x >>= λ s. term_at y >>= λ b. Ok (abstraction s b)) (Err k) t e) [
      | inl h ↦
          let one = bind_ok (type_at x) (λ s. term_at y >>= λ b. Ok (abstraction s b)) t h.1 in
          let two = bind_ok (term_at y) (λ b. Ok (abstraction one.0 b)) t one.2 in
          let same : abstraction one.0 two.0 ≡ t = cc in
          let s = type_read x one.0 one.1 in
          let b = term_read y two.0 two.1 in
          let P : Term → Type 0 = λ t. IsFormOfTerm (triple_form (word_form w) (form x) (form y)) t in
          subst P same (rw (same_bytes-only w (codes "L") h.0, s.0, b.0) refl, (s.1, b.1))
      | inr e ↦ cc
    ]
  ]
]
term_read p t e = cc

pub term_spelled : (t : Term) (p : Placed) → form p ≡ term_form t → HasNames t → term_at p ≡ Ok t
term_spelled (free name s) p e h =
    let shape = triple_shape p (word_form (codes "V")) (word_form (encode_utf8_all name)) (type_form s) e in
    let head = word_shape shape.first (codes "V") shape.is_first in
    rw (shape.is, head.1, name_spelled name shape.second shape.is_second h.0, type_spelled s shape.third shape.is_third h.1) refl
term_spelled (bound i) p e h =
    let shape = pair_shape p (word_form (codes "B")) (number_form i) e in
    let head = word_shape shape.first (codes "B") shape.is_first in
    let number = number_shape shape.second i shape.is_second in
    rw (shape.is, head.1, number.1) refl
term_spelled (constant negation) p e h = let shape = word_shape p (codes "NOT") e in rw shape.1 refl
term_spelled (constant conjunction) p e h = let shape = word_shape p (codes "AND") e in rw shape.1 refl
term_spelled (constant disjunction) p e h = let shape = word_shape p (codes "OR") e in rw shape.1 refl
term_spelled (constant implication) p e h = let shape = word_shape p (codes "IMPLIES") e in rw shape.1 refl
term_spelled (constant truth) p e h = let shape = word_shape p (codes "TRUTH") e in rw shape.1 refl
term_spelled (constant falsehood) p e h = let shape = word_shape p (codes "FALSEHOOD") e in rw shape.1 refl
term_spelled (constant (forall s)) p e h =
    let shape = pair_shape p (word_form (codes "ALL")) (type_form s) e in
    let head = word_shape shape.first (codes "ALL") shape.is_first in
    rw (shape.is, head.1, type_spelled s shape.second shape.is_second h) refl
term_spelled (constant (exists s)) p e h =
    let shape = pair_shape p (word_form (codes "SOME")) (type_form s) e in
    let head = word_shape shape.first (codes "SOME") shape.is_first in
    rw (shape.is, head.1, type_spelled s shape.second shape.is_second h) refl
term_spelled (application f a) p e h =
    let shape = triple_shape p (word_form (codes "A")) (term_form f) (term_form a) e in
    let head = word_shape shape.first (codes "A") shape.is_first in
    rw (shape.is, head.1, term_spelled f shape.second shape.is_second h.0, term_spelled a shape.third shape.is_third h.1) refl
term_spelled (abstraction s b) p e h =
    let shape = triple_shape p (word_form (codes "L")) (type_form s) (term_form b) e in
    let head = word_shape shape.first (codes "L") shape.is_first in
    rw (shape.is, head.1, type_spelled s shape.second shape.is_second h.0, term_spelled b shape.third shape.is_third h.1) refl

-- a form placed somewhere
mutual
  pub somewhere : (f : Form) → (p : Placed) × (form p ≡ f)
  somewhere (word_form w) = (word_at w 0, refl)
  somewhere (number_form n) = (number_at n 0, refl)
  somewhere (list_form fs) = let ps = all_somewhere fs in (list_at ps.0 0, ap list_form ps.1)

  all_somewhere : (fs : Forms) → (ps : PlacedAll) × (forms ps ≡ fs)
  all_somewhere no_forms = (none_at, refl)
  all_somewhere (more_forms f fs) = let p = somewhere f in let ps = all_somewhere fs in (more_at p.0 ps.0, rw (p.1, ps.1) refl)

-- a form stands for one type at most, and for one term
pub same_type : (f : Form) (s t : SimpleType) → IsFormOfType f s → IsFormOfType f t → s ≡ t
same_type f s t h k =
    let p = somewhere f in
    let one = type_spelled s p.0 (p.1 ∙ h.0) h.1 in
    let two = type_spelled t p.0 (p.1 ∙ k.0) k.1 in
    let both : ◌≡◌ {A = Result SimpleType ℕ} (Ok s) (Ok t) = sym one ∙ two in
    cc

pub same_term : (f : Form) (s t : Term) → IsFormOfTerm f s → IsFormOfTerm f t → s ≡ t
same_term f s t h k =
    let p = somewhere f in
    let one = term_spelled s p.0 (p.1 ∙ h.0) h.1 in
    let two = term_spelled t p.0 (p.1 ∙ k.0) k.1 in
    let both : ◌≡◌ {A = Result Term ℕ} (Ok s) (Ok t) = sym one ∙ two in
    cc

pub number_spelled : (n : ℕ) (p : Placed) → form p ≡ number_form n → number_in p ≡ Ok n
number_spelled n p e = let shape = number_shape p n e in rw shape.1 refl
