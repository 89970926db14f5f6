-- Phrases among the tokens of a line.
use Rattle.std.proofs.Common.{◌≡◌, ◌⊎◌, ℕ, ◌+◌, ◌-◌, ◌^◌, ◌<◌, ◌≤◌, true, List, [], ◌∷◌, ◌++◌, map, refl, sym, ◌∙◌, ap, ap₂, subst, codes, arith, inl, inr}
use Rattle.tps_reader.specs.Faults.{IsPhraseFault}
use Rattle.tps_reader.specs.Grammar.{BeginsFormula, ConstantText, lone_infix, lone_quantifier, lone_tilde, IsFormula, OnlyBegins as OnlyBeginsFormula, Phrase, applied, bound, bracketed, connected, constant_alone, dotted, named, negated, truth_value, Spot, spot, standing, StopsAt, TypeText, type_end, type_group, type_letters, Written, typed, untyped, spelled, spelled_constant, spelled_type, spelled_written}
use Rattle.tps_reader.specs.Raws.{RawFormula, raw_constant}
use Rattle.hol_terms.specs.Terms.{truth}
use Rattle.tps_reader.specs.Tokens.{Sign, open_square, close_square, open_round, close_round, dot, tilde, semicolon, number, word, Token, token, sign_of, token_place, token_from, tokens_from}
use Rattle.tps_reader.specs.declared.faults.RawFault.{RawFault}
use Rattle.tps_reader.specs.declared.faults.RawFault.TheVariants as raw_fault
use Rattle.script_text.specs.Grammar.{IsPhraseOf, first_place}
use Rattle.script_text.specs.Languages.{Begins, OnlyBegins, Stops}
use Rattle.script_text.specs.Tails.{BeginsNoNumber, HasTail, IsFaultIn, FitsBehind, NoSemicolon, Rises, first_or, moved_fault, one_phrase}
use Rattle.script_text.proofs.Rising.{first_at, first_low}

-- where the tokens begin, as it is read
pub first_start : (ts : List Token) → first_or ts 0 ≡ first_place ts
first_start [] = refl
first_start (t ∷ ts) = refl

-- no numeral and no semicolon
abbrev pub IsPlain : Sign → Type 0
IsPlain open_square = Unit {0}
IsPlain close_square = Unit {0}
IsPlain open_round = Unit {0}
IsPlain close_round = Unit {0}
IsPlain dot = Unit {0}
IsPlain tilde = Unit {0}
IsPlain semicolon = ⊥
IsPlain (number n) = ⊥
IsPlain (word w) = Unit {0}

abbrev pub ArePlain : List Token → Type 0
ArePlain [] = Unit {0}
ArePlain (t ∷ ts) = IsPlain (sign_of t) × ArePlain ts

plain_append : (xs ys : List Token) → ArePlain xs → ArePlain ys → ArePlain (xs ++ ys)
plain_append [] ys g h = h
plain_append (t ∷ xs) ys g h = (g.0, plain_append xs ys g.1 h)

pub at_spot : (s : Spot) (sign : Sign) → sign_of (standing s sign) ≡ sign
at_spot (spot place long) sign = refl

standing_plain : (s : Spot) (sign : Sign) → IsPlain sign → IsPlain (sign_of (standing s sign))
standing_plain s sign h = subst IsPlain (sym (at_spot s sign)) h

type_plain : (t : TypeText) → ArePlain (spelled_type t)
type_plain type_end = tt
type_plain (type_letters s letters rest) = (standing_plain s (word letters) tt, type_plain rest)
type_plain (type_group s inner t rest) =
    (standing_plain s open_round tt, plain_append (spelled_type inner) (standing t close_round ∷ spelled_type rest) (type_plain inner) (standing_plain t close_round tt, type_plain rest))

written_plain : (w : Written) → ArePlain (spelled_written w)
written_plain untyped = tt
written_plain (typed s text t) = (standing_plain s open_round tt, plain_append (spelled_type text) (standing t close_round ∷ []) (type_plain text) (standing_plain t close_round tt, tt))

constant_plain : (c : ConstantText) → ArePlain (spelled_constant c)
constant_plain (lone_tilde s) = (standing_plain s tilde tt, tt)
constant_plain (lone_infix op s) = (standing_plain s (word _) tt, tt)
constant_plain (lone_quantifier b s t text u) =
    (standing_plain s (word _) tt, (standing_plain t open_round tt, plain_append (spelled_type text) (standing u close_round ∷ []) (type_plain text) (standing_plain u close_round tt, tt)))

phrase_plain : (p : Phrase) → ArePlain (spelled p)
phrase_plain (named s name ty) = (standing_plain s (word name) tt, written_plain ty)
phrase_plain (truth_value s value) = (standing_plain s (word _) tt, tt)
phrase_plain (constant_alone s con t) = (standing_plain s open_square tt, plain_append (spelled_constant con) (standing t close_square ∷ []) (constant_plain con) (standing_plain t close_square tt, tt))
phrase_plain (bracketed s p t) = (standing_plain s open_square tt, plain_append (spelled p) (standing t close_square ∷ []) (phrase_plain p) (standing_plain t close_square tt, tt))
phrase_plain (dotted s p) = (standing_plain s dot tt, phrase_plain p)
phrase_plain (applied f a) = plain_append (spelled f) (spelled a) (phrase_plain f) (phrase_plain a)
phrase_plain (negated s p) = (standing_plain s tilde tt, phrase_plain p)
phrase_plain (bound s b t name ty p) = (standing_plain s (word _) tt, (standing_plain t (word name) tt, plain_append (spelled_written ty) (spelled p) (written_plain ty) (phrase_plain p)))
phrase_plain (connected op l s r) = plain_append (spelled l) (standing s (word _) ∷ spelled r) (phrase_plain l) (standing_plain s (word _) tt, phrase_plain r)

pub sign_from : (k : ℕ) (t : Token) → sign_of (token_from k t) ≡ sign_of t
sign_from k (token s place long) = refl

plain_back : (k : ℕ) (ts : List Token) → ArePlain (tokens_from k ts) → ArePlain ts
plain_back k [] h = tt
plain_back k (t ∷ ts) h = (subst IsPlain (sign_from k t) h.0, plain_back k ts h.1)

formula_plain : (k : ℕ) (ts : List Token) (v : RawFormula) → IsFormula (tokens_from k ts) v → ArePlain ts
formula_plain k ts v h = plain_back k ts (subst ArePlain h.1 (phrase_plain h.0))

-- the tokens of a phrase
pub tokens_plain : (ts : List Token) (v : RawFormula) → IsPhraseOf ts v → ArePlain ts
tokens_plain ts v h = formula_plain (first_place ts) ts v h

pub plain_number : (ts : List Token) → ArePlain ts → BeginsNoNumber ts
plain_number [] h = tt
plain_number (t ∷ ts) h = λ n e. subst IsPlain e h.0

pub plain_semicolon : (ts : List Token) → ArePlain ts → NoSemicolon ts
plain_semicolon [] h = tt
plain_semicolon (t ∷ ts) h = (λ e. subst IsPlain e h.0, plain_semicolon ts h.1)

-- a phrase of one token
pub truth_token : Token
truth_token = token (word (codes "TRUTH")) 0 5

pub some_phrase : (v : RawFormula) × IsPhraseOf (truth_token ∷ []) v
unfolding truth_token
some_phrase = (raw_constant truth 0, (truth_value (spot 0 5) true, refl, refl))

-- places counted later
later : ℕ → Token → Token
later k (token s place long) = token s (place + k) long

all_later : ℕ → List Token → List Token
all_later k ts = map (later k) ts

back_again : (k : ℕ) (ts : List Token) → tokens_from k (all_later k ts) ≡ ts
unfolding all_later later
back_again k [] = refl
back_again k (token s place long ∷ ts) = let e : (place + k) - k ≡ place = omega arith in ap₂ (λ (n : ℕ) (l : List Token). token s n long ∷ l) e (back_again k ts)

pub from_append : (k : ℕ) (xs ys : List Token) → tokens_from k (xs ++ ys) ≡ tokens_from k xs ++ tokens_from k ys
from_append k [] ys = refl
from_append k (t ∷ xs) ys = ap (λ (l : List Token). token_from k t ∷ l) (from_append k xs ys)

-- what begins a phrase from its start begins one in the line
phrase_begins : (k : ℕ) (b : List Token) → (b ≡ []) ⊎ (first_place b ≡ k) → BeginsFormula (tokens_from k b) → Begins (HasTail one_phrase) b
phrase_begins k [] e h = (truth_token ∷ [], some_phrase)
phrase_begins k (t ∷ b) (inl e) h = cc
phrase_begins k (t ∷ b) (inr e) h =
    let whole : tokens_from k ((t ∷ b) ++ all_later k h.0) ≡ tokens_from k (t ∷ b) ++ h.0 =
    from_append k (t ∷ b) (all_later k h.0) ∙ ap (λ (l : List Token). tokens_from k (t ∷ b) ++ l) (back_again k h.0) in
    let read : IsFormula (tokens_from k ((t ∷ b) ++ all_later k h.0)) h.1 = subst (λ (l : List Token). IsFormula l h.1) (sym whole) h.2 in
    (all_later k h.0, (h.1, subst (λ (n : ℕ). IsFormula (tokens_from n ((t ∷ b) ++ all_later k h.0)) h.1) (sym e) read))

phrase_stops : (k : ℕ) (b : List Token) (t : Token) → first_place (b ++ (t ∷ [])) ≡ k → (BeginsFormula (tokens_from k b ++ (token_from k t ∷ [])) → ⊥) → Begins (HasTail one_phrase) (b ++ (t ∷ [])) → ⊥
phrase_stops k b t e s h =
    let first : first_place ((b ++ (t ∷ [])) ++ h.0) ≡ k = same_first b ∙ e in
    let whole : tokens_from k ((b ++ (t ∷ [])) ++ h.0) ≡ (tokens_from k b ++ (token_from k t ∷ [])) ++ tokens_from k h.0 =
    from_append k (b ++ (t ∷ [])) h.0 ∙ ap (λ (l : List Token). l ++ tokens_from k h.0) (from_append k b (t ∷ [])) in
    let read : IsFormula (tokens_from k ((b ++ (t ∷ [])) ++ h.0)) h.1.0 = subst (λ (n : ℕ). IsFormula (tokens_from n ((b ++ (t ∷ [])) ++ h.0)) h.1.0) first h.1.1 in
    s (tokens_from k h.0, h.1.0, subst (λ (l : List Token). IsFormula l h.1.0) whole read)
  where
    same_first : (b : List Token) → first_place ((b ++ (t ∷ [])) ++ h.0) ≡ first_place (b ++ (t ∷ []))
    same_first [] = refl
    same_first (u ∷ b) = refl

-- tokens whose moved ones have these parts
record Parted (k : ℕ) (ts before after : List Token) (u : Token) : Type 0 where
  b : List Token
  t : Token
  a : List Token
  parts : ts ≡ b ++ (t ∷ a)
  front : tokens_from k b ≡ before
  here : token_from k t ≡ u

parted_more : (k : ℕ) (t x : Token) (ts before after : List Token) (u : Token) → token_from k t ≡ x → Parted k ts before after u → Parted k (t ∷ ts) (x ∷ before) after u
parted_more k t x ts before after u head p =
    record { b = t ∷ p.b; t = p.t; a = p.a; parts = ap (λ (l : List Token). t ∷ l) p.parts; front = ap₂ (λ (x : Token) (l : List Token). x ∷ l) head p.front; here = p.here }

parted : (k : ℕ) (ts before after : List Token) (u : Token) → tokens_from k ts ≡ before ++ (u ∷ after) → Parted k ts before after u
parted k [] [] after u e = cc
parted k [] (x ∷ before) after u e = cc
parted k (t ∷ ts) [] after u e = let here : token_from k t ≡ u = cc in record { b = []; t = t; a = ts; parts = refl; front = refl; here = here }
parted k (t ∷ ts) (x ∷ before) after u e =
    let rest : tokens_from k ts ≡ before ++ (u ∷ after) = cc in
    let head : token_from k t ≡ x = cc in
    parted_more k t x ts before after u head (parted k ts before after u rest)

place_from : (k : ℕ) (t : Token) (s : Sign) (place long : ℕ) → token_from k t ≡ token s place long → place ≡ token_place t - k
place_from k (token r p l) s place long e = cc

first_of_parts : (b a m : List Token) (t : Token) → first_place (b ++ (t ∷ a)) ≡ first_place (b ++ (t ∷ m))
first_of_parts [] a m t = refl
first_of_parts (u ∷ b) a m t = refl

nothing_or_first : (b a : List Token) (t : Token) (k : ℕ) → first_place (b ++ (t ∷ a)) ≡ k → (b ≡ []) ⊎ (first_place b ≡ k)
nothing_or_first [] a t k e = inl refl
nothing_or_first (u ∷ b) a t k e = inr e

-- the parts of a phrase's fault in the line
pub phrase_parts : (ts : List Token) (place : ℕ) → StopsAt (tokens_from (first_place ts) ts) place → (b : List Token) × (t : Token) × (a : List Token) × (ts ≡ b ++ (t ∷ a)) × (place ≡ token_place t - first_place ts)
    × Begins (HasTail one_phrase) b × (Begins (HasTail one_phrase) (b ++ (t ∷ [])) → ⊥)
phrase_parts ts place h =
    let k : ℕ = first_place ts in
    let u : Token = token h.s place h.long in
    let p : Parted k ts h.before h.after u = parted k ts h.before h.after u h.parts in
    let first : first_place (p.b ++ (p.t ∷ p.a)) ≡ k = ap first_place (sym p.parts) in
    let dead : BeginsFormula (tokens_from k p.b ++ (token_from k p.t ∷ [])) → ⊥ =
    subst (λ (l : List Token). BeginsFormula l → ⊥) (ap₂ (λ (l : List Token) (x : Token). l ++ (x ∷ [])) (sym p.front) (sym p.here)) h.stops in (
      p.b,
      p.t,
      p.a,
      p.parts,
      place_from k p.t h.s place h.long p.here,
      phrase_begins k p.b (nothing_or_first p.b p.a p.t k first) (subst BeginsFormula (sym p.front) h.begins),
      phrase_stops k p.b p.t (first_of_parts p.b [] p.a p.t ∙ first) dead,
    )

stops_in_line : (ts : List Token) (last place : ℕ) → Rises 0 ts last → StopsAt (tokens_from (first_place ts) ts) place → Stops (HasTail one_phrase) ts (first_place ts + place) × (first_place ts + place ≤ last)
stops_in_line ts last place rises h =
    let p = phrase_parts ts place h in
    let low = first_at p.0 p.2 p.1 last (subst (λ (l : List Token). Rises 0 l last) p.3 rises) in
    let first : first_place ts ≡ first_place (p.0 ++ (p.1 ∷ p.2)) = ap first_place p.3 in
    let at : first_place ts + place ≡ token_place p.1 = omega (arith, p.4, first, low.0) in
    let within : first_place ts + place ≤ last = omega (arith, at, low.1) in
    (record { before = p.0; t = p.1; after = p.2; parts = p.3; at = at; begins = p.5; stops = p.6 }, within)

begins_in_line : (ts : List Token) → OnlyBeginsFormula (tokens_from (first_place ts) ts) → OnlyBegins (HasTail one_phrase) ts
begins_in_line ts h = record { begins = phrase_begins (first_place ts) ts (inr refl) h.begins; none = λ m. h.none m.0 m.1 }

end_place : (ts : List Token) (last place : ℕ) → Rises 0 ts last → place ≡ last - first_place ts → first_place ts + place ≡ last
end_place ts last place rises e = let low = first_low ts last rises in omega (arith, low, e)

-- a phrase's fault in the line
pub phrase_fault : (ts : List Token) (last : ℕ) (fault : RawFault) → Rises 0 ts last → IsPhraseFault (tokens_from (first_place ts) ts) (last - first_place ts) fault → IsFaultIn (HasTail one_phrase) ts last (moved_fault (first_place ts) fault)
phrase_fault ts last raw_fault.NotUtf8 rises h = h
phrase_fault ts last (raw_fault.BadCharacter place) rises h = h
phrase_fault ts last (raw_fault.TooDeep depth) rises h = h
phrase_fault ts last (raw_fault.Unexpected place) rises (inl h) = inl (stops_in_line ts last place rises h).0
phrase_fault ts last (raw_fault.Unexpected place) rises (inr h) = inr (end_place ts last place rises h.0, begins_in_line ts h.1)
phrase_fault ts last raw_fault.Memory rises h = tt

pub phrase_fits : (ts : List Token) (last : ℕ) (fault : RawFault) → last < 2 ^ 64 → Rises 0 ts last → IsPhraseFault (tokens_from (first_place ts) ts) (last - first_place ts) fault → FitsBehind (first_place ts) fault
phrase_fits ts last raw_fault.NotUtf8 fits rises h = tt
phrase_fits ts last (raw_fault.BadCharacter place) fits rises h = tt
phrase_fits ts last (raw_fault.TooDeep depth) fits rises h = tt
phrase_fits ts last (raw_fault.Unexpected place) fits rises (inl h) = let low = (stops_in_line ts last place rises h).1 in omega (arith, low, fits)
phrase_fits ts last (raw_fault.Unexpected place) fits rises (inr h) = let e = end_place ts last place rises h.0 in omega (arith, e, fits)
phrase_fits ts last raw_fault.Memory fits rises h = tt
