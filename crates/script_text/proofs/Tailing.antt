-- What is left after the word of a command and its numerals, and which of it is no such.
use Rattle.std.proofs.Common.{◌≡◌, ◌⊎◌, ℕ, zero, suc, ◌+◌, ◌-◌, ◌<◌, ◌≤◌, Bool, true, false, Some, None, List, [], ◌∷◌, ◌++◌, length, map, drop, take, get_or, refl, sym, ◌∙◌, ap, ap₂, subst, append_assoc, arith, inl, inr}
use Rattle.std.specs.List.Sorted.{IsStrictlyIncreasing}
use Rattle.std.proofs.lemmas.List.{append-nil, get_or_append_left, length-append, length-drop, map-append, take-append-drop}
use Rattle.std.proofs.Math.Nat.{eq-or-lt_of_le}
use Rattle.std.proofs.Math.Seq.{get_or-append_seam}
use Rattle.hol_terms.specs.Lists.{IsAboveLast}
use Rattle.tps_reader.specs.Grammar.{untyped, spot}
use Rattle.tps_reader.specs.Raws.{RawFormula, raw_variable}
use Rattle.tps_reader.specs.Tokens.{Sign, number, semicolon, Token, token, sign_of, token_place}
use Rattle.script_text.specs.Grammar.{IsPhraseOf, Leads}
use Rattle.script_text.specs.Languages.{Begins, LeavesFirst, Stops}
use Rattle.script_text.specs.Tails.{BeginsNoNumber, HasBody, HasTail, InOrder, IsFaultIn, NoSemicolon, Rises, SemicolonFirst, Tail, bare_name, first_number, first_or, no_more, numbered, one_phrase, two_phrases, variable}
use Rattle.script_text.specs.declared.faults.CommandFault.{CommandFault}
use Rattle.script_text.proofs.Leading.{Front, first_is, front_of, leads_all, leads_append, leads_fewer, leads_past}
use Rattle.script_text.proofs.Leaving.{Follows, fault_map, leaves_behind, stops_behind, stops_first}
use Rattle.script_text.proofs.Naming.{name_token, some_bare, some_is_name, some_name}
use Rattle.script_text.proofs.Rising.{rises_front}
use Rattle.script_text.proofs.Slicing.{drop_next}
use Rattle.script_text.proofs.Phrasing.{plain_number, plain_semicolon, some_phrase, tokens_plain, truth_token}

-- no tokens are left
pub nothing_first : (t : Token) (rest : List Token) (last : ℕ) → LeavesFirst (HasTail no_more) (t ∷ rest) last (token_place t)
nothing_first t rest last = inl (stops_first (HasTail no_more) t rest ([], refl) (λ more h. cc))

-- a phrase has no numeral and no semicolon
phrase_number : (ts : List Token) (v : RawFormula) → IsPhraseOf ts v → BeginsNoNumber ts
phrase_number ts v h = plain_number ts (tokens_plain ts v h)

phrase_semicolon : (ts : List Token) (v : RawFormula) → IsPhraseOf ts v → NoSemicolon ts
phrase_semicolon ts v h = plain_semicolon ts (tokens_plain ts v h)

-- each tail begins
semicolon_token : Token
semicolon_token = token semicolon 0 1

in_order_none : (rising : Bool) → InOrder rising []
in_order_none true = λ k h. absurd (omega (arith, h))
in_order_none false = tt

some_variable : HasTail variable (name_token ∷ [])
unfolding name_token some_name
some_variable = (raw_variable some_name None 0, (spot 0 2, some_name, untyped, refl, (some_is_name, None, refl, refl)))

pub some_tail : (tail : Tail) → Begins (HasTail tail) []
unfolding semicolon_token
some_tail no_more = ([], refl)
some_tail one_phrase = (truth_token ∷ [], some_phrase)
some_tail (numbered rising) = (truth_token ∷ [], ([], truth_token ∷ [], some_phrase.0, refl, in_order_none rising, some_phrase.1))
some_tail two_phrases =
    (truth_token ∷ semicolon_token ∷ truth_token ∷ [], (truth_token ∷ [], semicolon_token, truth_token ∷ [], some_phrase.0, some_phrase.0, refl, refl, some_phrase.1, some_phrase.1))
some_tail variable = (name_token ∷ [], some_variable)
some_tail bare_name = (name_token ∷ [], some_bare)

-- so many numerals
nulls : ℕ → List ℕ
nulls zero = []
nulls (suc n) = 0 ∷ nulls n

null_tokens : ℕ → List Token
null_tokens zero = []
null_tokens (suc n) = token (number 0) 0 1 ∷ null_tokens n

null_count : (n : ℕ) → length (nulls n) ≡ n
unfolding nulls
null_count zero = refl
null_count (suc n) = let more = null_count n in omega (arith, more)

null_leads : (n : ℕ) (rest : List Token) → Leads (map number (nulls n)) rest (null_tokens n ++ rest)
unfolding nulls null_tokens
null_leads zero rest = refl
null_leads (suc n) rest = (refl, null_leads n rest)

-- numerals, no more than are wanted, begin what is wanted
pub body_begins : (tail : Tail) (count : ℕ) (ns : List ℕ) (front : List Token) → ((others : List Token) → Leads (map number ns) others (front ++ others)) → length ns ≤ count → Begins (HasBody count tail) front
body_begins tail count ns front f low =
    let n : ℕ = count - length ns in
    let t = some_tail tail in
    let all : Leads (map number ns ++ map number (nulls n)) t.0 (front ++ (null_tokens n ++ t.0)) =
    leads_append (map number ns) (map number (nulls n)) t.0 (null_tokens n ++ t.0) (front ++ (null_tokens n ++ t.0)) (f (null_tokens n ++ t.0)) (null_leads n t.0) in
    let long : length (ns ++ nulls n) ≡ count = omega (arith, length-append ns (nulls n), null_count n, low) in (
      null_tokens n ++ t.0,
      (ns ++ nulls n, t.0, subst (λ (l : List Sign). Leads l t.0 (front ++ (null_tokens n ++ t.0))) (sym (map-append number ns (nulls n))) all, long, t.1),
    )

-- fewer numerals than are wanted
pub fewer_fault : (tail : Tail) (count last : ℕ) (ns : List ℕ) (rest ts : List Token) → Leads (map number ns) rest ts → length ns < count → BeginsNoNumber rest → LeavesFirst (HasBody count tail) ts last (first_or rest last)
fewer_fault tail count last ns [] ts h low none =
    let f = front_of (map number ns) [] ts h in
    let same : ts ≡ f.front = f.parts ∙ append-nil f.front in
    inr (
      refl,
      record {
        begins = subst (Begins (HasBody count tail)) (sym same) (body_begins tail count ns f.front f.leads (omega (arith, low)));
        none = λ g. let few = leads_fewer ns g.0 [] g.1 ts h g.2 tt in absurd (omega (arith, few, g.3, low));
      },
    )
fewer_fault tail count last ns (t ∷ rest) ts h low none =
    let f = front_of (map number ns) (t ∷ rest) ts h in
    let L = HasBody count tail in
    let stop : Stops L (f.front ++ (t ∷ rest)) (token_place t) =
    stops_behind L f.front rest t (body_begins tail count ns f.front f.leads (omega (arith, low)))
    (λ more g. let few = leads_fewer ns g.0 (t ∷ more) g.1 (f.front ++ (t ∷ more)) (f.leads (t ∷ more)) g.2 none in absurd (omega (arith, few, g.3, low))) in
    inl (subst (λ (l : List Token). Stops L l (token_place t)) (sym f.parts) stop)

-- numerals and then a phrase
same_start : (b a m : List Token) (t : Token) → BeginsNoNumber (b ++ (t ∷ a)) → BeginsNoNumber (b ++ (t ∷ m))
same_start [] a m t h = h
same_start (u ∷ b) a m t h = h

pub numbered_fault : (rising : Bool) (ns : List ℕ) (rest ts : List Token) (last place : ℕ) → Leads (map number ns) rest ts → InOrder rising ns → BeginsNoNumber rest → LeavesFirst (HasTail one_phrase) rest last place → LeavesFirst (HasTail (numbered rising)) ts last place
numbered_fault rising ns rest ts last place h ordered none leaves =
    let f : Front (map number ns) rest ts = front_of (map number ns) rest ts h in
    let L = HasTail (numbered rising) in
    let from : (xs : List Token) → BeginsNoNumber xs → L (f.front ++ xs) → HasTail one_phrase xs =
    λ xs free g.
    let same = leads_all ns g.0 xs g.1 (f.front ++ xs) (f.leads xs) g.3 free (phrase_number g.1 g.2 g.5) in
    (g.2, subst (λ (l : List Token). IsPhraseOf l g.2) (sym same.1) g.5) in
    let follows : Follows L (HasTail one_phrase) f.front rest = record {
      to = λ xs p. (ns, xs, p.0, f.leads xs, ordered, p.1);
      from = from rest none;
      from_part = λ b a m t e. from (b ++ (t ∷ m)) (same_start b a m t (subst BeginsNoNumber e none));
    } in
    subst (λ (l : List Token). LeavesFirst L l last place) (sym f.parts) (leaves_behind L (HasTail one_phrase) f.front rest follows last place leaves)

-- rising numbers rise above the last of their beginning
above_last : (ns more : List ℕ) (n : ℕ) → IsStrictlyIncreasing (ns ++ n ∷ more) → IsAboveLast ns n
above_last ns more n h k e =
    let long : k + 1 < length (ns ++ n ∷ more) = omega (arith, length-append ns (n ∷ more), e) in
    let less = h k long in
    let old : get_or (ns ++ n ∷ more) k 0 ≡ get_or ns k 0 = get_or_append_left ns (n ∷ more) 0 k (omega (arith, e)) in
    let new : get_or (ns ++ n ∷ more) (k + 1) 0 ≡ n = ap (λ (i : ℕ). get_or (ns ++ n ∷ more) i 0) e ∙ get_or-append_seam ns n more 0 in
    omega (arith, less, old, new)

-- a numeral that doesn't rise
pub rising_fault : (ns : List ℕ) (n : ℕ) (t : Token) (rest ts : List Token) (last : ℕ) → Leads (map number ns) (t ∷ rest) ts → sign_of t ≡ number n → IsStrictlyIncreasing ns → (IsAboveLast ns n → ⊥) → LeavesFirst (HasTail (numbered true)) ts last (token_place t)
rising_fault ns n t rest ts last h e ordered low =
    let f = front_of (map number ns) (t ∷ rest) ts h in
    let L = HasTail (numbered true) in
    let begins : Begins L f.front = (truth_token ∷ [], (ns, truth_token ∷ [], some_phrase.0, f.leads (truth_token ∷ []), ordered, some_phrase.1)) in
    let stop : Stops L (f.front ++ (t ∷ rest)) (token_place t) =
    stops_behind L f.front rest t begins
    (λ more g.
    let past = leads_past ns g.0 n t more g.1 (f.front ++ (t ∷ more)) (f.leads (t ∷ more)) e g.3 (phrase_number g.1 g.2 g.5) in
    low (above_last ns past.0 n (subst IsStrictlyIncreasing past.1 g.4))) in
    inl (subst (λ (l : List Token). Stops L l (token_place t)) (sym f.parts) stop)

-- two phrases with a semicolon between them
no_semicolon_front : (xs ys : List Token) → NoSemicolon (xs ++ ys) → NoSemicolon xs
no_semicolon_front [] ys h = tt
no_semicolon_front (t ∷ xs) ys h = (h.0, no_semicolon_front xs ys h.1)

-- tokens without a semicolon stand in front of the first one
before_semicolon : (xs m f b : List Token) (s : Token) → NoSemicolon xs → xs ++ m ≡ f ++ (s ∷ b) → sign_of s ≡ semicolon → (rest : List Token) × (f ≡ xs ++ rest)
before_semicolon [] m f b s h e is = (f, refl)
before_semicolon (x ∷ xs) m [] b s h e is = let same : x ≡ s = cc in absurd (h.0 (ap sign_of same ∙ is))
before_semicolon (x ∷ xs) m (y ∷ f) b s h e is =
    let same : x ≡ y = cc in
    let tails : xs ++ m ≡ f ++ (s ∷ b) = cc in
    let more = before_semicolon xs m f b s h.1 tails is in
    (more.0, ap₂ (λ (x : Token) (l : List Token). x ∷ l) (sym same) more.1)

-- the first semicolon is found in one way
pub first_semicolon : (xs m f b : List Token) (t s : Token) → NoSemicolon xs → NoSemicolon f → sign_of t ≡ semicolon → sign_of s ≡ semicolon → xs ++ (t ∷ m) ≡ f ++ (s ∷ b) → (xs ≡ f) × (m ≡ b)
first_semicolon [] m [] b t s h g e is same = let tails : m ≡ b = cc in (refl, tails)
first_semicolon [] m (y ∷ f) b t s h g e is same = let heads : t ≡ y = cc in absurd (g.0 (ap sign_of (sym heads) ∙ e))
first_semicolon (x ∷ xs) m [] b t s h g e is same = let heads : x ≡ s = cc in absurd (h.0 (ap sign_of heads ∙ is))
first_semicolon (x ∷ xs) m (y ∷ f) b t s h g e is same =
    let heads : x ≡ y = cc in
    let tails : xs ++ (t ∷ m) ≡ f ++ (s ∷ b) = cc in
    let more = first_semicolon xs m f b t s h.1 g.1 e is tails in
    (ap₂ (λ (x : Token) (l : List Token). x ∷ l) heads more.0, more.1)

has_semicolon : (f b : List Token) (s : Token) → sign_of s ≡ semicolon → NoSemicolon (f ++ (s ∷ b)) → ⊥
has_semicolon [] b s e h = h.0 e
has_semicolon (x ∷ f) b s e h = has_semicolon f b s e h.1

two_begins : (b : List Token) → Begins (HasTail one_phrase) b → Begins (HasTail two_phrases) b
unfolding semicolon_token
two_begins b h = (
  h.0 ++ (semicolon_token ∷ truth_token ∷ []),
  (b ++ h.0, semicolon_token, truth_token ∷ [], h.1.0, some_phrase.0, sym (append_assoc b h.0 (semicolon_token ∷ truth_token ∷ [])), refl, h.1.1, some_phrase.1),
)

-- the first phrase stops
two_stops : (front rest : List Token) (place : ℕ) → NoSemicolon front → Stops (HasTail one_phrase) front place → Stops (HasTail two_phrases) (front ++ rest) place
two_stops front rest place free h =
    let L = HasTail two_phrases in
    let upto : front ≡ (h.before ++ (h.t ∷ [])) ++ h.after = h.parts ∙ sym (append_assoc h.before (h.t ∷ []) h.after) in
    let clear : NoSemicolon (h.before ++ (h.t ∷ [])) = no_semicolon_front (h.before ++ (h.t ∷ [])) h.after (subst NoSemicolon upto free) in
    record {
      before = h.before;
      t = h.t;
      after = h.after ++ rest;
      parts = ap (λ (l : List Token). l ++ rest) h.parts ∙ append_assoc h.before (h.t ∷ h.after) rest;
      at = h.at;
      begins = two_begins h.before h.begins;
      stops = λ m.
          let g = m.1 in
          let cut = before_semicolon (h.before ++ (h.t ∷ [])) m.0 g.0 g.2 g.1 clear g.5 g.6 in
          h.stops (cut.0, (g.3, subst (λ (l : List Token). IsPhraseOf l g.3) cut.1 g.7));
    }

-- the first phrase isn't whole before the semicolon
pub first_fault : (front back : List Token) (t : Token) (last place : ℕ) → NoSemicolon front → sign_of t ≡ semicolon → LeavesFirst (HasTail one_phrase) front (token_place t) place → LeavesFirst (HasTail two_phrases) (front ++ (t ∷ back)) last place
first_fault front back t last place free is (inl h) = inl (two_stops front (t ∷ back) place free h)
first_fault front back t last place free is (inr h) =
    let L = HasTail two_phrases in
    let stop : Stops L (front ++ (t ∷ back)) (token_place t) =
    stops_behind L front back t (two_begins front h.1.begins)
    (λ more g.
    let cut = first_semicolon front more g.0 g.2 t g.1 free (phrase_semicolon g.0 g.3 g.7) is g.6 g.5 in
    h.1.none (g.3, subst (λ (l : List Token). IsPhraseOf l g.3) (sym cut.0) g.7)) in
    inl (subst (λ (n : ℕ). Stops L (front ++ (t ∷ back)) n) (sym h.0) stop)

-- there is no semicolon
pub lone_fault : (front : List Token) (last place : ℕ) → NoSemicolon front → LeavesFirst (HasTail one_phrase) front last place → LeavesFirst (HasTail two_phrases) front last place
lone_fault front last place free (inl h) = inl (subst (λ (l : List Token). Stops (HasTail two_phrases) l place) (append-nil front) (two_stops front [] place free h))
lone_fault front last place free (inr h) =
    inr (h.0, record { begins = two_begins front h.1.begins; none = λ g. has_semicolon g.0 g.2 g.1 g.6 (subst NoSemicolon g.5 free) })

pub lone_ends : (front : List Token) (v : RawFormula) (last : ℕ) → NoSemicolon front → IsPhraseOf front v → LeavesFirst (HasTail two_phrases) front last last
lone_ends front v last free h =
    inr (
      refl,
      record {
        begins = two_begins front ([], (v, subst (λ (l : List Token). IsPhraseOf l v) (sym (append-nil front)) h));
        none = λ g. has_semicolon g.0 g.2 g.1 g.6 (subst NoSemicolon g.5 free);
      },
    )

-- the second phrase isn't whole
pub second_fault : (front back : List Token) (t : Token) (v : RawFormula) (last place : ℕ) → NoSemicolon front → sign_of t ≡ semicolon → IsPhraseOf front v → LeavesFirst (HasTail one_phrase) back last place → LeavesFirst (HasTail two_phrases) (front ++ (t ∷ back)) last place
second_fault front back t v last place free is h leaves =
    let L = HasTail two_phrases in
    let f : List Token = front ++ (t ∷ []) in
    let from : (xs : List Token) → L (f ++ xs) → HasTail one_phrase xs =
    λ xs g.
    let cut = first_semicolon front xs g.0 g.2 t g.1 free (phrase_semicolon g.0 g.3 g.7) is g.6 (sym (append_assoc front (t ∷ []) xs) ∙ g.5) in
    (g.4, subst (λ (l : List Token). IsPhraseOf l g.4) (sym cut.1) g.8) in
    let follows : Follows L (HasTail one_phrase) f back = record {
      to = λ xs p. (front, t, xs, v, p.0, append_assoc front (t ∷ []) xs, is, h, p.1);
      from = from back;
      from_part = λ b a m u e. from (b ++ (u ∷ m));
    } in
    subst (λ (l : List Token). LeavesFirst L l last place) (append_assoc front (t ∷ []) back) (leaves_behind L (HasTail one_phrase) f back follows last place leaves)

-- no semicolon up to the next token
pub no_semicolon_next : (ts : List Token) (at : ℕ) (t : Token) (rest : List Token) → drop at ts ≡ t ∷ rest → NoSemicolon (take at ts) → (sign_of t ≡ semicolon → ⊥) → NoSemicolon (take (at + 1) ts)
no_semicolon_next [] zero t rest e h f = cc
no_semicolon_next (u ∷ ts) zero t rest e h f = let same : u ≡ t = cc in (λ g. f (ap sign_of (sym same) ∙ g), tt)
no_semicolon_next [] (suc at) t rest e h f = cc
no_semicolon_next (u ∷ ts) (suc at) t rest e h f =
    let next : suc (at + 1) ≡ suc at + 1 = omega arith in
    subst (λ (n : ℕ). NoSemicolon (take n (u ∷ ts))) next (h.0, no_semicolon_next ts at t rest e h.1 f)

-- a numeral that may be added keeps the order
pub above_next : (ns : List ℕ) (n : ℕ) → IsStrictlyIncreasing ns → IsAboveLast ns n → IsStrictlyIncreasing (ns ++ n ∷ [])
above_next ns n h above k low = go (eq-or-lt_of_le (let most : k + 1 ≤ length ns = omega (arith, low, long) in most))
  where
    long : length (ns ++ n ∷ []) ≡ length ns + 1
    long = length-append ns (n ∷ [])

    old : (i : ℕ) → i < length ns → get_or (ns ++ n ∷ []) i 0 ≡ get_or ns i 0
    old i l = get_or_append_left ns (n ∷ []) 0 i l

    go : (k + 1 ≡ length ns) ⊎ (k + 1 < length ns) → get_or (ns ++ n ∷ []) k 0 < get_or (ns ++ n ∷ []) (k + 1) 0
    go (inr l) =
        let less = h k l in
        let a : get_or (ns ++ n ∷ []) k 0 ≡ get_or ns k 0 = old k (omega (arith, l)) in
        let b : get_or (ns ++ n ∷ []) (k + 1) 0 ≡ get_or ns (k + 1) 0 = old (k + 1) l in
        omega (arith, less, a, b)
    go (inl last) =
        let less = above k last in
        let a : get_or (ns ++ n ∷ []) k 0 ≡ get_or ns k 0 = old k (omega (arith, last)) in
        let b : get_or (ns ++ n ∷ []) (k + 1) 0 ≡ n = ap (λ (i : ℕ). get_or (ns ++ n ∷ []) i 0) last ∙ get_or-append_seam ns n [] 0 in
        omega (arith, less, a, b)

-- a numeral that doesn't rise, at a place
pub rising_at : (ns : List ℕ) (n at : ℕ) (ts : List Token) (t : Token) (rest : List Token) (last : ℕ) → Leads (map number ns) (drop at ts) ts → drop at ts ≡ t ∷ rest → first_number (drop at ts) ≡ Some n → IsStrictlyIncreasing ns → (IsAboveLast ns n → ⊥)
    → LeavesFirst (HasTail (numbered true)) ts last (token_place t)
rising_at ns n at ts t rest last h e is ordered low =
    let f = first_is (drop at ts) n is in
    let same : t ∷ rest ≡ f.0 ∷ f.1 = sym e ∙ f.2 in
    let heads : t ≡ f.0 = cc in
    rising_fault ns n t rest ts last (subst (λ (l : List Token). Leads (map number ns) l ts) e h) (ap sign_of heads ∙ f.3) ordered low

-- the faults of a phrase after numerals
pub numbered_fails : (rising : Bool) (ns : List ℕ) (rest ts : List Token) (last : ℕ) (fault : CommandFault) → Leads (map number ns) rest ts → InOrder rising ns → BeginsNoNumber rest → IsFaultIn (HasTail one_phrase) rest last fault
    → IsFaultIn (HasTail (numbered rising)) ts last fault
numbered_fails rising ns rest ts last fault h ordered none f =
    fault_map (HasTail one_phrase) (HasTail (numbered rising)) rest ts last last (λ place leaves. numbered_fault rising ns rest ts last place h ordered none leaves) fault f

-- the faults of the first of two phrases
pub front_fails : (front rest ts : List Token) (last : ℕ) (fault : CommandFault) → ts ≡ front ++ rest → NoSemicolon front → SemicolonFirst rest → IsFaultIn (HasTail one_phrase) front (first_or rest last) fault → IsFaultIn (HasTail two_phrases) ts last fault
front_fails front [] ts last fault e free is f =
    let same : front ≡ ts = sym (append-nil front) ∙ sym e in
    subst (λ (l : List Token). IsFaultIn (HasTail two_phrases) l last fault) same (fault_map (HasTail one_phrase) (HasTail two_phrases) front front last last (λ place leaves. lone_fault front last place free leaves) fault f)
front_fails front (t ∷ back) ts last fault e free is f =
    subst (λ (l : List Token). IsFaultIn (HasTail two_phrases) l last fault) (sym e)
    (fault_map (HasTail one_phrase) (HasTail two_phrases) front (front ++ (t ∷ back)) (token_place t) last (λ place leaves. first_fault front back t last place free is leaves) fault f)

pub front_rises : (front rest ts : List Token) (last : ℕ) → ts ≡ front ++ rest → Rises 0 ts last → Rises 0 front (first_or rest last)
front_rises front [] ts last e h = subst (λ (l : List Token). Rises 0 l last) (e ∙ append-nil front) h
front_rises front (t ∷ back) ts last e h = rises_front 0 front back t last (subst (λ (l : List Token). Rises 0 l last) e h)

-- the tokens around one
pub two_parts : (at : ℕ) (ts : List Token) → at < length ts → (t : Token) × (drop at ts ≡ t ∷ drop (at + 1) ts) × (ts ≡ take at ts ++ (t ∷ drop (at + 1) ts))
two_parts at ts low = go (drop at ts) refl
  where
    go : (rest : List Token) → drop at ts ≡ rest → (t : Token) × (drop at ts ≡ t ∷ drop (at + 1) ts) × (ts ≡ take at ts ++ (t ∷ drop (at + 1) ts))
    go [] e = let none : length (drop at ts) ≡ 0 = ap length e in absurd (omega (arith, none, low, length-drop at ts))
    go (t ∷ rest) e =
        let next = drop_next at ts t rest e in
        let here : drop at ts ≡ t ∷ drop (at + 1) ts = e ∙ ap (λ (l : List Token). t ∷ l) (sym next.0) in
        (t, here, sym (take-append-drop at ts) ∙ ap (λ (l : List Token). take at ts ++ l) here)

-- the faults of the second of two phrases
pub second_fails : (at : ℕ) (ts : List Token) (v : RawFormula) (last : ℕ) (fault : CommandFault) → at < length ts → NoSemicolon (take at ts) → SemicolonFirst (drop at ts) → IsPhraseOf (take at ts) v → IsFaultIn (HasTail one_phrase) (drop (at + 1) ts) last fault
    → IsFaultIn (HasTail two_phrases) ts last fault
second_fails at ts v last fault low free found h f =
    let p = two_parts at ts low in
    let is : sign_of p.0 ≡ semicolon = subst SemicolonFirst p.1 found in
    let front : List Token = take at ts in
    let back : List Token = drop (at + 1) ts in
    subst (λ (l : List Token). IsFaultIn (HasTail two_phrases) l last fault) (sym p.2)
    (fault_map (HasTail one_phrase) (HasTail two_phrases) back (front ++ (p.0 ∷ back)) last last (λ place leaves. second_fault front back p.0 v last place free is h leaves) fault f)
