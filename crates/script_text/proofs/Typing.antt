-- Variables with written types, read token by token.
use Rattle.std.proofs.Common.{◌≡◌, ◌≢◌, ℕ, zero, suc, ◌+◌, ◌-◌, ◌<◌, ◌≤◌, Bool, true, false, cond, List, [], ◌∷◌, ◌++◌, length, drop, take, get_or, Option, Some, None, is_some, refl, sym, ◌∙◌, ap, ap₂, subst, append_assoc, arith, inl, inr}
use Rattle.std.proofs.lemmas.Bool.{false≢true}
use Rattle.std.proofs.lemmas.Bool.Decides.{nat_tests}
use Rattle.std.proofs.lemmas.List.{drop_more, length-append, map-append, take-append-drop, take_all, take_more}
use Rattle.hol_terms.specs.Names.{IsName}
use Rattle.hol_terms.specs.Terms.{SimpleType, base_type}
use Rattle.tps_reader.specs.Grammar.{HasType, Spot, spot, standing, TypeText, Types, type_end, type_group, type_letters, Written, is_letters, joined, named, spelled, spelled_type, spelled_written, typed, untyped, with_letters}
use Rattle.tps_reader.specs.Raws.{RawFormula, raw_variable}
use Rattle.tps_reader.specs.Tokens.{Sign, open_square, close_square, open_round, close_round, dot, tilde, semicolon, number, word, Token, token, sign_of, token_place, tokens_from}
use Rattle.tps_reader.specs.declared.faults.RawFault.{RawFault}
use Rattle.tps_reader.specs.declared.faults.RawFault.TheVariants as raw_fault
use Rattle.tps_reader.specs.Views.{plain_sign, plain_token, plain_tokens}
use Rattle.tps_reader.specs.declared.lexemes.Lexeme.{Lexeme}
use Rattle.script_text.specs.Grammar.{IsPhraseOf, IsVariableOf, first_place}
use Rattle.script_text.specs.Languages.{Begins, LeavesFirst}
use Rattle.script_text.specs.Tails.{HasTail, IsFaultIn, of_text, variable}
use Rattle.script_text.specs.Variables.{is_whole, name_in, part_closed, read_next, read_on, whole_in}
use Rattle.script_text.specs.declared.variables.Reading.{Reading}
use Rattle.script_text.specs.declared.variables.Reading.TheVariants as reading
use Rattle.script_text.proofs.Leaving.{stops_behind}
use Rattle.script_text.proofs.Naming.{name_is, named_is, some_is_name, some_name}
use Rattle.script_text.proofs.Phrasing.{at_spot, sign_from}

-- nothing follows where reading has stopped
read_none : (ts : List Token) → read_on ts None ≡ None
read_none [] = refl
read_none (t ∷ ts) = refl

read_append : (xs ys : List Token) (state : Option Reading) → read_on (xs ++ ys) state ≡ read_on ys (read_on xs state)
read_append [] ys state = refl
read_append (t ∷ xs) ys None = sym (read_none ys)
read_append (t ∷ xs) ys (Some r) = read_append xs ys (read_next r (sign_of t))

-- places don't matter
read_from : (k : ℕ) (ts : List Token) (state : Option Reading) → read_on (tokens_from k ts) state ≡ read_on ts state
read_from k [] state = refl
read_from k (t ∷ ts) None = refl
read_from k (t ∷ ts) (Some r) = ap (λ (s : Sign). read_on (tokens_from k ts) (read_next r s)) (sign_from k t) ∙ read_from k ts (read_next r (sign_of t))

-- an inner part is closed
closed_inner : (around : ℕ) → part_closed (around + 1) true ≡ Some (reading.Within around true)
closed_inner around =
    let back : around + 1 - 1 ≡ around = omega arith in
    let e : (b : Bool) → b ≡ false → cond b (Some reading.Closed) (Some (reading.Within (around + 1 - 1) true)) ≡ Some (reading.Within around true) =
    λ b h. rw h (ap (λ (n : ℕ). Some (reading.Within n true)) back) in
    e _ (grind (arith, nat_tests))

letters_some : (ty : SimpleType) (ls : List ℕ) → is_some (with_letters (Some ty) ls) ≡ true
letters_some ty [] = refl
letters_some ty (l ∷ ls) = letters_some (joined (Some ty) (base_type l)) ls

some_letters : (before : Option SimpleType) (w : List ℕ) → is_letters w ≡ true → is_some (with_letters before w) ≡ true
some_letters before [] h = cc
some_letters before (l ∷ ls) h = letters_some (joined before (base_type l)) ls

-- a written type is read
step_at : (s : Spot) (sign : Sign) (ts : List Token) (r : Reading) → read_on (standing s sign ∷ ts) (Some r) ≡ read_on ts (read_next r sign)
step_at s sign ts r = ap (λ (x : Sign). read_on ts (read_next r x)) (at_spot s sign)

letters_step : (w : List ℕ) (around : ℕ) (filled : Bool) → is_letters w ≡ true → read_next (reading.Within around filled) (word w) ≡ Some (reading.Within around true)
letters_step w around filled h = rw h refl

type_read : (text : TypeText) (before : Option SimpleType) (ty : SimpleType) (around : ℕ) (rest : List Token) → Types before text ty
    → read_on (spelled_type text ++ rest) (Some (reading.Within around (is_some before))) ≡ read_on rest (Some (reading.Within around true))
type_read type_end before ty around rest h = ap (λ (o : Option SimpleType). read_on rest (Some (reading.Within around (is_some o)))) h
type_read (type_letters s letters more) before ty around rest h =
    let part : Option SimpleType = with_letters before letters in
    step_at s (word letters) (spelled_type more ++ rest) (reading.Within around (is_some before))
    ∙ ap (read_on (spelled_type more ++ rest)) (letters_step letters around (is_some before) h.0)
    ∙ ap (λ (b : Bool). read_on (spelled_type more ++ rest) (Some (reading.Within around b))) (sym (some_letters before letters h.0))
    ∙ type_read more part ty around rest h.1
type_read (type_group s inner t more) before ty around rest h =
    let others : List Token = standing t close_round ∷ (spelled_type more ++ rest) in
    step_at s open_round ((spelled_type inner ++ (standing t close_round ∷ spelled_type more)) ++ rest) (reading.Within around (is_some before))
    ∙ ap (λ (l : List Token). read_on l (Some (reading.Within (around + 1) false))) (append_assoc (spelled_type inner) (standing t close_round ∷ spelled_type more) rest)
    ∙ type_read inner None h.0 (around + 1) others h.1
    ∙ step_at t close_round (spelled_type more ++ rest) (reading.Within (around + 1) true)
    ∙ ap (read_on (spelled_type more ++ rest)) (closed_inner around)
    ∙ type_read more (Some (joined before h.0)) ty around rest h.2

name_step : (name : List ℕ) → IsName name → read_next reading.NoName (word name) ≡ Some reading.Bare
name_step name h = ap (λ (o : Option (List ℕ)). cond (is_some o) (Some reading.Bare) None) (name_is name h)

-- a variable is read
written_read : (written : Written) (ty : Option SimpleType) → HasType written ty → whole_in (read_on (spelled_written written) (Some reading.Bare)) ≡ true
written_read untyped ty h = refl
written_read (typed s text t) ty h =
    ap whole_in (step_at s open_round (spelled_type text ++ (standing t close_round ∷ [])) reading.Bare
    ∙ type_read text None h.0 0 (standing t close_round ∷ []) h.1
    ∙ step_at t close_round [] (reading.Within 0 true))

pub variable_read : (ts : List Token) → HasTail variable ts → whole_in (read_on ts (Some reading.NoName)) ≡ true
variable_read ts h =
    let v = h.1 in
    let says = v.4 in
    let start : Option Reading = Some reading.NoName in
    ap whole_in (sym (read_from (first_place ts) ts start) ∙ ap (λ (l : List Token). read_on l start) (sym v.3)
    ∙ step_at v.0 (word v.1) (spelled_written v.2) reading.NoName ∙ ap (read_on (spelled_written v.2)) (name_step v.1 says.0))
    ∙ written_read v.2 says.1 says.2

-- what is read is a variable
whole_none : (ts : List Token) (state : Option Reading) → state ≡ None → whole_in (read_on ts state) ≡ true → ⊥
whole_none ts state e h =
    let clash : false ≡ true = sym (ap (λ (o : Option Reading). whole_in (read_on ts o)) e ∙ ap whole_in (read_none ts)) ∙ h in
    false≢true clash

record Parsed (before : Option SimpleType) (around : ℕ) (ts : List Token) : Type 0 where
  text : TypeText
  ty : SimpleType
  s : Spot
  rest : List Token
  parts : ts ≡ spelled_type text ++ (standing s close_round ∷ rest)
  types : Types before text ty
  more : whole_in (read_on rest (part_closed around true)) ≡ true

closed_part : (around : ℕ) (filled : Bool) (before : Option SimpleType) (place long : ℕ) (ts : List Token) → is_some before ≡ filled → whole_in (read_on ts (part_closed around filled)) ≡ true
    → Parsed before around (token close_round place long ∷ ts)
closed_part around filled None place long ts e h = absurd (whole_none ts (part_closed around filled) (ap (part_closed around) (sym e)) h)
closed_part around filled (Some ty) place long ts e h =
    record { text = type_end; ty = ty; s = spot place long; rest = ts; parts = refl; types = refl; more = ap (λ (b : Bool). whole_in (read_on ts (part_closed around b))) e ∙ h }

letters_part : (around : ℕ) (before : Option SimpleType) (w : List ℕ) (place long : ℕ) (ts : List Token) → is_letters w ≡ true → Parsed (with_letters before w) around ts → Parsed before around (token (word w) place long ∷ ts)
letters_part around before w place long ts e p =
    record { text = type_letters (spot place long) w p.text; ty = p.ty; s = p.s; rest = p.rest; parts = ap (λ (l : List Token). token (word w) place long ∷ l) p.parts; types = (e, p.types); more = p.more }

group_part : (around : ℕ) (before : Option SimpleType) (place long : ℕ) (ts : List Token) (p : Parsed None (around + 1) ts) → Parsed (Some (joined before p.ty)) around p.rest → Parsed before around (token open_round place long ∷ ts)
group_part around before place long ts p q =
    let inner : List Token = spelled_type p.text in
    let close : Token = standing p.s close_round in
    let outer : List Token = standing q.s close_round ∷ q.rest in
    record {
      text = type_group (spot place long) p.text p.s q.text;
      ty = q.ty;
      s = q.s;
      rest = q.rest;
      parts = ap (λ (l : List Token). token open_round place long ∷ l)
          (p.parts ∙ ap (λ (l : List Token). inner ++ (close ∷ l)) q.parts ∙ sym (append_assoc inner (close ∷ spelled_type q.text) outer));
      types = (p.ty, p.types, q.types);
      more = q.more;
    }

shorter : (n : ℕ) (ts xs rest : List Token) (t : Token) → length ts ≤ n → ts ≡ xs ++ (t ∷ rest) → length rest ≤ n
shorter n ts xs rest t low e =
    let long : length ts ≡ length (xs ++ (t ∷ rest)) = ap length e in
    omega (arith, low, long, length-append xs (t ∷ rest))

type_parsed : (n : ℕ) (ts : List Token) → length ts ≤ n → (around : ℕ) (filled : Bool) (before : Option SimpleType) → is_some before ≡ filled → whole_in (read_on ts (Some (reading.Within around filled))) ≡ true → Parsed before around ts
type_parsed n [] low around filled before e h = absurd (false≢true h)
type_parsed zero (t ∷ ts) low around filled before e h = absurd (omega (arith, low))
type_parsed (suc n) (token open_square place long ∷ ts) low around filled before e h = absurd (whole_none ts None refl h)
type_parsed (suc n) (token close_square place long ∷ ts) low around filled before e h = absurd (whole_none ts None refl h)
type_parsed (suc n) (token open_round place long ∷ ts) low around filled before e h =
    let short : length ts ≤ n = omega (arith, low) in
    let p : Parsed None (around + 1) ts = type_parsed n ts short (around + 1) false None refl h in
    let more : whole_in (read_on p.rest (Some (reading.Within around true))) ≡ true = ap (λ (o : Option Reading). whole_in (read_on p.rest o)) (sym (closed_inner around)) ∙ p.more in
    group_part around before place long ts p
    (type_parsed n p.rest (shorter n ts (spelled_type p.text) p.rest (standing p.s close_round) short p.parts) around true (Some (joined before p.ty)) refl more)
type_parsed (suc n) (token close_round place long ∷ ts) low around filled before e h = closed_part around filled before place long ts e h
type_parsed (suc n) (token dot place long ∷ ts) low around filled before e h = absurd (whole_none ts None refl h)
type_parsed (suc n) (token tilde place long ∷ ts) low around filled before e h = absurd (whole_none ts None refl h)
type_parsed (suc n) (token semicolon place long ∷ ts) low around filled before e h = absurd (whole_none ts None refl h)
type_parsed (suc n) (token (number m) place long ∷ ts) low around filled before e h = absurd (whole_none ts None refl h)
type_parsed (suc n) (token (word w) place long ∷ ts) low around filled before e h =
    go (λ e g. type_parsed n ts (omega (arith, low)) around true (with_letters before w) e g) (is_letters w) refl h
  where
    go : (is_some (with_letters before w) ≡ true → whole_in (read_on ts (Some (reading.Within around true))) ≡ true → Parsed (with_letters before w) around ts) → (b : Bool) → is_letters w ≡ b
        → whole_in (read_on ts (cond b (Some (reading.Within around true)) None)) ≡ true → Parsed before around (token (word w) place long ∷ ts)
    go more true a h = letters_part around before w place long ts a (more (some_letters before w a) h)
    go more false a h = absurd (whole_none ts None refl h)

closed_end : (ts : List Token) → whole_in (read_on ts (Some reading.Closed)) ≡ true → ts ≡ []
closed_end [] h = refl
closed_end (t ∷ ts) h = absurd (whole_none ts None refl h)

-- the tokens after a name
record Worded (ts : List Token) : Type 0 where
  written : Written
  ty : Option SimpleType
  parts : spelled_written written ≡ ts
  types : HasType written ty

worded : (ts : List Token) → whole_in (read_on ts (Some reading.Bare)) ≡ true → Worded ts
worded [] h = record { written = untyped; ty = None; parts = refl; types = refl }
worded (token open_square place long ∷ ts) h = absurd (whole_none ts None refl h)
worded (token close_square place long ∷ ts) h = absurd (whole_none ts None refl h)
worded (token open_round place long ∷ ts) h =
    let p : Parsed None 0 ts = type_parsed (length ts) ts (omega arith) 0 false None refl h in
    let none : p.rest ≡ [] = closed_end p.rest p.more in
    record {
      written = typed (spot place long) p.text p.s;
      ty = Some p.ty;
      parts = ap (λ (l : List Token). token open_round place long ∷ l) (ap (λ (l : List Token). spelled_type p.text ++ (standing p.s close_round ∷ l)) (sym none) ∙ sym p.parts);
      types = (p.ty, p.types, refl);
    }
worded (token close_round place long ∷ ts) h = absurd (whole_none ts None refl h)
worded (token dot place long ∷ ts) h = absurd (whole_none ts None refl h)
worded (token tilde place long ∷ ts) h = absurd (whole_none ts None refl h)
worded (token semicolon place long ∷ ts) h = absurd (whole_none ts None refl h)
worded (token (number m) place long ∷ ts) h = absurd (whole_none ts None refl h)
worded (token (word w) place long ∷ ts) h = absurd (whole_none ts None refl h)

named_tokens : (k : ℕ) (ts us : List Token) → us ≡ tokens_from k ts → k ≡ first_place ts → whole_in (read_on us (Some reading.NoName)) ≡ true → HasTail variable ts
named_tokens k ts [] e f h = absurd (false≢true h)
named_tokens k ts (token s place long ∷ us) e f h = go (name_in s) refl h
  where
    go : (o : Option (List ℕ)) → name_in s ≡ o → whole_in (read_on us (cond (is_some o) (Some reading.Bare) None)) ≡ true → HasTail variable ts
    go None a h = absurd (whole_none us None refl h)
    go (Some name) a h =
        let is = named_is s name a in
        let w = worded us h in
        let whole : spelled (named (spot place long) name w.written) ≡ tokens_from (first_place ts) ts =
        ap₂ (λ (x : Sign) (l : List Token). token x place long ∷ l) (sym is.0) w.parts ∙ e ∙ ap (λ (n : ℕ). tokens_from n ts) f in
        (raw_variable name w.ty place, (spot place long, name, w.written, whole, (is.1, w.ty, w.types, refl)))

pub read_variable : (ts : List Token) → whole_in (read_on ts (Some reading.NoName)) ≡ true → HasTail variable ts
read_variable ts h =
    let k : ℕ = first_place ts in
    named_tokens k ts (tokens_from k ts) refl refl (ap whole_in (read_from k ts (Some reading.NoName)) ∙ h)

-- what was read can be completed
closings : ℕ → List Token
closings zero = token close_round 0 1 ∷ []
closings (suc n) = token close_round 0 1 ∷ closings n

closings_read : (n : ℕ) → whole_in (read_on (closings n) (Some (reading.Within n true))) ≡ true
unfolding closings
closings_read zero = refl
closings_read (suc n) =
    let again : suc n ≡ n + 1 = omega arith in
    ap (λ (o : Option Reading). whole_in (read_on (closings n) o)) (ap (λ (m : ℕ). part_closed m true) again ∙ closed_inner n) ∙ closings_read n

completion : (r : Reading) → (more : List Token) × (whole_in (read_on more (Some r)) ≡ true)
completion reading.NoName = (token (word some_name) 0 2 ∷ [], ap whole_in (name_step some_name some_is_name))
completion reading.Bare = ([], refl)
completion (reading.Within around filled) = (token (word (79 ∷ [])) 0 1 ∷ closings around, closings_read around)
completion reading.Closed = ([], refl)

begins_variable : (front : List Token) (r : Reading) → read_on front (Some reading.NoName) ≡ Some r → Begins (HasTail variable) front
begins_variable front r h =
    let c = completion r in
    (c.0, read_variable (front ++ c.0) (ap whole_in (read_append front c.0 (Some reading.NoName) ∙ ap (read_on c.0) h) ∙ c.1))

-- the faults of tokens that aren't a variable
pub variable_stops : (front rest : List Token) (t : Token) (r : Reading) (last : ℕ) → read_on front (Some reading.NoName) ≡ Some r → read_next r (sign_of t) ≡ None → LeavesFirst (HasTail variable) (front ++ (t ∷ rest)) last (token_place t)
variable_stops front rest t r last h e =
    inl (stops_behind (HasTail variable) front rest t (begins_variable front r h)
    (λ more g.
    whole_none more (read_next r (sign_of t)) e
    (ap whole_in (sym (read_append front (t ∷ more) (Some reading.NoName) ∙ ap (read_on (t ∷ more)) h)) ∙ variable_read (front ++ (t ∷ more)) g)))

pub variable_ends : (ts : List Token) (r : Reading) (last : ℕ) → read_on ts (Some reading.NoName) ≡ Some r → is_whole r ≡ false → LeavesFirst (HasTail variable) ts last last
variable_ends ts r last h e =
    inr (refl, record { begins = begins_variable ts r h; none = λ g. let clash : false ≡ true = sym e ∙ ap whole_in (sym h) ∙ variable_read ts g in false≢true clash })

-- a variable is a phrase
pub variable_phrase : (ts : List Token) (v : RawFormula) → IsVariableOf ts v → IsPhraseOf ts v
variable_phrase ts v h = (named h.0 h.1 h.2, h.3, h.4)

pub variable_only : (ts : List Token) (v : RawFormula) → HasTail variable ts → ((w : RawFormula) → IsPhraseOf ts w → w ≡ v) → IsVariableOf ts v
variable_only ts v h only = subst (IsVariableOf ts) (only h.0 (variable_phrase ts h.0 h.1)) h.1

pub variable_memory : (ts : List Token) (last : ℕ) (fault : RawFault) → HasTail variable ts → (fault ≢ raw_fault.Memory → (w : RawFormula) → IsPhraseOf ts w → ⊥) → IsFaultIn (HasTail variable) ts last (of_text fault)
variable_memory ts last raw_fault.NotUtf8 h none = absurd (none (λ e. cc) h.0 (variable_phrase ts h.0 h.1))
variable_memory ts last (raw_fault.BadCharacter place) h none = absurd (none (λ e. cc) h.0 (variable_phrase ts h.0 h.1))
variable_memory ts last (raw_fault.TooDeep depth) h none = absurd (none (λ e. cc) h.0 (variable_phrase ts h.0 h.1))
variable_memory ts last (raw_fault.Unexpected place) h none = absurd (none (λ e. cc) h.0 (variable_phrase ts h.0 h.1))
variable_memory ts last raw_fault.Memory h none = tt

-- one token more is read
pub read_step : (ls : List Lexeme) (i : ℕ) (lexeme : Lexeme) (r : Reading) (next : Option Reading) → i < length ls → lexeme ≡ get_or ls i lexeme → read_on (plain_tokens (take i ls)) (Some reading.NoName) ≡ Some r → read_next r (plain_sign lexeme.symbol) ≡ next
    → read_on (plain_tokens (take (i + 1) ls)) (Some reading.NoName) ≡ next
read_step ls i lexeme r next inside is h e =
    let front : take (i + 1) ls ≡ take i ls ++ lexeme ∷ [] = take_more ls i lexeme inside ∙ ap (λ (l : Lexeme). take i ls ++ l ∷ []) (sym is) in
    ap (λ (l : List Lexeme). read_on (plain_tokens l) (Some reading.NoName)) front ∙ ap (λ (l : List Token). read_on l (Some reading.NoName)) (map-append plain_token (take i ls) (lexeme ∷ []))
    ∙ read_append (plain_tokens (take i ls)) (plain_token lexeme ∷ []) (Some reading.NoName) ∙ ap (read_on (plain_token lexeme ∷ [])) h ∙ e

pub read_dies : (ls : List Lexeme) (i : ℕ) (lexeme : Lexeme) (r : Reading) (last : ℕ) → i < length ls → lexeme ≡ get_or ls i lexeme → read_on (plain_tokens (take i ls)) (Some reading.NoName) ≡ Some r → read_next r (plain_sign lexeme.symbol) ≡ None
    → LeavesFirst (HasTail variable) (plain_tokens ls) last lexeme.place
read_dies ls i lexeme r last inside is h e =
    let rest : drop i ls ≡ lexeme ∷ drop (i + 1) ls = drop_more ls i lexeme inside ∙ ap (λ (l : Lexeme). l ∷ drop (i + 1) ls) (sym is) in
    let cut : ls ≡ take i ls ++ lexeme ∷ drop (i + 1) ls = sym (take-append-drop i ls) ∙ ap (λ (l : List Lexeme). take i ls ++ l) rest in
    let whole : plain_tokens ls ≡ plain_tokens (take i ls) ++ (plain_token lexeme ∷ plain_tokens (drop (i + 1) ls)) = ap (λ (l : List Lexeme). plain_tokens l) cut ∙ map-append plain_token (take i ls) (lexeme ∷ drop (i + 1) ls) in
    subst (λ (l : List Token). LeavesFirst (HasTail variable) l last lexeme.place) (sym whole) (variable_stops (plain_tokens (take i ls)) (plain_tokens (drop (i + 1) ls)) (plain_token lexeme) r last h e)

pub read_ends : (ls : List Lexeme) (i : ℕ) (r : Reading) (last : ℕ) → length ls ≤ i → read_on (plain_tokens (take i ls)) (Some reading.NoName) ≡ Some r → is_whole r ≡ false → LeavesFirst (HasTail variable) (plain_tokens ls) last last
read_ends ls i r last past h e = variable_ends (plain_tokens ls) r last (ap (λ (l : List Lexeme). read_on (plain_tokens l) (Some reading.NoName)) (sym (take_all i ls past)) ∙ h) e
