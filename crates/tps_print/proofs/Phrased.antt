-- The tokens of a printed term are a phrase that says the term.
use Rattle.std.proofs.Common.{ℕ, ◌+◌, ◌-◌, ◌<◌, ◌≤◌, List, [], ◌∷◌, ◌++◌, Bool, true, false, cond, ◌&&◌, map, ◌≡◌, refl, sym, ap, ◌∙◌, length, arith, append_assoc, Some, None, All}
use Rattle.std.specs.declared.option.Option.{Option}
use Rattle.std.specs.List.{list_any, list_all}
use Rattle.std.proofs.lemmas.Bool.Decides.{nat_tests}
use Rattle.std.proofs.lemmas.List.Elements.{All-get_or}
use Rattle.hol_terms.specs.Names.{IsName}
use Rattle.hol_terms.specs.Terms.{SimpleType, base_type, function_type, Constant, negation, conjunction, disjunction, implication, truth, falsehood, forall, exists, Term, free, bound, constant, application, abstraction, Variable}
use Rattle.hol_terms.specs.Collected.{with_variables}
use Rattle.hol_terms.specs.Computed.{same_variable}
use Rattle.hol_terms.specs.FreeVariables.{occurrences}
use Rattle.hol_terms.specs.Indices.{IsClosedBelow}
use Rattle.core_text.specs.CoreForms.{HasLetters, ConstantHasLetters, HasNames}
use Rattle.tps_reader.specs.Grammar as grammar
use Rattle.tps_reader.specs.Grammar.{Spot, spot, TypeText, type_end, type_letters, type_group, Types, spelled_type, is_letter, is_letters, with_letters, joined, Written, untyped, typed, HasType, spelled_written, Phrase, spelled, Says, rank, is_closed, moved}
use Rattle.tps_reader.specs.Raws.{RawFormula, raw_variable, raw_constant, raw_application, raw_binding, raw_connective, raw_negation, place_of}
use Rattle.tps_reader.specs.Tokens.{Sign, open_square, close_square, open_round, close_round, dot, tilde, word, Token, token, sign_of}
use Rattle.tps_reader.specs.declared.raws.Binder.{Binder}
use Rattle.tps_reader.specs.declared.raws.Binder.TheVariants.{Forall, Exists, Lambda}
use Rattle.tps_reader.specs.declared.raws.Infix.{Infix}
use Rattle.tps_reader.specs.declared.raws.Infix.TheVariants.{And, Or, Implies}
use Rattle.hol_terms.proofs.TypingLaws.{typed_is_closed}
use Rattle.tps_print.specs.BoundNames.{binder_depth, free_names}
use Rattle.tps_print.specs.Laws.{AreNamesFor, HasPhrase}
use Rattle.tps_print.specs.Layouts.{Layout, a_variable, an_index, a_constant, a_negation, a_universal, an_existential, a_conjunction, a_disjunction, an_implication, an_application, an_abstraction, SaysTerm, written_type}
use Rattle.tps_print.specs.Pieces.{brackets_application, brackets_compound, brackets_negation, name_at}
use Rattle.tps_print.specs.Printed.{names_beside}
use Rattle.tps_print.specs.Signs.{letters_before, letters_behind, signs_behind, type_signs, round_signs, constant_signs, bracket_signs, term_signs}
use Rattle.tps_print.specs.declared.levels.Level.{Level}
use Rattle.tps_print.specs.declared.levels.Level.TheVariants as level
use Rattle.tps_print.proofs.Annotated.{annotated, deep_below, deep_scope, deep_sides, deep_parts, deep_body}
use Rattle.tps_print.proofs.Binders.{bound_names_are}

-- one token

record Taken (ts : List Token) (s : Sign) (more : List Sign) : Type 0 where
  pub place : ℕ
  pub long : ℕ
  pub rest : List Token
  pub parts : ts ≡ token s place long ∷ rest
  pub left : map sign_of rest ≡ more

take_sign : (ts : List Token) (s : Sign) (more : List Sign) → map sign_of ts ≡ s ∷ more → Taken ts s more
take_sign [] s more e = absurd (cc)
take_sign (token z place long ∷ ts) s more e =
    let same : z ≡ s = cc in
    let left : map sign_of ts ≡ more = cc in
    record { place = place; long = long; rest = ts; parts = ap (λ (x : Sign). token x place long ∷ ts) same; left = left }

-- types

record ReadsType (before : Option SimpleType) (ts : List Token) (more : List Sign) (ty : SimpleType) : Type 0 where
  pub text : TypeText
  pub rest : List Token
  pub parts : ts ≡ spelled_type text ++ rest
  pub left : map sign_of rest ≡ more
  pub types : Types before text ty

abbrev AreLetters : List ℕ → Type 0
AreLetters ls = list_all is_letter ls ≡ true

letter : (l : ℕ) → HasLetters (base_type l) → is_letter l ≡ true
letter l h = grind (arith, nat_tests)

and_both : (a b : Bool) → a ≡ true → b ≡ true → (a && b) ≡ true
and_both true b e f = f
and_both false b e f = cc

letters_more : (l : ℕ) (ls : List ℕ) → HasLetters (base_type l) → AreLetters ls → AreLetters (l ∷ ls)
letters_more l ls h all = and_both (is_letter l) (list_all is_letter ls) (letter l h) all

behind_letters : (s : SimpleType) (ls : List ℕ) → HasLetters s → AreLetters ls → AreLetters (letters_behind s ls)
behind_letters (base_type l) ls h all = letters_more l ls h all
behind_letters (function_type a b) ls h all = refl

-- letters in front of what is read
with_word : (before : Option SimpleType) (l : ℕ) (ls : List ℕ) (more : List Sign) (ty : SimpleType) (ts : List Token) (w : Taken ts (word (l ∷ ls)) more) (stop : List Sign)
    → AreLetters (l ∷ ls) → ReadsType (with_letters before (l ∷ ls)) w.rest stop ty → ReadsType before ts stop ty
with_word before l ls more ty ts w stop all r = record {
  text = type_letters (spot w.place w.long) (l ∷ ls) r.text;
  rest = r.rest;
  parts = w.parts ∙ ap (λ (us : List Token). token (word (l ∷ ls)) w.place w.long ∷ us) r.parts;
  left = r.left;
  types = (all, r.types);
}

letters_read : (before : SimpleType) (ls : List ℕ) (signs stop : List Sign) (ty : SimpleType) → AreLetters ls
    → ((us : List Token) → map sign_of us ≡ signs → ReadsType (with_letters (Some before) ls) us stop ty)
    → (ts : List Token) → map sign_of ts ≡ letters_before ls signs → ReadsType (Some before) ts stop ty
letters_read before [] signs stop ty all tail ts e = tail ts e
letters_read before (l ∷ ls) signs stop ty all tail ts e =
    let w = take_sign ts (word (l ∷ ls)) signs e in with_word (Some before) l ls signs ty ts w stop all (tail w.rest w.left)

type_read : (s : SimpleType) (ls : List ℕ) (signs stop : List Sign) (ty : SimpleType) → HasLetters s → AreLetters ls
    → ((us : List Token) → map sign_of us ≡ signs → ReadsType (with_letters (Some s) ls) us stop ty)
    → (ts : List Token) → map sign_of ts ≡ type_signs s ls signs → ReadsType None ts stop ty
type_read (base_type l) ls signs stop ty h all tail ts e =
    let w = take_sign ts (word (l ∷ ls)) signs e in with_word None l ls signs ty ts w stop (letters_more l ls h all) (tail w.rest w.left)
type_read (function_type r s) ls signs stop ty h all tail ts e =
    type_read r (letters_behind s ls) (signs_behind s signs (type_signs s [] (close_round ∷ letters_before ls signs))) stop ty h.0 (behind_letters s ls h.1 all)
    (argument s h.1 (type_read s [] (close_round ∷ letters_before ls signs) (close_round ∷ letters_before ls signs) s h.1 refl
    (λ us f. record { text = type_end; rest = us; parts = refl; left = f; types = refl })) tail)
    ts e
  where
    argument : (s : SimpleType) → HasLetters s
        → ((us : List Token) → map sign_of us ≡ type_signs s [] (close_round ∷ letters_before ls signs) → ReadsType None us (close_round ∷ letters_before ls signs) s)
        → ((us : List Token) → map sign_of us ≡ signs → ReadsType (with_letters (Some (function_type r s)) ls) us stop ty)
        → (us : List Token) → map sign_of us ≡ signs_behind s signs (type_signs s [] (close_round ∷ letters_before ls signs)) → ReadsType (with_letters (Some r) (letters_behind s ls)) us stop ty
    argument (base_type l) h inner tail us f = tail us f
    argument (function_type a b) h inner tail us f =
        let opening = take_sign us open_round (type_signs (function_type a b) [] (close_round ∷ letters_before ls signs)) f in
        let group = inner opening.rest opening.left in
        let closing = take_sign group.rest close_round (letters_before ls signs) group.left in
        let behind = letters_read (function_type r (function_type a b)) ls signs stop ty all tail closing.rest closing.left in
        record {
          text = type_group (spot opening.place opening.long) group.text (spot closing.place closing.long) behind.text;
          rest = behind.rest;
          parts = opening.parts ∙ ap (λ (vs : List Token). token open_round opening.place opening.long ∷ vs)
              (group.parts ∙ ap (λ (vs : List Token). spelled_type group.text ++ vs) (closing.parts ∙ ap (λ (vs : List Token). token close_round closing.place closing.long ∷ vs) behind.parts)
              ∙ sym (append_assoc (spelled_type group.text) (token close_round closing.place closing.long ∷ spelled_type behind.text) behind.rest));
          left = behind.left;
          types = (function_type a b, group.types, behind.types);
        }

-- a written type

record ReadsWritten (ts : List Token) (more : List Sign) (s : SimpleType) : Type 0 where
  pub first : Spot
  pub text : TypeText
  pub last : Spot
  pub rest : List Token
  pub parts : ts ≡ spelled_written (typed first text last) ++ rest
  pub left : map sign_of rest ≡ more
  pub types : Types None text s

round_read : (s : SimpleType) (more : List Sign) → HasLetters s → (ts : List Token) → map sign_of ts ≡ round_signs s more → ReadsWritten ts more s
round_read s more h ts e =
    let opening = take_sign ts open_round (type_signs s [] (close_round ∷ more)) e in
    let inner = type_read s [] (close_round ∷ more) (close_round ∷ more) s h refl (λ us f. record { text = type_end; rest = us; parts = refl; left = f; types = refl }) opening.rest opening.left in
    let closing = take_sign inner.rest close_round more inner.left in
    record {
      first = spot opening.place opening.long;
      text = inner.text;
      last = spot closing.place closing.long;
      rest = closing.rest;
      parts = opening.parts ∙ ap (λ (vs : List Token). token open_round opening.place opening.long ∷ vs)
          (inner.parts ∙ ap (λ (vs : List Token). spelled_type inner.text ++ vs) closing.parts
          ∙ sym (append_assoc (spelled_type inner.text) (token close_round closing.place closing.long ∷ []) closing.rest));
      left = closing.left;
      types = inner.types;
    }

-- phrases

pub record ReadsPhrase (K : Phrase → Type 0) (ts : List Token) (more : List Sign) (Q : RawFormula → Type 0) : Type 0 where
  pub p : Phrase
  pub v : RawFormula
  pub rest : List Token
  pub parts : ts ≡ spelled p ++ rest
  pub left : map sign_of rest ≡ more
  pub says : Says p v
  pub fits : K p
  pub means : Q v

abbrev pub AtLeast : ℕ → Phrase → Type 0
AtLeast n p = (n ≤ rank p) × (is_closed p ≡ true)

-- how tightly a phrase binds at a level, and that it doesn't end after a dot but at the top
abbrev pub Fits : Level → Phrase → Type 0
Fits level.Top p = Unit {0}
Fits level.Operand p = AtLeast 5 p
Fits level.Function p = AtLeast 6 p
Fits level.Argument p = AtLeast 7 p

alone : (l : Level) (p : Phrase) → AtLeast 7 p → Fits l p
alone level.Top p h = tt
alone level.Operand p h = (let low : 7 ≤ rank p = h.0 in omega (arith, low), h.1)
alone level.Function p h = (let low : 7 ≤ rank p = h.0 in omega (arith, low), h.1)
alone level.Argument p h = h

fits_negation : (l : Level) (p : Phrase) → brackets_negation l ≡ false → AtLeast 5 p → Fits l p
fits_negation level.Top p e h = tt
fits_negation level.Operand p e h = h
fits_negation level.Function p e h = absurd (cc)
fits_negation level.Argument p e h = absurd (cc)

fits_compound : (l : Level) (p : Phrase) → brackets_compound l ≡ false → Unit {0} → Fits l p
fits_compound level.Top p e h = tt
fits_compound level.Operand p e h = absurd (cc)
fits_compound level.Function p e h = absurd (cc)
fits_compound level.Argument p e h = absurd (cc)

fits_application : (l : Level) (p : Phrase) → brackets_application l ≡ false → AtLeast 6 p → Fits l p
fits_application level.Top p e h = tt
fits_application level.Operand p e h = (let low : 6 ≤ rank p = h.0 in omega (arith, low), h.1)
fits_application level.Function p e h = h
fits_application level.Argument p e h = absurd (cc)

bracket_read : (l : Level) (b : Bool) (K : Phrase → Type 0) (Q : RawFormula → Type 0) (inner : List Sign → List Sign)
    → ((p : Phrase) → b ≡ false → K p → Fits l p) → ((k : ℕ) (v : RawFormula) → Q v → Q (moved k v))
    → ((us : List Token) (more : List Sign) → map sign_of us ≡ inner more → ReadsPhrase K us more Q)
    → (ts : List Token) (more : List Sign) → map sign_of ts ≡ bracket_signs b inner more → ReadsPhrase (Fits l) ts more Q
bracket_read l false K Q inner fits moves reads ts more e =
    let r = reads ts more e in
    record { p = r.p; v = r.v; rest = r.rest; parts = r.parts; left = r.left; says = r.says; fits = fits r.p refl r.fits; means = r.means }
bracket_read l true K Q inner fits moves reads ts more e =
    let opening = take_sign ts open_square (inner (close_square ∷ more)) e in
    let r = reads opening.rest (close_square ∷ more) opening.left in
    let closing = take_sign r.rest close_square more r.left in
    record {
      p = grammar.bracketed (spot opening.place opening.long) r.p (spot closing.place closing.long);
      v = moved opening.place r.v;
      rest = closing.rest;
      parts = opening.parts ∙ ap (λ (vs : List Token). token open_square opening.place opening.long ∷ vs)
          (r.parts ∙ ap (λ (vs : List Token). spelled r.p ++ vs) closing.parts
          ∙ sym (append_assoc (spelled r.p) (token close_square closing.place closing.long ∷ []) closing.rest));
      left = closing.left;
      says = (r.v, r.says, refl);
      fits = alone l (grammar.bracketed (spot opening.place opening.long) r.p (spot closing.place closing.long)) (omega arith, refl);
      means = moves opening.place r.v r.means;
    }

-- the place of a raw formula that says a term may be any

says_moved : (names : List (List ℕ)) (d : ℕ) (earlier : List Variable) (t : Term) (l : Layout t) (k : ℕ) (v : RawFormula) → SaysTerm names d earlier t l v → SaysTerm names d earlier t l (moved k v)
says_moved names d earlier _ (a_variable n s) k v h = (k, ap (moved k) h.1)
says_moved names d earlier _ (an_index i) k v h = (k, ap (moved k) h.1)
says_moved names d earlier _ (a_constant c) k v h = (k, ap (moved k) h.1)
says_moved names d earlier _ (a_negation s l) k v h = (k, h.1, h.2, ap (moved k) h.3)
says_moved names d earlier _ (a_universal q s b l) k v h = (k, h.1, h.2, ap (moved k) h.3)
says_moved names d earlier _ (an_existential q s b l) k v h = (k, h.1, h.2, ap (moved k) h.3)
says_moved names d earlier _ (a_conjunction s t l m) k v h = (k, h.1, h.2, h.3, h.4, ap (moved k) h.5)
says_moved names d earlier _ (a_disjunction s t l m) k v h = (k, h.1, h.2, h.3, h.4, ap (moved k) h.5)
says_moved names d earlier _ (an_implication s t l m) k v h = (k, h.1, h.2, h.3, h.4, ap (moved k) h.5)
says_moved names d earlier _ (an_application f a plain l m) k v h = (k, h.1, h.2, h.3, h.4, ap (moved k) h.5)
says_moved names d earlier _ (an_abstraction s b l) k v h = (k, h.1, h.2, ap (moved k) h.3)

-- words

name_alone : (K : Phrase → Type 0) (n : List ℕ) (o : Option SimpleType) (Q : RawFormula → Type 0) (ts : List Token) (more : List Sign)
    → IsName n → o ≡ None → ((p : Phrase) → AtLeast 7 p → K p) → ((k : ℕ) → Q (raw_variable n o k)) → map sign_of ts ≡ word n ∷ more → ReadsPhrase K ts more Q
name_alone K n o Q ts more named none fits means e =
    let w = take_sign ts (word n) more e in
    record {
      p = grammar.named (spot w.place w.long) n untyped;
      v = raw_variable n o w.place;
      rest = w.rest;
      parts = w.parts;
      left = w.left;
      says = (named, o, none, refl);
      fits = fits (grammar.named (spot w.place w.long) n untyped) (omega arith, refl);
      means = means w.place;
    }

name_typed : (K : Phrase → Type 0) (n : List ℕ) (s : SimpleType) (o : Option SimpleType) (Q : RawFormula → Type 0) (ts : List Token) (more : List Sign)
    → IsName n → HasLetters s → o ≡ Some s → ((p : Phrase) → AtLeast 7 p → K p) → ((k : ℕ) → Q (raw_variable n o k)) → map sign_of ts ≡ word n ∷ round_signs s more → ReadsPhrase K ts more Q
name_typed K n s o Q ts more named letters some fits means e =
    let w = take_sign ts (word n) (round_signs s more) e in
    let r = round_read s more letters w.rest w.left in
    record {
      p = grammar.named (spot w.place w.long) n (typed r.first r.text r.last);
      v = raw_variable n o w.place;
      rest = r.rest;
      parts = w.parts ∙ ap (λ (vs : List Token). token (word n) w.place w.long ∷ vs) r.parts;
      left = r.left;
      says = (named, o, (s, r.types, some), refl);
      fits = fits (grammar.named (spot w.place w.long) n (typed r.first r.text r.last)) (omega arith, refl);
      means = means w.place;
    }

truth_read : (K : Phrase → Type 0) (b : Bool) (Q : RawFormula → Type 0) (ts : List Token) (more : List Sign)
    → ((p : Phrase) → AtLeast 7 p → K p) → ((k : ℕ) → Q (raw_constant (grammar.truth_constant b) k)) → map sign_of ts ≡ word (grammar.truth_word b) ∷ more → ReadsPhrase K ts more Q
truth_read K b Q ts more fits means e =
    let w = take_sign ts (word (grammar.truth_word b)) more e in
    record {
      p = grammar.truth_value (spot w.place w.long) b;
      v = raw_constant (grammar.truth_constant b) w.place;
      rest = w.rest;
      parts = w.parts;
      left = w.left;
      says = refl;
      fits = fits (grammar.truth_value (spot w.place w.long) b) (omega arith, refl);
      means = means w.place;
    }

infix_read : (K : Phrase → Type 0) (op : Infix) (c : Constant) (Q : RawFormula → Type 0) (ts : List Token) (more : List Sign)
    → grammar.infix_constant op ≡ Some c → ((p : Phrase) → AtLeast 7 p → K p) → ((k : ℕ) → Q (raw_constant c k)) → map sign_of ts ≡ open_square ∷ word (grammar.infix_word op) ∷ close_square ∷ more → ReadsPhrase K ts more Q
infix_read K op c Q ts more is fits means e =
    let a = take_sign ts open_square (word (grammar.infix_word op) ∷ close_square ∷ more) e in
    let w = take_sign a.rest (word (grammar.infix_word op)) (close_square ∷ more) a.left in
    let z = take_sign w.rest close_square more w.left in
    record {
      p = grammar.constant_alone (spot a.place a.long) (grammar.lone_infix op (spot w.place w.long)) (spot z.place z.long);
      v = raw_constant c a.place;
      rest = z.rest;
      parts = a.parts ∙ ap (λ (vs : List Token). token open_square a.place a.long ∷ vs) (w.parts ∙ ap (λ (vs : List Token). token (word (grammar.infix_word op)) w.place w.long ∷ vs) z.parts);
      left = z.left;
      says = (c, is, refl);
      fits = fits (grammar.constant_alone (spot a.place a.long) (grammar.lone_infix op (spot w.place w.long)) (spot z.place z.long)) (omega arith, refl);
      means = means a.place;
    }

tilde_read : (K : Phrase → Type 0) (Q : RawFormula → Type 0) (ts : List Token) (more : List Sign)
    → ((p : Phrase) → AtLeast 7 p → K p) → ((k : ℕ) → Q (raw_constant negation k)) → map sign_of ts ≡ open_square ∷ tilde ∷ close_square ∷ more → ReadsPhrase K ts more Q
tilde_read K Q ts more fits means e =
    let a = take_sign ts open_square (tilde ∷ close_square ∷ more) e in
    let w = take_sign a.rest tilde (close_square ∷ more) a.left in
    let z = take_sign w.rest close_square more w.left in
    record {
      p = grammar.constant_alone (spot a.place a.long) (grammar.lone_tilde (spot w.place w.long)) (spot z.place z.long);
      v = raw_constant negation a.place;
      rest = z.rest;
      parts = a.parts ∙ ap (λ (vs : List Token). token open_square a.place a.long ∷ vs) (w.parts ∙ ap (λ (vs : List Token). token tilde w.place w.long ∷ vs) z.parts);
      left = z.left;
      says = (negation, refl, refl);
      fits = fits (grammar.constant_alone (spot a.place a.long) (grammar.lone_tilde (spot w.place w.long)) (spot z.place z.long)) (omega arith, refl);
      means = means a.place;
    }

quantifier_read : (K : Phrase → Type 0) (b : Binder) (s : SimpleType) (c : Constant) (Q : RawFormula → Type 0) (ts : List Token) (more : List Sign)
    → grammar.quantifier_constant b s ≡ Some c → HasLetters s → ((p : Phrase) → AtLeast 7 p → K p) → ((k : ℕ) → Q (raw_constant c k))
    → map sign_of ts ≡ open_square ∷ word (grammar.binder_word b) ∷ round_signs s (close_square ∷ more) → ReadsPhrase K ts more Q
quantifier_read K b s c Q ts more is letters fits means e =
    let a = take_sign ts open_square (word (grammar.binder_word b) ∷ round_signs s (close_square ∷ more)) e in
    let w = take_sign a.rest (word (grammar.binder_word b)) (round_signs s (close_square ∷ more)) a.left in
    let r = round_read s (close_square ∷ more) letters w.rest w.left in
    let z = take_sign r.rest close_square more r.left in
    record {
      p = grammar.constant_alone (spot a.place a.long) (grammar.lone_quantifier b (spot w.place w.long) r.first r.text r.last) (spot z.place z.long);
      v = raw_constant c a.place;
      rest = z.rest;
      parts = a.parts ∙ ap (λ (vs : List Token). token open_square a.place a.long ∷ vs)
          (w.parts ∙ ap (λ (vs : List Token). token (word (grammar.binder_word b)) w.place w.long ∷ vs)
          (r.parts ∙ ap (λ (vs : List Token). spelled_written (typed r.first r.text r.last) ++ vs) z.parts
          ∙ sym (append_assoc (spelled_written (typed r.first r.text r.last)) (token close_square z.place z.long ∷ []) z.rest)));
      left = z.left;
      says = (c, (s, r.types, is), refl);
      fits = fits (grammar.constant_alone (spot a.place a.long) (grammar.lone_quantifier b (spot w.place w.long) r.first r.text r.last) (spot z.place z.long)) (omega arith, refl);
      means = means a.place;
    }

constant_read : (K : Phrase → Type 0) (c : Constant) (Q : RawFormula → Type 0) (ts : List Token) (more : List Sign)
    → ConstantHasLetters c → ((p : Phrase) → AtLeast 7 p → K p) → ((k : ℕ) → Q (raw_constant c k)) → map sign_of ts ≡ constant_signs c more → ReadsPhrase K ts more Q
constant_read K negation Q ts more letters fits means e = tilde_read K Q ts more fits means e
constant_read K conjunction Q ts more letters fits means e = infix_read K And conjunction Q ts more refl fits means e
constant_read K disjunction Q ts more letters fits means e = infix_read K Or disjunction Q ts more refl fits means e
constant_read K implication Q ts more letters fits means e = infix_read K Implies implication Q ts more refl fits means e
constant_read K truth Q ts more letters fits means e = truth_read K true Q ts more fits means e
constant_read K falsehood Q ts more letters fits means e = truth_read K false Q ts more fits means e
constant_read K (forall s) Q ts more letters fits means e = quantifier_read K Forall s (forall s) Q ts more refl letters fits means e
constant_read K (exists s) Q ts more letters fits means e = quantifier_read K Exists s (exists s) Q ts more refl letters fits means e

-- phrases of parts

negated_read : (ts : List Token) (more inner : List Sign) (Q R : RawFormula → Type 0) → ((us : List Token) → map sign_of us ≡ inner → ReadsPhrase (AtLeast 5) us more Q)
    → ((k : ℕ) (v : RawFormula) → Q v → R (raw_negation v k)) → map sign_of ts ≡ tilde ∷ inner → ReadsPhrase (AtLeast 5) ts more R
negated_read ts more inner Q R reads means e =
    let w = take_sign ts tilde inner e in
    let r = reads w.rest w.left in
    let low : 5 ≤ rank r.p = r.fits.0 in
    record {
      p = grammar.negated (spot w.place w.long) r.p;
      v = raw_negation r.v w.place;
      rest = r.rest;
      parts = w.parts ∙ ap (λ (vs : List Token). token tilde w.place w.long ∷ vs) r.parts;
      left = r.left;
      says = (r.v, r.says, low, refl);
      fits = (omega arith, r.fits.1);
      means = means w.place r.v r.means;
    }

bound_read : (b : Binder) (n : List ℕ) (s : SimpleType) (ts : List Token) (more inner : List Sign) (Q R : RawFormula → Type 0) → IsName n → HasLetters s
    → ((us : List Token) → map sign_of us ≡ inner → ReadsPhrase (Fits level.Top) us more Q) → ((k : ℕ) (v : RawFormula) → Q v → Q (moved k v))
    → ((k : ℕ) (v : RawFormula) → Q v → R (raw_binding b n (Some s) v k)) → map sign_of ts ≡ word (grammar.binder_word b) ∷ word n ∷ round_signs s (dot ∷ inner)
    → ReadsPhrase (λ (p : Phrase). Unit {0}) ts more R
bound_read b n s ts more inner Q R named letters reads moves means e =
    let w = take_sign ts (word (grammar.binder_word b)) (word n ∷ round_signs s (dot ∷ inner)) e in
    let m = take_sign w.rest (word n) (round_signs s (dot ∷ inner)) w.left in
    let t = round_read s (dot ∷ inner) letters m.rest m.left in
    let z = take_sign t.rest dot inner t.left in
    let r = reads z.rest z.left in
    record {
      p = grammar.bound (spot w.place w.long) b (spot m.place m.long) n (typed t.first t.text t.last) (grammar.dotted (spot z.place z.long) r.p);
      v = raw_binding b n (Some s) (moved z.place r.v) w.place;
      rest = r.rest;
      parts = w.parts ∙ ap (λ (vs : List Token). token (word (grammar.binder_word b)) w.place w.long ∷ vs)
          (m.parts ∙ ap (λ (vs : List Token). token (word n) m.place m.long ∷ vs)
          (t.parts ∙ ap (λ (vs : List Token). spelled_written (typed t.first t.text t.last) ++ vs) (z.parts ∙ ap (λ (vs : List Token). token dot z.place z.long ∷ vs) r.parts)
          ∙ sym (append_assoc (spelled_written (typed t.first t.text t.last)) (token dot z.place z.long ∷ spelled r.p) r.rest)));
      left = r.left;
      says = (named, Some s, (s, t.types, refl), moved z.place r.v, (r.v, r.says, refl), (omega arith), refl);
      fits = tt;
      means = means w.place (moved z.place r.v) (moves z.place r.v r.means);
    }

connected_read : (op : Infix) (ts : List Token) (more inner : List Sign) (Q P R : RawFormula → Type 0) → (grammar.left_rank op ≤ 5) × (grammar.right_rank op ≤ 5)
    → ReadsPhrase (AtLeast 5) ts (word (grammar.infix_word op) ∷ inner) Q → ((us : List Token) → map sign_of us ≡ inner → ReadsPhrase (AtLeast 5) us more P)
    → ((k : ℕ) (v w : RawFormula) → Q v → P w → R (raw_connective op v w k)) → ReadsPhrase (λ (p : Phrase). Unit {0}) ts more R
connected_read op ts more inner Q P R ranks f reads means =
    let w = take_sign f.rest (word (grammar.infix_word op)) inner f.left in
    let r = reads w.rest w.left in
    let low : grammar.left_rank op ≤ 5 = ranks.0 in
    let high : grammar.right_rank op ≤ 5 = ranks.1 in
    let one : 5 ≤ rank f.p = f.fits.0 in
    let two : 5 ≤ rank r.p = r.fits.0 in
    record {
      p = grammar.connected op f.p (spot w.place w.long) r.p;
      v = raw_connective op f.v r.v (place_of f.v);
      rest = r.rest;
      parts = f.parts ∙ ap (λ (vs : List Token). spelled f.p ++ vs) (w.parts ∙ ap (λ (vs : List Token). token (word (grammar.infix_word op)) w.place w.long ∷ vs) r.parts)
          ∙ sym (append_assoc (spelled f.p) (token (word (grammar.infix_word op)) w.place w.long ∷ spelled r.p) r.rest);
      left = r.left;
      says = (f.v, r.v, f.says, r.says, (omega (arith, low, one)), f.fits.1, (omega (arith, high, two)), refl);
      fits = tt;
      means = means (place_of f.v) f.v r.v f.means r.means;
    }

applied_read : (ts : List Token) (more inner : List Sign) (Q P R : RawFormula → Type 0)
    → ReadsPhrase (AtLeast 6) ts inner Q → ((us : List Token) → map sign_of us ≡ inner → ReadsPhrase (AtLeast 7) us more P)
    → ((k : ℕ) (v w : RawFormula) → Q v → P w → R (raw_application v w k)) → ReadsPhrase (AtLeast 6) ts more R
applied_read ts more inner Q P R f reads means =
    let r = reads f.rest f.left in
    record {
      p = grammar.applied f.p r.p;
      v = raw_application f.v r.v (place_of f.v);
      rest = r.rest;
      parts = f.parts ∙ ap (λ (vs : List Token). spelled f.p ++ vs) r.parts ∙ sym (append_assoc (spelled f.p) (spelled r.p) r.rest);
      left = r.left;
      says = (f.v, r.v, f.says, r.says, f.fits.0, f.fits.1, r.fits.0, refl);
      fits = (omega arith, r.fits.1);
      means = means (place_of f.v) f.v r.v f.means r.means;
    }

-- terms

pub term_read : (names : List (List ℕ)) (d : ℕ) (l : Level) (earlier : List Variable) (t : Term) (k : Layout t) → All IsName names → d + binder_depth t ≤ length names → IsClosedBelow d t → HasNames t
    → (ts : List Token) (more : List Sign) → map sign_of ts ≡ term_signs names d l earlier t k more → ReadsPhrase (Fits l) ts more (SaysTerm names d earlier t k)
term_read names d l earlier _ (a_variable n s) all deep closed named ts more e = go (list_any (same_variable (n, s)) earlier) refl e
  where
    go : (b : Bool) → list_any (same_variable (n, s)) earlier ≡ b → map sign_of ts ≡ word n ∷ cond b more (round_signs s more) → ReadsPhrase (Fits l) ts more (SaysTerm names d earlier (free n s) (a_variable n s))
    go true known f = name_alone (Fits l) n (written_type earlier (n, s)) (SaysTerm names d earlier (free n s) (a_variable n s)) ts more named.0 (ap (λ (b : Bool). cond b None (Some s)) known) (alone l) (λ k. (k, refl)) f
    go false new f = name_typed (Fits l) n s (written_type earlier (n, s)) (SaysTerm names d earlier (free n s) (a_variable n s)) ts more named.0 named.1 (ap (λ (b : Bool). cond b None (Some s)) new) (alone l) (λ k. (k, refl)) f
term_read names d l earlier _ (an_index i) all deep closed named ts more e =
    let inside : i < d = closed in
    let low : d + 0 ≤ length names = deep in
    let within : d - i - 1 < length names = omega (arith, inside, low) in
    name_alone (Fits l) (name_at names (d - i - 1)) None (SaysTerm names d earlier (bound i) (an_index i)) ts more (All-get_or IsName names (d - i - 1) [] within all) refl (alone l) (λ k. (k, refl)) e
term_read names d l earlier _ (a_constant c) all deep closed named ts more e =
    constant_read (Fits l) c (SaysTerm names d earlier (constant c) (a_constant c)) ts more named (alone l) (λ k. (k, refl)) e
term_read names d l earlier _ (a_negation s k) all deep closed named ts more e =
    bracket_read l (brackets_negation l) (AtLeast 5) (SaysTerm names d earlier (application (constant negation) s) (a_negation s k))
    (λ (more : List Sign). tilde ∷ term_signs names d level.Operand earlier s k more) (fits_negation l) (says_moved names d earlier (application (constant negation) s) (a_negation s k))
    (λ us more f. negated_read us more (term_signs names d level.Operand earlier s k more) (SaysTerm names d earlier s k) (SaysTerm names d earlier (application (constant negation) s) (a_negation s k))
    (λ vs g. term_read names d level.Operand earlier s k all (deep_below d (binder_depth s) (length names) deep) closed.1 named.1 vs more g) (λ p v h. (p, v, h, refl)) f)
    ts more e
term_read names d l earlier _ (a_universal q s b k) all deep closed named ts more e =
    let inner = deep_scope d (binder_depth b) (length names) deep in
    bracket_read l (brackets_compound l) (λ (p : Phrase). Unit {0}) (SaysTerm names d earlier (application (constant (forall q)) (abstraction s b)) (a_universal q s b k))
    (λ (more : List Sign). word (grammar.binder_word Forall) ∷ word (name_at names d) ∷ round_signs s (dot ∷ term_signs names (d + 1) level.Top earlier b k more)) (fits_compound l) (says_moved names d earlier (application (constant (forall q)) (abstraction s b)) (a_universal q s b k))
    (λ us more f. bound_read Forall (name_at names d) s us more (term_signs names (d + 1) level.Top earlier b k more) (SaysTerm names (d + 1) earlier b k) (SaysTerm names d earlier (application (constant (forall q)) (abstraction s b)) (a_universal q s b k))
    (All-get_or IsName names d [] inner.1 all) named.1.0
    (λ vs g. term_read names (d + 1) level.Top earlier b k all inner.0 closed.1 named.1.1 vs more g) (says_moved names (d + 1) earlier b k) (λ p v h. (p, v, h, refl)) f)
    ts more e
term_read names d l earlier _ (an_existential q s b k) all deep closed named ts more e =
    let inner = deep_scope d (binder_depth b) (length names) deep in
    bracket_read l (brackets_compound l) (λ (p : Phrase). Unit {0}) (SaysTerm names d earlier (application (constant (exists q)) (abstraction s b)) (an_existential q s b k))
    (λ (more : List Sign). word (grammar.binder_word Exists) ∷ word (name_at names d) ∷ round_signs s (dot ∷ term_signs names (d + 1) level.Top earlier b k more)) (fits_compound l) (says_moved names d earlier (application (constant (exists q)) (abstraction s b)) (an_existential q s b k))
    (λ us more f. bound_read Exists (name_at names d) s us more (term_signs names (d + 1) level.Top earlier b k more) (SaysTerm names (d + 1) earlier b k) (SaysTerm names d earlier (application (constant (exists q)) (abstraction s b)) (an_existential q s b k))
    (All-get_or IsName names d [] inner.1 all) named.1.0
    (λ vs g. term_read names (d + 1) level.Top earlier b k all inner.0 closed.1 named.1.1 vs more g) (says_moved names (d + 1) earlier b k) (λ p v h. (p, v, h, refl)) f)
    ts more e
term_read names d l earlier _ (a_conjunction s t k m) all deep closed named ts more e =
    let parts = deep_sides d (binder_depth s) (binder_depth t) (length names) deep in
    bracket_read l (brackets_compound l) (λ (p : Phrase). Unit {0}) (SaysTerm names d earlier (application (application (constant conjunction) s) t) (a_conjunction s t k m))
    (λ (more : List Sign). term_signs names d level.Operand earlier s k (word (grammar.infix_word And) ∷ term_signs names d level.Operand (with_variables earlier (occurrences s)) t m more)) (fits_compound l)
    (says_moved names d earlier (application (application (constant conjunction) s) t) (a_conjunction s t k m))
    (λ us more f. connected_read And us more (term_signs names d level.Operand (with_variables earlier (occurrences s)) t m more) (SaysTerm names d earlier s k) (SaysTerm names d (with_variables earlier (occurrences s)) t m)
    (SaysTerm names d earlier (application (application (constant conjunction) s) t) (a_conjunction s t k m)) (omega arith, omega arith)
    (term_read names d level.Operand earlier s k all parts.0 closed.0.1 named.0.1 us (word (grammar.infix_word And) ∷ term_signs names d level.Operand (with_variables earlier (occurrences s)) t m more) f)
    (λ vs g. term_read names d level.Operand (with_variables earlier (occurrences s)) t m all parts.1 closed.1 named.1 vs more g) (λ p v w h j. (p, v, w, h, j, refl)))
    ts more e
term_read names d l earlier _ (a_disjunction s t k m) all deep closed named ts more e =
    let parts = deep_sides d (binder_depth s) (binder_depth t) (length names) deep in
    bracket_read l (brackets_compound l) (λ (p : Phrase). Unit {0}) (SaysTerm names d earlier (application (application (constant disjunction) s) t) (a_disjunction s t k m))
    (λ (more : List Sign). term_signs names d level.Operand earlier s k (word (grammar.infix_word Or) ∷ term_signs names d level.Operand (with_variables earlier (occurrences s)) t m more)) (fits_compound l)
    (says_moved names d earlier (application (application (constant disjunction) s) t) (a_disjunction s t k m))
    (λ us more f. connected_read Or us more (term_signs names d level.Operand (with_variables earlier (occurrences s)) t m more) (SaysTerm names d earlier s k) (SaysTerm names d (with_variables earlier (occurrences s)) t m)
    (SaysTerm names d earlier (application (application (constant disjunction) s) t) (a_disjunction s t k m)) (omega arith, omega arith)
    (term_read names d level.Operand earlier s k all parts.0 closed.0.1 named.0.1 us (word (grammar.infix_word Or) ∷ term_signs names d level.Operand (with_variables earlier (occurrences s)) t m more) f)
    (λ vs g. term_read names d level.Operand (with_variables earlier (occurrences s)) t m all parts.1 closed.1 named.1 vs more g) (λ p v w h j. (p, v, w, h, j, refl)))
    ts more e
term_read names d l earlier _ (an_implication s t k m) all deep closed named ts more e =
    let parts = deep_sides d (binder_depth s) (binder_depth t) (length names) deep in
    bracket_read l (brackets_compound l) (λ (p : Phrase). Unit {0}) (SaysTerm names d earlier (application (application (constant implication) s) t) (an_implication s t k m))
    (λ (more : List Sign). term_signs names d level.Operand earlier s k (word (grammar.infix_word Implies) ∷ term_signs names d level.Operand (with_variables earlier (occurrences s)) t m more)) (fits_compound l)
    (says_moved names d earlier (application (application (constant implication) s) t) (an_implication s t k m))
    (λ us more f. connected_read Implies us more (term_signs names d level.Operand (with_variables earlier (occurrences s)) t m more) (SaysTerm names d earlier s k) (SaysTerm names d (with_variables earlier (occurrences s)) t m)
    (SaysTerm names d earlier (application (application (constant implication) s) t) (an_implication s t k m)) (omega arith, omega arith)
    (term_read names d level.Operand earlier s k all parts.0 closed.0.1 named.0.1 us (word (grammar.infix_word Implies) ∷ term_signs names d level.Operand (with_variables earlier (occurrences s)) t m more) f)
    (λ vs g. term_read names d level.Operand (with_variables earlier (occurrences s)) t m all parts.1 closed.1 named.1 vs more g) (λ p v w h j. (p, v, w, h, j, refl)))
    ts more e
term_read names d l earlier _ (an_application g a plain k m) all deep closed named ts more e =
    let parts = deep_parts d (binder_depth g) (binder_depth a) (length names) deep in
    bracket_read l (brackets_application l) (AtLeast 6) (SaysTerm names d earlier (application g a) (an_application g a plain k m))
    (λ (more : List Sign). term_signs names d level.Function earlier g k (term_signs names d level.Argument (with_variables earlier (occurrences g)) a m more)) (fits_application l)
    (says_moved names d earlier (application g a) (an_application g a plain k m))
    (λ us more f. applied_read us more (term_signs names d level.Argument (with_variables earlier (occurrences g)) a m more) (SaysTerm names d earlier g k) (SaysTerm names d (with_variables earlier (occurrences g)) a m)
    (SaysTerm names d earlier (application g a) (an_application g a plain k m))
    (term_read names d level.Function earlier g k all parts.0 closed.0 named.0 us (term_signs names d level.Argument (with_variables earlier (occurrences g)) a m more) f)
    (λ vs h. term_read names d level.Argument (with_variables earlier (occurrences g)) a m all parts.1 closed.1 named.1 vs more h) (λ p v w h j. (p, v, w, h, j, refl)))
    ts more e
term_read names d l earlier _ (an_abstraction s b k) all deep closed named ts more e =
    let inner = deep_body d (binder_depth b) (length names) deep in
    bracket_read l (brackets_compound l) (λ (p : Phrase). Unit {0}) (SaysTerm names d earlier (abstraction s b) (an_abstraction s b k))
    (λ (more : List Sign). word (grammar.binder_word Lambda) ∷ word (name_at names d) ∷ round_signs s (dot ∷ term_signs names (d + 1) level.Top earlier b k more)) (fits_compound l) (says_moved names d earlier (abstraction s b) (an_abstraction s b k))
    (λ us more f. bound_read Lambda (name_at names d) s us more (term_signs names (d + 1) level.Top earlier b k more) (SaysTerm names (d + 1) earlier b k) (SaysTerm names d earlier (abstraction s b) (an_abstraction s b k))
    (All-get_or IsName names d [] inner.1 all) named.0
    (λ vs g. term_read names (d + 1) level.Top earlier b k all inner.0 closed named.1 vs more g) (says_moved names (d + 1) earlier b k) (λ p v h. (p, v, h, refl)) f)
    ts more e

-- the whole

nothing_left : (ts : List Token) → map sign_of ts ≡ [] → ts ≡ []
nothing_left [] e = refl
nothing_left (t ∷ ts) e = absurd (cc)

append_none : (ts : List Token) → ts ++ [] ≡ ts
append_none [] = refl
append_none (t ∷ ts) = ap (λ (l : List Token). t ∷ l) (append_none ts)

pub tokens_read : HasPhrase
tokens_read t s l ts named has one small same =
    let are : AreNamesFor (free_names t) (binder_depth t) (names_beside t None) = bound_names_are (free_names t) (binder_depth t) small in
    let enough : binder_depth t ≤ length (names_beside t None) = are.enough in
    let r = term_read (names_beside t None) 0 level.Top [] t l are.named (omega (arith, enough)) (typed_is_closed t s has) named ts [] same in
    let end : r.rest ≡ [] = nothing_left r.rest r.left in
    let whole : spelled r.p ≡ ts = sym (r.parts ∙ ap (λ (us : List Token). spelled r.p ++ us) end ∙ append_none (spelled r.p)) in
    (r.v, (r.p, whole, r.says), annotated t s l r.v has one small r.means)
