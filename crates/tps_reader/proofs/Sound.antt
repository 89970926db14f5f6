-- What is read token by token is a phrase of those tokens.
use Rattle.std.proofs.Common.{◌≡◌, ℕ, ◌<◌, ◌≤◌, nat_lt, Bool, true, false, cond, List, [], ◌∷◌, ◌++◌, Option, Some, None, refl, sym, ◌∙◌, ap, subst, arith, append_assoc, append-nil}
use Rattle.std.proofs.lemmas.Bool.{ltb-true}
use Rattle.hol_terms.specs.Names.{IsName}
use Rattle.hol_terms.specs.Terms.{SimpleType, Constant, negation}
use Rattle.tps_reader.specs.Grammar.{Phrase, named, truth_value, constant_alone, bracketed, dotted, applied, negated, bound, connected, Spot, spot, standing, spot_place, TypeText, type_letters, type_group, Types, Written, untyped, typed, HasType, ConstantText, lone_tilde, lone_infix, lone_quantifier, IsConstant, Says, joined, with_letters, is_closed, is_letters, rank, infix_rank, left_rank, right_rank, spelled, spelled_constant, spelled_type, spelled_written, moved, IsFormula, infix_constant, infix_word, binder_word, quantifier_constant, truth_constant}
use Rattle.tps_reader.specs.Grammar.{type_end as no_more_type}
use Rattle.tps_reader.specs.Raws.{RawFormula, raw_variable, raw_constant, raw_binding, raw_negation}
use Rattle.tps_reader.specs.Tokens.{Sign, open_square, close_square, open_round, close_round, dot, tilde, semicolon, number, word, Token, token}
use Rattle.tps_reader.specs.Machine.{Role, a_name, a_truth, a_binder, an_infix, an_opening, a_closing, a_dot, a_tilde, a_parenthesis, another, Frame, open_bracket, open_dot, open_negation, open_binding, open_side, open_application, Target, for_variable, for_binding, for_quantifier, Mode, wanting, having, naming, binding, binding_name, typing, ending, State, begun, after_bound, after_name, bind, constant_end, filled, finish, group_end, have, in_bracket, is_closing, is_parenthesis, letters_step, lone_connective, lone_negation, quantifier_type, parenthesis_end, part_end, role_of, run, settled, step, to_end, type_end, type_step, want, wanted_rank, with_atom, whole}
use Rattle.tps_reader.specs.declared.raws.Binder.{Binder}
use Rattle.tps_reader.specs.declared.raws.Binder.TheVariants as binder
use Rattle.tps_reader.specs.declared.raws.Infix.{Infix}
use Rattle.tps_reader.specs.declared.raws.Infix.TheVariants as joint
use Rattle.tps_reader.proofs.Meanings.{Means, role_means}
use Rattle.tps_reader.proofs.Running.{settled_top, top_rank}

-- the tokens that put a frame on others
abbrev pub Own : Frame → List Frame → List Token → Type 0
Own (open_bracket place) fs own = (s : Spot) × (place ≡ spot_place s) × (own ≡ standing s open_square ∷ [])
Own (open_dot place) fs own = (s : Spot) × (place ≡ spot_place s) × (own ≡ standing s dot ∷ [])
Own (open_negation place) fs own = (s : Spot) × (place ≡ spot_place s) × (own ≡ standing s tilde ∷ []) × (top_rank fs ≤ 5)
Own (open_binding b name ty place) fs own =
    (s : Spot) × (t : Spot) × (written : Written) × (place ≡ spot_place s) × IsName name × HasType written ty
    × (own ≡ standing s (word (binder_word b)) ∷ standing t (word name) ∷ spelled_written written) × (top_rank fs ≤ 5)
Own (open_side op left) fs own =
    (l : Phrase) × (s : Spot) × Says l left × (left_rank op ≤ rank l) × (is_closed l ≡ true) × (own ≡ spelled l ++ (standing s (word (infix_word op)) ∷ [])) × (top_rank fs ≤ infix_rank op)
Own (open_application f) fs own = (q : Phrase) × Says q f × (6 ≤ rank q) × (is_closed q ≡ true) × (own ≡ spelled q) × (top_rank fs ≤ 6)

-- the tokens after which these frames are open
abbrev pub Opened : List Frame → List Token → Type 0
Opened [] ts = ts ≡ []
Opened (f ∷ fs) ts = (front : List Token) × (own : List Token) × Opened fs front × Own f fs own × (ts ≡ front ++ own)

top_bound : (fs : List Frame) → top_rank fs ≤ 7
top_bound [] = omega arith
top_bound (open_bracket place ∷ fs) = omega arith
top_bound (open_dot place ∷ fs) = omega arith
top_bound (open_negation place ∷ fs) = omega arith
top_bound (open_binding b name ty place ∷ fs) = omega arith
top_bound (open_side joint.And left ∷ fs) = omega arith
top_bound (open_side joint.Or left ∷ fs) = omega arith
top_bound (open_side joint.Implies left ∷ fs) = omega arith
top_bound (open_side joint.Equiv left ∷ fs) = omega arith
top_bound (open_application f ∷ fs) = omega arith

-- how tightly a frame binds with its operand
abbrev fill_rank : Frame → ℕ
fill_rank (open_bracket place) = 7
fill_rank (open_dot place) = 7
fill_rank (open_negation place) = 5
fill_rank (open_binding b name ty place) = 5
fill_rank (open_side op left) = infix_rank op
fill_rank (open_application f) = 6

-- a frame with its operand is a phrase
record Filled (f : Frame) (fs : List Frame) (own : List Token) (p : Phrase) (v : RawFormula) : Type 0 where
  pub q : Phrase
  pub says : Says q (filled f v)
  pub tokens : own ++ spelled p ≡ spelled q
  pub fits : top_rank fs ≤ rank q
  pub ranked : rank q ≡ fill_rank f
  pub closed : 1 < wanted_rank f → is_closed p ≡ true → is_closed q ≡ true

fill : (f : Frame) (fs : List Frame) (own : List Token) (p : Phrase) (v : RawFormula) → Own f fs own → Says p v → wanted_rank f ≤ rank p → 0 < wanted_rank f → Filled f fs own p v
fill (open_bracket place) fs own p v o h high some = absurd (omega (arith, some))
fill (open_dot place) fs own p v o h high some = record {
  q = dotted o.0 p;
  says = (v, h, ap (λ k. moved k v) o.1);
  tokens = ap (λ l. l ++ spelled p) o.2;
  fits = top_bound fs;
  ranked = refl;
  closed = λ more. absurd (omega (arith, more));
}
fill (open_negation place) fs own p v o h high some = record {
  q = negated o.0 p;
  says = (v, h, high, ap (raw_negation v) o.1);
  tokens = ap (λ l. l ++ spelled p) o.2;
  fits = o.3;
  ranked = refl;
  closed = λ more c. c;
}
fill (open_binding b name ty place) fs own p v o h high some = record {
  q = bound o.0 b o.1 name o.2 p;
  says = (o.4, ty, o.5, v, h, high, ap (raw_binding b name ty v) o.3);
  tokens = ap (λ l. l ++ spelled p) o.6;
  fits = o.7;
  ranked = refl;
  closed = λ more c. c;
}
fill (open_side op left) fs own p v o h high some = record {
  q = connected op o.0 o.1 p;
  says = (left, v, o.2, h, o.3, o.4, high, refl);
  tokens = ap (λ l. l ++ spelled p) o.5 ∙ append_assoc (spelled o.0) (standing o.1 (word (infix_word op)) ∷ []) (spelled p);
  fits = o.6;
  ranked = refl;
  closed = λ more c. c;
}
fill (open_application f) fs own p v o h high some = record {
  q = applied o.0 p;
  says = (f, v, o.1, h, o.2, o.3, high, refl);
  tokens = ap (λ l. l ++ spelled p) o.4;
  fits = o.5;
  ranked = refl;
  closed = λ more c. c;
}

-- What settles is a phrase of the same tokens.
record Settles (m least : ℕ) (ts : List Token) (closed : Bool) (r : List Frame × RawFormula) : Type 0 where
  pub front : List Token
  pub q : Phrase
  pub opened : Opened r.0 front
  pub says : Says q r.1
  pub tokens : ts ≡ front ++ spelled q
  pub fits : top_rank r.0 ≤ rank q
  pub enough : least ≤ rank q
  pub closes : 1 ≤ m → closed ≡ true → is_closed q ≡ true

settles : (m least : ℕ) → ((f : Frame) → m < wanted_rank f → least ≤ fill_rank f) → (fs : List Frame) (front : List Token) (p : Phrase) (v : RawFormula)
    → Opened fs front → Says p v → top_rank fs ≤ rank p → least ≤ rank p → Settles m least (front ++ spelled p) (is_closed p) (settled m fs v)
settles m least each [] front p v o h fits enough = record { front = front; q = p; opened = o; says = h; tokens = refl; fits = fits; enough = enough; closes = λ some c. c }
settles m least each (f ∷ fs) front p v o h fits enough = go (nat_lt m (wanted_rank f)) refl (λ high filled_ more. settles m least each fs o.0 filled_.q (filled f v) o.2 filled_.says filled_.fits more)
  where
    go : (b : Bool) → nat_lt m (wanted_rank f) ≡ b
        → (m < wanted_rank f → (x : Filled f fs o.1 p v) → least ≤ rank x.q → Settles m least (o.0 ++ spelled x.q) (is_closed x.q) (settled m fs (filled f v)))
        → Settles m least (front ++ spelled p) (is_closed p) (cond b (settled m fs (filled f v)) (f ∷ fs, v))
    go false e next = record { front = front; q = p; opened = o; says = h; tokens = refl; fits = fits; enough = enough; closes = λ some c. c }
    go true e next =
        let high : m < wanted_rank f = ltb-true m (wanted_rank f) e in
        let x = fill f fs o.1 p v o.3 h fits (omega (arith, high)) in
        let rest = next high x (subst (λ (n : ℕ). least ≤ n) (sym x.ranked) (each f high)) in
        record {
          front = rest.front;
          q = rest.q;
          opened = rest.opened;
          says = rest.says;
          tokens = ap (λ l. l ++ spelled p) o.4 ∙ append_assoc o.0 o.1 (spelled p) ∙ ap (λ l. o.0 ++ l) x.tokens ∙ rest.tokens;
          fits = rest.fits;
          enough = rest.enough;
          closes = λ some c. rest.closes some (x.closed (omega (arith, some, high)) c);
        }

left_bound : (op : Infix) → (left_rank op ≤ 5) × (left_rank op ≤ 6) × (right_rank op ≤ 5) × (1 ≤ infix_rank op)
left_bound joint.And = (omega arith, omega arith, omega arith, omega arith)
left_bound joint.Or = (omega arith, omega arith, omega arith, omega arith)
left_bound joint.Implies = (omega arith, omega arith, omega arith, omega arith)
left_bound joint.Equiv = (omega arith, omega arith, omega arith, omega arith)

side_enough : (op : Infix) (f : Frame) → infix_rank op < wanted_rank f → left_rank op ≤ fill_rank f
side_enough op (open_bracket place) h = absurd (omega (arith, h))
side_enough op (open_dot place) h = absurd (go op h)
  where
    go : (op : Infix) → infix_rank op < 1 → ⊥
    go joint.And h = omega (arith, h)
    go joint.Or h = omega (arith, h)
    go joint.Implies h = omega (arith, h)
    go joint.Equiv h = omega (arith, h)
side_enough op (open_negation place) h = (left_bound op).0
side_enough op (open_binding b name ty place) h = (left_bound op).0
side_enough op (open_application f) h = (left_bound op).1
side_enough joint.And (open_side joint.And left) h = omega (arith, h)
side_enough joint.And (open_side joint.Or left) h = omega (arith, h)
side_enough joint.And (open_side joint.Implies left) h = omega (arith, h)
side_enough joint.And (open_side joint.Equiv left) h = omega (arith, h)
side_enough joint.Or (open_side joint.And left) h = omega (arith, h)
side_enough joint.Or (open_side joint.Or left) h = omega (arith, h)
side_enough joint.Or (open_side joint.Implies left) h = omega (arith, h)
side_enough joint.Or (open_side joint.Equiv left) h = omega (arith, h)
side_enough joint.Implies (open_side joint.And left) h = omega (arith, h)
side_enough joint.Implies (open_side joint.Or left) h = omega (arith, h)
side_enough joint.Implies (open_side joint.Implies left) h = omega (arith, h)
side_enough joint.Implies (open_side joint.Equiv left) h = omega (arith, h)
side_enough joint.Equiv (open_side joint.And left) h = omega (arith, h)
side_enough joint.Equiv (open_side joint.Or left) h = omega (arith, h)
side_enough joint.Equiv (open_side joint.Implies left) h = omega (arith, h)
side_enough joint.Equiv (open_side joint.Equiv left) h = omega (arith, h)

atom_enough : (f : Frame) → 6 < wanted_rank f → 6 ≤ fill_rank f
atom_enough (open_bracket place) h = absurd (omega (arith, h))
atom_enough (open_dot place) h = absurd (omega (arith, h))
atom_enough (open_negation place) h = absurd (omega (arith, h))
atom_enough (open_binding b name ty place) h = absurd (omega (arith, h))
atom_enough (open_side joint.And left) h = absurd (omega (arith, h))
atom_enough (open_side joint.Or left) h = absurd (omega (arith, h))
atom_enough (open_side joint.Implies left) h = absurd (omega (arith, h))
atom_enough (open_side joint.Equiv left) h = absurd (omega (arith, h))
atom_enough (open_application f) h = omega arith

-- After some parts of a type, these tokens and the rest of a text make the text of a type.
abbrev pub Makes : Option SimpleType → List Token → Type 0
Makes part ts = (rest : TypeText) (ty : SimpleType) → Types part rest ty → (x : TypeText) × Types None x ty × (spelled_type x ≡ ts ++ spelled_type rest)

makes_none : Makes None []
makes_none rest ty h = (rest, h, refl)

makes_letters : (part : Option SimpleType) (ts : List Token) (w : List ℕ) (s : Spot) → is_letters w ≡ true → Makes part ts → Makes (with_letters part w) (ts ++ (standing s (word w) ∷ []))
makes_letters part ts w s letters h rest ty g =
    let x = h (type_letters s w rest) ty (letters, g) in
    (x.0, x.1, x.2 ∙ sym (append_assoc ts (standing s (word w) ∷ []) (spelled_type rest)))

makes_group : (part : Option SimpleType) (ty : SimpleType) (ts inner : List Token) (s t : Spot) → Makes part ts → Makes (Some ty) inner → Makes (Some (joined part ty)) (ts ++ (standing s open_round ∷ (inner ++ (standing t close_round ∷ []))))
makes_group part ty ts inner s t h g rest whole_type k =
    let y = g no_more_type ty refl in
    let x = h (type_group s y.0 t rest) whole_type (ty, y.1, k) in
    let inside : spelled_type y.0 ≡ inner = y.2 ∙ append-nil inner in
    let close : List Token = standing t close_round ∷ [] in (
      x.0,
      x.1,
      x.2 ∙ ap (λ l. ts ++ (standing s open_round ∷ (l ++ (standing t close_round ∷ spelled_type rest)))) inside
          ∙ ap (λ l. ts ++ (standing s open_round ∷ l)) (sym (append_assoc inner close (spelled_type rest)))
          ∙ sym (append_assoc ts (standing s open_round ∷ (inner ++ close)) (spelled_type rest)),
    )

-- the tokens after which these parts of a type are open
abbrev pub OpenParts : List (Option SimpleType) → List Token → Type 0
OpenParts [] ts = ts ≡ []
OpenParts (part ∷ around) ts = (front : List Token) × (own : List Token) × (s : Spot) × OpenParts around front × Makes part own × (ts ≡ front ++ (own ++ (standing s open_round ∷ [])))

abbrev pub IsQuantifier : Binder → Type 0
IsQuantifier binder.Forall = Unit {0}
IsQuantifier binder.Exists = Unit {0}
IsQuantifier binder.Lambda = ⊥

-- the tokens after which a written type begins
abbrev pub Aims : Target → List Frame → List Token → Type 0
Aims (for_variable name place) fs own = (s : Spot) × IsName name × (place ≡ spot_place s) × (own ≡ standing s (word name) ∷ [])
Aims (for_binding b name place) fs own =
    (s : Spot) × (t : Spot) × IsName name × (place ≡ spot_place s) × (top_rank fs ≤ 5) × (own ≡ standing s (word (binder_word b)) ∷ standing t (word name) ∷ [])
Aims (for_quantifier b place) fs own = (s : Spot) × (t : Spot) × (place ≡ spot_place s) × (own ≡ standing s open_square ∷ standing t (word (binder_word b)) ∷ []) × IsQuantifier b

-- the tokens after which the state is reached
abbrev pub Consumed : List Frame → Mode → List Token → Type 0
Consumed fs wanting ts = Opened fs ts × (top_rank fs ≤ 5)
Consumed fs (having v) ts = (front : List Token) × (p : Phrase) × Opened fs front × Says p v × (6 ≤ rank p) × (is_closed p ≡ true) × (ts ≡ front ++ spelled p) × (top_rank fs ≤ 6)
Consumed fs (naming name here) ts = (front : List Token) × (s : Spot) × Opened fs front × IsName name × (here ≡ spot_place s) × (ts ≡ front ++ (standing s (word name) ∷ []))
Consumed fs (binding b here) ts = (front : List Token) × (s : Spot) × Opened fs front × (top_rank fs ≤ 5) × (here ≡ spot_place s) × (ts ≡ front ++ (standing s (word (binder_word b)) ∷ []))
Consumed fs (binding_name b name here) ts =
    (front : List Token) × (s : Spot) × (t : Spot) × Opened fs front × (top_rank fs ≤ 5) × IsName name × (here ≡ spot_place s) × (ts ≡ front ++ (standing s (word (binder_word b)) ∷ standing t (word name) ∷ []))
Consumed fs (typing target part around) ts =
    (front : List Token) × (own : List Token) × (s : Spot) × (outer : List Token) × (inner : List Token) × Opened fs front × Aims target fs own × OpenParts around outer × Makes part inner
    × (ts ≡ front ++ (own ++ (standing s open_round ∷ (outer ++ inner))))
Consumed fs (ending con here) ts = (front : List Token) × (s : Spot) × (text : ConstantText) × Opened fs front × IsConstant text con × (here ≡ spot_place s) × (ts ≡ front ++ (standing s open_square ∷ spelled_constant text))

abbrev pub Sound : Option State → List Token → Type 0
Sound None ts = Unit {0}
Sound (Some state) ts = Consumed state.0 state.1 ts

-- an atom
with_atom_sound : (fs : List Frame) (front ts : List Token) (p : Phrase) (v : RawFormula) → Opened fs front → Says p v → 7 ≤ rank p → is_closed p ≡ true → ts ≡ front ++ spelled p → Sound (Some (with_atom fs v)) ts
with_atom_sound fs front ts p v o h high c e =
    let six : 6 ≤ rank p = omega (arith, high) in
    let x = settles 6 6 atom_enough fs front p v o h (omega (arith, high, top_bound fs)) six in
    (x.front, x.q, x.opened, x.says, x.enough, x.closes (omega arith) c, e ∙ x.tokens, settled_top fs v 6)

-- one token after others
abbrev with_sign : List Token → ℕ → ℕ → Sign → List Token
with_sign ts place long s = ts ++ (token s place long ∷ [])

lone_connective_sound : (op : Infix) (fs : List Frame) (ts : List Token) (place long : ℕ) → Opened fs ts → Sound (lone_connective op fs) (with_sign ts place long (word (infix_word op)))
lone_connective_sound op [] ts place long o = tt
lone_connective_sound op (open_bracket k ∷ fs) ts place long o = go (infix_constant op) refl
  where
    go : (c : Option Constant) → infix_constant op ≡ c → Sound (to_end c fs k) (with_sign ts place long (word (infix_word op)))
    go None e = tt
    go (Some con) e =
        let own = o.3 in
        let t : List Token = token (word (infix_word op)) place long ∷ [] in
        (o.0, own.0, lone_infix op (spot place long), o.2, e, own.1, ap (λ l. l ++ t) (o.4 ∙ ap (λ l. o.0 ++ l) own.2) ∙ append_assoc o.0 (standing own.0 open_square ∷ []) t)
lone_connective_sound op (open_dot k ∷ fs) ts place long o = tt
lone_connective_sound op (open_negation k ∷ fs) ts place long o = tt
lone_connective_sound op (open_binding b name ty k ∷ fs) ts place long o = tt
lone_connective_sound op (open_side other left ∷ fs) ts place long o = tt
lone_connective_sound op (open_application f ∷ fs) ts place long o = tt

in_bracket_sound : (fs : List Frame) (front ts : List Token) (place long : ℕ) (t : Spot) → Opened fs front → ts ≡ front ++ (standing t tilde ∷ []) → Sound (in_bracket negation fs) (with_sign ts place long close_square)
in_bracket_sound [] front ts place long t o e = tt
in_bracket_sound (open_bracket k ∷ fs) front ts place long t o e =
    let own = o.3 in
    let close : List Token = token close_square place long ∷ [] in
    let p : Phrase = constant_alone own.0 (lone_tilde t) (spot place long) in
    with_atom_sound fs o.0 (with_sign ts place long close_square) p (raw_constant negation k) o.2 (negation, refl, ap (raw_constant negation) own.1) (omega arith) refl
    (ap (λ l. l ++ close) (e ∙ ap (λ l. l ++ (standing t tilde ∷ [])) (o.4 ∙ ap (λ l. o.0 ++ l) own.2)) ∙ append_assoc (o.0 ++ (standing own.0 open_square ∷ [])) (standing t tilde ∷ []) close
    ∙ append_assoc o.0 (standing own.0 open_square ∷ []) (standing t tilde ∷ close))
in_bracket_sound (open_dot k ∷ fs) front ts place long t o e = tt
in_bracket_sound (open_negation k ∷ fs) front ts place long t o e = tt
in_bracket_sound (open_binding b name ty k ∷ fs) front ts place long t o e = tt
in_bracket_sound (open_side other left ∷ fs) front ts place long t o e = tt
in_bracket_sound (open_application f ∷ fs) front ts place long t o e = tt

lone_negation_sound : (fs : List Frame) (ts : List Token) (place long : ℕ) → Opened fs ts → Sound (lone_negation fs) (with_sign ts place long close_square)
lone_negation_sound [] ts place long o = tt
lone_negation_sound (open_bracket k ∷ fs) ts place long o = tt
lone_negation_sound (open_dot k ∷ fs) ts place long o = tt
lone_negation_sound (open_negation k ∷ fs) ts place long o = in_bracket_sound fs o.0 ts place long o.3.0 o.2 (o.4 ∙ ap (λ l. o.0 ++ l) o.3.2)
lone_negation_sound (open_binding b name ty k ∷ fs) ts place long o = tt
lone_negation_sound (open_side other left ∷ fs) ts place long o = tt
lone_negation_sound (open_application f ∷ fs) ts place long o = tt

-- a token with which an atom begins
abbrev BeginsAtom : Role → Type 0
BeginsAtom (a_name name) = Unit {0}
BeginsAtom (a_truth value) = Unit {0}
BeginsAtom (a_binder b) = ⊥
BeginsAtom (an_infix op) = ⊥
BeginsAtom an_opening = Unit {0}
BeginsAtom a_closing = ⊥
BeginsAtom a_dot = Unit {0}
BeginsAtom a_tilde = ⊥
BeginsAtom a_parenthesis = ⊥
BeginsAtom another = ⊥

atom_sound : (fs : List Frame) (ts : List Token) (r : Role) (s : Sign) (place long : ℕ) → Means r s → BeginsAtom r → Opened fs ts → Sound (want fs r place) (with_sign ts place long s)
atom_sound fs ts (a_name name) s place long m a o = (ts, spot place long, o, m.1, refl, ap (with_sign ts place long) m.0)
atom_sound fs ts (a_truth value) s place long m a o =
    with_atom_sound fs ts (with_sign ts place long s) (truth_value (spot place long) value) (raw_constant (truth_constant value) place) o refl (omega arith) refl (ap (with_sign ts place long) m)
atom_sound fs ts (a_binder b) s place long m a o = absurd a
atom_sound fs ts (an_infix op) s place long m a o = absurd a
atom_sound fs ts an_opening s place long m a o = ((ts, token open_square place long ∷ [], o, (spot place long, refl, refl), ap (with_sign ts place long) m), omega arith)
atom_sound fs ts a_closing s place long m a o = absurd a
atom_sound fs ts a_dot s place long m a o = ((ts, token dot place long ∷ [], o, (spot place long, refl, refl), ap (with_sign ts place long) m), omega arith)
atom_sound fs ts a_tilde s place long m a o = absurd a
atom_sound fs ts a_parenthesis s place long m a o = absurd a
atom_sound fs ts another s place long m a o = absurd a

want_sound : (fs : List Frame) (ts : List Token) (r : Role) (s : Sign) (place long : ℕ) → Means r s → Opened fs ts → top_rank fs ≤ 5 → Sound (want fs r place) (with_sign ts place long s)
want_sound fs ts (a_name name) s place long m o low = atom_sound fs ts (a_name name) s place long m tt o
want_sound fs ts (a_truth value) s place long m o low = atom_sound fs ts (a_truth value) s place long m tt o
want_sound fs ts (a_binder b) s place long m o low = (ts, spot place long, o, low, refl, ap (with_sign ts place long) m)
want_sound fs ts (an_infix op) s place long m o low =
    subst (λ (s : Sign). Sound (lone_connective op fs) (with_sign ts place long s)) (sym m) (lone_connective_sound op fs ts place long o)
want_sound fs ts an_opening s place long m o low = atom_sound fs ts an_opening s place long m tt o
want_sound fs ts a_closing s place long m o low = subst (λ (s : Sign). Sound (lone_negation fs) (with_sign ts place long s)) (sym m) (lone_negation_sound fs ts place long o)
want_sound fs ts a_dot s place long m o low = atom_sound fs ts a_dot s place long m tt o
want_sound fs ts a_tilde s place long m o low = ((ts, token tilde place long ∷ [], o, (spot place long, refl, refl, low), ap (with_sign ts place long) m), omega arith)
want_sound fs ts a_parenthesis s place long m o low = tt
want_sound fs ts another s place long m o low = tt

group_end_sound : (fs : List Frame) (front ts : List Token) (q : Phrase) (v : RawFormula) (place long : ℕ) → Opened fs front → Says q v → ts ≡ front ++ spelled q → Sound (group_end fs v) (with_sign ts place long close_square)
group_end_sound [] front ts q v place long o h e = tt
group_end_sound (open_bracket k ∷ fs) front ts q v place long o h e =
    let own = o.3 in
    let close : List Token = token close_square place long ∷ [] in
    with_atom_sound fs o.0 (with_sign ts place long close_square) (bracketed own.0 q (spot place long)) (moved k v) o.2 (v, h, ap (λ k. moved k v) own.1) (omega arith) refl
    (ap (λ l. l ++ close) (e ∙ ap (λ l. l ++ spelled q) (o.4 ∙ ap (λ l. o.0 ++ l) own.2)) ∙ append_assoc (o.0 ++ (standing own.0 open_square ∷ [])) (spelled q) close
    ∙ append_assoc o.0 (standing own.0 open_square ∷ []) (spelled q ++ close))
group_end_sound (open_dot k ∷ fs) front ts q v place long o h e = tt
group_end_sound (open_negation k ∷ fs) front ts q v place long o h e = tt
group_end_sound (open_binding b name ty k ∷ fs) front ts q v place long o h e = tt
group_end_sound (open_side other left ∷ fs) front ts q v place long o h e = tt
group_end_sound (open_application f ∷ fs) front ts q v place long o h e = tt

have_sound : (fs : List Frame) (v : RawFormula) (ts : List Token) (r : Role) (s : Sign) (place long : ℕ) → Means r s → Consumed fs (having v) ts → Sound (have fs v r place) (with_sign ts place long s)
have_sound fs v ts (a_name name) s place long m o = atom_sound (open_application v ∷ fs) ts (a_name name) s place long m tt (o.0, spelled o.1, o.2, (o.1, o.3, o.4, o.5, refl, o.7), o.6)
have_sound fs v ts (a_truth value) s place long m o = atom_sound (open_application v ∷ fs) ts (a_truth value) s place long m tt (o.0, spelled o.1, o.2, (o.1, o.3, o.4, o.5, refl, o.7), o.6)
have_sound fs v ts (a_binder b) s place long m o = tt
have_sound fs v ts (an_infix op) s place long m o =
    let some = (left_bound op).3 in
    let x = settles (infix_rank op) (left_rank op) (side_enough op) fs o.0 o.1 v o.2 o.3 (omega (arith, o.7, o.4)) (omega (arith, o.4, (left_bound op).1)) in
    let t : List Token = token (word (infix_word op)) place long ∷ [] in (
      (
        x.front,
        spelled x.q ++ t,
        x.opened,
        (x.q, spot place long, x.says, x.enough, x.closes some o.5, refl, settled_top fs v (infix_rank op)),
        ap (with_sign ts place long) m ∙ ap (λ l. l ++ t) (o.6 ∙ x.tokens) ∙ append_assoc x.front (spelled x.q) t,
      ),
      (left_bound op).2,
    )
have_sound fs v ts an_opening s place long m o = atom_sound (open_application v ∷ fs) ts an_opening s place long m tt (o.0, spelled o.1, o.2, (o.1, o.3, o.4, o.5, refl, o.7), o.6)
have_sound fs v ts a_closing s place long m o =
    let x = settles 0 0 (λ f h. omega arith) fs o.0 o.1 v o.2 o.3 (omega (arith, o.7, o.4)) (omega arith) in
    subst (λ (s : Sign). Sound (group_end (settled 0 fs v).0 (settled 0 fs v).1) (with_sign ts place long s)) (sym m)
    (group_end_sound (settled 0 fs v).0 x.front ts x.q (settled 0 fs v).1 place long x.opened x.says (o.6 ∙ x.tokens))
have_sound fs v ts a_dot s place long m o = atom_sound (open_application v ∷ fs) ts a_dot s place long m tt (o.0, spelled o.1, o.2, (o.1, o.3, o.4, o.5, refl, o.7), o.6)
have_sound fs v ts a_tilde s place long m o = tt
have_sound fs v ts a_parenthesis s place long m o = tt
have_sound fs v ts another s place long m o = tt

parenthesis_means : (r : Role) (s : Sign) → is_parenthesis r ≡ true → Means r s → s ≡ open_round
parenthesis_means (a_name name) s h m = cc
parenthesis_means (a_truth value) s h m = cc
parenthesis_means (a_binder b) s h m = cc
parenthesis_means (an_infix op) s h m = cc
parenthesis_means an_opening s h m = cc
parenthesis_means a_closing s h m = cc
parenthesis_means a_dot s h m = cc
parenthesis_means a_tilde s h m = cc
parenthesis_means a_parenthesis s h m = m
parenthesis_means another s h m = cc

closing_means : (r : Role) (s : Sign) → is_closing r ≡ true → Means r s → s ≡ close_square
closing_means (a_name name) s h m = cc
closing_means (a_truth value) s h m = cc
closing_means (a_binder b) s h m = cc
closing_means (an_infix op) s h m = cc
closing_means an_opening s h m = cc
closing_means a_closing s h m = m
closing_means a_dot s h m = cc
closing_means a_tilde s h m = cc
closing_means a_parenthesis s h m = cc
closing_means another s h m = cc

-- a written type begins
type_begins : (fs : List Frame) (target : Target) (front own ts : List Token) (place long : ℕ) → Opened fs front → Aims target fs own → ts ≡ front ++ own → Consumed fs (typing target None []) (with_sign ts place long open_round)
type_begins fs target front own ts place long o a e =
    (front, own, spot place long, [], [], o, a, refl, makes_none, ap (λ l. l ++ (token open_round place long ∷ [])) e ∙ append_assoc front own (token open_round place long ∷ []))

after_name_sound : (fs : List Frame) (name : List ℕ) (here : ℕ) (ts : List Token) (r : Role) (s : Sign) (place long : ℕ) → Means r s → Consumed fs (naming name here) ts → Sound (after_name fs name here r place) (with_sign ts place long s)
after_name_sound fs name here ts r s place long m o = go (is_parenthesis r) refl
  where
    v : RawFormula
    v = raw_variable name None here

    go : (b : Bool) → is_parenthesis r ≡ b → Sound (cond b (Some (fs, typing (for_variable name here) None [])) (have (settled 6 fs v).0 (settled 6 fs v).1 r place)) (with_sign ts place long s)
    go true e =
        subst (λ (s : Sign). Sound (Some (fs, typing (for_variable name here) None [])) (with_sign ts place long s)) (sym (parenthesis_means r s e m))
        (type_begins fs (for_variable name here) o.0 (standing o.1 (word name) ∷ []) ts place long o.2 (o.1, o.3, o.4, refl) o.5)
    go false e = have_sound (settled 6 fs v).0 (settled 6 fs v).1 ts r s place long m (with_atom_sound fs o.0 ts (named o.1 name untyped) v o.2 (o.3, None, refl, ap (raw_variable name None) o.4) (omega arith) refl o.5)

after_bound_sound : (fs : List Frame) (b : Binder) (name : List ℕ) (here : ℕ) (ts : List Token) (r : Role) (s : Sign) (place long : ℕ) → Means r s → Consumed fs (binding_name b name here) ts
    → Sound (after_bound fs b name here r place) (with_sign ts place long s)
after_bound_sound fs b name here ts r s place long m o = go (is_parenthesis r) refl
  where
    own : List Token
    own = standing o.1 (word (binder_word b)) ∷ standing o.2 (word name) ∷ []

    go : (t : Bool) → is_parenthesis r ≡ t → Sound (cond t (Some (fs, typing (for_binding b name here) None [])) (want (open_binding b name None here ∷ fs) r place)) (with_sign ts place long s)
    go true e =
        subst (λ (s : Sign). Sound (Some (fs, typing (for_binding b name here) None [])) (with_sign ts place long s)) (sym (parenthesis_means r s e m))
        (type_begins fs (for_binding b name here) o.0 own ts place long o.3 (o.1, o.2, o.5, o.6, o.4, refl) o.7)
    go false e = want_sound (open_binding b name None here ∷ fs) ts r s place long m (o.0, own, o.3, (o.1, o.2, untyped, o.6, o.5, refl, refl, o.4), o.7) (omega arith)

constant_end_sound : (fs : List Frame) (con : Constant) (here : ℕ) (ts : List Token) (r : Role) (s : Sign) (place long : ℕ) → Means r s → Consumed fs (ending con here) ts → Sound (constant_end fs con here r) (with_sign ts place long s)
constant_end_sound fs con here ts r s place long m o = go (is_closing r) refl
  where
    close : List Token
    close = token close_square place long ∷ []

    go : (b : Bool) → is_closing r ≡ b → Sound (cond b (Some (with_atom fs (raw_constant con here))) None) (with_sign ts place long s)
    go false e = tt
    go true e =
        with_atom_sound fs o.0 (with_sign ts place long s) (constant_alone o.1 o.2 (spot place long)) (raw_constant con here) o.3 (con, o.4, ap (raw_constant con) o.5) (omega arith) refl
        (ap (with_sign ts place long) (closing_means r s e m) ∙ ap (λ l. l ++ close) o.6 ∙ append_assoc o.0 (standing o.1 open_square ∷ spelled_constant o.2) close)

to_end_sound : (found : Option Constant) (fs : List Frame) (here : ℕ) (ts : List Token) → ((con : Constant) → found ≡ Some con → Consumed fs (ending con here) ts) → Sound (to_end found fs here) ts
to_end_sound None fs here ts h = tt
to_end_sound (Some con) fs here ts h = h con refl

-- the tokens of a written type, its parentheses with them
type_tokens : (front own outer inner ts : List Token) (s : Spot) (t : Token) → ts ≡ front ++ (own ++ (standing s open_round ∷ (outer ++ inner))) → outer ≡ [] → ts ++ (t ∷ []) ≡ front ++ (own ++ (standing s open_round ∷ (inner ++ (t ∷ []))))
type_tokens front own outer inner ts s t e none =
    ap (λ l. l ++ (t ∷ [])) (e ∙ ap (λ o. front ++ (own ++ (standing s open_round ∷ (o ++ inner)))) none)
    ∙ append_assoc front (own ++ (standing s open_round ∷ inner)) (t ∷ []) ∙ ap (λ l. front ++ l) (append_assoc own (standing s open_round ∷ inner) (t ∷ []))

-- a written type ends
type_end_sound : (fs : List Frame) (target : Target) (ty : SimpleType) (front own inner ts : List Token) (s : Spot) (place long : ℕ) → Opened fs front → Aims target fs own → Makes (Some ty) inner
    → ts ≡ front ++ (own ++ (standing s open_round ∷ (inner ++ (token close_round place long ∷ [])))) → Sound (type_end fs target ty) ts
type_end_sound fs (for_variable name here) ty front own inner ts s place long o a m e =
    let x = m no_more_type ty refl in
    let inside : inner ≡ spelled_type x.0 = sym (append-nil inner) ∙ sym x.2 in
    let close : List Token = token close_round place long ∷ [] in
    with_atom_sound fs front ts (named a.0 name (typed s x.0 (spot place long))) (raw_variable name (Some ty) here) o (a.1, Some ty, (ty, x.1, refl), ap (raw_variable name (Some ty)) a.2) (omega arith) refl
    (e ∙ ap (λ l. front ++ (own ++ (standing s open_round ∷ (l ++ close)))) inside ∙ ap (λ l. front ++ (l ++ (standing s open_round ∷ (spelled_type x.0 ++ close)))) a.3)
type_end_sound fs (for_binding b name here) ty front own inner ts s place long o a m e =
    let x = m no_more_type ty refl in
    let inside : inner ≡ spelled_type x.0 = sym (append-nil inner) ∙ sym x.2 in
    let close : List Token = token close_round place long ∷ [] in (
      (
        front,
        standing a.0 (word (binder_word b)) ∷ standing a.1 (word name) ∷ standing s open_round ∷ (spelled_type x.0 ++ close),
        o,
        (a.0, a.1, typed s x.0 (spot place long), a.3, a.2, (ty, x.1, refl), refl, a.4),
        e ∙ ap (λ l. front ++ (own ++ (standing s open_round ∷ (l ++ close)))) inside ∙ ap (λ l. front ++ (l ++ (standing s open_round ∷ (spelled_type x.0 ++ close)))) a.5,
      ),
      omega arith,
    )
type_end_sound fs (for_quantifier b here) ty front own inner ts s place long o a m e =
    let x = m no_more_type ty refl in
    let inside : inner ≡ spelled_type x.0 = sym (append-nil inner) ∙ sym x.2 in
    let close : List Token = token close_round place long ∷ [] in
    to_end_sound (quantifier_constant b ty) fs here ts
    (λ con found. (
      front,
      a.0,
      lone_quantifier b a.1 s x.0 (spot place long),
      o,
      (ty, x.1, found),
      a.2,
      e ∙ ap (λ l. front ++ (own ++ (standing s open_round ∷ (l ++ close)))) inside ∙ ap (λ l. front ++ (l ++ (standing s open_round ∷ (spelled_type x.0 ++ close)))) a.3,
    ))

part_end_sound : (fs : List Frame) (target : Target) (ty : SimpleType) (around : List (Option SimpleType)) (ts : List Token) (place long : ℕ) → Consumed fs (typing target (Some ty) around) ts
    → Sound (part_end fs target ty around) (with_sign ts place long close_round)
part_end_sound fs target ty [] ts place long o =
    type_end_sound fs target ty o.0 o.1 o.4 (with_sign ts place long close_round) o.2 place long o.5 o.6 o.8 (type_tokens o.0 o.1 o.3 o.4 ts o.2 (token close_round place long) o.9 o.7)
part_end_sound fs target ty (part ∷ around) ts place long o =
    let t : List Token = token close_round place long ∷ [] in
    let open' : Token = standing o.2 open_round in
    let p = o.7 in
    let inner : List Token = p.1 ++ (standing p.2 open_round ∷ (o.4 ++ t)) in
    let regroup : (p.0 ++ (p.1 ++ (standing p.2 open_round ∷ []))) ++ o.4 ≡ p.0 ++ (p.1 ++ (standing p.2 open_round ∷ o.4)) = append_assoc p.0 (p.1 ++ (standing p.2 open_round ∷ [])) o.4 ∙ ap (λ l. p.0 ++ l) (append_assoc p.1 (standing p.2 open_round ∷ []) o.4) in
    let whole_front : ts ≡ o.0 ++ (o.1 ++ (open' ∷ (p.0 ++ (p.1 ++ (standing p.2 open_round ∷ o.4))))) = o.9 ∙ ap (λ l. o.0 ++ (o.1 ++ (open' ∷ (l ++ o.4)))) p.5 ∙ ap (λ l. o.0 ++ (o.1 ++ (open' ∷ l))) regroup in (
      o.0,
      o.1,
      o.2,
      p.0,
      inner,
      o.5,
      o.6,
      p.3,
      makes_group part ty p.1 o.4 p.2 (spot place long) p.4 o.8,
      ap (λ l. l ++ t) whole_front
          ∙ append_assoc o.0 (o.1 ++ (open' ∷ (p.0 ++ (p.1 ++ (standing p.2 open_round ∷ o.4))))) t
          ∙ ap (λ l. o.0 ++ l) (append_assoc o.1 (open' ∷ (p.0 ++ (p.1 ++ (standing p.2 open_round ∷ o.4)))) t)
          ∙ ap (λ l. o.0 ++ (o.1 ++ (open' ∷ l))) (append_assoc p.0 (p.1 ++ (standing p.2 open_round ∷ o.4)) t ∙ ap (λ l. p.0 ++ l) (append_assoc p.1 (standing p.2 open_round ∷ o.4) t)),
    )

-- one token more in a type that is open
behind_type : (front own outer inner ts : List Token) (s : Spot) (t : Token) → ts ≡ front ++ (own ++ (standing s open_round ∷ (outer ++ inner))) → ts ++ (t ∷ []) ≡ front ++ (own ++ (standing s open_round ∷ (outer ++ (inner ++ (t ∷ [])))))
behind_type front own outer inner ts s t e =
    ap (λ l. l ++ (t ∷ [])) e
    ∙ append_assoc front (own ++ (standing s open_round ∷ (outer ++ inner))) (t ∷ [])
    ∙ ap (λ l. front ++ l) (append_assoc own (standing s open_round ∷ (outer ++ inner)) (t ∷ []))
    ∙ ap (λ l. front ++ (own ++ (standing s open_round ∷ l))) (append_assoc outer inner (t ∷ []))

letters_sound : (fs : List Frame) (target : Target) (part : Option SimpleType) (around : List (Option SimpleType)) (w : List ℕ) (ts : List Token) (place long : ℕ) → Consumed fs (typing target part around) ts
    → Sound (letters_step fs target part around w) (with_sign ts place long (word w))
letters_sound fs target part around w ts place long o = go (is_letters w) refl
  where
    go : (b : Bool) → is_letters w ≡ b → Sound (cond b (Some (fs, typing target (with_letters part w) around)) None) (with_sign ts place long (word w))
    go false e = tt
    go true e =
        let t : Token = token (word w) place long in
        (o.0, o.1, o.2, o.3, o.4 ++ (t ∷ []), o.5, o.6, o.7, makes_letters part o.4 w (spot place long) e o.8, behind_type o.0 o.1 o.3 o.4 ts o.2 t o.9)

parenthesis_sound : (fs : List Frame) (target : Target) (part : Option SimpleType) (around : List (Option SimpleType)) (ts : List Token) (place long : ℕ) → Consumed fs (typing target part around) ts
    → Sound (parenthesis_end fs target part around) (with_sign ts place long close_round)
parenthesis_sound fs target None around ts place long o = tt
parenthesis_sound fs target (Some ty) around ts place long o = part_end_sound fs target ty around ts place long o

type_step_sound : (fs : List Frame) (target : Target) (part : Option SimpleType) (around : List (Option SimpleType)) (s : Sign) (ts : List Token) (place long : ℕ) → Consumed fs (typing target part around) ts
    → Sound (type_step fs target part around s) (with_sign ts place long s)
type_step_sound fs target part around open_square ts place long o = tt
type_step_sound fs target part around close_square ts place long o = tt
type_step_sound fs target part around open_round ts place long o =
    let t : Token = token open_round place long in (
      o.0,
      o.1,
      o.2,
      o.3 ++ (o.4 ++ (t ∷ [])),
      [],
      o.5,
      o.6,
      (o.3, o.4, spot place long, o.7, o.8, refl),
      makes_none,
      behind_type o.0 o.1 o.3 o.4 ts o.2 t o.9 ∙ ap (λ l. o.0 ++ (o.1 ++ (standing o.2 open_round ∷ l))) (sym (append-nil (o.3 ++ (o.4 ++ (t ∷ []))))),
    )
type_step_sound fs target part around close_round ts place long o = parenthesis_sound fs target part around ts place long o
type_step_sound fs target part around dot ts place long o = tt
type_step_sound fs target part around tilde ts place long o = tt
type_step_sound fs target part around semicolon ts place long o = tt
type_step_sound fs target part around (number n) ts place long o = tt
type_step_sound fs target part around (word w) ts place long o = letters_sound fs target part around w ts place long o

quantifier_sound : (b : Binder) (fs : List Frame) (here : ℕ) (ts : List Token) (place long : ℕ) → Consumed fs (binding b here) ts → Sound (quantifier_type b fs) (with_sign ts place long open_round)
quantifier_sound b [] here ts place long o = tt
quantifier_sound b (open_bracket k ∷ fs) here ts place long o = go b refl
  where
    bracket : Opened (open_bracket k ∷ fs) o.0
    bracket = o.2

    begins : (c : Binder) → c ≡ b → IsQuantifier c → Consumed fs (typing (for_quantifier c k) None []) (with_sign ts place long open_round)
    begins c same q =
        let w : List Token = standing o.1 (word (binder_word b)) ∷ [] in
        let bracket_own = bracket.3 in
        let own : List Token = standing bracket_own.0 open_square ∷ standing o.1 (word (binder_word c)) ∷ [] in
        let e : ts ≡ bracket.0 ++ own =
        o.5 ∙ ap (λ l. l ++ w) (bracket.4 ∙ ap (λ l. bracket.0 ++ l) bracket_own.2) ∙ append_assoc bracket.0 (standing bracket_own.0 open_square ∷ []) w
        ∙ ap (λ (c : Binder). bracket.0 ++ (standing bracket_own.0 open_square ∷ standing o.1 (word (binder_word c)) ∷ [])) (sym same) in
        type_begins fs (for_quantifier c k) bracket.0 own ts place long bracket.2 (bracket_own.0, o.1, bracket_own.1, refl, q) e

    go : (c : Binder) → c ≡ b → Sound (quantifier_type c (open_bracket k ∷ fs)) (with_sign ts place long open_round)
    go binder.Forall e = begins binder.Forall e tt
    go binder.Exists e = begins binder.Exists e tt
    go binder.Lambda e = tt
quantifier_sound b (open_dot k ∷ fs) here ts place long o = tt
quantifier_sound b (open_negation k ∷ fs) here ts place long o = tt
quantifier_sound b (open_binding c name ty k ∷ fs) here ts place long o = tt
quantifier_sound b (open_side other left ∷ fs) here ts place long o = tt
quantifier_sound b (open_application f ∷ fs) here ts place long o = tt

bind_sound : (fs : List Frame) (b : Binder) (here : ℕ) (ts : List Token) (r : Role) (s : Sign) (place long : ℕ) → Means r s → Consumed fs (binding b here) ts → Sound (bind fs b here r) (with_sign ts place long s)
bind_sound fs b here ts (a_name name) s place long m o =
    let t : List Token = token (word name) place long ∷ [] in
    (o.0, o.1, spot place long, o.2, o.3, m.1, o.4, ap (with_sign ts place long) m.0 ∙ ap (λ l. l ++ t) o.5 ∙ append_assoc o.0 (standing o.1 (word (binder_word b)) ∷ []) t)
bind_sound fs b here ts (a_truth value) s place long m o = tt
bind_sound fs b here ts (a_binder c) s place long m o = tt
bind_sound fs b here ts (an_infix op) s place long m o = tt
bind_sound fs b here ts an_opening s place long m o = tt
bind_sound fs b here ts a_closing s place long m o = tt
bind_sound fs b here ts a_dot s place long m o = tt
bind_sound fs b here ts a_tilde s place long m o = tt
bind_sound fs b here ts a_parenthesis s place long m o = subst (λ (s : Sign). Sound (quantifier_type b fs) (with_sign ts place long s)) (sym m) (quantifier_sound b fs here ts place long o)
bind_sound fs b here ts another s place long m o = tt

-- one token more
step_sound : (fs : List Frame) (mode : Mode) (s : Sign) (place long : ℕ) (ts : List Token) → Consumed fs mode ts → Sound (step (fs, mode) (token s place long)) (with_sign ts place long s)
step_sound fs wanting s place long ts o = want_sound fs ts (role_of s) s place long (role_means s) o.0 o.1
step_sound fs (having v) s place long ts o = have_sound fs v ts (role_of s) s place long (role_means s) o
step_sound fs (naming name here) s place long ts o = after_name_sound fs name here ts (role_of s) s place long (role_means s) o
step_sound fs (binding b here) s place long ts o = bind_sound fs b here ts (role_of s) s place long (role_means s) o
step_sound fs (binding_name b name here) s place long ts o = after_bound_sound fs b name here ts (role_of s) s place long (role_means s) o
step_sound fs (typing target part around) s place long ts o = type_step_sound fs target part around s ts place long o
step_sound fs (ending con here) s place long ts o = constant_end_sound fs con here ts (role_of s) s place long (role_means s) o

run_sound : (ts done : List Token) (found : Option State) → Sound found done → Sound (run ts found) (done ++ ts)
run_sound [] done found h = subst (Sound found) (sym (append-nil done)) h
run_sound (t ∷ ts) done None h = tt
run_sound (token s place long ∷ ts) done (Some (fs, mode)) h =
    subst (Sound (run ts (step (fs, mode) (token s place long)))) (append_assoc done (token s place long ∷ []) ts) (run_sound ts (done ++ (token s place long ∷ [])) (step (fs, mode) (token s place long)) (step_sound fs mode s place long done h))

-- the state after the tokens is reached by them
pub run_consumed : (ts : List Token) → Sound (run ts (Some begun)) ts
run_consumed ts = run_sound ts [] (Some begun) (refl, omega arith)

whole_sound : (fs : List Frame) (front ts : List Token) (q : Phrase) (w v : RawFormula) → Opened fs front → Says q w → ts ≡ front ++ spelled q → whole (fs, w) ≡ Some v → IsFormula ts v
whole_sound [] front ts q w v o h e found =
    let same : w ≡ v = cc in
    (q, sym (e ∙ ap (λ l. l ++ spelled q) o), subst (Says q) same h)
whole_sound (f ∷ fs) front ts q w v o h e found = cc

having_sound : (fs : List Frame) (w v : RawFormula) (ts : List Token) (front : List Token) (p : Phrase) → Opened fs front → Says p w → top_rank fs ≤ rank p → ts ≡ front ++ spelled p → whole (settled 0 fs w) ≡ Some v → IsFormula ts v
having_sound fs w v ts front p o h fits e found =
    let x = settles 0 0 (λ f h. omega arith) fs front p w o h fits (omega arith) in
    whole_sound (settled 0 fs w).0 x.front ts x.q (settled 0 fs w).1 v x.opened x.says (e ∙ x.tokens) found

pub finish_sound : (fs : List Frame) (mode : Mode) (ts : List Token) (v : RawFormula) → Consumed fs mode ts → finish (fs, mode) ≡ Some v → IsFormula ts v
finish_sound fs wanting ts v o h = cc
finish_sound fs (having w) ts v o h = having_sound fs w v ts o.0 o.1 o.2 o.3 (omega (arith, o.7, o.4)) o.6 h
finish_sound fs (naming name here) ts v o h = having_sound fs (raw_variable name None here) v ts o.0 (named o.1 name untyped) o.2 (o.3, None, refl, ap (raw_variable name None) o.4) (top_bound fs) o.5 h
finish_sound fs (binding b here) ts v o h = cc
finish_sound fs (binding_name b name here) ts v o h = cc
finish_sound fs (typing target part around) ts v o h = cc
finish_sound fs (ending con here) ts v o h = cc
