-- Each phrase is read.
use Rattle.std.proofs.Common.{◌≡◌, ℕ, ◌<◌, ◌≤◌, Bool, true, false, cond, List, [], ◌∷◌, ◌++◌, Option, Some, None, refl, sym, ◌∙◌, ap, arith, append_assoc}
use Rattle.hol_terms.specs.Terms.{SimpleType, Constant}
use Rattle.tps_reader.specs.Grammar.{Phrase, named, truth_value, constant_alone, bracketed, dotted, applied, negated, bound, connected, spot, standing, TypeText, type_end, type_letters, type_group, Types, Written, untyped, typed, HasType, ConstantText, lone_tilde, lone_infix, lone_quantifier, IsConstant, Says, joined, with_letters, is_closed, rank, infix_rank, left_rank, right_rank, spelled, spelled_constant, spelled_type, spelled_written, moved, IsFormula, infix_word, binder_word, quantifier_constant, truth_constant}
use Rattle.tps_reader.specs.Raws.{RawFormula, raw_variable, raw_constant}
use Rattle.tps_reader.specs.Tokens.{Sign, open_square, close_square, open_round, close_round, dot, tilde, word, Token, token}
use Rattle.tps_reader.specs.Machine.{a_parenthesis, Frame, open_bracket, open_dot, open_negation, open_binding, open_side, open_application, Target, for_variable, for_binding, for_quantifier, Mode, wanting, having, naming, binding, binding_name, typing, ending, State, filled, finish, finish_in, group_end, have, is_parenthesis, letters_step, bind, lone_connective, parsed, role_of, run, settled, step, to_end, want, wanted_rank, with_atom, with_side, whole}
use Rattle.tps_reader.specs.declared.raws.Binder.{Binder}
use Rattle.tps_reader.specs.declared.raws.Binder.TheVariants as binder
use Rattle.tps_reader.specs.declared.raws.Infix.{Infix}
use Rattle.tps_reader.specs.declared.raws.Infix.TheVariants as joint
use Rattle.tps_reader.proofs.Meanings.{binder_role, infix_role, name_role, truth_role}
use Rattle.tps_reader.proofs.Running.{run_append, settled_none, settled_one, settled_top, settled_twice, top_rank}

-- the text of a type is read
pub types_read : (x : TypeText) (part : Option SimpleType) (ty : SimpleType) (fs : List Frame) (target : Target) (around : List (Option SimpleType)) → Types part x ty
    → run (spelled_type x) (Some (fs, typing target part around)) ≡ Some (fs, typing target (Some ty) around)
types_read type_end part ty fs target around h = let P : Option SimpleType → Option State = λ o. Some (fs, typing target o around) in ap P h
types_read (type_letters (spot p l) w rest) part ty fs target around h =
    let here : letters_step fs target part around w ≡ Some (fs, typing target (with_letters part w) around) = rw h.0 refl in
    ap (run (spelled_type rest)) here ∙ types_read rest (with_letters part w) ty fs target around h.1
types_read (type_group (spot p l) inner (spot q m) rest) part ty fs target around h =
    run_append (spelled_type inner) (token close_round q m ∷ spelled_type rest) (Some (fs, typing target None (part ∷ around)))
    ∙ ap (run (token close_round q m ∷ spelled_type rest)) (types_read inner None h.0 fs target (part ∷ around) h.1)
    ∙ types_read rest (Some (joined part h.0)) ty fs target around h.2

-- up to which rank a connective after the phrase takes all of it
abbrev side_limit : Infix → ℕ
side_limit joint.Equiv = 1
side_limit joint.Implies = 1
side_limit joint.Or = 3
side_limit joint.And = 4

abbrev tight : Phrase → ℕ
tight (named s name ty) = 6
tight (truth_value s value) = 6
tight (constant_alone s con t) = 6
tight (bracketed s p t) = 6
tight (dotted s p) = 0
tight (applied f a) = 6
tight (negated s p) = 4
tight (bound s b t name ty p) = 4
tight (connected op l s r) = side_limit op

abbrev limit : Phrase → ℕ
limit p = cond (is_closed p) (tight p) 0

sides : (op other : Infix) → left_rank op ≤ infix_rank other → infix_rank op ≤ side_limit other
sides joint.Equiv joint.Equiv h = omega arith
sides joint.Equiv joint.Implies h = omega arith
sides joint.Equiv joint.Or h = omega arith
sides joint.Equiv joint.And h = omega arith
sides joint.Implies joint.Equiv h = omega (arith, h)
sides joint.Implies joint.Implies h = omega (arith, h)
sides joint.Implies joint.Or h = omega arith
sides joint.Implies joint.And h = omega arith
sides joint.Or joint.Equiv h = omega (arith, h)
sides joint.Or joint.Implies h = omega (arith, h)
sides joint.Or joint.Or h = omega arith
sides joint.Or joint.And h = omega arith
sides joint.And joint.Equiv h = omega (arith, h)
sides joint.And joint.Implies h = omega (arith, h)
sides joint.And joint.Or h = omega (arith, h)
sides joint.And joint.And h = omega arith

ends : (op other : Infix) → right_rank op ≤ infix_rank other → side_limit op ≤ side_limit other
ends joint.Equiv joint.Equiv h = omega arith
ends joint.Equiv joint.Implies h = omega arith
ends joint.Equiv joint.Or h = omega arith
ends joint.Equiv joint.And h = omega arith
ends joint.Implies joint.Equiv h = omega arith
ends joint.Implies joint.Implies h = omega arith
ends joint.Implies joint.Or h = omega arith
ends joint.Implies joint.And h = omega arith
ends joint.Or joint.Equiv h = omega (arith, h)
ends joint.Or joint.Implies h = omega (arith, h)
ends joint.Or joint.Or h = omega (arith, h)
ends joint.Or joint.And h = omega arith
ends joint.And joint.Equiv h = omega (arith, h)
ends joint.And joint.Implies h = omega (arith, h)
ends joint.And joint.Or h = omega (arith, h)
ends joint.And joint.And h = omega (arith, h)

rank_bound : (op : Infix) → (infix_rank op ≤ 4) × (side_limit op ≤ 4) × (1 ≤ infix_rank op) × (side_limit op < right_rank op) × (infix_rank op ≤ left_rank op)
rank_bound joint.Equiv = (omega arith, omega arith, omega arith, omega arith, omega arith)
rank_bound joint.Implies = (omega arith, omega arith, omega arith, omega arith, omega arith)
rank_bound joint.Or = (omega arith, omega arith, omega arith, omega arith, omega arith)
rank_bound joint.And = (omega arith, omega arith, omega arith, omega arith, omega arith)

left_tight : (op : Infix) (l : Phrase) → left_rank op ≤ rank l → is_closed l ≡ true → infix_rank op ≤ tight l
left_tight op (named s name ty) h c = omega (arith, (rank_bound op).0)
left_tight op (truth_value s value) h c = omega (arith, (rank_bound op).0)
left_tight op (constant_alone s con t) h c = omega (arith, (rank_bound op).0)
left_tight op (bracketed s p t) h c = omega (arith, (rank_bound op).0)
left_tight op (dotted s p) h c = cc
left_tight op (applied f a) h c = omega (arith, (rank_bound op).0)
left_tight op (negated s p) h c = omega (arith, (rank_bound op).0)
left_tight op (bound s b t name ty p) h c = omega (arith, (rank_bound op).0)
left_tight op (connected other l s r) h c = sides op other h

right_tight : (op : Infix) (r : Phrase) → right_rank op ≤ rank r → is_closed r ≡ true → side_limit op ≤ tight r
right_tight op (named s name ty) h c = omega (arith, (rank_bound op).1)
right_tight op (truth_value s value) h c = omega (arith, (rank_bound op).1)
right_tight op (constant_alone s con t) h c = omega (arith, (rank_bound op).1)
right_tight op (bracketed s p t) h c = omega (arith, (rank_bound op).1)
right_tight op (dotted s p) h c = cc
right_tight op (applied f a) h c = omega (arith, (rank_bound op).1)
right_tight op (negated s p) h c = omega (arith, (rank_bound op).1)
right_tight op (bound s b t name ty p) h c = omega (arith, (rank_bound op).1)
right_tight op (connected other l s r) h c = ends op other h

operand_tight : (p : Phrase) → 5 ≤ rank p → is_closed p ≡ true → 4 ≤ tight p
operand_tight (named s name ty) h c = omega arith
operand_tight (truth_value s value) h c = omega arith
operand_tight (constant_alone s con t) h c = omega arith
operand_tight (bracketed s p t) h c = omega arith
operand_tight (dotted s p) h c = cc
operand_tight (applied f a) h c = omega arith
operand_tight (negated s p) h c = omega arith
operand_tight (bound s b t name ty p) h c = omega arith
operand_tight (connected op l s r) h c = omega (arith, h, (rank_bound op).0)

function_tight : (p : Phrase) → 6 ≤ rank p → is_closed p ≡ true → 6 ≤ tight p
function_tight (named s name ty) h c = omega arith
function_tight (truth_value s value) h c = omega arith
function_tight (constant_alone s con t) h c = omega arith
function_tight (bracketed s p t) h c = omega arith
function_tight (dotted s p) h c = cc
function_tight (applied f a) h c = omega arith
function_tight (negated s p) h c = omega (arith, h)
function_tight (bound s b t name ty p) h c = omega (arith, h)
function_tight (connected op l s r) h c = omega (arith, h, (rank_bound op).0)

closed_limit : (p : Phrase) (n : ℕ) → is_closed p ≡ true → n ≤ tight p → n ≤ limit p
closed_limit p n c h = rw c h

same_limit : (b : Bool) (x y : ℕ) → (b ≡ true → x ≤ y) → cond b x 0 ≤ cond b y 0
same_limit true x y h = h refl
same_limit false x y h = omega arith

-- The state after a phrase: what was read last is an operand, and all frames above the first ones settle to the whole.
abbrev Holds : List Frame → Mode → RawFormula → Type 0
Holds gs wanting v = ⊥
Holds gs (having w) v = (w ≡ v) × (top_rank gs ≤ 6)
Holds gs (naming name here) v = v ≡ raw_variable name None here
Holds gs (binding b here) v = ⊥
Holds gs (binding_name b name here) v = ⊥
Holds gs (typing target part around) v = ⊥
Holds gs (ending con here) v = ⊥

pub record Reads (fs : List Frame) (found : Option State) (most : ℕ) (value : RawFormula) : Type 0 where
  pub gs : List Frame
  pub mode : Mode
  pub v : RawFormula
  pub reached : found ≡ Some (gs, mode)
  pub holds : Holds gs mode v
  pub settles : (m : ℕ) → m ≤ most → settled m gs v ≡ settled m fs value

-- an atom is read
atom_reads : (fs : List Frame) (v value : RawFormula) (found : Option State) → value ≡ v → found ≡ Some (with_atom fs v) → Reads fs found 6 value
atom_reads fs v value found e h = record {
  gs = (settled 6 fs v).0;
  mode = having (settled 6 fs v).1;
  v = (settled 6 fs v).1;
  reached = h;
  holds = (refl, settled_top fs v 6);
  settles = λ m low. settled_twice fs v m 6 low ∙ ap (settled m fs) (sym e);
}

-- a token after a phrase
behind : (gs : List Frame) (mode : Mode) (v : RawFormula) (s : Sign) (place long : ℕ) → Holds gs mode v → is_parenthesis (role_of s) ≡ false
    → step (gs, mode) (token s place long) ≡ have (settled 6 gs v).0 (settled 6 gs v).1 (role_of s) place
behind gs wanting v s place long h n = absurd h
behind gs (having w) v s place long h n =
    let same : settled 6 gs v ≡ (gs, v) = settled_none gs v 6 h.1 in
    ap (λ x. have gs x (role_of s) place) h.0 ∙ ap (λ (r : List Frame × RawFormula). have r.0 r.1 (role_of s) place) (sym same)
behind gs (naming name here) v s place long h n = rw (n, h) refl
behind gs (binding b here) v s place long h n = absurd h
behind gs (binding_name b name here) v s place long h n = absurd h
behind gs (typing target part around) v s place long h n = absurd h
behind gs (ending con here) v s place long h n = absurd h

-- the first token of a phrase
pub record Starts (p : Phrase) : Type 0 where
  pub s : Sign
  pub place : ℕ
  pub long : ℕ
  pub rest : List Token
  pub parts : spelled p ≡ token s place long ∷ rest
  pub no_type : is_parenthesis (role_of s) ≡ false
  pub atom : 7 ≤ rank p → (fs : List Frame) (v : RawFormula) → have fs v (role_of s) place ≡ want (open_application v ∷ fs) (role_of s) place

starts : (p : Phrase) (value : RawFormula) → Says p value → Starts p
starts (named (spot k l) name ty) value h = record { s = word name; place = k; long = l; rest = spelled_written ty; parts = refl; no_type = rw (name_role name h.0) refl; atom = λ _ fs v. rw (name_role name h.0) refl }
starts (truth_value (spot k l) t) value h = record { s = _; place = k; long = l; rest = []; parts = refl; no_type = rw (truth_role t) refl; atom = λ _ fs v. rw (truth_role t) refl }
starts (constant_alone (spot k l) con t) value h = record { s = open_square; place = k; long = l; rest = _; parts = refl; no_type = refl; atom = λ _ fs v. refl }
starts (bracketed (spot k l) p t) value h = record { s = open_square; place = k; long = l; rest = _; parts = refl; no_type = refl; atom = λ _ fs v. refl }
starts (dotted (spot k l) p) value h = record { s = dot; place = k; long = l; rest = _; parts = refl; no_type = refl; atom = λ _ fs v. refl }
starts (applied f a) value h =
    let first = starts f h.0 h.2 in
    record { s = first.s; place = first.place; long = first.long; rest = first.rest ++ spelled a; parts = ap (λ l. l ++ spelled a) first.parts; no_type = first.no_type; atom = λ high fs v. absurd (omega (arith, high)) }
starts (negated (spot k l) p) value h = record { s = tilde; place = k; long = l; rest = _; parts = refl; no_type = refl; atom = λ high fs v. absurd (omega (arith, high)) }
starts (bound (spot k l) b (spot i j) name ty p) value h = record { s = _; place = k; long = l; rest = _; parts = refl; no_type = rw (binder_role b) refl; atom = λ high fs v. absurd (omega (arith, high)) }
starts (connected op l s r) value h =
    let first = starts l h.0 h.2 in
    record { s = first.s; place = first.place; long = first.long; rest = first.rest ++ (standing s (word (infix_word op)) ∷ spelled r); parts = ap (λ x. x ++ (standing s (word (infix_word op)) ∷ spelled r)) first.parts; no_type = first.no_type; atom = λ high fs v. absurd (omega (arith, high, (rank_bound op).0)) }

-- a written type after a name is read
named_read : (written : Written) (ty : Option SimpleType) (fs : List Frame) (name : List ℕ) (here : ℕ) → HasType written ty → Reads fs (run (spelled_written written) (Some (fs, naming name here))) 6 (raw_variable name ty here)
named_read untyped ty fs name here h = record {
  gs = fs;
  mode = naming name here;
  v = raw_variable name None here;
  reached = refl;
  holds = refl;
  settles = λ m low. ap (λ o. settled m fs (raw_variable name o here)) (sym h);
}
named_read (typed (spot p l) text (spot q k)) ty fs name here h =
    let inside : run (spelled_type text) (Some (fs, typing (for_variable name here) None [])) ≡ Some (fs, typing (for_variable name here) (Some h.0) []) = types_read text None h.0 fs (for_variable name here) [] h.1 in
    let close : List Token = token close_round q k ∷ [] in
    atom_reads fs (raw_variable name (Some h.0) here) (raw_variable name ty here) _ (ap (λ o. raw_variable name o here) h.2)
    (run_append (spelled_type text) close (Some (fs, typing (for_variable name here) None [])) ∙ ap (run close) inside)

-- and after a name of a binder
bound_read : (written : Written) (ty : Option SimpleType) (p : Phrase) (fs : List Frame) (b : Binder) (name : List ℕ) (here : ℕ) → Starts p → HasType written ty
    → run (spelled_written written ++ spelled p) (Some (fs, binding_name b name here)) ≡ run (spelled p) (Some (open_binding b name ty here ∷ fs, wanting))
bound_read untyped ty p fs b name here first h =
    let other : step (fs, binding_name b name here) (token first.s first.place first.long) ≡ want (open_binding b name None here ∷ fs) (role_of first.s) first.place = rw first.no_type refl in
    ap (λ ts. run ts (Some (fs, binding_name b name here))) first.parts ∙ ap (run first.rest) other
    ∙ ap (λ o. run (token first.s first.place first.long ∷ first.rest) (Some (open_binding b name o here ∷ fs, wanting))) (sym h)
    ∙ ap (λ ts. run ts (Some (open_binding b name ty here ∷ fs, wanting))) (sym first.parts)
bound_read (typed (spot k l) text (spot i j)) ty p fs b name here first h =
    let inside : run (spelled_type text) (Some (fs, typing (for_binding b name here) None [])) ≡ Some (fs, typing (for_binding b name here) (Some h.0) []) = types_read text None h.0 fs (for_binding b name here) [] h.1 in
    let close : List Token = token close_round i j ∷ [] in
    let whole_type : List Token = spelled_type text ++ close in
    run_append whole_type (spelled p) (Some (fs, typing (for_binding b name here) None []))
    ∙ ap (run (spelled p)) (run_append (spelled_type text) close (Some (fs, typing (for_binding b name here) None [])) ∙ ap (run close) inside)
    ∙ ap (λ o. run (spelled p) (Some (open_binding b name o here ∷ fs, wanting))) (sym h.2)

-- a constant in brackets of its own is read
constant_read : (text : ConstantText) (con : Constant) (fs : List Frame) (place k l : ℕ) → IsConstant text con
    → run (spelled_constant text ++ (token close_square k l ∷ [])) (Some (open_bracket place ∷ fs, wanting)) ≡ Some (with_atom fs (raw_constant con place))
constant_read (lone_tilde (spot i j)) con fs place k l h = ap (λ c. Some (with_atom fs (raw_constant c place))) (sym h)
constant_read (lone_infix op (spot i j)) con fs place k l h =
    let close : List Token = token close_square k l ∷ [] in
    let word_read : want (open_bracket place ∷ fs) (role_of (word (infix_word op))) i ≡ lone_connective op (open_bracket place ∷ fs) = ap (λ r. want (open_bracket place ∷ fs) r i) (infix_role op) in
    let ended : lone_connective op (open_bracket place ∷ fs) ≡ Some (fs, ending con place) = ap (λ c. to_end c fs place) h in
    ap (run close) (word_read ∙ ended)
constant_read (lone_quantifier b (spot i j) (spot m n) text (spot x y)) con fs place k l h =
    let close : List Token = token close_round x y ∷ token close_square k l ∷ [] in
    let word_read : want (open_bracket place ∷ fs) (role_of (word (binder_word b))) i ≡ Some (open_bracket place ∷ fs, binding b i) = ap (λ r. want (open_bracket place ∷ fs) r i) (binder_role b) in
    let typed_next : bind (open_bracket place ∷ fs) b i a_parenthesis ≡ Some (fs, typing (for_quantifier b place) None []) = quantifier b h.0 h.2 in
    let inside = types_read text None h.0 fs (for_quantifier b place) [] h.1 in
    ap (run (token open_round m n ∷ ((spelled_type text ++ (token close_round x y ∷ [])) ++ (token close_square k l ∷ [])))) word_read
    ∙ ap (λ ts. run ts (bind (open_bracket place ∷ fs) b i a_parenthesis)) (append_assoc (spelled_type text) (token close_round x y ∷ []) (token close_square k l ∷ []))
    ∙ ap (run (spelled_type text ++ close)) typed_next
    ∙ run_append (spelled_type text) close (Some (fs, typing (for_quantifier b place) None []))
    ∙ ap (run close) inside
    ∙ ap (λ c. run (token close_square k l ∷ []) (to_end c fs place)) h.2
  where
    quantifier : (b : Binder) (ty : SimpleType) → quantifier_constant b ty ≡ Some con → bind (open_bracket place ∷ fs) b i a_parenthesis ≡ Some (fs, typing (for_quantifier b place) None [])
    quantifier binder.Forall ty e = refl
    quantifier binder.Exists ty e = refl
    quantifier binder.Lambda ty e = cc

-- what a phrase settles to with a frame below it
framed : (f : Frame) (fs : List Frame) (found : Option State) (most most' : ℕ) (value whole_value : RawFormula) → Reads (f ∷ fs) found most value → most' ≤ most → most' < wanted_rank f → whole_value ≡ filled f value → Reads fs found most' whole_value
framed f fs found most most' value whole_value h low less e = record {
  gs = h.gs;
  mode = h.mode;
  v = h.v;
  reached = h.reached;
  holds = h.holds;
  settles = λ m n. h.settles m (omega (arith, n, low)) ∙ settled_one f fs value m (omega (arith, n, less)) ∙ ap (settled m fs) (sym e);
}

-- the tokens are read from another state on
read_from : (fs : List Frame) (found other : Option State) (most : ℕ) (value : RawFormula) → found ≡ other → Reads fs other most value → Reads fs found most value
read_from fs found other most value e h = record { gs = h.gs; mode = h.mode; v = h.v; reached = e ∙ h.reached; holds = h.holds; settles = h.settles }

with_value : (fs : List Frame) (found : Option State) (most : ℕ) (v value : RawFormula) → value ≡ v → Reads fs found most v → Reads fs found most value
with_value fs found most v value e h = record { gs = h.gs; mode = h.mode; v = h.v; reached = h.reached; holds = h.holds; settles = λ m n. h.settles m n ∙ ap (settled m fs) (sym e) }

some_rank : (p : Phrase) → 1 ≤ rank p
some_rank (named s name ty) = omega arith
some_rank (truth_value s value) = omega arith
some_rank (constant_alone s con t) = omega arith
some_rank (bracketed s p t) = omega arith
some_rank (dotted s p) = omega arith
some_rank (applied f a) = omega arith
some_rank (negated s p) = omega arith
some_rank (bound s b t name ty p) = omega arith
some_rank (connected op l s r) = (rank_bound op).2

below : (b : Bool) (x y : ℕ) → x < y → 0 < y → cond b x 0 < y
below true x y h g = h
below false x y h g = g

-- Where a phrase is wanted, it is read.
pub reads : (p : Phrase) (value : RawFormula) (fs : List Frame) → Says p value → top_rank fs ≤ rank p → Reads fs (run (spelled p) (Some (fs, wanting))) (limit p) value
reads (named (spot k l) name ty) value fs h high =
    let here : want fs (role_of (word name)) k ≡ Some (fs, naming name k) = ap (λ r. want fs r k) (name_role name h.0) in
    with_value fs _ 6 (raw_variable name h.1 k) value h.3
    (read_from fs _ (run (spelled_written ty) (Some (fs, naming name k))) 6 (raw_variable name h.1 k) (ap (run (spelled_written ty)) here) (named_read ty h.1 fs name k h.2))
reads (truth_value (spot k l) t) value fs h high = atom_reads fs (raw_constant (truth_constant t) k) value _ h (ap (λ r. want fs r k) (truth_role t))
reads (constant_alone (spot k l) con (spot i j)) value fs h high = atom_reads fs (raw_constant h.0 k) value _ h.2 (constant_read con h.0 fs k i j h.1)
reads (bracketed (spot k l) p (spot i j)) value fs h high =
    let inner = reads p h.0 (open_bracket k ∷ fs) h.1 (omega arith) in
    let close : List Token = token close_square i j ∷ [] in
    let group : settled 0 (settled 6 inner.gs inner.v).0 (settled 6 inner.gs inner.v).1 ≡ (open_bracket k ∷ fs, h.0) = settled_twice inner.gs inner.v 0 6 (omega arith) ∙ inner.settles 0 (omega arith) in
    let closed : step (inner.gs, inner.mode) (token close_square i j) ≡ Some (with_atom fs (moved k h.0)) = behind inner.gs inner.mode inner.v close_square i j inner.holds refl ∙ ap (λ (r : List Frame × RawFormula). group_end r.0 r.1) group in
    atom_reads fs (moved k h.0) value _ h.2 (run_append (spelled p) close (Some (open_bracket k ∷ fs, wanting)) ∙ ap (run close) inner.reached ∙ closed)
reads (dotted (spot k l) p) value fs h high = framed (open_dot k) fs _ (limit p) 0 h.0 value (reads p h.0 (open_dot k ∷ fs) h.1 (some_rank p)) (omega arith) (omega arith) h.2
reads (applied f a) value fs h high =
    let first = reads f h.0 fs h.2 (omega (arith, high, h.4)) in
    let six : 6 ≤ limit f = closed_limit f 6 h.5 (function_tight f h.4 h.5) in
    let there : settled 6 first.gs first.v ≡ (fs, h.0) = first.settles 6 six ∙ settled_none fs h.0 6 high in
    let start = starts a h.1 h.3 in
    let t : Token = token start.s start.place start.long in
    let again : step (first.gs, first.mode) t ≡ step (open_application h.0 ∷ fs, wanting) t =
    behind first.gs first.mode first.v start.s start.place start.long first.holds start.no_type ∙ ap (λ (r : List Frame × RawFormula). have r.0 r.1 (role_of start.s) start.place) there ∙ start.atom h.6 fs h.0 in
    let same : run (spelled a) (Some (first.gs, first.mode)) ≡ run (spelled a) (Some (open_application h.0 ∷ fs, wanting)) =
    ap (λ ts. run ts (Some (first.gs, first.mode))) start.parts ∙ ap (run start.rest) again ∙ ap (λ ts. run ts (Some (open_application h.0 ∷ fs, wanting))) (sym start.parts) in
    let high_a : 6 ≤ rank a = omega (arith, h.6) in
    read_from fs _ (run (spelled a) (Some (open_application h.0 ∷ fs, wanting))) (limit (applied f a)) value (run_append (spelled f) (spelled a) (Some (fs, wanting)) ∙ ap (run (spelled a)) first.reached ∙ same)
    (framed (open_application h.0) fs _ (limit a) (limit (applied f a)) h.1 value (reads a h.1 (open_application h.0 ∷ fs) h.3 h.6) (same_limit (is_closed a) 6 (tight a) (function_tight a high_a)) (below (is_closed a) 6 7 (omega arith) (omega arith)) h.7)
reads (negated (spot k l) p) value fs h high =
    framed (open_negation k) fs _ (limit p) (limit (negated (spot k l) p)) h.0 value (reads p h.0 (open_negation k ∷ fs) h.1 h.2) (same_limit (is_closed p) 4 (tight p) (operand_tight p h.2)) (below (is_closed p) 4 5 (omega arith) (omega arith)) h.3
reads (bound (spot k l) b (spot i j) name ty p) value fs h high =
    let word_read : want fs (role_of (word (binder_word b))) k ≡ Some (fs, binding b k) = ap (λ r. want fs r k) (binder_role b) in
    let name_read : bind fs b k (role_of (word name)) ≡ Some (fs, binding_name b name k) = ap (bind fs b k) (name_role name h.0) in
    read_from fs _ (run (spelled p) (Some (open_binding b name h.1 k ∷ fs, wanting))) (limit (bound (spot k l) b (spot i j) name ty p)) value
    (ap (run (token (word name) i j ∷ (spelled_written ty ++ spelled p))) word_read ∙ ap (run (spelled_written ty ++ spelled p)) name_read ∙ bound_read ty h.1 p fs b name k (starts p h.3 h.4) h.2)
    (framed (open_binding b name h.1 k) fs _ (limit p) (limit (bound (spot k l) b (spot i j) name ty p)) h.3 value (reads p h.3 (open_binding b name h.1 k ∷ fs) h.4 h.5)
    (same_limit (is_closed p) 4 (tight p) (operand_tight p h.5)) (below (is_closed p) 4 5 (omega arith) (omega arith)) h.6)
reads (connected op l (spot k j) r) value fs h high =
    let first = reads l h.0 fs h.2 (omega (arith, high, (rank_bound op).4, h.4)) in
    let lets : infix_rank op ≤ limit l = closed_limit l (infix_rank op) h.5 (left_tight op l h.4 h.5) in
    let low : infix_rank op ≤ 6 = omega (arith, (rank_bound op).0) in
    let side : settled (infix_rank op) (settled 6 first.gs first.v).0 (settled 6 first.gs first.v).1 ≡ (fs, h.0) = settled_twice first.gs first.v (infix_rank op) 6 low ∙ first.settles (infix_rank op) lets ∙ settled_none fs h.0 (infix_rank op) high in
    let t : Token = token (word (infix_word op)) k j in
    let word_read : step (first.gs, first.mode) t ≡ Some (open_side op h.0 ∷ fs, wanting) =
    behind first.gs first.mode first.v (word (infix_word op)) k j first.holds (ap is_parenthesis (infix_role op))
    ∙ ap (λ r. have (settled 6 first.gs first.v).0 (settled 6 first.gs first.v).1 r k) (infix_role op) ∙ ap (λ (r : List Frame × RawFormula). Some (with_side op r)) side in
    let some : 0 < right_rank op = omega (arith, (rank_bound op).3) in
    read_from fs _ (run (spelled r) (Some (open_side op h.0 ∷ fs, wanting))) (limit (connected op l (spot k j) r)) value
    (run_append (spelled l) (t ∷ spelled r) (Some (fs, wanting)) ∙ ap (run (t ∷ spelled r)) first.reached ∙ ap (run (spelled r)) word_read)
    (framed (open_side op h.0) fs _ (limit r) (limit (connected op l (spot k j) r)) h.1 value (reads r h.1 (open_side op h.0 ∷ fs) h.3 h.6) (same_limit (is_closed r) (side_limit op) (tight r) (right_tight op r h.6))
    (below (is_closed r) (side_limit op) (right_rank op) (rank_bound op).3 some) h.7)

finish_holds : (gs : List Frame) (mode : Mode) (v : RawFormula) → Holds gs mode v → finish (gs, mode) ≡ whole (settled 0 gs v)
finish_holds gs wanting v h = absurd h
finish_holds gs (having w) v h = ap (λ x. whole (settled 0 gs x)) h.0
finish_holds gs (naming name here) v h = ap (λ x. whole (settled 0 gs x)) (sym h)
finish_holds gs (binding b here) v h = absurd h
finish_holds gs (binding_name b name here) v h = absurd h
finish_holds gs (typing target part around) v h = absurd h
finish_holds gs (ending con here) v h = absurd h

-- Each formula text is read as what it is.
pub formula_parsed : (ts : List Token) (value : RawFormula) → IsFormula ts value → parsed ts ≡ Some value
formula_parsed ts value h =
    let all = reads h.0 value [] h.2 (omega arith) in
    ap parsed (sym h.1) ∙ ap finish_in all.reached ∙ finish_holds all.gs all.mode all.v all.holds ∙ ap whole (all.settles 0 (omega arith))
