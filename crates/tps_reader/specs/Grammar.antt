-- The grammar of formula text: how tokens make a phrase, and which raw formula the phrase is.
use Rattle.std.specs.Prelude.{◌≡◌, ℕ, ◌≤◌, ◌&&◌, nat_le, Bool, true, false, List, [], ◌∷◌, ◌++◌, codes, Option, Some, None}
use Rattle.std.specs.List.{list_all}
use Rattle.hol_terms.specs.Names.{IsName}
use Rattle.hol_terms.specs.Terms.{SimpleType, base_type, function_type, Constant, negation, conjunction, disjunction, implication, truth, falsehood, forall, exists}
use Rattle.tps_reader.specs.Raws.{RawFormula, raw_variable, raw_constant, raw_application, raw_binding, raw_connective, raw_negation, place_of}
use Rattle.tps_reader.specs.Tokens.{Sign, open_square, close_square, open_round, close_round, dot, tilde, word, Token, token}
use Rattle.tps_reader.specs.declared.raws.Binder.{Binder}
use Rattle.tps_reader.specs.declared.raws.Binder.TheVariants as binder
use Rattle.tps_reader.specs.declared.raws.Infix.{Infix}
use Rattle.tps_reader.specs.declared.raws.Infix.TheVariants as joint

-- where a token stands: its place and the number of its bytes
pub data Spot : Type 0 where
  spot : ℕ → ℕ → Spot

abbrev pub standing : Spot → Sign → Token
standing (spot place long) s = token s place long

abbrev pub spot_place : Spot → ℕ
spot_place (spot place long) = place

-- What stands between the parentheses of a written type: words of letters, and types in parentheses.
pub data TypeText : Type 0 where
  type_end : TypeText
  type_letters : Spot → List ℕ → TypeText → TypeText
  type_group : Spot → TypeText → Spot → TypeText → TypeText

abbrev pub is_letter : ℕ → Bool
is_letter c = nat_le 65 c && nat_le c 90

-- letters from A to Z, at least one
abbrev pub is_letters : List ℕ → Bool
is_letters [] = false
is_letters (l ∷ ls) = list_all is_letter (l ∷ ls)

-- a type after others: the function type associates to the left
abbrev pub joined : Option SimpleType → SimpleType → SimpleType
joined None ty = ty
joined (Some before) ty = function_type before ty

abbrev pub with_letters : Option SimpleType → List ℕ → Option SimpleType
with_letters before [] = before
with_letters before (l ∷ ls) = with_letters (Some (joined before (base_type l))) ls

-- after what makes one type already, if there is such, the text makes this type
abbrev pub Types : Option SimpleType → TypeText → SimpleType → Type 0
Types before type_end ty = before ≡ Some ty
Types before (type_letters s letters rest) ty = (is_letters letters ≡ true) × Types (with_letters before letters) rest ty
Types before (type_group s inner t rest) ty = (part : SimpleType) × Types None inner part × Types (Some (joined before part)) rest ty

abbrev pub spelled_type : TypeText → List Token
spelled_type type_end = []
spelled_type (type_letters s letters rest) = standing s (word letters) ∷ spelled_type rest
spelled_type (type_group s inner t rest) = standing s open_round ∷ (spelled_type inner ++ (standing t close_round ∷ spelled_type rest))

-- a type in parentheses after a name, or none
pub data Written : Type 0 where
  untyped : Written
  typed : Spot → TypeText → Spot → Written

abbrev pub HasType : Written → Option SimpleType → Type 0
HasType untyped ty = ty ≡ None
HasType (typed s text t) ty = (found : SimpleType) × Types None text found × (ty ≡ Some found)

abbrev pub spelled_written : Written → List Token
spelled_written untyped = []
spelled_written (typed s text t) = standing s open_round ∷ (spelled_type text ++ (standing t close_round ∷ []))

abbrev pub infix_word : Infix → List ℕ
infix_word joint.And = codes "AND"
infix_word joint.Or = codes "OR"
infix_word joint.Implies = codes "IMPLIES"
infix_word joint.Equiv = codes "EQUIV"

abbrev pub binder_word : Binder → List ℕ
binder_word binder.Forall = codes "FORALL"
binder_word binder.Exists = codes "EXISTS"
binder_word binder.Lambda = codes "LAMBDA"

abbrev pub truth_word : Bool → List ℕ
truth_word true = codes "TRUTH"
truth_word false = codes "FALSEHOOD"

abbrev pub truth_constant : Bool → Constant
truth_constant true = truth
truth_constant false = falsehood

-- What stands between square brackets for a constant alone: `~`, a connective, or a quantifier with its written type.
pub data ConstantText : Type 0 where
  lone_tilde : Spot → ConstantText
  lone_infix : Infix → Spot → ConstantText
  lone_quantifier : Binder → Spot → Spot → TypeText → Spot → ConstantText

abbrev pub infix_constant : Infix → Option Constant
infix_constant joint.And = Some conjunction
infix_constant joint.Or = Some disjunction
infix_constant joint.Implies = Some implication
infix_constant joint.Equiv = None

abbrev pub quantifier_constant : Binder → SimpleType → Option Constant
quantifier_constant binder.Forall ty = Some (forall ty)
quantifier_constant binder.Exists ty = Some (exists ty)
quantifier_constant binder.Lambda ty = None

abbrev pub IsConstant : ConstantText → Constant → Type 0
IsConstant (lone_tilde s) con = con ≡ negation
IsConstant (lone_infix op s) con = infix_constant op ≡ Some con
IsConstant (lone_quantifier b s t text u) con = (ty : SimpleType) × Types None text ty × (quantifier_constant b ty ≡ Some con)

abbrev pub spelled_constant : ConstantText → List Token
spelled_constant (lone_tilde s) = standing s tilde ∷ []
spelled_constant (lone_infix op s) = standing s (word (infix_word op)) ∷ []
spelled_constant (lone_quantifier b s t text u) = standing s (word (binder_word b)) ∷ standing t open_round ∷ (spelled_type text ++ (standing u close_round ∷ []))

-- A phrase as it is written: a name, TRUTH or FALSEHOOD, a constant in square brackets, a phrase in square brackets, a phrase after
-- a dot, an application, a negation, a binder with its scope, or two phrases with a connective between them.
pub data Phrase : Type 0 where
  named : Spot → List ℕ → Written → Phrase
  truth_value : Spot → Bool → Phrase
  constant_alone : Spot → ConstantText → Spot → Phrase
  bracketed : Spot → Phrase → Spot → Phrase
  dotted : Spot → Phrase → Phrase
  applied : Phrase → Phrase → Phrase
  negated : Spot → Phrase → Phrase
  bound : Spot → Binder → Spot → List ℕ → Written → Phrase → Phrase
  connected : Infix → Phrase → Spot → Phrase → Phrase

abbrev pub spelled : Phrase → List Token
spelled (named s name ty) = standing s (word name) ∷ spelled_written ty
spelled (truth_value s value) = standing s (word (truth_word value)) ∷ []
spelled (constant_alone s con t) = standing s open_square ∷ (spelled_constant con ++ (standing t close_square ∷ []))
spelled (bracketed s p t) = standing s open_square ∷ (spelled p ++ (standing t close_square ∷ []))
spelled (dotted s p) = standing s dot ∷ spelled p
spelled (applied f a) = spelled f ++ spelled a
spelled (negated s p) = standing s tilde ∷ spelled p
spelled (bound s b t name ty p) = standing s (word (binder_word b)) ∷ standing t (word name) ∷ (spelled_written ty ++ spelled p)
spelled (connected op l s r) = spelled l ++ (standing s (word (infix_word op)) ∷ spelled r)

-- how tightly a connective binds
abbrev pub infix_rank : Infix → ℕ
infix_rank joint.Equiv = 1
infix_rank joint.Implies = 2
infix_rank joint.Or = 3
infix_rank joint.And = 4

-- how tightly its sides have to bind: EQUIV, OR and AND associate to the left, IMPLIES to the right
abbrev pub left_rank : Infix → ℕ
left_rank joint.Equiv = 1
left_rank joint.Implies = 3
left_rank joint.Or = 3
left_rank joint.And = 4

abbrev pub right_rank : Infix → ℕ
right_rank joint.Equiv = 2
right_rank joint.Implies = 2
right_rank joint.Or = 4
right_rank joint.And = 5

-- How tightly a phrase binds: 1 to 4 for the connectives, 5 for negations and binders, 6 for applications, and 7 for what stands
-- alone.
abbrev pub rank : Phrase → ℕ
rank (named s name ty) = 7
rank (truth_value s value) = 7
rank (constant_alone s con t) = 7
rank (bracketed s p t) = 7
rank (dotted s p) = 7
rank (applied f a) = 6
rank (negated s p) = 5
rank (bound s b t name ty p) = 5
rank (connected op l s r) = infix_rank op

-- The phrase doesn't end in one after a dot, which takes all up to the end of the group in which the dot stands.
abbrev pub is_closed : Phrase → Bool
is_closed (named s name ty) = true
is_closed (truth_value s value) = true
is_closed (constant_alone s con t) = true
is_closed (bracketed s p t) = true
is_closed (dotted s p) = false
is_closed (applied f a) = is_closed a
is_closed (negated s p) = is_closed p
is_closed (bound s b t name ty p) = is_closed p
is_closed (connected op l s r) = is_closed r

-- the raw formula with another place
abbrev pub moved : ℕ → RawFormula → RawFormula
moved place (raw_variable name ty old) = raw_variable name ty place
moved place (raw_constant con old) = raw_constant con place
moved place (raw_application f a old) = raw_application f a place
moved place (raw_binding b name ty body old) = raw_binding b name ty body place
moved place (raw_connective op l r old) = raw_connective op l r place
moved place (raw_negation p old) = raw_negation p place

-- The raw formula that a phrase is. Brackets and dots are left out, but the place is that of the first token.
abbrev pub Says : Phrase → RawFormula → Type 0
Says (named s name written) v = IsName name × (ty : Option SimpleType) × HasType written ty × (v ≡ raw_variable name ty (spot_place s))
Says (truth_value s value) v = v ≡ raw_constant (truth_constant value) (spot_place s)
Says (constant_alone s text t) v = (con : Constant) × IsConstant text con × (v ≡ raw_constant con (spot_place s))
Says (bracketed s p t) v = (inner : RawFormula) × Says p inner × (v ≡ moved (spot_place s) inner)
Says (dotted s p) v = (inner : RawFormula) × Says p inner × (v ≡ moved (spot_place s) inner)
Says (applied f a) v =
    (g : RawFormula) × (b : RawFormula) × Says f g × Says a b × (6 ≤ rank f) × (is_closed f ≡ true) × (7 ≤ rank a)
    × (v ≡ raw_application g b (place_of g))
Says (negated s p) v = (inner : RawFormula) × Says p inner × (5 ≤ rank p) × (v ≡ raw_negation inner (spot_place s))
Says (bound s b t name written p) v =
    IsName name × (ty : Option SimpleType) × HasType written ty × (inner : RawFormula) × Says p inner × (5 ≤ rank p)
    × (v ≡ raw_binding b name ty inner (spot_place s))
Says (connected op l s r) v =
    (x : RawFormula) × (y : RawFormula) × Says l x × Says r y × (left_rank op ≤ rank l) × (is_closed l ≡ true) × (right_rank op ≤ rank r)
    × (v ≡ raw_connective op x y (place_of x))

-- the tokens are those of a formula text, which is this raw formula
abbrev pub IsFormula : List Token → RawFormula → Type 0
IsFormula ts v = (p : Phrase) × (spelled p ≡ ts) × Says p v

-- the tokens and some others after them are a formula text
abbrev pub BeginsFormula : List Token → Type 0
BeginsFormula ts = (more : List Token) × (v : RawFormula) × IsFormula (ts ++ more) v

-- Some formula text begins with the tokens before one, and none with that one too; this is its place.
pub record StopsAt (ts : List Token) (place : ℕ) : Type 0 where
  pub before : List Token
  pub s : Sign
  pub long : ℕ
  pub after : List Token
  pub parts : ts ≡ before ++ (token s place long ∷ after)
  pub begins : BeginsFormula before
  pub stops : BeginsFormula (before ++ (token s place long ∷ [])) → ⊥

-- the tokens begin a formula text, and are none
pub record OnlyBegins (ts : List Token) : Type 0 where
  pub begins : BeginsFormula ts
  pub none : (v : RawFormula) → IsFormula ts v → ⊥
