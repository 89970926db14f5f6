-- Codes of the plain trees, by which a type whose model holds them tells its values apart.
use Rattle.std.specs.Prelude.{ℕ, zero, suc, List, [], ◌∷◌, ◌≡◌, refl}
use mathlib.Core.Path.{ap, ap₂}
use package.base.Stored.{Gv, gnil, gnum, gcons, Coded}
use denote.Struct.Codes.{itself, code_by}
use Rattle.hol_terms.specs.Terms.{SimpleType, base_type, function_type, Constant, negation, conjunction, disjunction, implication, truth, falsehood, forall, exists, Term, free, bound, constant, application, abstraction}

abbrev pub type_to : SimpleType → Gv
type_to (base_type n) = gnum n
type_to (function_type r s) = gcons (type_to r) (type_to s)

abbrev pub type_from : Gv → SimpleType
type_from gnil = base_type 0
type_from (gnum n) = base_type n
type_from (gcons r s) = function_type (type_from r) (type_from s)

pub type_back : (t : SimpleType) → type_from (type_to t) ≡ t
type_back (base_type n) = refl
type_back (function_type r s) = ap₂ function_type (type_back r) (type_back s)

abbrev pub type_code : Coded SimpleType
type_code = code_by Gv itself type_to type_from type_back

abbrev pub name_to : List ℕ → Gv
name_to [] = gnil
name_to (c ∷ cs) = gcons (gnum c) (name_to cs)

abbrev number_from : Gv → ℕ
number_from (gnum n) = n
number_from _ = 0

abbrev pub name_from : Gv → List ℕ
name_from (gcons c cs) = number_from c ∷ name_from cs
name_from _ = []

pub name_back : (n : List ℕ) → name_from (name_to n) ≡ n
name_back [] = refl
name_back (c ∷ cs) = ap (λ cs. c ∷ cs) (name_back cs)

abbrev constant_to : Constant → Gv
constant_to negation = gnum 0
constant_to conjunction = gnum 1
constant_to disjunction = gnum 2
constant_to implication = gnum 3
constant_to truth = gnum 4
constant_to falsehood = gnum 5
constant_to (forall t) = gcons (type_to t) gnil
constant_to (exists t) = gcons gnil (type_to t)

abbrev constant_numbered : ℕ → Constant
constant_numbered zero = negation
constant_numbered (suc zero) = conjunction
constant_numbered (suc (suc zero)) = disjunction
constant_numbered (suc (suc (suc zero))) = implication
constant_numbered (suc (suc (suc (suc zero)))) = truth
constant_numbered (suc (suc (suc (suc (suc n))))) = falsehood

abbrev constant_from : Gv → Constant
constant_from gnil = negation
constant_from (gnum n) = constant_numbered n
constant_from (gcons gnil t) = exists (type_from t)
constant_from (gcons (gnum n) t) = forall (base_type n)
constant_from (gcons (gcons r s) t) = forall (function_type (type_from r) (type_from s))

constant_back : (c : Constant) → constant_from (constant_to c) ≡ c
constant_back negation = refl
constant_back conjunction = refl
constant_back disjunction = refl
constant_back implication = refl
constant_back truth = refl
constant_back falsehood = refl
constant_back (forall (base_type n)) = refl
constant_back (forall (function_type r s)) = ap forall (type_back (function_type r s))
constant_back (exists t) = ap exists (type_back t)

abbrev pub term_to : Term → Gv
term_to (bound i) = gnum i
term_to (free n s) = gcons (gnum 0) (gcons (name_to n) (type_to s))
term_to (constant c) = gcons (gnum 1) (constant_to c)
term_to (abstraction s b) = gcons (gcons gnil (type_to s)) (term_to b)
term_to (application f a) = gcons (gcons (gnum 0) (term_to f)) (term_to a)

abbrev free_from : Gv → Term
free_from (gcons n s) = free (name_from n) (type_from s)
free_from _ = bound 0

abbrev pub term_from : Gv → Term
term_from gnil = bound 0
term_from (gnum i) = bound i
term_from (gcons gnil x) = bound 0
term_from (gcons (gnum zero) x) = free_from x
term_from (gcons (gnum (suc n)) x) = constant (constant_from x)
term_from (gcons (gcons gnil s) b) = abstraction (type_from s) (term_from b)
term_from (gcons (gcons (gnum n) f) a) = application (term_from f) (term_from a)
term_from (gcons (gcons (gcons x y) f) a) = bound 0

pub term_back : (t : Term) → term_from (term_to t) ≡ t
term_back (bound i) = refl
term_back (free n s) = ap₂ free (name_back n) (type_back s)
term_back (constant c) = ap constant (constant_back c)
term_back (abstraction s b) = ap₂ abstraction (type_back s) (term_back b)
term_back (application f a) = ap₂ application (term_back f) (term_back a)

abbrev pub term_code : Coded Term
term_code = code_by Gv itself term_to term_from term_back
