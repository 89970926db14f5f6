-- The raw formula that a printed term is read as, wherever it stands in a text.
use Rattle.std.specs.Prelude.{◌≡◌, ℕ, ◌+◌, ◌-◌, cond, List, Option, None, Some}
use Rattle.std.specs.List.{list_any}
use Rattle.hol_terms.specs.Terms.{SimpleType, Constant, negation, conjunction, disjunction, implication, forall, exists, Term, free, bound, constant, application, abstraction, Variable}
use Rattle.hol_terms.specs.Collected.{with_variables}
use Rattle.hol_terms.specs.Computed.{same_variable}
use Rattle.hol_terms.specs.FreeVariables.{occurrences}
use Rattle.tps_reader.specs.Raws.{RawFormula, raw_variable, raw_constant, raw_application, raw_binding, raw_connective, raw_negation}
use Rattle.tps_reader.specs.declared.raws.Binder.TheVariants.{Forall, Exists, Lambda}
use Rattle.tps_reader.specs.declared.raws.Infix.TheVariants.{And, Or, Implies}
use Rattle.tps_print.specs.Pieces.{name_at}
use Rattle.tps_print.specs.Shapes.{IsPlainlyApplied}

-- how a term is laid out: its parts in the forms in which they are printed
pub data Layout : Term → Type 0 where
  a_variable : (n : List ℕ) (s : SimpleType) → Layout (free n s)
  an_index : (i : ℕ) → Layout (bound i)
  a_constant : (c : Constant) → Layout (constant c)
  a_negation : (s : Term) → Layout s → Layout (application (constant negation) s)
  a_universal : (q s : SimpleType) (b : Term) → Layout b → Layout (application (constant (forall q)) (abstraction s b))
  an_existential : (q s : SimpleType) (b : Term) → Layout b → Layout (application (constant (exists q)) (abstraction s b))
  a_conjunction : (s t : Term) → Layout s → Layout t → Layout (application (application (constant conjunction) s) t)
  a_disjunction : (s t : Term) → Layout s → Layout t → Layout (application (application (constant disjunction) s) t)
  an_implication : (s t : Term) → Layout s → Layout t → Layout (application (application (constant implication) s) t)
  an_application : (f a : Term) → IsPlainlyApplied f a → Layout f → Layout a → Layout (application f a)
  an_abstraction : (s : SimpleType) (b : Term) → Layout b → Layout (abstraction s b)

-- the type that is written at a variable: none where it stands earlier
abbrev pub written_type : List Variable → Variable → Option SimpleType
written_type earlier v = cond (list_any (same_variable v) earlier) None (Some v.1)

-- The raw formula says the laid out term, where the binders around it, of which there are d, have the first d of the names and these
-- variables stand earlier. Its places may be any.
abbrev pub SaysTerm : List (List ℕ) → ℕ → List Variable → (t : Term) → Layout t → RawFormula → Type 0
SaysTerm names d earlier _ (a_variable n s) v = (k : ℕ) × (v ≡ raw_variable n (written_type earlier (n, s)) k)
SaysTerm names d earlier _ (an_index i) v = (k : ℕ) × (v ≡ raw_variable (name_at names (d - i - 1)) None k)
SaysTerm names d earlier _ (a_constant c) v = (k : ℕ) × (v ≡ raw_constant c k)
SaysTerm names d earlier _ (a_negation s l) v = (k : ℕ) × (x : RawFormula) × SaysTerm names d earlier s l x × (v ≡ raw_negation x k)
SaysTerm names d earlier _ (a_universal q s b l) v =
    (k : ℕ) × (x : RawFormula) × SaysTerm names (d + 1) earlier b l x × (v ≡ raw_binding Forall (name_at names d) (Some s) x k)
SaysTerm names d earlier _ (an_existential q s b l) v =
    (k : ℕ) × (x : RawFormula) × SaysTerm names (d + 1) earlier b l x × (v ≡ raw_binding Exists (name_at names d) (Some s) x k)
SaysTerm names d earlier _ (a_conjunction s t l m) v =
    (k : ℕ) × (x : RawFormula) × (y : RawFormula) × SaysTerm names d earlier s l x × SaysTerm names d (with_variables earlier (occurrences s)) t m y × (v ≡ raw_connective And x y k)
SaysTerm names d earlier _ (a_disjunction s t l m) v =
    (k : ℕ) × (x : RawFormula) × (y : RawFormula) × SaysTerm names d earlier s l x × SaysTerm names d (with_variables earlier (occurrences s)) t m y × (v ≡ raw_connective Or x y k)
SaysTerm names d earlier _ (an_implication s t l m) v =
    (k : ℕ) × (x : RawFormula) × (y : RawFormula) × SaysTerm names d earlier s l x × SaysTerm names d (with_variables earlier (occurrences s)) t m y × (v ≡ raw_connective Implies x y k)
SaysTerm names d earlier _ (an_application f a plain l m) v =
    (k : ℕ) × (x : RawFormula) × (y : RawFormula) × SaysTerm names d earlier f l x × SaysTerm names d (with_variables earlier (occurrences f)) a m y × (v ≡ raw_application x y k)
SaysTerm names d earlier _ (an_abstraction s b l) v =
    (k : ℕ) × (x : RawFormula) × SaysTerm names (d + 1) earlier b l x × (v ≡ raw_binding Lambda (name_at names d) (Some s) x k)
