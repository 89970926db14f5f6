-- The outermost connective of a formula.
use Rattle.std.specs.Prelude.{◌≡◌}
use Rattle.hol_terms.specs.Terms.{Term, negation, conjunction, disjunction, implication, truth, falsehood, application, constant, plain_term}
use Rattle.hol_terms.specs.Truth.{IsAtom}
use Rattle.rulep_decide.specs.declared.shapes.Shape.{Shape}
use Rattle.rulep_decide.specs.declared.shapes.Shape.TheVariants.{Negation, Conjunction, Disjunction, Implication, Truth, Falsehood, Atom}

abbrev pub HasShape : Shape → Term → Type 0
HasShape (Negation a) t = t ≡ application (constant negation) (plain_term a.now)
HasShape (Conjunction a b) t = t ≡ application (application (constant conjunction) (plain_term a.now)) (plain_term b.now)
HasShape (Disjunction a b) t = t ≡ application (application (constant disjunction) (plain_term a.now)) (plain_term b.now)
HasShape (Implication a b) t = t ≡ application (application (constant implication) (plain_term a.now)) (plain_term b.now)
HasShape Truth t = t ≡ constant truth
HasShape Falsehood t = t ≡ constant falsehood
HasShape Atom t = IsAtom t
