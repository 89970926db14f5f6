-- What the term of a place is made of: its parts have smaller places.
use Rattle.std.specs.Prelude.{ℕ, ◌<◌, List, ◌≡◌}
use Rattle.hol_terms.specs.Terms.{SimpleType, Constant, free, bound, constant, application, abstraction}
use Rattle.terms_db.specs.declared.nodes.Shape.{Shape}
use Rattle.terms_db.specs.declared.nodes.Shape.TheVariants.{Free, Bound, Con as Logical, App, Lam}
use Rattle.terms_db.specs.Nodes.{TermNode}
use Rattle.terms_db.specs.Stores.{term_at}

abbrev pub IsMadeOf : List TermNode → ℕ → Shape → Type 0
IsMadeOf nodes i Free = (n : List ℕ) × (s : SimpleType) × (term_at nodes i ≡ free n s)
IsMadeOf nodes i (Bound j) = term_at nodes i ≡ bound j
IsMadeOf nodes i Logical = (c : Constant) × (term_at nodes i ≡ constant c)
IsMadeOf nodes i (App f a) = (f.place < i) × (a.place < i) × (term_at nodes i ≡ application (term_at nodes f.place) (term_at nodes a.place))
IsMadeOf nodes i (Lam b) = (s : SimpleType) × (b.place < i) × (term_at nodes i ≡ abstraction s (term_at nodes b.place))
