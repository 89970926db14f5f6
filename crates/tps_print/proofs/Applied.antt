-- A function and its argument, where they are no negation, no quantifier with its scope and no connective with its sides.
use Rattle.std.proofs.Common.{ℕ, List, ◌∷◌, ◌++◌, ◌≡◌, refl}
use Rattle.std.specs.Prelude.{codes}
use Rattle.hol_terms.specs.Terms.{negation, conjunction, disjunction, implication, truth, falsehood, forall, exists, Term, free, bound, constant, application, abstraction}
use Rattle.tps_print.specs.Pieces.{Piece, fixed, bracketed, brackets_application, pieces}
use Rattle.tps_print.specs.Shapes.{IsPlainlyApplied}
use Rattle.tps_print.specs.declared.levels.Level.{Level}
use Rattle.tps_print.specs.declared.levels.Level.TheVariants as level

abbrev pub applied_pieces : List (List ℕ) → ℕ → Level → Term → Term → List Piece
applied_pieces names d l f a = bracketed (brackets_application l) (pieces names d level.Function f ++ (fixed (codes " ") ∷ pieces names d level.Argument a))

pub plainly_applied : (names : List (List ℕ)) (d : ℕ) (l : Level) (f a : Term) → IsPlainlyApplied f a → pieces names d l (application f a) ≡ applied_pieces names d l f a
plainly_applied names d l (free n s) a plain = refl
plainly_applied names d l (bound i) a plain = refl
plainly_applied names d l (abstraction s b) a plain = refl
plainly_applied names d l (constant negation) a plain = absurd plain
plainly_applied names d l (constant conjunction) a plain = refl
plainly_applied names d l (constant disjunction) a plain = refl
plainly_applied names d l (constant implication) a plain = refl
plainly_applied names d l (constant truth) a plain = refl
plainly_applied names d l (constant falsehood) a plain = refl
plainly_applied names d l (constant (forall q)) (free n s) plain = refl
plainly_applied names d l (constant (forall q)) (bound i) plain = refl
plainly_applied names d l (constant (forall q)) (constant c) plain = refl
plainly_applied names d l (constant (forall q)) (application g b) plain = refl
plainly_applied names d l (constant (forall q)) (abstraction s b) plain = absurd plain
plainly_applied names d l (constant (exists q)) (free n s) plain = refl
plainly_applied names d l (constant (exists q)) (bound i) plain = refl
plainly_applied names d l (constant (exists q)) (constant c) plain = refl
plainly_applied names d l (constant (exists q)) (application g b) plain = refl
plainly_applied names d l (constant (exists q)) (abstraction s b) plain = absurd plain
plainly_applied names d l (application (free n s) b) a plain = refl
plainly_applied names d l (application (bound i) b) a plain = refl
plainly_applied names d l (application (application g c) b) a plain = refl
plainly_applied names d l (application (abstraction s c) b) a plain = refl
plainly_applied names d l (application (constant negation) b) a plain = refl
plainly_applied names d l (application (constant conjunction) b) a plain = absurd plain
plainly_applied names d l (application (constant disjunction) b) a plain = absurd plain
plainly_applied names d l (application (constant implication) b) a plain = absurd plain
plainly_applied names d l (application (constant truth) b) a plain = refl
plainly_applied names d l (application (constant falsehood) b) a plain = refl
plainly_applied names d l (application (constant (forall q)) b) a plain = refl
plainly_applied names d l (application (constant (exists q)) b) a plain = refl
