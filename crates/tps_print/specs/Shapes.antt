-- How an application is printed, and the parts of it that are printed.
use Rattle.std.specs.Prelude.{ℕ, ◌+◌, ◌<◌, ◌≡◌}
use Rattle.hol_terms.specs.Terms.{SimpleType, negation, conjunction, disjunction, implication, forall, exists, Term, free, bound, constant, application, abstraction, plain_term, plain_type}
use Rattle.tps_print.specs.declared.shapes.Shape.{Shape}
use Rattle.tps_print.specs.declared.shapes.Shape.TheVariants as shape

-- the number of nodes of a term
abbrev pub node_count : Term → ℕ
node_count (free n s) = 1
node_count (bound i) = 1
node_count (constant c) = 1
node_count (application f a) = node_count f + node_count a + 1
node_count (abstraction s b) = node_count b + 1

-- neither a negation nor a quantifier on an abstraction nor a connective with both sides
abbrev pub IsPlainlyApplied : Term → Term → Type 0
IsPlainlyApplied (constant negation) a = ⊥
IsPlainlyApplied (constant (forall q)) (abstraction s b) = ⊥
IsPlainlyApplied (constant (exists q)) (abstraction s b) = ⊥
IsPlainlyApplied (application (constant conjunction) s) a = ⊥
IsPlainlyApplied (application (constant disjunction) s) a = ⊥
IsPlainlyApplied (application (constant implication) s) a = ⊥
IsPlainlyApplied f a = Unit {0}

abbrev pub HasShape : Shape → Term → Term → Type 0
HasShape (shape.Negation s) f a = (f ≡ constant negation) × (a ≡ plain_term s.now)
HasShape (shape.Universal ty b) f a = (q : SimpleType) × (f ≡ constant (forall q)) × (a ≡ abstraction (plain_type ty.now) (plain_term b.now))
HasShape (shape.Existential ty b) f a = (q : SimpleType) × (f ≡ constant (exists q)) × (a ≡ abstraction (plain_type ty.now) (plain_term b.now))
HasShape (shape.Conjunction s t) f a = (f ≡ application (constant conjunction) (plain_term s.now)) × (a ≡ plain_term t.now)
HasShape (shape.Disjunction s t) f a = (f ≡ application (constant disjunction) (plain_term s.now)) × (a ≡ plain_term t.now)
HasShape (shape.Implication s t) f a = (f ≡ application (constant implication) (plain_term s.now)) × (a ≡ plain_term t.now)
HasShape shape.Applied f a = IsPlainlyApplied f a

-- the parts have fewer nodes than this
abbrev pub HasSmallParts : Shape → ℕ → Type 0
HasSmallParts (shape.Negation s) n = node_count (plain_term s.now) < n
HasSmallParts (shape.Universal ty b) n = node_count (plain_term b.now) < n
HasSmallParts (shape.Existential ty b) n = node_count (plain_term b.now) < n
HasSmallParts (shape.Conjunction s t) n = node_count (plain_term s.now) + node_count (plain_term t.now) < n
HasSmallParts (shape.Disjunction s t) n = node_count (plain_term s.now) + node_count (plain_term t.now) < n
HasSmallParts (shape.Implication s t) n = node_count (plain_term s.now) + node_count (plain_term t.now) < n
HasSmallParts shape.Applied n = Unit {0}
