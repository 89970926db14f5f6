-- Two terms that differ only where a type is open: there the first has I and the second O, and a third one may have any type.
use Rattle.std.specs.Prelude.{◌≡◌, ◌⊎◌}
use Rattle.hol_terms.specs.Terms.{SimpleType, base_type, function_type, Constant, forall, exists, Term, free, bound, constant, application, abstraction}

-- the third type is like both, but for what it has where the first has I and the second O
abbrev pub TypeSpans : SimpleType → SimpleType → SimpleType → Type 0
TypeSpans (base_type l) t r = ((t ≡ base_type l) × (r ≡ base_type l)) ⊎ ((l ≡ 73) × (t ≡ base_type 79))
TypeSpans (function_type p q) t r =
    (p2 : SimpleType) × (q2 : SimpleType) × (p3 : SimpleType) × (q3 : SimpleType) × (t ≡ function_type p2 q2) × (r ≡ function_type p3 q3)
    × TypeSpans p p2 p3 × TypeSpans q q2 q3

-- constants that are the same but for such types
abbrev pub ConstantSpans : Constant → Term → Term → Type 0
ConstantSpans (forall a) t r = (b : SimpleType) × (c : SimpleType) × (t ≡ constant (forall b)) × (r ≡ constant (forall c)) × TypeSpans a b c
ConstantSpans (exists a) t r = (b : SimpleType) × (c : SimpleType) × (t ≡ constant (exists b)) × (r ≡ constant (exists c)) × TypeSpans a b c
ConstantSpans k t r = (t ≡ constant k) × (r ≡ constant k)

-- terms that are the same but for such types
abbrev pub TermSpans : Term → Term → Term → Type 0
TermSpans (free name a) t r = (b : SimpleType) × (c : SimpleType) × (t ≡ free name b) × (r ≡ free name c) × TypeSpans a b c
TermSpans (bound i) t r = (t ≡ bound i) × (r ≡ bound i)
TermSpans (constant k) t r = ConstantSpans k t r
TermSpans (application f a) t r =
    (g : Term) × (b : Term) × (h : Term) × (c : Term) × (t ≡ application g b) × (r ≡ application h c) × TermSpans f g h × TermSpans a b c
TermSpans (abstraction p b) t r =
    (q : SimpleType) × (c : Term) × (s : SimpleType) × (d : Term) × (t ≡ abstraction q c) × (r ≡ abstraction s d) × TypeSpans p q s × TermSpans b c d
