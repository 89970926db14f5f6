-- Each term has a layout.
use Rattle.hol_terms.specs.Terms.{SimpleType, negation, conjunction, disjunction, implication, truth, falsehood, forall, exists, Term, free, bound, constant, application, abstraction}
use Rattle.tps_print.specs.Layouts.{Layout, a_variable, an_index, a_constant, a_negation, a_universal, an_existential, a_conjunction, a_disjunction, an_implication, an_application, an_abstraction}

body_layout : (s : SimpleType) (b : Term) → Layout (abstraction s b) → Layout b
body_layout _ _ (an_abstraction s b l) = l

conjunct : (b : Term) → Layout (application (constant conjunction) b) → Layout b
conjunct _ (an_application _ b plain l m) = m

disjunct : (b : Term) → Layout (application (constant disjunction) b) → Layout b
disjunct _ (an_application _ b plain l m) = m

condition : (b : Term) → Layout (application (constant implication) b) → Layout b
condition _ (an_application _ b plain l m) = m

applied_layout : (f a : Term) → Layout f → Layout a → Layout (application f a)
applied_layout (free n s) a l m = an_application (free n s) a tt l m
applied_layout (bound i) a l m = an_application (bound i) a tt l m
applied_layout (abstraction s b) a l m = an_application (abstraction s b) a tt l m
applied_layout (constant conjunction) a l m = an_application (constant conjunction) a tt l m
applied_layout (constant disjunction) a l m = an_application (constant disjunction) a tt l m
applied_layout (constant implication) a l m = an_application (constant implication) a tt l m
applied_layout (constant truth) a l m = an_application (constant truth) a tt l m
applied_layout (constant falsehood) a l m = an_application (constant falsehood) a tt l m
applied_layout (constant negation) a l m = a_negation a m
applied_layout (constant (forall q)) (free n s) l m = an_application (constant (forall q)) (free n s) tt l m
applied_layout (constant (forall q)) (bound i) l m = an_application (constant (forall q)) (bound i) tt l m
applied_layout (constant (forall q)) (constant c) l m = an_application (constant (forall q)) (constant c) tt l m
applied_layout (constant (forall q)) (application g b) l m = an_application (constant (forall q)) (application g b) tt l m
applied_layout (constant (forall q)) (abstraction s b) l m = a_universal q s b (body_layout s b m)
applied_layout (constant (exists q)) (free n s) l m = an_application (constant (exists q)) (free n s) tt l m
applied_layout (constant (exists q)) (bound i) l m = an_application (constant (exists q)) (bound i) tt l m
applied_layout (constant (exists q)) (constant c) l m = an_application (constant (exists q)) (constant c) tt l m
applied_layout (constant (exists q)) (application g b) l m = an_application (constant (exists q)) (application g b) tt l m
applied_layout (constant (exists q)) (abstraction s b) l m = an_existential q s b (body_layout s b m)
applied_layout (application (constant conjunction) b) a l m = a_conjunction b a (conjunct b l) m
applied_layout (application (constant disjunction) b) a l m = a_disjunction b a (disjunct b l) m
applied_layout (application (constant implication) b) a l m = an_implication b a (condition b l) m
applied_layout (application (free n s) b) a l m = an_application (application (free n s) b) a tt l m
applied_layout (application (bound i) b) a l m = an_application (application (bound i) b) a tt l m
applied_layout (application (abstraction s c) b) a l m = an_application (application (abstraction s c) b) a tt l m
applied_layout (application (application g c) b) a l m = an_application (application (application g c) b) a tt l m
applied_layout (application (constant negation) b) a l m = an_application (application (constant negation) b) a tt l m
applied_layout (application (constant truth) b) a l m = an_application (application (constant truth) b) a tt l m
applied_layout (application (constant falsehood) b) a l m = an_application (application (constant falsehood) b) a tt l m
applied_layout (application (constant (forall q)) b) a l m = an_application (application (constant (forall q)) b) a tt l m
applied_layout (application (constant (exists q)) b) a l m = an_application (application (constant (exists q)) b) a tt l m

pub layout_of : (t : Term) → Layout t
layout_of (free n s) = a_variable n s
layout_of (bound i) = an_index i
layout_of (constant c) = a_constant c
layout_of (abstraction s b) = an_abstraction s b (layout_of b)
layout_of (application f a) = applied_layout f a (layout_of f) (layout_of a)
