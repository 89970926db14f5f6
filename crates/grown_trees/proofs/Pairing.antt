-- Two trees without a branch that stand at formulas which differ in names alone have the same nodes, and select variables of the same types.
use Rattle.std.proofs.Common.{◌≡◌, ℕ, List, [], ◌∷◌, ◌++◌, Bool, true, false, not, map, refl, sym, ap, ap₂, subst, ◌∙◌, arith}
use Rattle.std.specs.List.{AllByRecursion}
use Rattle.std.proofs.lemmas.List.{map-append}
use Rattle.hol_terms.specs.Terms.{SimpleType, Term, free, bound, constant, application, abstraction, Constant, negation, conjunction, disjunction, implication, truth, falsehood, forall, exists, Variable}
use Rattle.hol_terms.specs.Indices.{instance_of}
use Rattle.expansion_tree.specs.declared.trees.Op.{Op}
use Rattle.expansion_tree.specs.declared.trees.Op.TheVariants.{And, Or, Imp}
use Rattle.expansion_tree.specs.Budgets.{HasVariableHead}
use Rattle.expansion_tree.specs.Standing.{Standing, at_leaf, at_constant, at_negation, at_connective, at_selection, at_expansion, none_standing, left_polarity, truth_value, negation_of, compound_of, connective, quantified, selecting, expanding, selected_variables, branch_selected_variables}
use Rattle.grown_trees.specs.Growths.{IsBare}
use Rattle.grown_trees.proofs.Every.{every_both}
use Rattle.grown_trees.proofs.Fitting.{Fits}
use Rattle.grown_trees.proofs.Renaming.{NewNames, rename, rename-put}
use Rattle.grown_trees.proofs.Swapping.{HaveOneType, left_one, right_one}

-- the trees have the same nodes, and their selected variables are these pairs
abbrev pub Paired : Standing → Standing → List (Variable × Variable) → Type 0
Paired (at_leaf p a) c qs = (d : Term) × (c ≡ at_leaf p d) × (qs ≡ [])
Paired (at_constant p v) c qs = (w : Bool) × (c ≡ at_constant p w) × (qs ≡ [])
Paired (at_negation n) c qs = (m : Standing) × Paired n m qs × (c ≡ at_negation m)
Paired (at_connective op p m n) c qs =
    (k : Standing) × (l : Standing) × (xs : List (Variable × Variable)) × (ys : List (Variable × Variable)) × Paired m k xs × Paired n l ys
    × (c ≡ at_connective op p k l) × (qs ≡ xs ++ ys)
Paired (at_selection v n) c qs =
    (w : Variable) × (m : Standing) × (xs : List (Variable × Variable)) × (v.1 ≡ w.1) × Paired n m xs × (c ≡ at_selection w m) × (qs ≡ (v, w) ∷ xs)
Paired (at_expansion p ns) c qs = (ns ≡ none_standing) × (c ≡ at_expansion p none_standing) × (qs ≡ [])

pub paired_types : (b c : Standing) (qs : List (Variable × Variable)) → Paired b c qs → AllByRecursion HaveOneType qs
paired_types (at_leaf p a) c qs h = subst (AllByRecursion HaveOneType) (sym h.2) tt
paired_types (at_constant p v) c qs h = subst (AllByRecursion HaveOneType) (sym h.2) tt
paired_types (at_negation n) c qs h = paired_types n h.0 qs h.1
paired_types (at_connective op p m n) c qs h =
    subst (AllByRecursion HaveOneType) (sym h.7) (every_both HaveOneType h.2 h.3 (paired_types m h.0 h.2 h.4) (paired_types n h.1 h.3 h.5))
paired_types (at_selection v n) c qs h = subst (AllByRecursion HaveOneType) (sym h.6) (h.3, paired_types n h.1 h.2 h.4)
paired_types (at_expansion p ns) c qs h = subst (AllByRecursion HaveOneType) (sym h.2) tt

pub paired_left : (b c : Standing) (qs : List (Variable × Variable)) → Paired b c qs → map left_one qs ≡ selected_variables b
paired_left (at_leaf p a) c qs h = ap (map left_one) h.2
paired_left (at_constant p v) c qs h = ap (map left_one) h.2
paired_left (at_negation n) c qs h = paired_left n h.0 qs h.1
paired_left (at_connective op p m n) c qs h =
    ap (map left_one) h.7 ∙ map-append left_one h.2 h.3 ∙ ap₂ (λ (x y : List Variable). x ++ y) (paired_left m h.0 h.2 h.4) (paired_left n h.1 h.3 h.5)
paired_left (at_selection v n) c qs h = ap (map left_one) h.6 ∙ ap (λ (l : List Variable). v ∷ l) (paired_left n h.1 h.2 h.4)
paired_left (at_expansion p ns) c qs h = ap (map left_one) h.2 ∙ ap branch_selected_variables (sym h.0)

pub paired_right : (b c : Standing) (qs : List (Variable × Variable)) → Paired b c qs → map right_one qs ≡ selected_variables c
paired_right (at_leaf p a) c qs h = ap (map right_one) h.2 ∙ ap selected_variables (sym h.1)
paired_right (at_constant p v) c qs h = ap (map right_one) h.2 ∙ ap selected_variables (sym h.1)
paired_right (at_negation n) c qs h = paired_right n h.0 qs h.1 ∙ ap selected_variables (sym h.2)
paired_right (at_connective op p m n) c qs h =
    ap (map right_one) h.7 ∙ map-append right_one h.2 h.3 ∙ ap₂ (λ (x y : List Variable). x ++ y) (paired_right m h.0 h.2 h.4) (paired_right n h.1 h.3 h.5)
    ∙ ap selected_variables (sym h.6)
paired_right (at_selection v n) c qs h =
    ap (map right_one) h.6 ∙ ap (λ (l : List Variable). h.0 ∷ l) (paired_right n h.1 h.2 h.4) ∙ ap selected_variables (sym h.5)
paired_right (at_expansion p ns) c qs h = ap (map right_one) h.2 ∙ ap selected_variables (sym h.1)

-- what node stands at a formula: a number for each kind

abbrev tag : Standing → ℕ
tag (at_leaf p a) = 0
tag (at_constant p v) = 1
tag (at_negation n) = 2
tag (at_connective op p m n) = 3
tag (at_selection v n) = 4
tag (at_expansion p ns) = 5

abbrev constant_tag : Bool → Constant → ℕ
constant_tag p truth = 1
constant_tag p falsehood = 1
constant_tag p negation = 2
constant_tag p conjunction = 3
constant_tag p disjunction = 3
constant_tag p implication = 3
constant_tag true (forall s) = 4
constant_tag false (forall s) = 5
constant_tag true (exists s) = 5
constant_tag false (exists s) = 4

abbrev formula_tag : Bool → Term → ℕ
formula_tag p (free n s) = 0
formula_tag p (bound i) = 6
formula_tag p (constant c) = constant_tag p c
formula_tag p (application f a) = formula_tag p f
formula_tag p (abstraction s b) = 6

tag-rename : (f : NewNames) (p : Bool) (t : Term) → formula_tag p (rename f t) ≡ formula_tag p t
tag-rename f p (free n s) = refl
tag-rename f p (bound i) = refl
tag-rename f p (constant c) = refl
tag-rename f p (application g a) = tag-rename f p g
tag-rename f p (abstraction s b) = refl

leaf_tag : (p : Bool) (t : Term) → HasVariableHead t → formula_tag p t ≡ tag (at_leaf p t)
leaf_tag p (free n s) h = refl
leaf_tag p (bound i) h = absurd h
leaf_tag p (constant c) h = absurd h
leaf_tag p (application f a) h = leaf_tag p f h
leaf_tag p (abstraction s b) h = absurd h

truth_tag : (p v : Bool) → formula_tag p (truth_value v) ≡ tag (at_constant p v)
truth_tag p true = refl
truth_tag p false = refl

connective_tag : (p : Bool) (op : Op) (m n : Standing) → constant_tag p (connective op) ≡ tag (at_connective op p m n)
connective_tag p And m n = refl
connective_tag p Or m n = refl
connective_tag p Imp m n = refl

selecting_tag : (p : Bool) (ty : SimpleType) (v : Variable) (n : Standing) → constant_tag p (selecting p ty) ≡ tag (at_selection v n)
selecting_tag true ty v n = refl
selecting_tag false ty v n = refl

expanding_tag : (p : Bool) (ty : SimpleType) → constant_tag p (expanding p ty) ≡ tag (at_expansion p none_standing)
expanding_tag true ty = refl
expanding_tag false ty = refl

bare_tag : (s : Standing) (p : Bool) (a : Term) → Fits p a s → IsBare s → formula_tag p a ≡ tag s
bare_tag (at_leaf q b) p a h bare = ap (formula_tag p) (sym h.1) ∙ leaf_tag p b bare
bare_tag (at_constant q v) p a h bare = ap (formula_tag p) h.1 ∙ truth_tag p v
bare_tag (at_negation n) p a h bare = ap (formula_tag p) h.1
bare_tag (at_connective op q m n) p a h bare = ap (formula_tag p) h.3 ∙ connective_tag p op m n
bare_tag (at_selection v n) p a h bare = ap (formula_tag p) h.1 ∙ selecting_tag p v.1 v n
bare_tag (at_expansion q ns) p a h bare = ap (formula_tag p) h.3 ∙ expanding_tag p h.1

-- no names
abbrev blank : NewNames
blank n s = []

-- the formulas differ in names alone
abbrev pub AreNamesakes : Term → Term → Type 0
AreNamesakes a d = rename blank a ≡ rename blank d

same_tag : (b c : Standing) (p : Bool) (a d : Term) → AreNamesakes a d → Fits p a b → Fits p d c → IsBare b → IsBare c → tag b ≡ tag c
same_tag b c p a d e f r bare other =
    sym (bare_tag b p a f bare) ∙ sym (tag-rename blank p a) ∙ ap (formula_tag p) e ∙ tag-rename blank p d ∙ bare_tag c p d r other

one_connective : (o q : Op) → connective o ≡ connective q → o ≡ q
one_connective And And e = refl
one_connective And Or e = cc
one_connective And Imp e = cc
one_connective Or And e = cc
one_connective Or Or e = refl
one_connective Or Imp e = cc
one_connective Imp And e = cc
one_connective Imp Or e = cc
one_connective Imp Imp e = refl

pub pair_up : (b c : Standing) (p : Bool) (a d : Term) → tag b ≡ tag c → AreNamesakes a d → Fits p a b → Fits p d c → IsBare b → IsBare c → (qs : List (Variable × Variable)) × Paired b c qs
pair_up (at_leaf q x) (at_leaf r y) p a d t e f g bare other = ([], (y, ap (λ (r : Bool). at_leaf r y) (g.0 ∙ sym f.0), refl))
pair_up (at_constant q v) (at_constant r w) p a d t e f g bare other = ([], (w, ap (λ (r : Bool). at_constant r w) (g.0 ∙ sym f.0), refl))
pair_up (at_negation n) (at_negation m) p a d t e f g bare other =
    let whole : negation_of (rename blank f.0) ≡ negation_of (rename blank g.0) = ap (rename blank) (sym f.1) ∙ e ∙ ap (rename blank) g.1 in
    let inside : AreNamesakes f.0 g.0 = cc in
    let rest = pair_up n m (not p) f.0 g.0 (same_tag n m (not p) f.0 g.0 inside f.2 g.2 bare other) inside f.2 g.2 bare other in
    (rest.0, (m, rest.1, refl))
pair_up (at_connective op q m n) (at_connective o r k l) p a d t e f g bare other =
    let whole : compound_of op (rename blank f.1) (rename blank f.2) ≡ compound_of o (rename blank g.1) (rename blank g.2) = ap (rename blank) (sym f.3) ∙ e ∙ ap (rename blank) g.3 in
    let left : AreNamesakes f.1 g.1 = cc in
    let right : AreNamesakes f.2 g.2 = cc in
    let words : connective o ≡ connective op = cc in
    let one : o ≡ op = one_connective o op words in
    let fits : Fits (left_polarity op p) g.1 k = subst (λ (o : Op). Fits (left_polarity o p) g.1 k) one g.4 in
    let first = pair_up m k (left_polarity op p) f.1 g.1 (same_tag m k (left_polarity op p) f.1 g.1 left f.4 fits bare.0 other.0) left f.4 fits bare.0 other.0 in
    let second = pair_up n l p f.2 g.2 (same_tag n l p f.2 g.2 right f.5 g.5 bare.1 other.1) right f.5 g.5 bare.1 other.1 in
    (first.0 ++ second.0, (k, l, first.0, second.0, first.1, second.1, ap₂ (λ (o : Op) (r : Bool). at_connective o r k l) one (g.0 ∙ sym f.0), refl))
pair_up (at_selection v n) (at_selection w m) p a d t e f g bare other =
    let whole : quantified (selecting p v.1) v.1 (rename blank f.0) ≡ quantified (selecting p w.1) w.1 (rename blank g.0) = ap (rename blank) (sym f.1) ∙ e ∙ ap (rename blank) g.1 in
    let body : AreNamesakes f.0 g.0 = cc in
    let ty : v.1 ≡ w.1 = cc in
    let inside : AreNamesakes (instance_of f.0 (free v.0 v.1)) (instance_of g.0 (free w.0 w.1)) =
    rename-put blank 0 (free v.0 v.1) f.0 ∙ ap₂ (λ (b : Term) (s : SimpleType). instance_of b (free [] s)) body ty ∙ sym (rename-put blank 0 (free w.0 w.1) g.0) in
    let x : Term = instance_of f.0 (free v.0 v.1) in
    let y : Term = instance_of g.0 (free w.0 w.1) in
    let rest = pair_up n m p x y (same_tag n m p x y inside f.2 g.2 bare other) inside f.2 g.2 bare other in
    ((v, w) ∷ rest.0, (w, m, rest.0, ty, rest.1, refl, refl))
pair_up (at_expansion q ns) (at_expansion r ms) p a d t e f g bare other = ([], (bare, ap₂ at_expansion (g.0 ∙ sym f.0) other, refl))
pair_up _ _ p a d t e f g bare other = absurd (omega (arith, t))

-- without the tags
pub paired : (b c : Standing) (p : Bool) (a d : Term) → a ≡ d → Fits p a b → Fits p d c → IsBare b → IsBare c → (qs : List (Variable × Variable)) × Paired b c qs
paired b c p a d e f g bare other = let same = ap (rename blank) e in pair_up b c p a d (same_tag b c p a d same f g bare other) same f g bare other
