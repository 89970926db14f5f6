-- The test of nodes is an equality, and equal nodes are fed to a hasher alike: what an ordered hashed set asks of its items.
use Rattle.std.specs.Prelude.{ℕ, zero, suc, Bool, true, false, eqb, ◌&&◌, ◌≡◌, refl}
use mathlib.Core.Path.{ap, ap₂, sym, ◌∙◌}
use mathlib.Core.Bool.{true≢false}
use borrow.Author.Tests.{eqb-true, eq-eqb}
use Rattle.std.specs.Cmp.{IsEquivalence, both_ways}
use Rattle.hol_terms.specs.Terms.{SimpleType, Constant, negation, conjunction, disjunction, implication, truth, falsehood, forall, exists}
use Rattle.hol_terms.specs.Computed.{same_type, same_name}
use Rattle.hol_terms.proofs.Same.{same_type_refl, same_type_only, same_name_refl, same_name_only}
use Rattle.terms_db.specs.declared.nodes.Node.{Node}
use Rattle.terms_db.specs.Nodes.{TermNode, node_free, node_bound, node_constant, node_application, node_abstraction, plain_node, same_node, same_constant, constant_number, quantifier_type, node_writes}

-- both of two tests

both : (x y : Bool) → (x && y) ≡ true → (x ≡ true) × (y ≡ true)
both true true e = (refl, refl)
both true false e = absurd (true≢false (sym e))
both false y e = absurd (true≢false (sym e))

both_same : (x y : Bool) → x ≡ true → y ≡ true → (x && y) ≡ true
both_same x y p q = ap₂ ◌&&◌ p q

number_same : (n : ℕ) → eqb n n ≡ true
number_same n = eq-eqb n n refl

-- constants by their numbers and types

abbrev constant_at : ℕ → SimpleType → Constant
constant_at zero s = negation
constant_at (suc zero) s = conjunction
constant_at (suc (suc zero)) s = disjunction
constant_at (suc (suc (suc zero))) s = implication
constant_at (suc (suc (suc (suc zero)))) s = truth
constant_at (suc (suc (suc (suc (suc zero))))) s = falsehood
constant_at (suc (suc (suc (suc (suc (suc zero)))))) s = forall s
constant_at (suc (suc (suc (suc (suc (suc (suc n))))))) s = exists s

constant_is : (c : Constant) → constant_at (constant_number c) (quantifier_type c) ≡ c
constant_is negation = refl
constant_is conjunction = refl
constant_is disjunction = refl
constant_is implication = refl
constant_is truth = refl
constant_is falsehood = refl
constant_is (forall s) = refl
constant_is (exists s) = refl

pub same_constant_only : (c d : Constant) → same_constant c d ≡ true → c ≡ d
same_constant_only c d e =
    let p = both (eqb (constant_number c) (constant_number d)) (same_type (quantifier_type c) (quantifier_type d)) e in
    sym (constant_is c) ∙ (ap₂ constant_at (eqb-true _ _ p.0) (same_type_only _ _ p.1) ∙ constant_is d)

pub same_constant_refl : (c : Constant) → same_constant c c ≡ true
same_constant_refl c = both_same _ _ (number_same (constant_number c)) (same_type_refl (quantifier_type c))

-- nodes

pub same_node_only : (n m : TermNode) → same_node n m ≡ true → n ≡ m
same_node_only (node_free n s) (node_free m r) e = let p = both (same_name n m) (same_type s r) e in ap₂ node_free (same_name_only n m p.0) (same_type_only s r p.1)
same_node_only (node_bound i) (node_bound j) e = ap node_bound (eqb-true i j e)
same_node_only (node_constant c) (node_constant d) e = ap node_constant (same_constant_only c d e)
same_node_only (node_application f a) (node_application g b) e = let p = both (eqb f g) (eqb a b) e in ap₂ node_application (eqb-true f g p.0) (eqb-true a b p.1)
same_node_only (node_abstraction s b) (node_abstraction r c) e = let p = both (same_type s r) (eqb b c) e in ap₂ node_abstraction (same_type_only s r p.0) (eqb-true b c p.1)
same_node_only (node_free x0 x1) (node_bound y0) e = absurd (true≢false (sym e))
same_node_only (node_free x0 x1) (node_constant y0) e = absurd (true≢false (sym e))
same_node_only (node_free x0 x1) (node_application y0 y1) e = absurd (true≢false (sym e))
same_node_only (node_free x0 x1) (node_abstraction y0 y1) e = absurd (true≢false (sym e))
same_node_only (node_bound x0) (node_free y0 y1) e = absurd (true≢false (sym e))
same_node_only (node_bound x0) (node_constant y0) e = absurd (true≢false (sym e))
same_node_only (node_bound x0) (node_application y0 y1) e = absurd (true≢false (sym e))
same_node_only (node_bound x0) (node_abstraction y0 y1) e = absurd (true≢false (sym e))
same_node_only (node_constant x0) (node_free y0 y1) e = absurd (true≢false (sym e))
same_node_only (node_constant x0) (node_bound y0) e = absurd (true≢false (sym e))
same_node_only (node_constant x0) (node_application y0 y1) e = absurd (true≢false (sym e))
same_node_only (node_constant x0) (node_abstraction y0 y1) e = absurd (true≢false (sym e))
same_node_only (node_application x0 x1) (node_free y0 y1) e = absurd (true≢false (sym e))
same_node_only (node_application x0 x1) (node_bound y0) e = absurd (true≢false (sym e))
same_node_only (node_application x0 x1) (node_constant y0) e = absurd (true≢false (sym e))
same_node_only (node_application x0 x1) (node_abstraction y0 y1) e = absurd (true≢false (sym e))
same_node_only (node_abstraction x0 x1) (node_free y0 y1) e = absurd (true≢false (sym e))
same_node_only (node_abstraction x0 x1) (node_bound y0) e = absurd (true≢false (sym e))
same_node_only (node_abstraction x0 x1) (node_constant y0) e = absurd (true≢false (sym e))
same_node_only (node_abstraction x0 x1) (node_application y0 y1) e = absurd (true≢false (sym e))

pub same_node_refl : (n : TermNode) → same_node n n ≡ true
same_node_refl (node_free n s) = both_same _ _ (same_name_refl n) (same_type_refl s)
same_node_refl (node_bound i) = number_same i
same_node_refl (node_constant c) = same_constant_refl c
same_node_refl (node_application f a) = both_same _ _ (number_same f) (number_same a)
same_node_refl (node_abstraction s b) = both_same _ _ (same_type_refl s) (number_same b)

same_from : (n m : TermNode) → n ≡ m → same_node n m ≡ true
same_from n m e = ap (same_node n) (sym e) ∙ same_node_refl n

pub same_node_equiv : IsEquivalence same_node
same_node_equiv = record {
  refl = same_node_refl;
  symm = λ n m. both_ways (same_node n m) (same_node m n) (λ e. same_from m n (sym (same_node_only n m e))) (λ e. same_from n m (sym (same_node_only m n e)));
  congr = λ n m o e. ap (λ x. same_node x o) (same_node_only n m e);
}

pub writes_alike : (x y : Node) → same_node (plain_node x) (plain_node y) ≡ true → node_writes (plain_node x) ≡ node_writes (plain_node y)
writes_alike x y same = ap node_writes (same_node_only (plain_node x) (plain_node y) same)
