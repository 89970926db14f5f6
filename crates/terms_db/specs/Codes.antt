-- A code of nodes, by which a type whose model holds them tells its values apart.
use Rattle.std.specs.Prelude.{ℕ, zero, suc, ◌≡◌, refl}
use mathlib.Core.Path.{ap, ap₂}
use package.base.Stored.{Gv, gnil, gnum, gcons, Coded}
use denote.Struct.Codes.{itself, code_by}
use Rattle.hol_terms.specs.Codes.{name_to, name_from, name_back, type_to, type_from, type_back, term_to, term_from, term_back}
use Rattle.hol_terms.specs.Terms.{Term, constant as constant_term, Constant, negation}
use Rattle.terms_db.specs.Nodes.{TermNode, node_free, node_bound, node_constant, node_application, node_abstraction}

abbrev node_to : TermNode → Gv
node_to (node_bound i) = gnum i
node_to (node_free n s) = gcons (gnum 0) (gcons (name_to n) (type_to s))
node_to (node_constant c) = gcons (gnum 1) (term_to (constant_term c))
node_to (node_application f a) = gcons (gnum 2) (gcons (gnum f) (gnum a))
node_to (node_abstraction s b) = gcons (gnum 3) (gcons (type_to s) (gnum b))

abbrev number_from : Gv → ℕ
number_from (gnum n) = n
number_from _ = 0

abbrev first_from : Gv → Gv
first_from (gcons a b) = a
first_from _ = gnil

abbrev second_from : Gv → Gv
second_from (gcons a b) = b
second_from _ = gnil

abbrev constant_of : Term → Constant
constant_of (constant_term c) = c
constant_of _ = negation

abbrev parts_from : ℕ → Gv → TermNode
parts_from zero x = node_free (name_from (first_from x)) (type_from (second_from x))
parts_from (suc zero) x = node_constant (constant_of (term_from x))
parts_from (suc (suc zero)) x = node_application (number_from (first_from x)) (number_from (second_from x))
parts_from (suc (suc (suc n))) x = node_abstraction (type_from (first_from x)) (number_from (second_from x))

abbrev node_from : Gv → TermNode
node_from gnil = node_bound 0
node_from (gnum i) = node_bound i
node_from (gcons kind x) = parts_from (number_from kind) x

pub node_back : (n : TermNode) → node_from (node_to n) ≡ n
node_back (node_bound i) = refl
node_back (node_free n s) = ap₂ node_free (name_back n) (type_back s)
node_back (node_constant c) = ap (λ t. node_constant (constant_of t)) (term_back (constant_term c))
node_back (node_application f a) = refl
node_back (node_abstraction s b) = ap (λ r. node_abstraction r b) (type_back s)

abbrev pub node_code : Coded TermNode
node_code = code_by Gv itself node_to node_from node_back
