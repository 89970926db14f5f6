-- Heads, and tables of normal forms.
use Rattle.std.specs.Prelude.{ℕ, List, ◌≡◌}
use Rattle.hol_terms.specs.Terms.{SimpleType, Term, free, bound, constant, application, abstraction, truth_type}
use Rattle.hol_terms.specs.Typing.{type_of_constant}
use Rattle.hol_conv.specs.NormalForms.{normal_form, type_of_index}
use Rattle.terms_db.specs.Nodes.{TermNode}
use Rattle.terms_db.specs.Stores.{IsLive, term_at}
use Rattle.beta_eta.specs.Tables.{Entry, AreResults}

-- the type of a head among the abstractions around it; O where the term is no head
abbrev pub head_type : List SimpleType → Term → SimpleType
head_type types (free n s) = s
head_type types (bound i) = type_of_index types i
head_type types (constant c) = type_of_constant c
head_type types (application f a) = truth_type
head_type types (abstraction s b) = truth_type

-- the results are long normal forms, the loose indices having these types; the entries' numbers say nothing
abbrev pub AreNormals : List SimpleType → List TermNode → List Entry → Type 0
AreNormals types nodes entries = AreResults (λ k t. normal_form types t) nodes entries

-- a place n has the long normal form of the term of a place t
abbrev pub IsNormalAt : List SimpleType → List TermNode → ℕ → ℕ → Type 0
IsNormalAt types nodes t n = IsLive nodes n × (term_at nodes n ≡ normal_form types (term_at nodes t))

-- the type of an abstraction's variable; O where the term is none
abbrev pub variable_type : Term → SimpleType
variable_type (abstraction s b) = s
variable_type _ = truth_type
