-- Long normal forms that are found and kept, and those of applied terms.
use Rattle.std.proofs.Common.{ℕ, List, [], Contains, ◌⊎◌, Option, Some, None, Result, Ok, Err, OnOk, IfSome, ◌≡◌, refl, sym, subst, ◌∙◌}
use Rattle.hol_terms.specs.Terms.{SimpleType, Term, abstraction}
use Rattle.hol_terms.specs.Indices.{IsClosed}
use Rattle.hol_conv.specs.NormalForms.{apply_abstractions, normal_form, normal_with}
use Rattle.terms_db.specs.declared.ids.TermId.{TermId}
use Rattle.terms_db.specs.Nodes.{TermNode}
use Rattle.terms_db.specs.Stores.{IsLive, term_at}
use Rattle.beta_eta.specs.Tables.{Entry}
use Rattle.beta_eta.specs.Normals.{AreNormals, IsNormalAt}
use Rattle.beta_eta.proofs.BeyondLoose.{normal_of_closed}
use Rattle.beta_eta.proofs.Growing.{results_with}

pub found_closed : (r : Option TermId) (nodes : List TermNode) (closed loose : List Entry) (t : ℕ) → IsClosed (term_at nodes t) → IfSome r (λ n. Contains closed ((t, 0), n.place))
    → IfSome r (λ n. (types : List SimpleType) → AreNormals [] nodes closed → AreNormals types nodes loose → IsNormalAt types nodes t n.place)
found_closed (Some n) nodes closed loose t is found = λ types normals others.
    let entry = normals ((t, 0), n.place) found in (entry.1, entry.2 ∙ sym (normal_of_closed types (term_at nodes t) is))
found_closed None nodes closed loose t is found = tt

pub kept_closed : {A E : Type 0} (r : Result A E) (nodes : List TermNode) (old new : List Entry) (t n : ℕ) → IsLive nodes t → IsClosed (term_at nodes t)
    → OnOk r ((e : Entry) → Contains new e → Contains old e ⊎ (e ≡ ((t, 0), n)))
    → OnOk r ((types : List SimpleType) → AreNormals [] nodes old → IsNormalAt types nodes t n → AreNormals [] nodes new)
kept_closed (Ok a) nodes old new t n live is only = λ types normals at.
    results_with (λ k x. normal_form [] x) nodes old new t 0 n normals only (live, at.0, at.1 ∙ normal_of_closed types (term_at nodes t) is)
kept_closed (Err e) nodes old new t n live is only = tt

pub kept_loose : {A E : Type 0} (r : Result A E) (nodes : List TermNode) (old new : List Entry) (t n : ℕ) → IsLive nodes t
    → OnOk r ((e : Entry) → Contains new e → Contains old e ⊎ (e ≡ ((t, 0), n)))
    → OnOk r ((types : List SimpleType) → AreNormals types nodes old → IsNormalAt types nodes t n → AreNormals types nodes new)
kept_loose (Ok a) nodes old new t n live only = λ types normals at. results_with (λ k x. normal_form types x) nodes old new t 0 n normals only (live, at.0, at.1)
kept_loose (Err e) nodes old new t n live only = tt

-- an abstraction is normalized before it is applied
pub abstraction_normal : (types : List SimpleType) (t : Term) (s : SimpleType) (b : Term) (rest : List Term) → t ≡ abstraction s b
    → normal_with types t rest ≡ apply_abstractions (normal_form types t) rest
abstraction_normal types t s b rest is =
    let P : Term → Type 0 = λ x. normal_with types x rest ≡ apply_abstractions (normal_form types x) rest in subst P (sym is) refl
