-- What stays as a store grows, and what the terms of a place are made of.
use Rattle.std.proofs.Common.{ℕ, ◌<◌, ◌≤◌, List, [], ◌∷◌, length, Contains, ◌⊎◌, inl, inr, Result, Ok, Err, IfOk, OnOk, ◌≡◌, refl, ap, ap₂, sym, subst, ◌∙◌, arith}
use Rattle.hol_terms.specs.Terms.{SimpleType, Term, abstraction}
use Rattle.std.specs.declared.alloc.AllocError.{AllocError}
use Rattle.hol_terms.specs.Indices.{IsClosedBelow}
use Rattle.terms_db.specs.Loose.{loose_bound}
use Rattle.terms_db.specs.declared.ids.TermId.{TermId}
use Rattle.terms_db.specs.declared.nodes.Shape.{Shape}
use Rattle.terms_db.specs.declared.nodes.Shape.TheVariants.{Free, Bound, Con as Logical, App, Lam}
use Rattle.terms_db.specs.Nodes.{TermNode, node_application, node_abstraction}
use Rattle.terms_db.specs.Shapes.{HasShape}
use Rattle.terms_db.specs.Stores.{term_at, terms_of, term_of_node, PointsBelow, IsLive, Grows}
use Rattle.terms_db.proofs.StoreLaws.{bound_is_least, grown_term}
use Rattle.beta_eta.specs.Listed.{AreLive, terms_at}
use Rattle.beta_eta.specs.Shapes.{IsMadeOf}
use Rattle.beta_eta.specs.Tables.{Entry, IsResult, AreResults}

-- what a term is made of

pub made_of : (nodes : List TermNode) (i : ℕ) (n : TermNode) (shape : Shape) → PointsBelow i n → term_at nodes i ≡ term_of_node (terms_of nodes) n → HasShape shape n → IsMadeOf nodes i shape
made_of nodes i n Free below is has = (has.0, has.1, is ∙ ap (term_of_node (terms_of nodes)) has.2)
made_of nodes i n (Bound j) below is has = is ∙ ap (term_of_node (terms_of nodes)) has
made_of nodes i n Logical below is has = (has.0, is ∙ ap (term_of_node (terms_of nodes)) has.1)
made_of nodes i n (App f a) below is has =
    let parts : PointsBelow i (node_application f.place a.place) = subst (PointsBelow i) has below in
    (parts.0, parts.1, is ∙ ap (term_of_node (terms_of nodes)) has)
made_of nodes i n (Lam b) below is has =
    let part : PointsBelow i (node_abstraction has.0 b.place) = subst (PointsBelow i) has.1 below in
    (has.0, part, is ∙ ap (term_of_node (terms_of nodes)) has.1)

-- lists of places

pub live_kept : (old new : List TermNode) (places : List ℕ) → Grows old new → AreLive old places → AreLive new places
live_kept old new [] grows live = tt
live_kept old new (i ∷ places) grows live = ((grown_term old new i grows live.0).0, live_kept old new places grows live.1)

pub terms_kept : (old new : List TermNode) (places : List ℕ) → Grows old new → AreLive old places → terms_at new places ≡ terms_at old places
terms_kept old new [] grows live = refl
terms_kept old new (i ∷ places) grows live = ap₂ (λ (t : Term) (ts : List Term). t ∷ ts) (grown_term old new i grows live.0).1 (terms_kept old new places grows live.1)

-- tables

result_kept : (result : ℕ → Term → Term) (old new : List TermNode) (e : Entry) → Grows old new → IsResult result old e → IsResult result new e
result_kept result old new e grows is =
    let t = grown_term old new e.0.0 grows is.0 in
    let r = grown_term old new e.1 grows is.1 in
    (t.0, r.0, r.1 ∙ (is.2 ∙ ap (result e.0.1) (sym t.1)))

pub results_kept : (result : ℕ → Term → Term) (old new : List TermNode) (entries : List Entry) → Grows old new → AreResults result old entries → AreResults result new entries
results_kept result old new entries grows are = λ e contains. result_kept result old new e grows (are e contains)

pub results_with : (result : ℕ → Term → Term) (nodes : List TermNode) (entries more : List Entry) (i k r : ℕ) → AreResults result nodes entries
    → ((e : Entry) → Contains more e → Contains entries e ⊎ (e ≡ ((i, k), r))) → IsResult result nodes ((i, k), r) → AreResults result nodes more
results_with result nodes entries more i k r are only is = λ e contains.
    let P : Entry → Type 0 = λ x. IsResult result nodes x in
    elim (only e contains) [ inl old ↦ are e old | inr new ↦ subst P (sym new) is ]

-- the answers of calls

pub on_ok : {A E : Type 0} (r : Result A E) (P : Type 0) → P → OnOk r P
on_ok (Ok a) P p = p
on_ok (Err e) P p = tt

-- an abstraction like that of a place
pub like_term : (r : Result TermId AllocError) (old new : List TermNode) (t b : ℕ) (s : SimpleType) (c w : Term)
    → IfOk r (λ id. (q : SimpleType) (x : Term) → term_at old t ≡ abstraction q x → term_at new id.place ≡ abstraction q (term_at old b))
    → term_at old t ≡ abstraction s c → abstraction s (term_at old b) ≡ w → IfOk r (λ id. term_at new id.place ≡ w)
like_term (Ok id) old new t b s c w like is same = like s c is ∙ same
like_term (Err e) old new t b s c w like is same = tt

pub closed_by : (t : Term) (k b : ℕ) → b ≡ loose_bound t → b ≤ k → IsClosedBelow k t
closed_by t k b is le = (bound_is_least t k).1 (subst (λ (n : ℕ). n ≤ k) is le)

pub below_live : (nodes : List TermNode) (i k : ℕ) → IsLive nodes i → k < i → IsLive nodes k
below_live nodes i k live below = let l : i < length nodes = live in omega arith
