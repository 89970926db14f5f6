-- The rows of the dependency graph, and what their numbers say.
use Rattle.std.proofs.Common.{◌≡◌, ◌+◌, ◌<◌, ℕ, zero, suc, List, [], ◌∷◌, ◌++◌, Bool, true, false, Contains, length, slice_get, slice_index, take, None, Some, Option, refl, sym, ◌∙◌, ap, subst, add-one, arith, inl, inr}
use Rattle.std.proofs.lemmas.List.Elements.{Contains-append_cases, Contains-append_left, Contains-append_right}
use Rattle.hol_terms.specs.Terms.{SimpleType, Term, free, bound, constant, application, abstraction, Variable}
use Rattle.hol_terms.specs.FreeVariables.{IsFree}
use Rattle.hol_terms.specs.Places.{place_of}
use Rattle.hol_terms.proofs.Placing.{place_none, place_there}
use Rattle.expansion_tree.specs.Occurrences.{Occurrence}
use Rattle.expansion_tree.specs.Standing.{Selection}
use Rattle.dependency.specs.Graphs.{IsGraph}
use Rattle.dependency.specs.Nesting.{AreOwners, AreParents, AreSelections, IsDependencyGraph, IsOwner, IsUse}
use Rattle.dependency.specs.Uses.{AreRows, owner_at, uses_of, variables_of}
use Rattle.dependency.proofs.Chains.{edge_to, head_or_tail}
use Rattle.dependency.proofs.Nested.{occurrence_within}

-- a variable of a term whose place has a number
pub record IsUsedAt (variables : List Variable) (owners : List ℕ) (t : Term) (u : ℕ) : Type 0 where
  pub variable : Variable
  pub place : ℕ
  pub is_place : place_of variable variables ≡ Some place
  pub used : IsFree variable.0 variable.1 t
  pub number : u ≡ slice_index owners place

used_at_place : (variables : List Variable) (owners : List ℕ) (n : List ℕ) (s : SimpleType) (u : ℕ) (place : Option ℕ) → place_of (n, s) variables ≡ place → Contains (owner_at owners place) u
    → IsUsedAt variables owners (free n s) u
used_at_place variables owners n s u None e h = absurd (omega (arith, h.1))
used_at_place variables owners n s u (Some k) e h = elim (head_or_tail (slice_index owners k) [] u h) [
  | inl same ↦ record { variable = (n, s); place = k; is_place = e; used = (refl, refl); number = same }
  | inr none ↦ absurd (omega (arith, none.1))
]

pub uses_sound : (variables : List Variable) (owners : List ℕ) (t : Term) (u : ℕ) → Contains (uses_of variables owners t) u → IsUsedAt variables owners t u
uses_sound variables owners (free n s) u h = used_at_place variables owners n s u (place_of (n, s) variables) refl h
uses_sound variables owners (bound i) u h = absurd (omega (arith, h.1))
uses_sound variables owners (constant c) u h = absurd (omega (arith, h.1))
uses_sound variables owners (application f a) u h = elim (Contains-append_cases (uses_of variables owners f) (uses_of variables owners a) u h) [
  | inl left ↦ (let w = uses_sound variables owners f u left in record { variable = w.variable; place = w.place; is_place = w.is_place; used = inl w.used; number = w.number })
  | inr right ↦ (let w = uses_sound variables owners a u right in record { variable = w.variable; place = w.place; is_place = w.is_place; used = inr w.used; number = w.number })
]
uses_sound variables owners (abstraction s b) u h =
    let w = uses_sound variables owners b u h in record { variable = w.variable; place = w.place; is_place = w.is_place; used = w.used; number = w.number }

pub uses_complete : (variables : List Variable) (owners : List ℕ) (t : Term) (n : List ℕ) (s : SimpleType) (k : ℕ) → place_of (n, s) variables ≡ Some k → IsFree n s t
    → Contains (uses_of variables owners t) (slice_index owners k)
uses_complete variables owners (free m r) n s k e h =
    let same : place_of (m, r) variables ≡ Some k = subst (λ (m : List ℕ). place_of (m, r) variables ≡ Some k) h.0 (subst (λ (r : SimpleType). place_of (n, r) variables ≡ Some k) h.1 e) in
    rw same (0, omega arith, refl)
uses_complete variables owners (bound i) n s k e h = absurd h
uses_complete variables owners (constant c) n s k e h = absurd h
uses_complete variables owners (application f a) n s k e (inl h) =
    Contains-append_left (uses_of variables owners f) (uses_of variables owners a) (slice_index owners k) (uses_complete variables owners f n s k e h)
uses_complete variables owners (application f a) n s k e (inr h) =
    Contains-append_right (uses_of variables owners f) (uses_of variables owners a) (slice_index owners k) (uses_complete variables owners a n s k e h)
uses_complete variables owners (abstraction r b) n s k e h = uses_complete variables owners b n s k e h

-- selections and their variables

map_at : (selections : List Selection) (k : ℕ) (v : Variable) → slice_get (variables_of selections) k ≡ Some v → (s : Selection) × (slice_get selections k ≡ Some s) × (s.variable ≡ v)
map_at [] k v e = absurd (cc)
map_at (s ∷ rest) zero v e = (s, refl, (cc))
map_at (s ∷ rest) (suc k) v e = map_at rest k v e

at_map : (selections : List Selection) (k : ℕ) (s : Selection) → slice_get selections k ≡ Some s → Contains (variables_of selections) s.variable
at_map [] k s e = absurd (cc)
at_map (t ∷ rest) zero s e = (0, omega arith, (let same : t ≡ s = cc in ap (λ (x : Selection). x.variable) same))
at_map (t ∷ rest) (suc k) s e = let h = at_map rest k s e in (suc h.0, omega (arith, h.1), h.2)

selection_at : (selections : List Selection) (s : Selection) → Contains selections s → (k : ℕ) × (k < length selections) × (slice_get selections k ≡ Some s)
selection_at [] s h = absurd (omega (arith, h.1))
selection_at (t ∷ rest) s (zero, less, e) = (0, less, ap (λ (x : Selection). Some x) e)
selection_at (t ∷ rest) s (suc k, less, e) = let p = selection_at rest s (k, omega (arith, less), e) in (suc p.0, omega (arith, p.1), p.2)

at_selection : (selections : List Selection) (k : ℕ) (s : Selection) → slice_get selections k ≡ Some s → (k < length selections) × Contains selections s
at_selection [] k s e = absurd (cc)
at_selection (t ∷ rest) zero s e = (omega arith, (0, omega arith, (cc)))
at_selection (t ∷ rest) (suc k) s e = let h = at_selection rest k s e in (omega (arith, h.0), (suc h.1.0, omega (arith, h.1.1), h.1.2))

before_place : (selections : List Selection) (k : ℕ) (v : Variable) → Contains (variables_of (take k selections)) v
    → (i : ℕ) × (i < k) × (s : Selection) × (slice_get selections i ≡ Some s) × (s.variable ≡ v)
before_place selections zero v h = absurd (omega (arith, h.1))
before_place [] (suc k) v h = absurd (omega (arith, h.1))
before_place (t ∷ rest) (suc k) v (zero, less, e) = (0, omega arith, t, refl, e)
before_place (t ∷ rest) (suc k) v (suc i, less, e) = let p = before_place rest k v (i, omega (arith, less), e) in (suc p.0, omega (arith, p.1), p.2, p.3, p.4)

variables_more : (selections : List Selection) (k : ℕ) (s : Selection) → slice_get selections k ≡ Some s → variables_of (take (suc k) selections) ≡ variables_of (take k selections) ++ s.variable ∷ []
variables_more [] k s e = absurd (cc)
variables_more (t ∷ rest) zero s e = let same : t ≡ s = cc in ap (λ (x : Selection). x.variable ∷ []) same
variables_more (t ∷ rest) (suc k) s e = ap (λ (l : List Variable). t.variable ∷ l) (variables_more rest k s e)

-- one more selected variable is put into the set, since it is selected once
pub variable_put : (selections : List Selection) (k : ℕ) (s : Selection) (old new : List Variable) (b : Bool) → AreSelections selections → slice_get selections k ≡ Some s
    → old ≡ variables_of (take k selections) → (b ≡ true → (Contains old s.variable → ⊥) × (new ≡ old ++ s.variable ∷ [])) → (b ≡ false → Contains old s.variable × (new ≡ old))
    → new ≡ variables_of (take (k + 1) selections)
variable_put selections k s old new true h at e put known = rw add-one ((put refl).1 ∙ ap (λ (l : List Variable). l ++ s.variable ∷ []) e ∙ sym (variables_more selections k s at))
variable_put selections k s old new false h at e put known =
    let there : Contains (variables_of (take k selections)) s.variable = rw e at (known refl).0 in
    let p = before_place selections k s.variable there in
    let same = h.once p.0 k p.2 s p.3 at p.4 in
    absurd (omega (arith, same, p.1))

-- the graph

same_selection : (a : Option Selection) (s t : Selection) → a ≡ Some s → a ≡ Some t → s ≡ t
same_selection a s t e f = cc

row_sound : (occurrences : List Occurrence) (selections : List Selection) (owners : List ℕ) (p : Occurrence) (u : ℕ) → length owners ≡ length selections → AreOwners occurrences selections owners
    → Contains (uses_of (variables_of selections) owners p.term) u → IsUse occurrences selections p u
row_sound occurrences selections owners p u many h there =
    let w = uses_sound (variables_of selections) owners p.term u there in
    let s = map_at selections w.place w.variable (rw w.is_place at (place_there w.variable (variables_of selections) (place_of w.variable (variables_of selections)) refl)) in
    let among = at_selection selections w.place s.0 s.1 in
    record {
      selection = s.0;
      selected = among.1;
      used = subst (λ (v : Variable). IsFree v.0 v.1 p.term) (sym s.2) w.used;
      owner = subst (λ (x : ℕ). IsOwner occurrences s.0.node x) (sym w.number) (h w.place s.0 (omega (arith, among.0, many)) s.1);
    }

row_complete : (occurrences : List Occurrence) (selections : List Selection) (owners : List ℕ) (p : Occurrence) (s : Selection) → length owners ≡ length selections → AreSelections selections
    → AreOwners occurrences selections owners → Contains selections s → IsFree s.variable.0 s.variable.1 p.term
    → (u : ℕ) × Contains (uses_of (variables_of selections) owners p.term) u × IsOwner occurrences s.node u
row_complete occurrences selections owners p s many once h among used = go (place_of s.variable (variables_of selections)) refl
  where
    go : (place : Option ℕ) → place_of s.variable (variables_of selections) ≡ place → (u : ℕ) × Contains (uses_of (variables_of selections) owners p.term) u × IsOwner occurrences s.node u
    go None e =
        let at = selection_at selections s among in
        absurd ((place_none s.variable (variables_of selections) None (sym e)).0 refl (at_map selections at.0 s at.2))
    go (Some k) e =
        let at = selection_at selections s among in
        let found = map_at selections k s.variable (place_there s.variable (variables_of selections) (Some k) (sym e)) in
        let same = once.once k at.0 found.0 s found.1 at.2 found.2 in
        let here : slice_get selections k ≡ Some s = rw same at.2 in
        (slice_index owners k, uses_complete (variables_of selections) owners p.term s.variable.0 s.variable.1 k e used, h k s (omega (arith, same, at.1, many)) here)

pub graph_is : (occurrences : List Occurrence) (selections : List Selection) (parents owners : List ℕ) (rows : List (List ℕ)) → AreSelections selections → length parents ≡ length occurrences + 1
    → AreParents occurrences parents → length owners ≡ length selections → AreOwners occurrences selections owners → length rows ≡ length occurrences + 1
    → AreRows occurrences parents (variables_of selections) owners rows → IsDependencyGraph occurrences selections rows
graph_is occurrences selections parents owners rows once known are_parents many are_owners all h = record {
  many = all;
  root = h.root;
  rows = λ f p is_p.
      let number = occurrence_within occurrences f p is_p in
      record {
        parent = slice_index parents f;
        uses = uses_of (variables_of selections) owners p.term;
        row_is = h.each f p (omega (arith, number, all)) is_p;
        is_parent = are_parents f p (omega (arith, number, known)) is_p;
        sound = λ u there. row_sound occurrences selections owners p u many are_owners there;
        complete = λ s among used. row_complete occurrences selections owners p s many once are_owners among used;
      };
}

-- its edges lead from vertices
pub graph_edges : (occurrences : List Occurrence) (selections : List Selection) (graph : List (List ℕ)) → IsDependencyGraph occurrences selections graph → IsGraph graph
graph_edges occurrences selections graph h u v edge =
    let there = edge_to occurrences selections graph u v h edge in
    let number = occurrence_within occurrences v there.0 there.1 in
    let row = h.rows v there.0 there.1 in
    let among : Contains (row.parent ∷ row.uses) u = rw row.row_is at edge in
    elim (head_or_tail row.parent row.uses u among) [
      | inl same ↦ omega (arith, same, row.is_parent.within, number, h.many)
      | inr there ↦ (let used = row.sound u there in omega (arith, used.owner.within, h.many))
    ]
