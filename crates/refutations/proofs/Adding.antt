-- The term of a branch is added to those that were found.
use Rattle.std.proofs.Common.{◌≡◌, ◌≤◌, ℕ, ◌+◌, List, [], ◌∷◌, ◌++◌, map, Bool, nat_eq, refl, sym, ◌∙◌, subst, ap, ap₂, arith, inl, inr, append_assoc}
use Rattle.std.specs.List.{AllByRecursion}
use Rattle.std.proofs.lemmas.Bool.{ne_eqb}
use Rattle.std.proofs.lemmas.List.{map-append}
use Rattle.indexmap.specs.IndexMap.{insert_entry}
use Rattle.hol_terms.specs.Terms.{Term}
use Rattle.expansion_tree.specs.Trees.{ExpansionTree, ExpansionBranches, branch}
use Rattle.refutations.specs.declared.nodes.Place.{Place}
use Rattle.refutations.specs.declared.nodes.Front.{Front}
use Rattle.refutations.specs.Opens.{Open, at_term, node_of, open_term, place_past, place_in_branch, terms_below, occurrence_total, branch_occurrence_total}
use Rattle.refutations.proofs.Descending.{node_below}
use Rattle.refutations.proofs.Finding.{HasKey, IsOutside}
use Rattle.refutations.proofs.Replacing.{all_joined, all_weaker}

-- the entries are the first ones and those of terms that, with the terms of branches, are the whole
abbrev pub AreFound : List (ℕ × Front) → List (ℕ × Front) → Bool → ℕ → Place → ExpansionBranches → List Open → Type 0
AreFound first entries p line place bs whole =
    (more : List (ℕ × Front)) × (entries ≡ first ++ more) × (map (λ (entry : ℕ × Front). open_term entry.1) more ++ terms_below p line place bs ≡ whole) × AllByRecursion HasKey more

-- an entry of a number that no entry has goes last
insert_last : (k : ℕ) (f : Front) (entries : List (ℕ × Front)) → AllByRecursion (λ (entry : ℕ × Front). (entry.0 ≡ k) → ⊥) entries → insert_entry nat_eq entries k f ≡ entries ++ (k, f) ∷ []
insert_last k f [] none = refl
insert_last k f (x ∷ entries) none = rw (ne_eqb k x.0 (λ same. none.0 (sym same)), insert_last k f entries none.1) refl

-- the number of the first occurrence isn't outside
not_first : (first many : ℕ) → 1 ≤ many → (entry : ℕ × Front) → IsOutside first many entry → (entry.0 ≡ first + 1) → ⊥
not_first first many some entry outside same = elim outside [ inl low ↦ omega (arith, low, same) | inr far ↦ omega (arith, far, same, some) ]

module _ (p : Bool) (line : ℕ) (place here next : Place) (u : Term) (t : ExpansionTree) (bs : ExpansionBranches) (f : Front) (entries new : List (ℕ × Front))
    (here_is : here ≡ place_in_branch place) (next_is : next ≡ place_past t here)
    (unfound : AllByRecursion (IsOutside place.occurrences (branch_occurrence_total (branch u t bs))) entries) (new_is : new ≡ insert_entry nat_eq entries here.occurrences f) where
  added_last : new ≡ entries ++ (here.occurrences, f) ∷ []
  added_last =
      let number : here.occurrences ≡ place.occurrences + 1 = ap (λ (q : Place). q.occurrences) here_is in
      new_is ∙ insert_last here.occurrences f entries
      (all_weaker (IsOutside place.occurrences (branch_occurrence_total (branch u t bs))) (λ (entry : ℕ × Front). (entry.0 ≡ here.occurrences) → ⊥)
      (λ entry outside same. not_first place.occurrences (branch_occurrence_total (branch u t bs)) (omega arith) entry outside (same ∙ number)) entries unfound)

  -- the term of a branch was found
  pub term_added : (first : List (ℕ × Front)) (whole : List Open) → open_term f ≡ at_term u (node_below p t line here) → AreFound first entries p line place (branch u t bs) whole
      → AreFound first new p line next bs whole
  term_added first whole is found =
      let open_terms : List (ℕ × Front) → List Open = map (λ (entry : ℕ × Front). open_term entry.1) in
      let one : List (ℕ × Front) = (here.occurrences, f) ∷ [] in
      let F : Place → List Open = λ q. at_term u (node_below p t line q) ∷ terms_below p line (place_past t q) bs in
      let rest : open_term f ∷ terms_below p line next bs ≡ terms_below p line place (branch u t bs) = ap₂ (λ (o : Open) (q : Place). o ∷ terms_below p line q bs) is next_is ∙ ap F here_is in (
        found.0 ++ one,
        added_last ∙ ap (λ (es : List (ℕ × Front)). es ++ one) found.1 ∙ append_assoc first found.0 one,
        ap (λ (os : List Open). os ++ terms_below p line next bs) (map-append (λ (entry : ℕ × Front). open_term entry.1) found.0 one)
            ∙ append_assoc (open_terms found.0) (open_term f ∷ []) (terms_below p line next bs)
            ∙ ap (λ (os : List Open). open_terms found.0 ++ os) rest ∙ found.2,
        all_joined HasKey found.0 one found.3 (ap (λ (o : Open). (node_of o).place.occurrences) is, tt),
      )

  -- and none of those of the branches after it
  pub rest_unfound : AllByRecursion (IsOutside next.occurrences (branch_occurrence_total bs)) new
  rest_unfound =
      let number : here.occurrences ≡ place.occurrences + 1 = ap (λ (q : Place). q.occurrences) here_is in
      let past : next.occurrences ≡ here.occurrences + occurrence_total t = ap (λ (q : Place). q.occurrences) next_is in
      subst (AllByRecursion (IsOutside next.occurrences (branch_occurrence_total bs))) (sym added_last)
      (all_joined (IsOutside next.occurrences (branch_occurrence_total bs)) entries ((here.occurrences, f) ∷ [])
      (all_weaker (IsOutside place.occurrences (branch_occurrence_total (branch u t bs))) (IsOutside next.occurrences (branch_occurrence_total bs))
      (λ entry outside. elim outside [ inl low ↦ inl (omega (arith, low, number, past)) | inr far ↦ inr (omega (arith, far, number, past)) ]) entries unfound)
      (inl (omega (arith, past)), tt))
