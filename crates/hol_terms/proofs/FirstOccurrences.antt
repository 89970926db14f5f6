-- The list of free variables has each once, in the order of first occurrence.
use Rattle.std.proofs.Common.{◌≡◌, ◌≢◌, inl, inr, List, [], ◌∷◌, ◌++◌, Bool, true, false, cond, not, refl, ap, subst, arith, get_or}
use Rattle.std.specs.Prelude.{All, AllPairs}
use Rattle.std.proofs.lemmas.List.Elements.{All-cons, All-nil}
use Rattle.std.proofs.lemmas.List.Kept.{AllPairs-cons, AllPairs-filter}
use Rattle.hol_terms.specs.Terms.{Term, Variable}
use Rattle.hol_terms.specs.Computed.{same_variable}
use Rattle.hol_terms.specs.FreeVariables.{without, first_occurrences, free_variables_of, occurrences, StandsFirst}
use Rattle.hol_terms.proofs.Same.{same_variable_refl}
use Rattle.hol_terms.proofs.FreeLaws.{contains_stands, stands_contains}

-- the list without a variable has only others
others : (v : Variable) (xs : List Variable) → All (λ w. v ≢ w) (without v xs)
others v [] = All-nil (λ w. v ≢ w)
others v (x ∷ xs) = by_test (same_variable v x) refl (others v xs)
  where
    by_test : (b : Bool) → same_variable v x ≡ b → All (λ w. v ≢ w) (without v xs) → All (λ w. v ≢ w) (cond (not b) (x ∷ without v xs) (without v xs))
    by_test true e rest = rest
    by_test false e rest = All-cons (λ w. v ≢ w) x (without v xs) (λ same. let y : same_variable v x ≡ true = subst (λ (w : Variable). same_variable v w ≡ true) same (same_variable_refl v) in cc) rest

each_once : (xs : List Variable) → AllPairs (λ v w. v ≢ w) (first_occurrences xs)
each_once [] = λ i j d less within. absurd (omega arith)
each_once (x ∷ xs) =
    AllPairs-cons (λ v w. v ≢ w) x (without x (first_occurrences xs)) (others x (first_occurrences xs))
    (AllPairs-filter (λ v w. v ≢ w) (λ w. not (same_variable x w)) (first_occurrences xs) (each_once xs))

-- the first variable of a list stands there before any other
at_front : (x w : Variable) (xs : List Variable) → x ≢ w → StandsFirst (x ∷ xs) x w
at_front x w xs other = ([], xs, refl, λ h. elim (contains_stands w (x ∷ []) h) [ inl e ↦ other e | inr none ↦ absurd none ])

-- and a further one in front, which is another than the second of the two, changes nothing
behind : (x v w : Variable) (xs : List Variable) → x ≢ w → StandsFirst xs v w → StandsFirst (x ∷ xs) v w
behind x v w xs other (before, after, e, none) = (
  x ∷ before,
  after,
  ap (λ (l : List Variable). x ∷ l) e,
  λ h. elim (contains_stands w (x ∷ (before ++ v ∷ [])) h) [ inl same ↦ other same | inr there ↦ none (stands_contains w (before ++ v ∷ []) there) ],
)

each_in_order : (xs : List Variable) → AllPairs (StandsFirst xs) (first_occurrences xs)
each_in_order [] = λ i j d less within. absurd (omega arith)
each_in_order (x ∷ xs) =
    let rest = without x (first_occurrences xs) in
    let apart = others x (first_occurrences xs) in
    let kept = AllPairs-filter (StandsFirst xs) (λ w. not (same_variable x w)) (first_occurrences xs) (each_in_order xs) in
    AllPairs-cons (StandsFirst (x ∷ xs)) x rest (λ k d within. at_front x (get_or rest k d) xs (apart k d within))
    (λ i j d less within. behind x (get_or rest i d) (get_or rest j d) xs (apart j d within) (kept i j d less within))

pub once : (t : Term) → AllPairs (λ v w. v ≢ w) (free_variables_of t)
once t = each_once (occurrences t)

pub in_order : (t : Term) → AllPairs (StandsFirst (occurrences t)) (free_variables_of t)
in_order t = each_in_order (occurrences t)
