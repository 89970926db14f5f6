-- The loops of a search.
use Rattle.std.proofs.Common.{◌≡◌, ◌<◌, ◌≤◌, ◌+◌, ◌-◌, ℕ, List, [], ◌∷◌, ◌++◌, All, Contains, Vec, Global, length, get_or, map, take, refl, sym, ap, subst, ◌∙◌, arith, inl, inr}
use Rattle.std.specs.Prelude.{Option, Some, None, IfNone, IfSome}
use Rattle.std.proofs.lemmas.Bool.{cases_lt}
use Rattle.std.proofs.lemmas.List.{get_or-map, get_or_append_left, length-append, length-map, map_more, map-append, take_all}
use Rattle.std.proofs.lemmas.List.Elements.{All-contains, All-from_recursion, Contains-append_cases}
use Rattle.hol_terms.specs.Terms.{Term}
use Rattle.hol_terms.specs.Typing.{IsFormula}
use Rattle.dependency.proofs.Elements.{first_or_later, none_there}
use Rattle.exp_check.specs.Accepted.{AcceptedProof, IsAccepted, proof_of}
use Rattle.proof_text.specs.Texts.{Proof}
use Rattle.grown_trees.proofs.Every.{every_contained}
use Rattle.tree_growth.specs.Growths.{GrownTree, plain_growth}
use Rattle.tree_growth.specs.declared.growths.Growth.{Growth}
use Rattle.plain_search.specs.Levels.{AreLevels, HasAllGrown, HasGrown, IsCandidate, plain_levels, trees_at}
use Rattle.plain_search.specs.Proofs.{IsLeastProof, IsProofInBudget}
use Rattle.plain_search.specs.Searching.{HasNoLighterProof, HasNoProof, IsProofAmong}
use Rattle.plain_search.specs.Trials.{CanBeMated}
use Rattle.plain_search.proofs.Least.{least_proof, no_proof}
use Rattle.plain_search.proofs.Levelling.{HasNextUpTo, next_levels, one_more_grown, one_more_next}

-- trees tried one after the other

pub one_more_tried : (formula : Term) (cs : List GrownTree) (c : GrownTree) → HasNoProof formula cs → (CanBeMated formula c.0 → ⊥) → HasNoProof formula (cs ++ c ∷ [])
one_more_tried formula cs c h none k there = elim (Contains-append_cases cs (c ∷ []) k there) [
  | inl left ↦ h k left
  | inr right ↦ (elim (first_or_later c [] k right) [ inl same ↦ subst (λ (k : GrownTree). CanBeMated formula k.0 → ⊥) same none | inr later ↦ absurd (none_there k later) ])
]

pub next_tried : (formula : Term) (gs : List Growth) (i : ℕ) (g : Growth) → i < length gs → g ≡ get_or gs i g → HasNoProof formula (map plain_growth (take i gs)) → (CanBeMated formula (plain_growth g).0 → ⊥)
    → HasNoProof formula (map plain_growth (take (i + 1) gs))
next_tried formula gs i g less item h none =
    let more : map plain_growth (take (i + 1) gs) ≡ map plain_growth (take i gs) ++ plain_growth g ∷ [] =
    map_more plain_growth gs i g less ∙ ap (λ (x : Growth). map plain_growth (take i gs) ++ plain_growth x ∷ []) (sym item) in
    subst (HasNoProof formula) (sym more) (one_more_tried formula (map plain_growth (take i gs)) (plain_growth g) h none)

there_at : (gs : List Growth) (i : ℕ) (g : Growth) → i < length gs → g ≡ get_or gs i g → Contains (map plain_growth gs) (plain_growth g)
there_at gs i g less item =
    (i, (let long = length-map gs plain_growth in omega (arith, long, less)), get_or-map plain_growth gs i g (plain_growth g) less ∙ ap plain_growth (sym item))

pub proof_among : (formula : Term) (gs : List Growth) (i : ℕ) (g : Growth) (a : AcceptedProof) → i < length gs → g ≡ get_or gs i g → IsAccepted a → a.fitted.formula ≡ formula → a.fitted.tree ≡ (plain_growth g).0
    → IsProofAmong formula (map plain_growth gs) a
proof_among formula gs i g a less item accepted same tree = record { accepted = accepted; of = same; found = plain_growth g; there = there_at gs i g less item; tree = tree }

pub none_mated : {T : Type 0} → (o : Option T) (P : Type 0) → ((x : T) → o ≡ Some x → ⊥) → IfNone o P → P
none_mated None P none h = h
none_mated (Some a) P none h = absurd (none a refl)

pub all_tried : (formula : Term) (gs : List Growth) (i : ℕ) → length gs ≤ i → HasNoProof formula (map plain_growth (take i gs)) → HasNoProof formula (map plain_growth gs)
all_tried formula gs i enough h = subst (λ (l : List Growth). HasNoProof formula (map plain_growth l)) (take_all i gs enough) h

-- trees grown one after the other

pub trees_appended : (old more new : List Growth) → new ≡ old ++ more → map plain_growth new ≡ map plain_growth old ++ map plain_growth more
trees_appended old more new e = ap (map plain_growth) e ∙ map-append plain_growth old more

pub candidate_at : (formula : Term) (level w : ℕ) (gs : List Growth) (i : ℕ) (g : Growth) → i < length gs → g ≡ get_or gs i g → All (IsCandidate formula level w) (map plain_growth gs) → IsCandidate formula level w (plain_growth g)
candidate_at formula level w gs i g less item all = All-contains (IsCandidate formula level w) (map plain_growth gs) (plain_growth g) all (there_at gs i g less item)

pub next_grown : (formula : Term) (level : ℕ) (gs : List Growth) (i : ℕ) (g : Growth) (weight : ℕ) (old mid new : List GrownTree) (more : List GrownTree) → i < length gs → g ≡ get_or gs i g
    → HasAllGrown formula level (map plain_growth (take i gs)) weight old mid → ((w : ℕ) → IsCandidate formula level w (plain_growth g) → All (IsCandidate formula level (w + weight)) more)
    → HasGrown formula level (plain_growth g) weight more → new ≡ mid ++ more → HasAllGrown formula level (map plain_growth (take (i + 1) gs)) weight old new
next_grown formula level gs i g weight old mid new more less item h candidates grown e =
    let longer : map plain_growth (take (i + 1) gs) ≡ map plain_growth (take i gs) ++ plain_growth g ∷ [] =
    map_more plain_growth gs i g less ∙ ap (λ (x : Growth). map plain_growth (take i gs) ++ plain_growth x ∷ []) (sym item) in
    subst (λ (cs : List GrownTree). HasAllGrown formula level cs weight old new) (sym longer)
    (subst (HasAllGrown formula level (map plain_growth (take i gs) ++ plain_growth g ∷ []) weight old) (sym e)
    (one_more_grown formula level (map plain_growth (take i gs)) (plain_growth g) weight old mid more h candidates grown))

-- lists of trees

abbrev pub row_trees : Vec Growth Global → List GrownTree
row_trees row = map plain_growth row.items

pub trees_of_row : (rows : List (Vec Growth Global)) (i : ℕ) (row : Vec Growth Global) → i < length rows → row ≡ get_or rows i row → trees_at (plain_levels rows) i ≡ map plain_growth row.items
trees_of_row rows i row less item = get_or-map row_trees rows i row [] less ∙ ap row_trees (sym item)

many_levels : (rows : List (Vec Growth Global)) → length (plain_levels rows) ≡ length rows
many_levels rows = length-map rows row_trees

pub row_candidates : (formula : Term) (level : ℕ) (rows : List (Vec Growth Global)) (i : ℕ) (row : Vec Growth Global) → AreLevels formula level (plain_levels rows) → i < length rows → row ≡ get_or rows i row
    → All (IsCandidate formula level i) (map plain_growth row.items)
row_candidates formula level rows i row are less item =
    subst (All (IsCandidate formula level i)) (trees_of_row rows i row less item)
    (All-from_recursion (IsCandidate formula level i) (trees_at (plain_levels rows) i) (every_contained (IsCandidate formula level i) (trees_at (plain_levels rows) i) (λ c among. are.candidates i c among)))

pub next_row : (formula : Term) (level : ℕ) (rows : List (Vec Growth Global)) (i more : ℕ) (row : Vec Growth Global) (es fs : List GrownTree) → AreLevels formula level (plain_levels rows) → i < length rows
    → row ≡ get_or rows i row → more ≡ length rows - i → HasNextUpTo formula level (plain_levels rows) i es → HasAllGrown formula level (map plain_growth row.items) more es fs
    → HasNextUpTo formula level (plain_levels rows) (i + 1) fs
next_row formula level rows i more row es fs are less item rest h all =
    let many = many_levels rows in
    one_more_next formula level (plain_levels rows) i more es fs are (omega (arith, many, less)) (omega (arith, many, rest)) h
    (subst (λ (cs : List GrownTree). HasAllGrown formula level cs more es fs) (sym (trees_of_row rows i row less item)) all)

pub all_rows : (formula : Term) (level : ℕ) (rows : List (Vec Growth Global)) (n : ℕ) (es : List GrownTree) → AreLevels formula level (plain_levels rows) → 0 < length rows → n ≡ length rows
    → HasNextUpTo formula level (plain_levels rows) n es → AreLevels formula level (plain_levels rows ++ es ∷ [])
all_rows formula level rows n es are some end h =
    let many = many_levels rows in
    let last : n ≡ length (plain_levels rows) = omega (arith, many, end) in
    next_levels formula level (plain_levels rows) es are (omega (arith, many, some)) (subst (λ (k : ℕ). HasNextUpTo formula level (plain_levels rows) k es) last h)

-- the whole search

pub levels_pushed : (rows more : List (Vec Growth Global)) (row : Vec Growth Global) → more ≡ rows ++ row ∷ [] → plain_levels more ≡ plain_levels rows ++ map plain_growth row.items ∷ []
levels_pushed rows more row e = ap plain_levels e ∙ map-append row_trees rows (row ∷ [])

pub lighter_tried : (formula : Term) (rows more : List (Vec Growth Global)) (next row : Vec Growth Global) (i : ℕ) → length rows ≡ i + 1 → more ≡ rows ++ next ∷ [] → HasNoLighterProof formula (plain_levels rows) i
    → row ≡ get_or rows i row → HasNoProof formula (map plain_growth row.items) → HasNoLighterProof formula (plain_levels more) (i + 1)
lighter_tried formula rows more next row i many e h item none w less =
    let long = many_levels rows in
    let front : trees_at (plain_levels more) w ≡ trees_at (plain_levels rows) w =
    ap (λ (l : List (List GrownTree)). trees_at l w) (levels_pushed rows more next e) ∙ get_or_append_left (plain_levels rows) (map plain_growth next.items ∷ []) [] w (omega (arith, long, many, less)) in
    subst (HasNoProof formula) (sym front) (elim (cases_lt w i) [
      | inl before ↦ h w before
      | inr last ↦ (
          let same : w ≡ i = omega (arith, less, last) in
          let here : trees_at (plain_levels rows) w ≡ map plain_growth row.items = ap (trees_at (plain_levels rows)) same ∙ trees_of_row rows i row (omega (arith, many)) item in
          subst (HasNoProof formula) (sym here) none)
    ])

pub found_least : (formula : Term) (level most : ℕ) (rows : List (Vec Growth Global)) (i : ℕ) (row : Vec Growth Global) (a : AcceptedProof) → IsFormula formula → AreLevels formula level (plain_levels rows) → length rows ≡ i + 1
    → i ≤ most → HasNoLighterProof formula (plain_levels rows) i → row ≡ get_or rows i row → IsProofAmong formula (map plain_growth row.items) a → IsLeastProof formula most level (proof_of a)
found_least formula level most rows i row a is_formula are many within h item among =
    let long = many_levels rows in
    let here : trees_at (plain_levels rows) i ≡ map plain_growth row.items = trees_of_row rows i row (omega (arith, many)) item in
    least_proof formula level i most (plain_levels rows) among.found (proof_of a) is_formula are (λ w c less there. h w less c there) (subst (λ (l : List GrownTree). Contains l among.found) (sym here) among.there)
    (omega (arith, long, many)) within among.accepted.proof among.of among.tree

pub found_none : (formula : Term) (level most : ℕ) (rows : List (Vec Growth Global)) (row : Vec Growth Global) → IsFormula formula → AreLevels formula level (plain_levels rows) → length rows ≡ most + 1
    → HasNoLighterProof formula (plain_levels rows) most → row ≡ get_or rows most row → HasNoProof formula (map plain_growth row.items) → (p : Proof) → IsProofInBudget formula most level p → ⊥
found_none formula level most rows row is_formula are many h item none p =
    let long = many_levels rows in
    let here : trees_at (plain_levels rows) most ≡ map plain_growth row.items = trees_of_row rows most row (omega (arith, many)) item in
    no_proof formula level most (plain_levels rows) p is_formula are (omega (arith, long, many)) (λ w c less there. elim (cases_lt w most) [
      | inl before ↦ h w before c there
      | inr last ↦ (let same : w ≡ most = omega (arith, less, last) in none c (subst (λ (l : List GrownTree). Contains l c) (ap (trees_at (plain_levels rows)) same ∙ here) there))
    ])

pub pushed_length : (rows more : List (Vec Growth Global)) (row : Vec Growth Global) (i : ℕ) → length rows ≡ i → more ≡ rows ++ row ∷ [] → length more ≡ i + 1
pushed_length rows more row i many e = let long = ap length e ∙ length-append rows (row ∷ []) in omega (arith, long, many)

pub some_weaker : {T : Type 0} → (o : Option T) (P Q : T → Type 0) → ((x : T) → P x → Q x) → IfSome o P → IfSome o Q
some_weaker None P Q f h = tt
some_weaker (Some x) P Q f h = f x h

pub none_weaker : {T : Type 0} → (o : Option T) (P Q : Type 0) → (P → Q) → IfNone o P → IfNone o Q
none_weaker None P Q f h = f h
none_weaker (Some x) P Q f h = tt
