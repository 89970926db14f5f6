-- A mating that spans makes the deep formula a tautology, and where it holds all good pairs of atoms the converse holds.
use Rattle.std.proofs.Common.{◌≡◌, ℕ, zero, suc, ◌+◌, ◌-◌, ◌<◌, ◌==◌, List, [], ◌∷◌, ◌++◌, Bool, true, false, not, cond, ◌&&◌, ◌||◌, refl, sym, ◌∙◌, ap, subst, arith, ◌↔◌, ◌⊎◌, inl, inr}
use Rattle.std.specs.Prelude.{slice_get, Option, Some, None, IsNone, Result, Ok, Err, IfOk, All, Contains}
use Rattle.std.specs.List.{AllByRecursion}
use Rattle.std.proofs.lemmas.List.Elements.{recursion_from_All, All-from_recursion, Contains-append_left, Contains-append_right, Contains-append_cases, All-get_or}
use Rattle.std.proofs.lemmas.Bool.Decides.{eqb_tells}
use Rattle.std.proofs.lemmas.Option.{slice_get_within, get_or_from_slice_get}
use Rattle.hol_terms.specs.Terms.{Term}
use Rattle.hol_terms.specs.Truth.{Holds, IsAtom, IsTautology}
use Rattle.hol_terms.proofs.Truths.{holds_or_not, atom_holds}
use Rattle.expansion_tree.specs.Standing.{Standing, leaves, paths, deep_formula}
use Rattle.expansion_tree.specs.Fitted.{FittedTree, FitsAs, IsFitted}
use Rattle.vertical_paths.specs.Tautologies.{HasAtoms, HasTautology}
use Rattle.vertical_paths.specs.Matings.{leaf_at, IsGood, HoldsGoodPairs, is_on, is_closed, Spans}
use Rattle.expansion_tree.proofs.Tautologies.{IsAsWanted, SomeLost, TellsLost, standing_polarity, wanted_or_lost, wanted_not_lost}

-- the leaf, where there is one, isn't as wanted under the assignment
abbrev LostAt : List Term → Option (Bool × Term) → Type 0
LostAt l None = Unit {0}
LostAt l (Some leaf) = IsAsWanted l leaf.0 leaf.1 → ⊥

abbrev lost_in : List (Bool × Term) → List Term → ℕ → Type 0
lost_in ls l n = LostAt l (leaf_at ls n)

wanted_decided : (l : List Term) (p : Bool) (a : Term) → IsAsWanted l p a ⊎ (IsAsWanted l p a → ⊥)
wanted_decided l true a = holds_or_not l a
wanted_decided l false a = elim (holds_or_not l a) [ inl h ↦ inr (λ none. none h) | inr none ↦ inl none ]

leaf_at-suc : (ls : List (Bool × Term)) (i : ℕ) → leaf_at ls (suc i) ≡ slice_get ls i
leaf_at-suc ls i = go (suc i == 0) (not_first i) (let y : suc i - 1 ≡ i = omega arith in ap (slice_get ls) y)
  where
    not_first : (i : ℕ) → (suc i == 0) ≡ false
    not_first i = elim (eqb_tells (suc i) 0) [ inl same ↦ (let e : suc i ≡ 0 = same.1 in absurd (omega arith)) | inr other ↦ other.0 ]

    go : (b : Bool) → b ≡ false → slice_get ls (suc i - 1) ≡ slice_get ls i → cond b None (slice_get ls (suc i - 1)) ≡ slice_get ls i
    go true e h = cc
    go false e h = h

leaf_at-next : (ls : List (Bool × Term)) (i : ℕ) → leaf_at ls (1 + i) ≡ slice_get ls i
leaf_at-next ls i = let z : 1 + i ≡ suc i = omega arith in rw z (leaf_at-suc ls i)

leaves_tell : (ls : List (Bool × Term)) (l : List Term) → TellsLost (lost_in ls l) l 1 ls
leaves_tell ls l i leaf e =
    let there : leaf_at ls (1 + i) ≡ Some leaf = leaf_at-next ls i ∙ e in
    let Q : Option (Bool × Term) → Type 0 = λ o. (IsAsWanted l leaf.0 leaf.1 ⊎ LostAt l o) × (LostAt l o → IsAsWanted l leaf.0 leaf.1 → ⊥) in
    subst Q (sym there) (wanted_decided l leaf.0 leaf.1, λ none. none)

-- a lost leaf on a path all of whose leaves are lost
on_lost : (lost : ℕ → Type 0) (path : List ℕ) (n : ℕ) → is_on path n ≡ true → AllByRecursion lost path → lost n
on_lost lost [] n h all = cc
on_lost lost (k ∷ path) n h all = elim (eqb_tells k n) [
  | inl same ↦ subst lost same.1 all.0
  | inr other ↦ let rest : is_on path n ≡ true = sym (ap (λ b. b || is_on path n) other.0) ∙ h in on_lost lost path n rest all.1
]

and_parts : (a b : Bool) → (a && b) ≡ true → (a ≡ true) × (b ≡ true)
and_parts true true h = (refl, refl)
and_parts true false h = cc
and_parts false b h = cc

-- the leaves of a good pair aren't both lost
good_lost : (ls : List (Bool × Term)) (l : List Term) (i j : ℕ) → IsGood ls (i, j) → lost_in ls l i → lost_in ls l j → ⊥
good_lost ls l i j good x y =
    opposite good.0 good.1 (subst (LostAt l) good.2 x) (subst (LostAt l) good.3 y)
  where
    opposite : (p : Bool) (a : Term) → (IsAsWanted l p a → ⊥) → (IsAsWanted l (not p) a → ⊥) → ⊥
    opposite true a f g = g f
    opposite false a f g = f g

-- so a path that holds a good pair has a leaf that isn't lost
closed_lost : (ls : List (Bool × Term)) (l : List Term) (pairs : List (ℕ × ℕ)) (path : List ℕ) → AllByRecursion (IsGood ls) pairs → is_closed pairs path ≡ true → AllByRecursion (lost_in ls l) path → ⊥
closed_lost ls l [] path good h all = cc
closed_lost ls l (pair ∷ pairs) path good h all = go (is_on path pair.0 && is_on path pair.1) refl (λ later. closed_lost ls l pairs path good.1 later all)
  where
    go : (b : Bool) → (is_on path pair.0 && is_on path pair.1) ≡ b → (is_closed pairs path ≡ true → ⊥) → ⊥
    go true e rest =
        let both = and_parts (is_on path pair.0) (is_on path pair.1) e in
        good_lost ls l pair.0 pair.1 good.0 (on_lost (lost_in ls l) path pair.0 both.0 all) (on_lost (lost_in ls l) path pair.1 both.1 all)
    go false e rest = rest (sym (ap (λ b. b || is_closed pairs path) e) ∙ h)

spanned_lost : (ls : List (Bool × Term)) (l : List Term) (pairs : List (ℕ × ℕ)) (ps : List (List ℕ)) → AllByRecursion (IsGood ls) pairs → AllByRecursion (λ path. is_closed pairs path ≡ true) ps → SomeLost (lost_in ls l) ps → ⊥
spanned_lost ls l pairs [] good closed some = some
spanned_lost ls l pairs (path ∷ ps) good closed (inl here) = closed_lost ls l pairs path good closed.0 here
spanned_lost ls l pairs (path ∷ ps) good closed (inr later) = spanned_lost ls l pairs ps good closed.1 later

-- a mating of good pairs that spans makes the deep formula a tautology
pub spanned_tautology : (f : FittedTree) (pairs : List (ℕ × ℕ)) (s : Standing) → FitsAs f s → All (IsGood f.leaf_list) pairs → Spans pairs f.path_list → IsTautology (deep_formula s)
spanned_tautology f pairs s fits good spans = λ l _.
    let pol = standing_polarity f.tree true fits.is_tree.normal s fits.is_tree.stands in
    let good : AllByRecursion (IsGood (leaves s)) pairs = recursion_from_All (IsGood (leaves s)) pairs (subst (λ (ls : List (Bool × Term)). All (IsGood ls) pairs) fits.leaf_list good) in
    let spans : AllByRecursion (λ path. is_closed pairs path ≡ true) (paths s) = recursion_from_All (λ path. is_closed pairs path ≡ true) (paths s) (subst (Spans pairs) fits.path_list spans) in
    elim (wanted_or_lost s true l (lost_in (leaves s) l) 1 pol (leaves_tell (leaves s) l)) [
      | inl holds ↦ holds
      | inr some ↦ absurd (spanned_lost (leaves s) l pairs (paths s) good spans some)
    ]

-- the formulas of the negative leaves of a path
abbrev negative_formula : Option (Bool × Term) → List Term
negative_formula None = []
negative_formula (Some leaf) = elim leaf.0 [ true ↦ [] | false ↦ leaf.1 ∷ [] ]

abbrev negatives : List (Bool × Term) → List ℕ → List Term
negatives ls [] = []
negatives ls (n ∷ path) = negative_formula (leaf_at ls n) ++ negatives ls path

one_contained : (a b : Term) → Contains (a ∷ []) b → a ≡ b
one_contained a b (zero, within, e) = e
one_contained a b (suc k, within, e) = absurd (omega arith)

none_contained : (b : Term) → Contains [] b → ⊥
none_contained b h = let within : h.0 < 0 = h.1 in omega arith

here_contained : (a : Term) → Contains (a ∷ []) a
here_contained a = (zero, omega arith, refl)

negative_in : (ls : List (Bool × Term)) (path : List ℕ) (n : ℕ) (a : Term) → is_on path n ≡ true → leaf_at ls n ≡ Some (false, a) → Contains (negatives ls path) a
negative_in ls [] n a h e = cc
negative_in ls (k ∷ path) n a h e = elim (eqb_tells k n) [
  | inl same ↦
      let there : leaf_at ls k ≡ Some (false, a) = ap (leaf_at ls) same.1 ∙ e in
      let Q : Option (Bool × Term) → Type 0 = λ o. Contains (negative_formula o ++ negatives ls path) a in
      subst Q (sym there) (Contains-append_left (a ∷ []) (negatives ls path) a (here_contained a))
  | inr other ↦
      let rest : is_on path n ≡ true = sym (ap (λ b. b || is_on path n) other.0) ∙ h in
      Contains-append_right (negative_formula (leaf_at ls k)) (negatives ls path) a (negative_in ls path n a rest e)
]

-- a formula among them is that of a negative leaf on the path
in_negatives : (ls : List (Bool × Term)) (path : List ℕ) (a : Term) → Contains (negatives ls path) a → (m : ℕ) × (is_on path m ≡ true) × (leaf_at ls m ≡ Some (false, a))
in_negatives ls [] a h = absurd (none_contained a h)
in_negatives ls (k ∷ path) a h = elim (Contains-append_cases (negative_formula (leaf_at ls k)) (negatives ls path) a h) [
  | inl here ↦ (k, on_itself, of_leaf (leaf_at ls k) here)
  | inr later ↦ let found = in_negatives ls path a later in (found.0, on_later found.0 found.1, found.2)
]
  where
    on_itself : is_on (k ∷ path) k ≡ true
    on_itself = elim (eqb_tells k k) [ inl same ↦ ap (λ b. b || is_on path k) same.0 | inr other ↦ absurd (other.1 refl) ]

    on_later : (m : ℕ) → is_on path m ≡ true → is_on (k ∷ path) m ≡ true
    on_later m e = elim (eqb_tells k m) [ inl same ↦ ap (λ b. b || is_on path m) same.0 | inr other ↦ ap (λ b. b || is_on path m) other.0 ∙ e ]

    of_leaf : (o : Option (Bool × Term)) → Contains (negative_formula o) a → o ≡ Some (false, a)
    of_leaf None h = absurd (none_contained a h)
    of_leaf (Some (true, b)) h = absurd (none_contained a h)
    of_leaf (Some (false, b)) h = ap (λ c. Some (false, c)) (one_contained b a h)

-- a pair of the mating on a path closes it
contained_closed : (pairs : List (ℕ × ℕ)) (path : List ℕ) (pair : ℕ × ℕ) → Contains pairs pair → is_on path pair.0 ≡ true → is_on path pair.1 ≡ true → is_closed pairs path ≡ true
contained_closed [] path pair h x y = absurd (let within : h.0 < 0 = h.1 in omega arith)
contained_closed (first ∷ pairs) path pair (zero, within, e) x y =
    let here : (is_on path first.0 && is_on path first.1) ≡ true =
    subst (λ (q : ℕ × ℕ). (is_on path q.0 && is_on path q.1) ≡ true) (sym e) (ap (λ b. b && is_on path pair.1) x ∙ y) in
    ap (λ b. b || is_closed pairs path) here
contained_closed (first ∷ pairs) path pair (suc k, within, e) x y =
    or_true (is_on path first.0 && is_on path first.1) (is_closed pairs path) (contained_closed pairs path pair (k, omega arith, e) x y)
  where
    or_true : (a b : Bool) → b ≡ true → (a || b) ≡ true
    or_true true b h = refl
    or_true false b h = h

-- the formula of a leaf is an atom
leaf_atom : (ls : List (Bool × Term)) (n : ℕ) (leaf : Bool × Term) → All (λ (leaf : Bool × Term). IsAtom leaf.1) ls → leaf_at ls n ≡ Some leaf → IsAtom leaf.1
leaf_atom ls zero leaf all e = cc
leaf_atom ls (suc i) leaf all e =
    let at : slice_get ls i ≡ Some leaf = sym (leaf_at-suc ls i) ∙ e in
    subst (λ (x : Bool × Term). IsAtom x.1) (get_or_from_slice_get ls i leaf leaf at) (All-get_or (λ (leaf : Bool × Term). IsAtom leaf.1) ls i leaf (slice_get_within ls i leaf at) all)

-- under the assignment that makes just the formulas of an open path's negative leaves true, each leaf of the path is lost
open_lost : (ls : List (Bool × Term)) (pairs : List (ℕ × ℕ)) (path : List ℕ) → HoldsGoodPairs ls pairs → All (λ (leaf : Bool × Term). IsAtom leaf.1) ls → is_closed pairs path ≡ false
    → (n : ℕ) → is_on path n ≡ true → lost_in ls (negatives ls path) n
open_lost ls pairs path whole atoms open_path n on = go (leaf_at ls n) refl
  where
    go : (o : Option (Bool × Term)) → leaf_at ls n ≡ o → LostAt (negatives ls path) o
    go None e = tt
    go (Some (true, a)) e = λ holds.
        let found = in_negatives ls path a ((atom_holds (negatives ls path) a (leaf_atom ls n (true, a) atoms e)).0 holds) in
        let closed : is_closed pairs path ≡ true = elim (whole n found.0 (true, a, e, found.2)) [
          | inl there ↦ contained_closed pairs path (n, found.0) there on found.1
          | inr there ↦ contained_closed pairs path (found.0, n) there found.1 on
        ] in cc
    go (Some (false, a)) e = λ none. none ((atom_holds (negatives ls path) a (leaf_atom ls n (false, a) atoms e)).1 (negative_in ls path n a on e))

all_on : (P : ℕ → Type 0) (path rest : List ℕ) → ((n : ℕ) → is_on rest n ≡ true → is_on path n ≡ true) → ((n : ℕ) → is_on path n ≡ true → P n) → AllByRecursion P rest
all_on P path [] within all = tt
all_on P path (k ∷ rest) within all = (all k (within k itself), all_on P path rest (λ n e. within n (later n e)) all)
  where
    itself : is_on (k ∷ rest) k ≡ true
    itself = elim (eqb_tells k k) [ inl same ↦ ap (λ b. b || is_on rest k) same.0 | inr other ↦ absurd (other.1 refl) ]

    later : (m : ℕ) → is_on rest m ≡ true → is_on (k ∷ rest) m ≡ true
    later m e = elim (eqb_tells k m) [ inl same ↦ ap (λ b. b || is_on rest m) same.0 | inr other ↦ ap (λ b. b || is_on rest m) other.0 ∙ e ]

-- where no path has all its leaves lost under an assignment, each path is closed
each_closed : (ls : List (Bool × Term)) (pairs : List (ℕ × ℕ)) (ps : List (List ℕ)) → HoldsGoodPairs ls pairs → All (λ (leaf : Bool × Term). IsAtom leaf.1) ls
    → ((l : List Term) → SomeLost (lost_in ls l) ps → ⊥) → AllByRecursion (λ path. is_closed pairs path ≡ true) ps
each_closed ls pairs [] whole atoms none = tt
each_closed ls pairs (path ∷ ps) whole atoms none = (go (is_closed pairs path) refl, each_closed ls pairs ps whole atoms (λ l some. none l (inr some)))
  where
    go : (b : Bool) → is_closed pairs path ≡ b → is_closed pairs path ≡ true
    go true e = e
    go false e = absurd (none (negatives ls path) (inl (all_on (lost_in ls (negatives ls path)) path path (λ n h. h) (open_lost ls pairs path whole atoms e))))

-- where the deep formula is a tautology, each leaf is an atom and the mating holds all good pairs, it spans
pub tautology_spanned : (f : FittedTree) (pairs : List (ℕ × ℕ)) (s : Standing) → FitsAs f s → HoldsGoodPairs f.leaf_list pairs → All (λ (leaf : Bool × Term). IsAtom leaf.1) f.leaf_list → IsTautology (deep_formula s) → Spans pairs f.path_list
tautology_spanned f pairs s fits whole atoms tautology =
    let pol = standing_polarity f.tree true fits.is_tree.normal s fits.is_tree.stands in
    let whole : HoldsGoodPairs (leaves s) pairs = subst (λ (ls : List (Bool × Term)). HoldsGoodPairs ls pairs) fits.leaf_list whole in
    let atoms : All (λ (leaf : Bool × Term). IsAtom leaf.1) (leaves s) = subst (λ (ls : List (Bool × Term)). All (λ (leaf : Bool × Term). IsAtom leaf.1) ls) fits.leaf_list atoms in
    subst (Spans pairs) (sym fits.path_list) (
    All-from_recursion (λ path. is_closed pairs path ≡ true) (paths s) (
    each_closed (leaves s) pairs (paths s) whole atoms (λ l some. wanted_not_lost s true l (lost_in (leaves s) l) 1 pol (leaves_tell (leaves s) l) some (tautology l (no_premise l)))
    )
    )
  where
    no_premise : (l : List Term) → All (Holds l) []
    no_premise l k d within = absurd (omega arith)

-- so where it is told whether the mating spans, it is told whether the deep formula is a tautology
pub spanned_gives : (f : FittedTree) (pairs : List (ℕ × ℕ)) (r : Option (List ℕ)) → (IsNone r ↔ Spans pairs f.path_list) → IsNone r → All (IsGood f.leaf_list) pairs → HasTautology f
spanned_gives f pairs r tells none good s fits = spanned_tautology f pairs s fits good (tells.0 none)

pub spanned_decides : (f : FittedTree) (pairs : List (ℕ × ℕ)) (r : Option (List ℕ)) → IsFitted f → (IsNone r ↔ Spans pairs f.path_list) → All (IsGood f.leaf_list) pairs → HoldsGoodPairs f.leaf_list pairs → HasAtoms f → (IsNone r ↔ HasTautology f)
spanned_decides f pairs r fit tells good whole atoms = (
  λ none. spanned_gives f pairs r tells none good,
  λ tautology. tells.1 (tautology_spanned f pairs fit.0 fit.1 whole atoms (tautology fit.0 fit.1)),
)

-- what follows of a value that is there
pub ok_weaker : {T E : Type 0} {P Q : T → Type 0} → ((x : T) → P x → Q x) → (r : Result T E) → IfOk r P → IfOk r Q
ok_weaker f (Ok x) h = f x h
ok_weaker f (Err e) h = tt
