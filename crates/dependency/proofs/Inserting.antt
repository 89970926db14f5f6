-- Numbers put into an order that keeps a relation, one after the other: what a new one reaches goes after it.
use Rattle.std.proofs.Common.{◌≡◌, ◌≤◌, ℕ, zero, suc, List, [], ◌∷◌, ◌++◌, Bool, true, false, Contains, nat_eq, refl, sym, subst, arith, inl, inr, ◌⊎◌}
use Rattle.std.specs.List.{IsDistinct}
use Rattle.std.proofs.lemmas.Bool.Decides.{eqb_tells}
use Rattle.std.proofs.lemmas.List.Elements.{Contains-append_cases, Contains-append_left, Contains-append_right}
use Rattle.dependency.specs.Graphs.{StandsInOrder}
use Rattle.dependency.specs.Walks.{is_in}
use Rattle.dependency.proofs.Elements.{Contains-first, Contains-later, Contains_there, Each, each-append, each-cons, each-nil, first_or_later, none_there}
use Rattle.dependency.proofs.Lists.{Contains_from_is_in, distinct-cons, distinct-nil}

-- it holds or not
abbrev pub Decided : Type 0 → Type 0
Decided A = A ⊎ (A → ⊥)

-- whether a list has an element with the property
pub some_decided : {A : Type 0} → (P : A → Type 0) (xs : List A) → ((x : A) → Decided (P x)) → Decided ((x : A) × Contains xs x × P x)
some_decided P [] decide = inr (λ h. none_there h.0 h.1)
some_decided P (x ∷ xs) decide = elim (decide x) [
  | inl holds ↦ inl (x, Contains-first x xs, holds)
  | inr fails ↦ (elim (some_decided P xs decide) [
    | inl h ↦ inl (h.0, Contains-later x xs h.0 h.1, h.2)
    | inr none ↦ inr (λ h. elim (first_or_later x xs h.0 h.1) [
      | inl same ↦ fails (subst P (sym same) h.2)
      | inr later ↦ none (h.0, later, h.2)
    ])
  ])
]

-- none of the list is related to one that stands before it, or to itself, and none stands twice
abbrev pub IsSorted : (ℕ → ℕ → Type 0) → List ℕ → Type 0
IsSorted R [] = Unit {0}
IsSorted R (x ∷ xs) = (R x x → ⊥) × Each (λ y. (x ≡ y → ⊥) × (R y x → ⊥)) xs × IsSorted R xs

sorted-append : (R : ℕ → ℕ → Type 0) (xs ys : List ℕ) → IsSorted R xs → IsSorted R ys → Each (λ x. Each (λ y. (x ≡ y → ⊥) × (R y x → ⊥)) ys) xs → IsSorted R (xs ++ ys)
sorted-append R [] ys h k apart = k
sorted-append R (x ∷ xs) ys h k apart = (
  h.0,
  each-append (λ y. (x ≡ y → ⊥) × (R y x → ⊥)) xs ys h.1 (apart x (Contains-first x xs)),
  sorted-append R xs ys h.2 k (λ u there. apart u (Contains-later x xs u there)),
)

-- a sorted list in two parts, of which those that are reached go after
record Parts (R : ℕ → ℕ → Type 0) (Reached : ℕ → Type 0) (from ys : List ℕ) : Type 0 where
  kept : List ℕ
  moved : List ℕ
  kept_of : (y : ℕ) → Contains kept y → Contains ys y
  moved_of : (y : ℕ) → Contains moved y → Contains ys y
  all : (y : ℕ) → Contains ys y → Contains kept y ⊎ Contains moved y
  kept_sorted : IsSorted R kept
  moved_sorted : IsSorted R moved
  reached : Each Reached moved
  apart : Each (λ x. Each (λ y. (x ≡ y → ⊥) × (R y x → ⊥)) moved) kept
  unrelated : Each (λ x. Each (λ y. R x y → ⊥) kept) from

parts : (R : ℕ → ℕ → Type 0) (Reached : ℕ → Type 0) → ((x y : ℕ) → Decided (R x y)) → ((x y : ℕ) → Reached x → R x y → Reached y) → (from ys : List ℕ) → Each Reached from → IsSorted R ys
    → Parts R Reached from ys
parts R Reached decide onward from [] h sorted = record {
  kept = [];
  moved = [];
  kept_of = λ y there. there;
  moved_of = λ y there. there;
  all = λ y there. absurd (none_there y there);
  kept_sorted = tt;
  moved_sorted = tt;
  reached = λ y there. absurd (none_there y there);
  apart = λ x there. absurd (none_there x there);
  unrelated = λ x there y among. absurd (none_there y among);
}
parts R Reached decide onward from (y ∷ ys) h sorted = elim (some_decided (λ x. R x y) from (λ x. decide x y)) [
  | inl found ↦ moves (onward found.0 y (h found.0 found.1) found.2) (parts R Reached decide onward (y ∷ from) ys)
  | inr none ↦ keeps (λ x there edge. none (x, there, edge)) (parts R Reached decide onward from ys h sorted.2)
]
  where
    moves : Reached y → (Each Reached (y ∷ from) → IsSorted R ys → Parts R Reached (y ∷ from) ys) → Parts R Reached from (y ∷ ys)
    moves here rest_of =
        let rest = rest_of (each-cons Reached y from here h) sorted.2 in
        record {
          kept = rest.kept;
          moved = y ∷ rest.moved;
          kept_of = λ z there. Contains-later y ys z (rest.kept_of z there);
          moved_of = λ z there. elim (first_or_later y rest.moved z there) [
            | inl same ↦ subst (λ z. Contains (y ∷ ys) z) same (Contains-first y ys)
            | inr later ↦ Contains-later y ys z (rest.moved_of z later)
          ];
          all = λ z there. elim (first_or_later y ys z there) [
            | inl same ↦ inr (subst (λ z. Contains (y ∷ rest.moved) z) same (Contains-first y rest.moved))
            | inr later ↦ (elim (rest.all z later) [ inl left ↦ inl left | inr right ↦ inr (Contains-later y rest.moved z right) ])
          ];
          kept_sorted = rest.kept_sorted;
          moved_sorted = (sorted.0, (λ z there. sorted.1 z (rest.moved_of z there)), rest.moved_sorted);
          reached = each-cons Reached y rest.moved here rest.reached;
          apart = λ x there. each-cons (λ z. (x ≡ z → ⊥) × (R z x → ⊥)) y rest.moved
              ((λ same. (sorted.1 x (rest.kept_of x there)).0 (sym same)), rest.unrelated y (Contains-first y from) x there) (rest.apart x there);
          unrelated = λ x there. rest.unrelated x (Contains-later y from x there);
        }

    keeps : ((x : ℕ) → Contains from x → R x y → ⊥) → Parts R Reached from ys → Parts R Reached from (y ∷ ys)
    keeps none rest = record {
      kept = y ∷ rest.kept;
      moved = rest.moved;
      kept_of = λ z there. elim (first_or_later y rest.kept z there) [
        | inl same ↦ subst (λ z. Contains (y ∷ ys) z) same (Contains-first y ys)
        | inr later ↦ Contains-later y ys z (rest.kept_of z later)
      ];
      moved_of = λ z there. Contains-later y ys z (rest.moved_of z there);
      all = λ z there. elim (first_or_later y ys z there) [
        | inl same ↦ inl (subst (λ z. Contains (y ∷ rest.kept) z) same (Contains-first y rest.kept))
        | inr later ↦ (elim (rest.all z later) [ inl left ↦ inl (Contains-later y rest.kept z left) | inr right ↦ inr right ])
      ];
      kept_sorted = (sorted.0, (λ z there. sorted.1 z (rest.kept_of z there)), rest.kept_sorted);
      moved_sorted = rest.moved_sorted;
      reached = rest.reached;
      apart = each-cons (λ x. Each (λ z. (x ≡ z → ⊥) × (R z x → ⊥)) rest.moved) y rest.kept (λ z there. sorted.1 z (rest.moved_of z there)) rest.apart;
      unrelated = λ x there. each-cons (λ z. R x z → ⊥) y rest.kept (none x there) (rest.unrelated x there);
    }

-- a sorted list with one number more
record Inserted (R : ℕ → ℕ → Type 0) (x : ℕ) (ys : List ℕ) : Type 0 where
  list : List ℕ
  sorted : IsSorted R list
  all : (y : ℕ) → Contains (x ∷ ys) y → Contains list y
  only : (y : ℕ) → Contains list y → Contains (x ∷ ys) y

insert : (R Reaches : ℕ → ℕ → Type 0) → ((x y : ℕ) → Decided (R x y)) → ((x y z : ℕ) → Reaches x y → R y z → Reaches x z) → ((x y : ℕ) → Reaches x y → R y x → ⊥)
    → (x : ℕ) (ys : List ℕ) → Reaches x x → ((y : ℕ) → Contains ys y → x ≡ y → ⊥) → IsSorted R ys → Inserted R x ys
insert R Reaches decide onward never x ys here new sorted =
    let p = parts R (Reaches x) decide (onward x) (x ∷ []) ys (each-cons (Reaches x) x [] here (each-nil (Reaches x))) sorted in
    record {
      list = p.kept ++ x ∷ p.moved;
      sorted = sorted-append R p.kept (x ∷ p.moved) p.kept_sorted
          (never x x here, (λ y there. (new y (p.moved_of y there), never x y (p.reached y there))), p.moved_sorted)
          (λ u there. each-cons (λ y. (u ≡ y → ⊥) × (R y u → ⊥)) x p.moved ((λ same. new u (p.kept_of u there) (sym same)), p.unrelated x (Contains-first x []) u there) (p.apart u there));
      all = λ y there. elim (first_or_later x ys y there) [
        | inl same ↦ Contains-append_right p.kept (x ∷ p.moved) y (subst (λ z. Contains (x ∷ p.moved) z) same (Contains-first x p.moved))
        | inr later ↦ (elim (p.all y later) [
          | inl left ↦ Contains-append_left p.kept (x ∷ p.moved) y left
          | inr right ↦ Contains-append_right p.kept (x ∷ p.moved) y (Contains-later x p.moved y right)
        ])
      ];
      only = λ y there. elim (Contains-append_cases p.kept (x ∷ p.moved) y there) [
        | inl left ↦ Contains-later x ys y (p.kept_of y left)
        | inr right ↦ (elim (first_or_later x p.moved y right) [
          | inl same ↦ subst (λ z. Contains (x ∷ ys) z) same (Contains-first x ys)
          | inr later ↦ Contains-later x ys y (p.moved_of y later)
        ])
      ];
    }

-- the numbers from 1 to n, sorted
pub record Numbers (R : ℕ → ℕ → Type 0) (n : ℕ) : Type 0 where
  pub list : List ℕ
  pub sorted : IsSorted R list
  pub all : (x : ℕ) → 1 ≤ x → x ≤ n → Contains list x
  pub only : (x : ℕ) → Contains list x → (1 ≤ x) × (x ≤ n)

pub numbers : (R Reaches : ℕ → ℕ → Type 0) → ((x y : ℕ) → Decided (R x y)) → ((x y z : ℕ) → Reaches x y → R y z → Reaches x z) → ((x y : ℕ) → Reaches x y → R y x → ⊥)
    → (n : ℕ) → ((x : ℕ) → 1 ≤ x → x ≤ n → Reaches x x) → Numbers R n
numbers R Reaches decide onward never zero start = record {
  list = [];
  sorted = tt;
  all = λ x low high. absurd (omega (arith, low, high));
  only = λ x there. absurd (none_there x there);
}
numbers R Reaches decide onward never (suc n) start =
    let rest = numbers R Reaches decide onward never n (λ x low high. start x low (omega (arith, high))) in
    let more = insert R Reaches decide onward never (suc n) rest.list (start (suc n) (omega arith) (omega arith))
    (λ y there same. let q = rest.only y there in omega (arith, same, q)) rest.sorted in
    record {
      list = more.list;
      sorted = more.sorted;
      all = λ x low high. elim (eqb_tells x (suc n)) [
        | inl same ↦ more.all x (subst (λ z. Contains (suc n ∷ rest.list) z) (sym same.1) (Contains-first (suc n) rest.list))
        | inr other ↦ more.all x (Contains-later (suc n) rest.list x (rest.all x low (omega (arith, high, other.1))))
      ];
      only = λ x there. elim (first_or_later (suc n) rest.list x (more.only x there)) [
        | inl same ↦ (omega (arith, same), omega (arith, same))
        | inr later ↦ (let q = rest.only x later in (q.0, omega (arith, q.1)))
      ];
    }

-- what a sorted list keeps

pub sorted-once : (R : ℕ → ℕ → Type 0) (xs : List ℕ) → IsSorted R xs → IsDistinct nat_eq xs
sorted-once R [] h = distinct-nil
sorted-once R (x ∷ xs) h = distinct-cons x xs (go (is_in xs x) refl) (sorted-once R xs h.2)
  where
    go : (b : Bool) → is_in xs x ≡ b → is_in xs x ≡ false
    go false e = e
    go true e = absurd ((h.1 x (Contains_from_is_in xs x e)).0 refl)

pub sorted-stands : (R S : ℕ → ℕ → Type 0) → ((x y : ℕ) → S x y → R x y) → (xs : List ℕ) → IsSorted R xs → StandsInOrder S xs
sorted-stands R S part [] h i j x y e f s = absurd (cc)
sorted-stands R S part (z ∷ zs) h zero zero x y e f s =
    let one : z ≡ x = cc in
    let two : z ≡ y = cc in
    absurd (h.0 (rw (← one, ← two) at (part x y s)))
sorted-stands R S part (z ∷ zs) h zero (suc j) x y e f s = omega arith
sorted-stands R S part (z ∷ zs) h (suc i) zero x y e f s =
    let two : z ≡ y = cc in
    absurd ((h.1 x (Contains_there zs i x e)).1 (rw (← two) at (part x y s)))
sorted-stands R S part (z ∷ zs) h (suc i) (suc j) x y e f s = let less = sorted-stands R S part zs h.2 i j x y e f s in omega (arith, less)
