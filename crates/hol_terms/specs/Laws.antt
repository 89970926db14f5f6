-- Laws of terms, which the layers above rest on. Each is the clause of a function of the module `laws`.
use Rattle.std.specs.Prelude.{ℕ, suc, ◌+◌, ◌≤◌, List, [], ◌∷◌, ◌++◌, length, AllPairs, Contains, ◌≡◌, ◌≢◌, ◌↔◌, ◌⊎◌}
use Rattle.hol_terms.specs.Terms.{SimpleType, Term}
use Rattle.hol_terms.specs.Typing.{Typed}
use Rattle.hol_terms.specs.Indices.{raise, put, instance_of, HasIndex, IsClosedBelow, IsClosed}
use Rattle.hol_terms.specs.FreeVariables.{IsFree, IsBodyOver, StandsFirst, free_variables_of, occurrences, replace_free}
use Rattle.hol_terms.specs.Truth.{Holds, IsAtom}

-- types

-- a term has at most one type
abbrev pub HasOneType : Type 0
HasOneType = (types : List SimpleType) (t : Term) (s r : SimpleType) → Typed types t s → Typed types t r → s ≡ r

-- a typed term has no loose index beyond the types of its loose indices
abbrev pub IsClosedByType : Type 0
IsClosedByType = (types : List SimpleType) (t : Term) (s : SimpleType) → Typed types t s → IsClosedBelow (length types) t

-- weakening: a raised term has the type of the term, with further types among those of the loose indices
abbrev pub RaiseKeepsType : Type 0
RaiseKeepsType =
    (front middle back : List SimpleType) (t : Term) (s : SimpleType) → Typed (front ++ back) t s
    → Typed (front ++ (middle ++ back)) (raise (length middle) (length front) t) s

-- substitution: a term of the type of an index, put for it, keeps the type of the whole
abbrev pub PutKeepsType : Type 0
PutKeepsType =
    (front back : List SimpleType) (s : SimpleType) (u t : Term) (r : SimpleType) → Typed back u s → Typed (front ++ s ∷ back) t r
    → Typed (front ++ back) (put (length front) u t) r

-- the body of the abstraction over a variable has the type of the term
abbrev pub BodyKeepsType : Type 0
BodyKeepsType = (n : List ℕ) (s : SimpleType) (t body : Term) (r : SimpleType) → Typed [] t r → IsBodyOver n s t body → Typed (s ∷ []) body r

-- indices

-- two raisings are one, where the second begins among the numbers that the first left out
abbrev pub RaisesJoin : Type 0
RaisesJoin = (d e c k : ℕ) (t : Term) → c ≤ k → k ≤ c + d → raise e k (raise d c t) ≡ raise (d + e) c t

-- two raisings commute
abbrev pub RaisesCommute : Type 0
RaisesCommute = (d e c k : ℕ) (t : Term) → k ≤ c → raise d (c + e) (raise e k t) ≡ raise e k (raise d c t)

-- an index that a raising left out stands nowhere
abbrev pub PutOfRaised : Type 0
PutOfRaised = (k d c : ℕ) (u t : Term) → c ≤ k → k ≤ c + d → put k u (raise (suc d) c t) ≡ raise d c t

-- raising commutes with replacing, from an index at most the replaced one on
abbrev pub RaiseCommutesAbove : Type 0
RaiseCommutesAbove = (d c k : ℕ) (u t : Term) → c ≤ k → raise d c (put k u t) ≡ put (k + d) u (raise d c t)

-- and from an index at least the replaced one on
abbrev pub RaiseCommutesBelow : Type 0
RaiseCommutesBelow = (d k j : ℕ) (u t : Term) → raise d (j + k) (put k u t) ≡ put k (raise d j u) (raise d (j + k + 1) t)

-- two replacements commute
abbrev pub PutsCommute : Type 0
PutsCommute = (j m : ℕ) (u v t : Term) → put (j + m) u (put j v t) ≡ put j (put m u v) (put (j + m + 1) u t)

-- a term without the loose indices from k on stays as it is
abbrev pub RaiseOfClosed : Type 0
RaiseOfClosed = (d k : ℕ) (t : Term) → IsClosedBelow k t → raise d k t ≡ t

abbrev pub PutOfClosed : Type 0
PutOfClosed = (k : ℕ) (u t : Term) → IsClosedBelow k t → put k u t ≡ t

-- free variables

-- a variable is free in an instance where it is free in the body, or in the term where the body has the index
abbrev pub FreeOfPut : Type 0
FreeOfPut = (n : List ℕ) (s : SimpleType) (k : ℕ) (u t : Term) → IsFree n s (put k u t) ↔ (IsFree n s t ⊎ (HasIndex k t × IsFree n s u))

-- the list of free variables has exactly those
abbrev pub ListsFreeVariables : Type 0
ListsFreeVariables = (n : List ℕ) (s : SimpleType) (t : Term) → Contains (free_variables_of t) (n, s) ↔ IsFree n s t

-- the list of free variables has each once
abbrev pub ListsOnce : Type 0
ListsOnce = (t : Term) → AllPairs (λ v w. v ≢ w) (free_variables_of t)

-- and in the order in which they first occur in the term
abbrev pub ListsInOrder : Type 0
ListsInOrder = (t : Term) → AllPairs (StandsFirst (occurrences t)) (free_variables_of t)

-- a term has one body over a variable
abbrev pub HasOneBody : Type 0
HasOneBody = (n : List ℕ) (s : SimpleType) (t b c : Term) → IsClosed t → IsBodyOver n s t b → IsBodyOver n s t c → b ≡ c

-- terms put for free variables

-- a term of a variable's type, put for it, keeps the type of the whole
abbrev pub ReplaceKeepsType : Type 0
ReplaceKeepsType =
    (types : List SimpleType) (n : List ℕ) (s : SimpleType) (u t : Term) (r : SimpleType) → Typed types u s → Typed types t r
    → Typed types (replace_free n s u t) r

-- two terms put for two variables, the first of which isn't free in the second's term
abbrev pub ReplacesCommute : Type 0
ReplacesCommute =
    (n m : List ℕ) (s q : SimpleType) (u v t : Term) → ((n ≡ m) × (s ≡ q) → ⊥) → (IsFree n s v → ⊥)
    → replace_free m q v (replace_free n s u t) ≡ replace_free n s (replace_free m q v u) (replace_free m q v t)

-- a variable that isn't free is replaced nowhere
abbrev pub ReplaceOfNotFree : Type 0
ReplaceOfNotFree = (n : List ℕ) (s : SimpleType) (u t : Term) → (IsFree n s t → ⊥) → replace_free n s u t ≡ t

-- the instance of the body over a variable is the term with the other one put for the variable
abbrev pub InstanceIsReplaced : Type 0
InstanceIsReplaced = (n : List ℕ) (s : SimpleType) (u t body : Term) → IsClosed t → IsBodyOver n s t body → instance_of body u ≡ replace_free n s u t

-- truth by assignments

-- each formula holds or doesn't
abbrev pub HoldsOrNot : Type 0
HoldsOrNot = (true_atoms : List Term) (formula : Term) → Holds true_atoms formula ⊎ (Holds true_atoms formula → ⊥)

-- an atom holds exactly where it is in the list
abbrev pub AtomHoldsInList : Type 0
AtomHoldsInList = (true_atoms : List Term) (formula : Term) → IsAtom formula → (Holds true_atoms formula ↔ Contains true_atoms formula)
