-- Conditions become cells and pairs.
use Rattle.std.proofs.Common.{ℕ, zero, suc, ◌+◌, ◌<◌, ◌≤◌, List, [], ◌∷◌, ◌++◌, length, get_or, replicate, map, take, Bool, true, false, cond, ◌≡◌, ◌≢◌, refl, sym, ap, ap₂, ◌∙◌, subst, Some, None, arith}
use Rattle.std.specs.Prelude.{slice_get, Contains}
use Rattle.std.proofs.lemmas.List.{get_or-replicate, get_or_past, length-replicate, length_push, get_or_append_left, get_or_push, take_more, map-append, length-map}
use Rattle.std.proofs.lemmas.Option.{slice_get_within, get_or_from_slice_get}
use Rattle.hol_terms.specs.Terms.{SimpleType, function_type, truth_type, Variable}
use Rattle.hol_terms.specs.Computed.{same_name}
use Rattle.type_infer.specs.declared.cells.Cell.{Cell}
use Rattle.type_infer.specs.declared.cells.Cell.TheVariants.{Open, Function}
use Rattle.type_infer.specs.Cells.{HoldsAt, cell_at, Models, IsCell, IsStore, AgreeBelow, Extends, AddsType}
use Rattle.type_infer.specs.Conditions.{PlainEquation, is_type, is_named, is_given, is_function, Meets, PlainCondition}
use Rattle.type_infer.specs.Loading.{IsWithin, AreWithin, NamesAgree, IsLoaded}
use Rattle.type_infer.specs.Equations.{plain_equation, plain_condition}
use Rattle.type_infer.specs.Steps.{HasLoaded, AddsEquation}
use Rattle.type_infer.specs.declared.conditions.Condition.{Condition}
use Rattle.type_infer.specs.declared.loading.Loading.{Loading}
use Rattle.type_infer.specs.Merging.{AreBelow, AllSame}
use Rattle.type_infer.proofs.Names.{same_name_here, same_name_other}
use Rattle.type_infer.proofs.Soundness.{meets_front, meets_back, meets_both}
use Rattle.type_infer.proofs.Stores.{three_ways, models_new, extends_pushed, store_pushed}
use Rattle.type_infer.proofs.Merges.{all_same_front, all_same_back, all_same_both, are_below_both}

-- no condition

open_at : (n i : ℕ) → cell_at (replicate n Open) i ≡ Open
open_at n i = three_ways (cell_at (replicate n Open) i ≡ Open) i n
    (λ l. get_or-replicate n i Open Open l)
    (λ e. get_or_past (replicate n Open) i Open (let f : i ≡ n = e in let long = length-replicate n Open in omega arith))
    (λ l. get_or_past (replicate n Open) i Open (let long = length-replicate n Open in omega arith))

pub loaded_none : (count : ℕ) (cells : List Cell) (pending : List (ℕ × ℕ)) (set : List Variable) (firsts : List ℕ) → cells ≡ replicate count Open → pending ≡ [] → set ≡ [] → firsts ≡ []
    → IsLoaded count [] cells pending set firsts
loaded_none count cells pending set firsts ec ep es ef =
    let open_cells : List Cell = replicate count Open in
    let here : IsLoaded count [] open_cells [] [] [] = record {
      store = λ i. subst (IsCell (length open_cells) i) (sym (open_at count i)) tt;
      enough = (let long = length-replicate count Open in omega arith);
      below = tt;
      as_many = refl;
      firsts_inside = λ m l. absurd (omega arith);
      marked = λ m v e. absurd (let f : None ≡ Some v = e in cc);
      named = λ types. ((λ name. truth_type), λ m v e. absurd (let f : None ≡ Some v = e in cc));
      keeps = λ names types agree models same. tt;
      goes_on = λ names types met. (types, λ i l. refl, λ m v e. absurd (let f : None ≡ Some v = e in cc), λ i. subst (HoldsAt types i) (sym (open_at count i)) tt, tt);
    } in
    subst (λ (cs : List Cell). IsLoaded count [] cs pending set firsts) (sym ec)
    (subst (λ (ps : List (ℕ × ℕ)). IsLoaded count [] open_cells ps set firsts) (sym ep)
    (subst (λ (vs : List Variable). IsLoaded count [] open_cells [] vs firsts) (sym es)
    (subst (λ (ns : List ℕ). IsLoaded count [] open_cells [] [] ns) (sym ef) here)))

-- more cells

below_more : (n m : ℕ) (pairs : List (ℕ × ℕ)) → n ≤ m → AreBelow n pairs → AreBelow m pairs
below_more n m [] l h = tt
below_more n m (pair ∷ pairs) l h = let a : pair.0 < n = h.0 in let b : pair.1 < n = h.1 in (omega arith, omega arith, below_more n m pairs l h.2)

same_agree : (n : ℕ) (v w : ℕ → SimpleType) (pairs : List (ℕ × ℕ)) → AreBelow n pairs → AgreeBelow n w v → AllSame v pairs → AllSame w pairs
same_agree n v w [] below agree h = tt
same_agree n v w (pair ∷ pairs) below agree h = (agree pair.0 below.0 ∙ h.0 ∙ sym (agree pair.1 below.1), same_agree n v w pairs below.2 agree h.1)

loaded_extended : (count : ℕ) (cs : List PlainCondition) (cells more : List Cell) (pending : List (ℕ × ℕ)) (set : List Variable) (firsts : List ℕ)
    → IsLoaded count cs cells pending set firsts → Extends cells more → IsStore more → IsLoaded count cs more pending set firsts
loaded_extended count cs cells more pending set firsts h extends store =
    let longer : length cells ≤ length more = extends.longer in
    let enough : count ≤ length cells = h.enough in
    record {
      store = store;
      enough = omega arith;
      below = below_more (length cells) (length more) pending longer h.below;
      as_many = h.as_many;
      firsts_inside = λ m l. let inside : get_or firsts m 0 < length cells = h.firsts_inside m l in omega arith;
      marked = h.marked;
      named = h.named;
      keeps = λ names types agree models same. h.keeps names types agree (extends.keeps types models) same;
      goes_on = λ names types met.
          let before = h.goes_on names types met in
          let now = extends.goes_on before.0 before.3 in (
            now.0,
            λ i l. now.1 i (omega arith) ∙ before.1 i l,
            λ m v e.
                let within : m < length set = slice_get_within set m v e in
                let as_many : length firsts ≡ length set = h.as_many in
                now.1 (get_or firsts m 0) (h.firsts_inside m (omega arith)) ∙ before.2 m v e,
            now.2,
            same_agree (length cells) before.0 now.0 pending h.below now.1 before.4,
          );
    }

-- an equation

meets_agree : (n : ℕ) (names : List ℕ → SimpleType) (v w : ℕ → SimpleType) (e : PlainEquation) → IsWithin n e → AgreeBelow n w v → Meets names v e → Meets names w e
meets_agree n names v w (is_type i j) within agree h = agree i within.0 ∙ h ∙ sym (agree j within.1)
meets_agree n names v w (is_named i name) within agree h = agree i within ∙ h
meets_agree n names v w (is_given i s) within agree h = agree i within ∙ h
meets_agree n names v w (is_function i j k) within agree h = agree i within.0 ∙ h ∙ ap₂ function_type (sym (agree j within.1)) (sym (agree k within.2))

loaded_pair : (count : ℕ) (cs : List PlainCondition) (cells : List Cell) (pending : List (ℕ × ℕ)) (set : List Variable) (firsts : List ℕ) (place : ℕ) (e : PlainEquation) (i r : ℕ)
    → IsLoaded count cs cells pending set firsts → i < length cells → r < length cells → IsWithin count e
    → ((names : List ℕ → SimpleType) (types : ℕ → SimpleType) → NamesAgree names types set firsts → Models types cells → types i ≡ types r → Meets names types e)
    → ((names : List ℕ → SimpleType) (types : ℕ → SimpleType) → NamesAgree names types set firsts → Models types cells → Meets names types e → types i ≡ types r)
    → IsLoaded count (cs ++ (place, e) ∷ []) cells (pending ++ (i, r) ∷ []) set firsts
loaded_pair count cs cells pending set firsts place e i r h li lr within from to = record {
  store = h.store;
  enough = h.enough;
  below = are_below_both (length cells) pending ((i, r) ∷ []) h.below (li, lr, tt);
  as_many = h.as_many;
  firsts_inside = h.firsts_inside;
  marked = h.marked;
  named = h.named;
  keeps = λ names types agree models same.
      meets_both names types cs ((place, e) ∷ []) (h.keeps names types agree models (all_same_front types pending ((i, r) ∷ []) same))
      (from names types agree models (all_same_back types pending ((i, r) ∷ []) same).0, tt);
  goes_on = λ names types met.
      let before = h.goes_on names types (meets_front names types cs ((place, e) ∷ []) met) in
      let last = (meets_back names types cs ((place, e) ∷ []) met).0 in
      let here = to names before.0 before.2 before.3 (meets_agree count names types before.0 e within before.1 last) in
      (before.0, before.1, before.2, before.3, all_same_both before.0 pending ((i, r) ∷ []) before.4 (here, tt));
}

pub loaded_same : (count : ℕ) (cs : List PlainCondition) (cells : List Cell) (pending : List (ℕ × ℕ)) (set : List Variable) (firsts : List ℕ) (place i j : ℕ)
    → IsLoaded count cs cells pending set firsts → IsWithin count (is_type i j)
    → IsLoaded count (cs ++ (place, is_type i j) ∷ []) cells (pending ++ (i, j) ∷ []) set firsts
loaded_same count cs cells pending set firsts place i j h within =
    let enough : count ≤ length cells = h.enough in
    let li : i < count = within.0 in
    let lj : j < count = within.1 in
    loaded_pair count cs cells pending set firsts place (is_type i j) i j h (omega arith) (omega arith) within
    (λ names types agree models same. same) (λ names types agree models met. met)

pub loaded_given : (count : ℕ) (cs : List PlainCondition) (cells more : List Cell) (pending : List (ℕ × ℕ)) (set : List Variable) (firsts : List ℕ) (place i r : ℕ) (s : SimpleType)
    → IsLoaded count cs cells pending set firsts → IsWithin count (is_given i s) → AddsType cells more s r
    → IsLoaded count (cs ++ (place, is_given i s) ∷ []) more (pending ++ (i, r) ∷ []) set firsts
loaded_given count cs cells more pending set firsts place i r s h within adds =
    let enough : count ≤ length cells = h.enough in
    let longer : length cells ≤ length more = adds.extends.longer in
    let li : i < count = within in
    loaded_pair count cs more pending set firsts place (is_given i s) i r (loaded_extended count cs cells more pending set firsts h adds.extends adds.store)
    (omega arith) adds.inside within
    (λ names types agree models same. same ∙ adds.gives types models) (λ names types agree models met. met ∙ sym (adds.gives types models))

pub loaded_function : (count : ℕ) (cs : List PlainCondition) (cells more : List Cell) (pending : List (ℕ × ℕ)) (set : List Variable) (firsts : List ℕ) (place i j k r : ℕ)
    → IsLoaded count cs cells pending set firsts → IsWithin count (is_function i j k) → r ≡ length cells → more ≡ cells ++ Function j k ∷ []
    → IsLoaded count (cs ++ (place, is_function i j k) ∷ []) more (pending ++ (i, r) ∷ []) set firsts
loaded_function count cs cells more pending set firsts place i j k r h within er em =
    let enough : count ≤ length cells = h.enough in
    let li : i < count = within.0 in
    let lj : j < count = within.1 in
    let lk : k < count = within.2 in
    let cell : (j < length cells) × (k < length cells) = (omega arith, omega arith) in
    let all : List Cell = cells ++ Function j k ∷ [] in
    let n : ℕ = length cells in
    let long : length all ≡ n + 1 = length_push cells (Function j k) in
    let here : IsLoaded count (cs ++ (place, is_function i j k) ∷ []) all (pending ++ (i, n) ∷ []) set firsts =
    loaded_pair count cs all pending set firsts place (is_function i j k) i n
    (loaded_extended count cs cells all pending set firsts h (extends_pushed cells (Function j k) h.store cell) (store_pushed cells (Function j k) h.store cell))
    (omega arith) (omega arith) within
    (λ names types agree models same. same ∙ models_new types cells (Function j k) models)
    (λ names types agree models met. met ∙ sym (models_new types cells (Function j k) models)) in
    subst (λ (m : List Cell). IsLoaded count (cs ++ (place, is_function i j k) ∷ []) m (pending ++ (i, r) ∷ []) set firsts) (sym em)
    (subst (λ (p : ℕ). IsLoaded count (cs ++ (place, is_function i j k) ∷ []) all (pending ++ (i, p) ∷ []) set firsts) (sym er) here)

pub loaded_known_name : (count : ℕ) (cs : List PlainCondition) (cells : List Cell) (pending : List (ℕ × ℕ)) (set : List Variable) (firsts : List ℕ) (place i m r : ℕ) (name : List ℕ)
    → IsLoaded count cs cells pending set firsts → IsWithin count (is_named i name) → slice_get set m ≡ Some (name, truth_type) → r ≡ get_or firsts m 0
    → IsLoaded count (cs ++ (place, is_named i name) ∷ []) cells (pending ++ (i, r) ∷ []) set firsts
loaded_known_name count cs cells pending set firsts place i m r name h within at er =
    let enough : count ≤ length cells = h.enough in
    let li : i < count = within in
    let n : ℕ = get_or firsts m 0 in
    let inside : m < length set = slice_get_within set m (name, truth_type) at in
    let as_many : length firsts ≡ length set = h.as_many in
    subst (λ (p : ℕ). IsLoaded count (cs ++ (place, is_named i name) ∷ []) cells (pending ++ (i, p) ∷ []) set firsts) (sym er)
    (loaded_pair count cs cells pending set firsts place (is_named i name) i n h (omega arith) (h.firsts_inside m (omega arith)) within
    (λ names types agree models same. same ∙ agree m (name, truth_type) at)
    (λ names types agree models met. met ∙ sym (agree m (name, truth_type) at)))

-- a name that hasn't occurred yet

pub slice_left : (xs : List Variable) (x y : Variable) (m : ℕ) → slice_get xs m ≡ Some y → slice_get (xs ++ x ∷ []) m ≡ Some y
slice_left [] x y m e = absurd (let f : None ≡ Some y = e in cc)
slice_left (z ∷ xs) x y zero e = e
slice_left (z ∷ xs) x y (suc m) e = slice_left xs x y m e

-- what stands in the list with one more, stands in the list or is the new one at its end
pub slice_cases : (P : Type 0) (xs : List Variable) (x y : Variable) (m : ℕ) → slice_get (xs ++ x ∷ []) m ≡ Some y
    → (slice_get xs m ≡ Some y → P) → (m ≡ length xs → x ≡ y → P) → P
slice_cases P [] x y zero e left last = let f : Some x ≡ Some y = e in let g : x ≡ y = cc in last refl g
slice_cases P [] x y (suc m) e left last = absurd (let f : None ≡ Some y = e in cc)
slice_cases P (z ∷ xs) x y zero e left last = left e
slice_cases P (z ∷ xs) x y (suc m) e left last = slice_cases P xs x y m e left (λ f g. last (ap suc f) g)

pub slice_last : (xs : List Variable) (x : Variable) → slice_get (xs ++ x ∷ []) (length xs) ≡ Some x
slice_last [] x = refl
slice_last (y ∷ xs) x = slice_last xs x

-- the types of names with another one for a name
abbrev renamed : List ℕ → SimpleType → (List ℕ → SimpleType) → List ℕ → SimpleType
renamed name s names other = cond (same_name other name) s (names other)

renamed_here : (name : List ℕ) (s : SimpleType) (names : List ℕ → SimpleType) → renamed name s names name ≡ s
renamed_here name s names = ap (λ (b : Bool). cond b s (names name)) (same_name_here name name refl)

renamed_other : (name : List ℕ) (s : SimpleType) (names : List ℕ → SimpleType) (other : List ℕ) → other ≢ name → renamed name s names other ≡ names other
renamed_other name s names other apart = ap (λ (b : Bool). cond b s (names other)) (same_name_other other name apart)

pub loaded_new_name : (count : ℕ) (cs : List PlainCondition) (cells : List Cell) (pending : List (ℕ × ℕ)) (set : List Variable) (firsts : List ℕ) (place i : ℕ) (name : List ℕ)
    → IsLoaded count cs cells pending set firsts → IsWithin count (is_named i name) → ((m : ℕ) → slice_get set m ≡ Some (name, truth_type) → ⊥)
    → IsLoaded count (cs ++ (place, is_named i name) ∷ []) cells pending (set ++ (name, truth_type) ∷ []) (firsts ++ i ∷ [])
loaded_new_name count cs cells pending set firsts place i name h within new =
    let enough : count ≤ length cells = h.enough in
    let li : i < count = within in
    let as_many : length firsts ≡ length set = h.as_many in
    let x : Variable = (name, truth_type) in
    let last_first : get_or (firsts ++ i ∷ []) (length set) 0 ≡ i = get_or_push firsts i 0 (length set) as_many in
    let first_left : (m : ℕ) → m < length firsts → get_or (firsts ++ i ∷ []) m 0 ≡ get_or firsts m 0 = λ m l. get_or_append_left firsts (i ∷ []) 0 m l in
    let slice_in : (m : ℕ) (v : Variable) → slice_get set m ≡ Some v → m < length firsts = λ m v e. (let l : m < length set = slice_get_within set m v e in omega arith) in
    let old_agree : (names : List ℕ → SimpleType) (types : ℕ → SimpleType) → NamesAgree names types (set ++ x ∷ []) (firsts ++ i ∷ []) → NamesAgree names types set firsts =
    λ names types agree m v e. ap types (sym (first_left m (slice_in m v e))) ∙ agree m v (slice_left set x v m e) in
    let new_agree : (names : List ℕ → SimpleType) (types : ℕ → SimpleType) → NamesAgree names types set firsts → types i ≡ names name → NamesAgree names types (set ++ x ∷ []) (firsts ++ i ∷ []) =
    λ names types agree here m v e.
    slice_cases (types (get_or (firsts ++ i ∷ []) m 0) ≡ names v.0) set x v m e
    (λ old. ap types (first_left m (slice_in m v old)) ∙ agree m v old)
    (λ at same. ap (λ (m : ℕ). types (get_or (firsts ++ i ∷ []) m 0)) at ∙ ap types last_first ∙ here ∙ ap (λ (v : Variable). names v.0) same) in
    record {
      store = h.store;
      enough = enough;
      below = h.below;
      as_many = (let a = length_push firsts i in let b = length_push set x in omega arith);
      firsts_inside = λ m l.
          let a : length (firsts ++ i ∷ []) ≡ length firsts + 1 = length_push firsts i in
          let P : ℕ → Type 0 = λ n. n < length cells in
          three_ways (get_or (firsts ++ i ∷ []) m 0 < length cells) m (length firsts)
          (λ less. subst P (sym (first_left m less)) (h.firsts_inside m less))
          (λ e. subst P (sym (get_or_push firsts i 0 m (sym e))) (omega arith))
          (λ more. absurd (omega arith));
      marked = λ m v e. slice_cases (v.1 ≡ truth_type) set x v m e (λ old. h.marked m v old) (λ at same. ap (λ (v : Variable). v.1) (sym same));
      named = λ types.
          let before = h.named types in
          let names : List ℕ → SimpleType = renamed name (types i) before.0 in (
            names,
            new_agree names types
                (λ m v e. before.1 m v e ∙ sym (renamed_other name (types i) before.0 v.0
                (λ same. new m (e ∙ ap (λ (v : Variable). Some v) (pair_same v name same (h.marked m v e))))))
                (sym (renamed_here name (types i) before.0)),
          );
      keeps = λ names types agree models same.
          meets_both names types cs ((place, is_named i name) ∷ []) (h.keeps names types (old_agree names types agree) models same)
          (ap types (sym last_first) ∙ agree (length set) x (slice_last set x), tt);
      goes_on = λ names types met.
          let before = h.goes_on names types (meets_front names types cs ((place, is_named i name) ∷ []) met) in
          let last : types i ≡ names name = (meets_back names types cs ((place, is_named i name) ∷ []) met).0 in
          (before.0, before.1, new_agree names before.0 before.2 (before.1 i li ∙ last), before.3, before.4);
    }
  where
    pair_same : (v : Variable) (name : List ℕ) → v.0 ≡ name → v.1 ≡ truth_type → v ≡ (name, truth_type)
    pair_same v name e f = λ i. (e i, f i)

pub contains_at : (set : List Variable) (x : Variable) (m : ℕ) → slice_get set m ≡ Some x → Contains set x
contains_at set x m e = (m, slice_get_within set m x e, get_or_from_slice_get set m x x e)

pub inserted_new : (old new : List Variable) (x : Variable) (b : Bool) → (b ≡ true → (Contains old x → ⊥) × (new ≡ old ++ x ∷ [])) → (b ≡ false → Contains old x × (new ≡ old))
    → (Contains old x → ⊥) → new ≡ old ++ x ∷ []
inserted_new old new x true put known none = (put refl).1
inserted_new old new x false put known none = absurd (none (known refl).0)

-- the steps

moved : (count : ℕ) (cs : List PlainCondition) (cells cells2 : List Cell) (pending pending2 : List (ℕ × ℕ)) (set set2 : List Variable) (firsts firsts2 : List ℕ)
    → cells2 ≡ cells → pending2 ≡ pending → set2 ≡ set → firsts2 ≡ firsts → IsLoaded count cs cells pending set firsts → IsLoaded count cs cells2 pending2 set2 firsts2
moved count cs cells cells2 pending pending2 set set2 firsts firsts2 ec ep es ef h =
    subst (λ (c : List Cell). IsLoaded count cs c pending2 set2 firsts2) (sym ec)
    (subst (λ (p : List (ℕ × ℕ)). IsLoaded count cs cells p set2 firsts2) (sym ep)
    (subst (λ (s : List Variable). IsLoaded count cs cells pending s firsts2) (sym es)
    (subst (λ (f : List ℕ). IsLoaded count cs cells pending set f) (sym ef) h)))

pub adds_pair_name : (old new : Loading) (i m r : ℕ) (name : List ℕ) → slice_get old.names m ≡ Some (name, truth_type) → r ≡ get_or old.firsts.items m 0
    → new.cells.items ≡ old.cells.items → new.pending.items ≡ old.pending.items ++ (i, r) ∷ [] → new.names ≡ old.names → new.firsts.items ≡ old.firsts.items
    → AddsEquation (is_named i name) old new
adds_pair_name old new i m r name at er ec ep en ef = record {
  adds = λ count cs place h within.
      moved count (cs ++ (place, is_named i name) ∷ []) old.cells.items new.cells.items (old.pending.items ++ (i, r) ∷ []) new.pending.items old.names new.names old.firsts.items new.firsts.items ec ep en ef
      (loaded_known_name count cs old.cells.items old.pending.items old.names old.firsts.items place i m r name h within at er);
}

pub adds_new_name : (old new : Loading) (i : ℕ) (name : List ℕ) → (Contains old.names (name, truth_type) → ⊥)
    → new.cells.items ≡ old.cells.items → new.pending.items ≡ old.pending.items → new.names ≡ old.names ++ (name, truth_type) ∷ [] → new.firsts.items ≡ old.firsts.items ++ i ∷ []
    → AddsEquation (is_named i name) old new
adds_new_name old new i name none ec ep en ef = record {
  adds = λ count cs place h within.
      moved count (cs ++ (place, is_named i name) ∷ []) old.cells.items new.cells.items old.pending.items new.pending.items (old.names ++ (name, truth_type) ∷ []) new.names (old.firsts.items ++ i ∷ []) new.firsts.items ec ep en ef
      (loaded_new_name count cs old.cells.items old.pending.items old.names old.firsts.items place i name h within (λ m e. none (contains_at old.names (name, truth_type) m e)));
}

pub adds_same : (old new : Loading) (i j : ℕ)
    → new.cells.items ≡ old.cells.items → new.pending.items ≡ old.pending.items ++ (i, j) ∷ [] → new.names ≡ old.names → new.firsts.items ≡ old.firsts.items
    → AddsEquation (is_type i j) old new
adds_same old new i j ec ep en ef = record {
  adds = λ count cs place h within.
      moved count (cs ++ (place, is_type i j) ∷ []) old.cells.items new.cells.items (old.pending.items ++ (i, j) ∷ []) new.pending.items old.names new.names old.firsts.items new.firsts.items ec ep en ef
      (loaded_same count cs old.cells.items old.pending.items old.names old.firsts.items place i j h within);
}

pub adds_given : (old new : Loading) (cells : List Cell) (i r : ℕ) (s : SimpleType) → AddsType old.cells.items cells s r
    → new.cells.items ≡ cells → new.pending.items ≡ old.pending.items ++ (i, r) ∷ [] → new.names ≡ old.names → new.firsts.items ≡ old.firsts.items
    → AddsEquation (is_given i s) old new
adds_given old new cells i r s adds ec ep en ef = record {
  adds = λ count cs place h within.
      moved count (cs ++ (place, is_given i s) ∷ []) cells new.cells.items (old.pending.items ++ (i, r) ∷ []) new.pending.items old.names new.names old.firsts.items new.firsts.items ec ep en ef
      (loaded_given count cs old.cells.items cells old.pending.items old.names old.firsts.items place i r s h within adds);
}

pub adds_function_type : (old new : Loading) (cells : List Cell) (i j k r : ℕ) → r ≡ length old.cells.items → cells ≡ old.cells.items ++ Function j k ∷ []
    → new.cells.items ≡ cells → new.pending.items ≡ old.pending.items ++ (i, r) ∷ [] → new.names ≡ old.names → new.firsts.items ≡ old.firsts.items
    → AddsEquation (is_function i j k) old new
adds_function_type old new cells i j k r er em ec ep en ef = record {
  adds = λ count cs place h within.
      moved count (cs ++ (place, is_function i j k) ∷ []) cells new.cells.items (old.pending.items ++ (i, r) ∷ []) new.pending.items old.names new.names old.firsts.items new.firsts.items ec ep en ef
      (loaded_function count cs old.cells.items cells old.pending.items old.names old.firsts.items place i j k r h within er em);
}

-- the loop over the conditions

within_at : (n : ℕ) (cs : List PlainCondition) (i : ℕ) (c : PlainCondition) → AreWithin n cs → i < length cs → get_or cs i c ≡ c → IsWithin n c.1
within_at n [] i c h l e = absurd (omega arith)
within_at n (x ∷ cs) zero c h l e = subst (λ (d : PlainCondition). IsWithin n d.1) e h.0
within_at n (x ∷ cs) (suc i) c h l e = within_at n cs i c h.1 (omega arith) e

pub loaded_step : (count : ℕ) (conditions : List Condition) (i : ℕ) (c : Condition) (old new : Loading) → AreWithin count (map plain_condition conditions) → i < length conditions
    → c ≡ get_or conditions i c → HasLoaded count (map plain_condition (take i conditions)) old → AddsEquation (plain_equation c.equation) old new
    → HasLoaded count (map plain_condition (take (i + 1) conditions)) new
loaded_step count conditions i c old new within l e h adds =
    let p : PlainCondition = plain_condition c in
    let more : take (i + 1) conditions ≡ take i conditions ++ c ∷ [] = take_more conditions i c l ∙ ap (λ (d : Condition). take i conditions ++ d ∷ []) (sym e) in
    let plain : map plain_condition (take (i + 1) conditions) ≡ map plain_condition (take i conditions) ++ p ∷ [] =
    ap (map plain_condition) more ∙ map-append plain_condition (take i conditions) (c ∷ []) in
    let long : length (map plain_condition conditions) ≡ length conditions = length-map conditions plain_condition in
    let at : get_or (map plain_condition conditions) i p ≡ p = get_or-map-at conditions i c l ∙ ap plain_condition (sym e) in
    let here : IsWithin count p.1 = within_at count (map plain_condition conditions) i p within (omega arith) at in
    subst (λ (cs : List PlainCondition). HasLoaded count cs new) (sym plain) (adds.adds count (map plain_condition (take i conditions)) p.0 h here)
  where
    get_or-map-at : (conditions : List Condition) (i : ℕ) (c : Condition) → i < length conditions → get_or (map plain_condition conditions) i (plain_condition c) ≡ plain_condition (get_or conditions i c)
    get_or-map-at [] i c l = refl
    get_or-map-at (x ∷ xs) zero c l = refl
    get_or-map-at (x ∷ xs) (suc i) c l = get_or-map-at xs i c (omega arith)
