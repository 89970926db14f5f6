-- Conditions that are solved.
use Rattle.std.proofs.Common.{ℕ, zero, suc, ◌+◌, ◌<◌, ◌≤◌, List, [], ◌∷◌, ◌++◌, length, get_or, take, drop, map, ◌≡◌, sym, ap, ◌∙◌, subst, arith}
use Rattle.std.proofs.lemmas.List.{take-append-drop, drop_more, take_more, take_all, take-map, map-append, length-map}
use Rattle.hol_terms.specs.Terms.{SimpleType, base_type}
use Rattle.type_infer.specs.declared.cells.Cell.{Cell}
use Rattle.type_infer.specs.declared.conditions.Condition.{Condition}
use Rattle.type_infer.specs.declared.loading.Loading.{Loading}
use Rattle.type_infer.specs.declared.ordering.Mark.{Mark}
use Rattle.type_infer.specs.Cells.{HoldsAt, cell_at, Models}
use Rattle.type_infer.specs.Conditions.{PlainCondition, CanBeMet, IsFirstUnmet}
use Rattle.type_infer.specs.Equations.{plain_condition}
use Rattle.type_infer.specs.Loading.{AreWithin}
use Rattle.type_infer.specs.Merging.{AllSame, Merges}
use Rattle.type_infer.specs.Ordering.{placed, Orders}
use Rattle.type_infer.specs.Solutions.{Solves, filled}
use Rattle.type_infer.specs.Steps.{HasLoaded}
use Rattle.type_infer.proofs.Stores.{three_ways, cell_past}
use Rattle.type_infer.proofs.Fillings.{filled_models}

pub solved_apart : (count : ℕ) (cs : List PlainCondition) (state : Loading) → HasLoaded count cs state
    → ((types : ℕ → SimpleType) → Models types state.cells.items → AllSame types state.pending.items → ⊥) → CanBeMet cs → ⊥
solved_apart count cs state h apart can =
    let got = h.goes_on can.names can.types can.met in apart got.0 got.3 got.4

pub solved_endless : (count : ℕ) (cs : List PlainCondition) (state : Loading) (new : List Cell) → HasLoaded count cs state
    → Merges state.cells.items new state.pending.items [] → ((types : ℕ → SimpleType) → Models types new → ⊥) → CanBeMet cs → ⊥
solved_endless count cs state new h merges none can =
    let got = h.goes_on can.names can.types can.met in none got.0 (merges.goes_on got.0 got.3 got.4).0

-- shapes give types to all cells
orders_models : (cells : List Cell) (marks : List Mark) (shapes : List Cell) (w : ℕ → SimpleType) → Orders cells marks shapes → Models w shapes → Models (placed w marks) cells
orders_models cells marks shapes w h models i =
    three_ways (HoldsAt (placed w marks) i (cell_at cells i)) i (length cells)
    (λ l. h.ordered.keeps w models i (h.all i l))
    (λ e. subst (HoldsAt (placed w marks) i) (sym (cell_past cells i (let f : i ≡ length cells = e in omega arith))) tt)
    (λ l. subst (HoldsAt (placed w marks) i) (sym (cell_past cells i (omega arith))) tt)

pub solved : (count : ℕ) (cs : List PlainCondition) (state : Loading) (new : List Cell) (marks : List Mark) (shapes : List Cell) → HasLoaded count cs state
    → Merges state.cells.items new state.pending.items [] → Orders new marks shapes → Solves count cs marks shapes
solved count cs state new marks shapes h merges orders = record {
  are_shapes = orders.ordered.are_shapes;
  keeps = λ w models.
      let types : ℕ → SimpleType = placed w marks in
      let before = merges.keeps types (orders_models new marks shapes w orders models) tt in
      let names = h.named types in
      (names.0, h.keeps names.0 types names.1 before.0 before.1);
  goes_on = λ names types met.
      let got = h.goes_on names types met in
      let merged = merges.goes_on got.0 got.3 got.4 in
      let last = orders.ordered.goes_on got.0 merged.0 in
      let long : length new ≡ length state.cells.items = merges.as_long in
      let enough : count ≤ length state.cells.items = h.enough in
      (last.0, last.1, λ i l. sym (got.1 i l) ∙ last.2 i (orders.all i (omega arith)));
}

pub solved_can_be_met : (count : ℕ) (cs : List PlainCondition) (marks : List Mark) (shapes : List Cell) → Solves count cs marks shapes → CanBeMet cs
solved_can_be_met count cs marks shapes h =
    let got = h.keeps (filled 73 shapes) (filled_models 73 shapes h.are_shapes) in
    record { names = got.0; types = placed (filled 73 shapes) marks; met = got.1 }

-- the first condition that can't be met

pub within_take : (n : ℕ) (cs : List PlainCondition) (k : ℕ) → AreWithin n cs → AreWithin n (take k cs)
within_take n cs zero h = tt
within_take n [] (suc k) h = tt
within_take n (c ∷ cs) (suc k) h = (h.0, within_take n cs k h.1)

pub none_can_be_met : CanBeMet []
none_can_be_met = record { names = λ name. base_type 79; types = λ i. base_type 79; met = tt }

pub unmet_some : (cs : List PlainCondition) → (CanBeMet cs → ⊥) → 0 < length cs
unmet_some [] h = absurd (h none_can_be_met)
unmet_some (c ∷ cs) h = omega arith

pub first_unmet_at : (conditions : List Condition) (d : Condition) (met unmet : ℕ) → met < unmet → unmet ≤ met + 1 → unmet ≤ length conditions
    → CanBeMet (map plain_condition (take met conditions)) → (CanBeMet (map plain_condition (take unmet conditions)) → ⊥)
    → IsFirstUnmet (map plain_condition conditions) (get_or conditions met d).place
first_unmet_at conditions d met unmet l m n h g =
    let next : unmet ≡ met + 1 = omega arith in
    let inside : met < length conditions = omega arith in
    let c : Condition = get_or conditions met d in
    let front : List Condition = take met conditions in
    let back : List Condition = drop (met + 1) conditions in
    let p : PlainCondition = plain_condition c in
    let rest : drop met conditions ≡ c ∷ back = drop_more conditions met d inside in
    let split : conditions ≡ front ++ c ∷ back = sym (take-append-drop met conditions) ∙ ap (λ (ds : List Condition). front ++ ds) rest in
    let whole : map plain_condition conditions ≡ map plain_condition front ++ p ∷ map plain_condition back =
    ap (map plain_condition) split ∙ map-append plain_condition front (c ∷ back) in
    let more : take unmet conditions ≡ front ++ c ∷ [] =
    ap (λ (k : ℕ). take k conditions) next ∙ take_more conditions met d inside in
    let upto : map plain_condition (take unmet conditions) ≡ map plain_condition front ++ p ∷ [] =
    ap (map plain_condition) more ∙ map-append plain_condition front (c ∷ []) in
    record {
      before = map plain_condition front;
      equation = p.1;
      after = map plain_condition back;
      parts = whole;
      met = h;
      unmet = λ can. g (subst CanBeMet (sym upto) can);
    }

pub unmet_many : (conditions : List Condition) → (CanBeMet (map plain_condition conditions) → ⊥) → 0 < length conditions
unmet_many conditions h =
    let some : 0 < length (map plain_condition conditions) = unmet_some (map plain_condition conditions) h in
    let long : length (map plain_condition conditions) ≡ length conditions = length-map conditions plain_condition in omega arith

pub unmet_whole : (conditions : List Condition) → (CanBeMet (map plain_condition conditions) → ⊥) → CanBeMet (map plain_condition (take (length conditions) conditions)) → ⊥
unmet_whole conditions h can = h (subst CanBeMet (ap (map plain_condition) (take_all (length conditions) conditions (omega arith))) can)

pub within_part : (n : ℕ) (conditions : List Condition) (k : ℕ) → AreWithin n (map plain_condition conditions) → AreWithin n (map plain_condition (take k conditions))
within_part n conditions k h = subst (AreWithin n) (take-map plain_condition k conditions) (within_take n (map plain_condition conditions) k h)
