-- Cells get shapes, parts before wholes.
use Rattle.std.proofs.Common.{ℕ, zero, suc, ◌+◌, ◌<◌, ◌≤◌, List, [], ◌∷◌, ◌++◌, length, set, replicate, reverse, ◌≡◌, ◌≢◌, ◌⊎◌, refl, sym, ap, ap₂, ◌∙◌, subst, arith, inl, inr}
use Rattle.std.proofs.lemmas.List.{length-set, get_or-set_same, get_or-set_other, get_or_past, length-replicate, length_push, reverse-append, get_or-replicate}
use Rattle.hol_terms.specs.Terms.{SimpleType, base_type, function_type}
use Rattle.type_infer.specs.declared.cells.Cell.{Cell}
use Rattle.type_infer.specs.declared.cells.Cell.TheVariants.{Open, Same, Base, Function}
use Rattle.type_infer.specs.declared.ordering.Mark.{Mark}
use Rattle.type_infer.specs.declared.ordering.Mark.TheVariants.{New, Waiting, Done}
use Rattle.type_infer.specs.Cells.{HoldsAt, cell_at, Models, IsCell, IsStore, AgreeBelow}
use Rattle.type_infer.specs.Ordering.{mark_at, IsDone, IsWaiting, IsSeen, number_of, placed, IsShape, AreShapes, IsPart, ArePartsDone, IsOrdered, IsIn, size_of, IsLower, IsPath, Finishes, mark_weight, marks_weight, GoesOn, shape_of}
use Rattle.type_infer.proofs.Stores.{three_ways, value_of, changed, changed_at, changed_below, models_front, models_new, models_pushed, each_pushed, cell_past}
use Rattle.type_infer.proofs.Merges.{two_ways}

-- marks

mark_set : (marks : List Mark) (i : ℕ) (m : Mark) → i < length marks → mark_at (set marks i m) i ≡ m
mark_set marks i m l = get_or-set_same marks i m New l

mark_other : (marks : List Mark) (i j : ℕ) (m : Mark) → j ≢ i → mark_at (set marks i m) j ≡ mark_at marks j
mark_other marks i j m other = get_or-set_other marks i j m New other

-- a cell with another mark is another one
marked_apart : (P : Mark → Type 0) (marks : List Mark) (i j : ℕ) → (P (mark_at marks i) → ⊥) → P (mark_at marks j) → j ≢ i
marked_apart P marks i j undone is e = let Q : ℕ → Type 0 = λ k. P (mark_at marks k) in undone (subst Q e is)

-- what was marked in a way and isn't the changed one is still marked so
marked_still : (P : Mark → Type 0) (marks : List Mark) (i j : ℕ) (m : Mark) → j ≢ i → P (mark_at marks j) → P (mark_at (set marks i m) j)
marked_still P marks i j m other h = subst P (sym (mark_other marks i j m other)) h

marked_before : (P : Mark → Type 0) (marks : List Mark) (i j : ℕ) (m : Mark) → j ≢ i → P (mark_at (set marks i m) j) → P (mark_at marks j)
marked_before P marks i j m other h = subst P (mark_other marks i j m other) h

done_kept : (marks : List Mark) (i j : ℕ) (m : Mark) → (IsDone (mark_at marks i) → ⊥) → IsDone (mark_at marks j) → IsDone (mark_at (set marks i m) j)
done_kept marks i j m undone h = marked_still IsDone marks i j m (marked_apart IsDone marks i j undone h) h

parts_kept : (marks : List Mark) (i : ℕ) (m : Mark) (c : Cell) → (IsDone (mark_at marks i) → ⊥) → ArePartsDone marks c → ArePartsDone (set marks i m) c
parts_kept marks i m Open undone h = tt
parts_kept marks i m (Same j) undone h = done_kept marks i j m undone h
parts_kept marks i m (Base letter) undone h = tt
parts_kept marks i m (Function j k) undone h = (done_kept marks i j m undone h.0, done_kept marks i k m undone h.1)

placed_kept : (w : ℕ → SimpleType) (marks : List Mark) (i j : ℕ) (m : Mark) → (IsDone (mark_at marks i) → ⊥) → IsDone (mark_at marks j) → placed w (set marks i m) j ≡ placed w marks j
placed_kept w marks i j m undone h = ap (λ (mark : Mark). w (number_of mark)) (mark_other marks i j m (marked_apart IsDone marks i j undone h))

holds_kept : (w : ℕ → SimpleType) (marks : List Mark) (i j : ℕ) (m : Mark) (c : Cell) → (IsDone (mark_at marks i) → ⊥) → IsDone (mark_at marks j) → ArePartsDone marks c
    → HoldsAt (placed w marks) j c → HoldsAt (placed w (set marks i m)) j c
holds_kept w marks i j m Open undone done parts h = tt
holds_kept w marks i j m (Same k) undone done parts h = placed_kept w marks i j m undone done ∙ h ∙ sym (placed_kept w marks i k m undone parts)
holds_kept w marks i j m (Base letter) undone done parts h = placed_kept w marks i j m undone done ∙ h
holds_kept w marks i j m (Function k l) undone done parts h =
    placed_kept w marks i j m undone done ∙ h ∙ ap₂ function_type (sym (placed_kept w marks i k m undone parts.0)) (sym (placed_kept w marks i l m undone parts.1))

-- what a cell says of a type, by the shapes of its parts
abbrev Says : (ℕ → SimpleType) → SimpleType → Cell → Type 0
Says v s Open = Unit {0}
Says v s (Same j) = s ≡ v j
Says v s (Base letter) = s ≡ base_type letter.byte
Says v s (Function j k) = s ≡ function_type (v j) (v k)

says_new : (w : ℕ → SimpleType) (marks : List Mark) (i k : ℕ) (c : Cell) → i < length marks → (IsDone (mark_at marks i) → ⊥) → ArePartsDone marks c → Says (placed w marks) (w k) c
    → HoldsAt (placed w (set marks i (Done k))) i c
says_new w marks i k c l undone parts h = go c parts h
  where
    here : placed w (set marks i (Done k)) i ≡ w k
    here = ap (λ (mark : Mark). w (number_of mark)) (mark_set marks i (Done k) l)

    go : (c : Cell) → ArePartsDone marks c → Says (placed w marks) (w k) c → HoldsAt (placed w (set marks i (Done k))) i c
    go Open parts h = tt
    go (Same j) parts h = here ∙ h ∙ sym (placed_kept w marks i j (Done k) undone parts)
    go (Base letter) parts h = here ∙ h
    go (Function j l) parts h = here ∙ h ∙ ap₂ function_type (sym (placed_kept w marks i j (Done k) undone parts.0)) (sym (placed_kept w marks i l (Done k) undone parts.1))

-- a cell becomes done

ordered_more : (cells : List Cell) (marks : List Mark) (shapes more : List Cell) (i k : ℕ) → IsOrdered cells marks shapes → i < length cells
    → (IsDone (mark_at marks i) → ⊥) → ArePartsDone marks (cell_at cells i)
    → length shapes ≤ length more → AreShapes more → k < length more
    → ((w : ℕ → SimpleType) → Models w more → Models w shapes)
    → ((w : ℕ → SimpleType) → Models w more → Says (placed w marks) (w k) (cell_at cells i))
    → ((v w : ℕ → SimpleType) → Models v cells → Models w shapes → ((j : ℕ) → IsDone (mark_at marks j) → v j ≡ placed w marks j)
    → (u : ℕ → SimpleType) × Models u more × AgreeBelow (length shapes) u w × (v i ≡ u k))
    → IsOrdered cells (set marks i (Done k)) more
ordered_more cells marks shapes more i k h l undone parts longer are_shapes inside front says goes_on =
    let within : i < length marks = let same = h.as_long in omega arith in
    let new : List Mark = set marks i (Done k) in
    let at_new : mark_at new i ≡ Done k = mark_set marks i (Done k) within in
    record {
      as_long = length-set marks i (Done k) ∙ h.as_long;
      are_shapes = are_shapes;
      inside = λ j done.
          two_ways (number_of (mark_at new j) < length more) j i
          (λ e. let P : ℕ → Type 0 = λ j. number_of (mark_at new j) < length more in
          let Q : Mark → Type 0 = λ m. number_of m < length more in subst P (sym e) (subst Q (sym at_new) inside))
          (λ other.
          let Q : Mark → Type 0 = λ m. number_of m < length more in
          let old : number_of (mark_at marks j) < length shapes = h.inside j (marked_before IsDone marks i j (Done k) other done) in
          let wide : number_of (mark_at marks j) < length more = omega arith in
          subst Q (sym (mark_other marks i j (Done k) other)) wide);
      parts = λ j done.
          two_ways (ArePartsDone new (cell_at cells j)) j i
          (λ e. let P : ℕ → Type 0 = λ j. ArePartsDone new (cell_at cells j) in subst P (sym e) (parts_kept marks i (Done k) (cell_at cells i) undone parts))
          (λ other. parts_kept marks i (Done k) (cell_at cells j) undone (h.parts j (marked_before IsDone marks i j (Done k) other done)));
      keeps = λ w models j done.
          two_ways (HoldsAt (placed w new) j (cell_at cells j)) j i
          (λ e. let P : ℕ → Type 0 = λ j. HoldsAt (placed w new) j (cell_at cells j) in
          subst P (sym e) (says_new w marks i k (cell_at cells i) within undone parts (says w models)))
          (λ other.
          let old = marked_before IsDone marks i j (Done k) other done in
          holds_kept w marks i j (Done k) (cell_at cells j) undone old (h.parts j old) (h.keeps w (front w models) j old));
      goes_on = λ v models.
          let before = h.goes_on v models in
          let now = goes_on v before.0 models before.1 before.2 in (
            now.0,
            now.1,
            λ j done.
                two_ways (v j ≡ placed now.0 new j) j i
                (λ e. let P : ℕ → Type 0 = λ j. v j ≡ placed now.0 new j in
                subst P (sym e) (now.3 ∙ ap (λ (m : Mark). now.0 (number_of m)) (sym at_new)))
                (λ other.
                let old = marked_before IsDone marks i j (Done k) other done in
                before.2 j old ∙ sym (now.2 (number_of (mark_at marks j)) (h.inside j old))
                ∙ ap (λ (m : Mark). now.0 (number_of m)) (sym (mark_other marks i j (Done k) other))),
          );
    }

-- the same cell as another one that is done
pub ordered_same : (cells : List Cell) (marks new : List Mark) (shapes : List Cell) (i j k : ℕ) → IsOrdered cells marks shapes → i < length cells
    → (IsDone (mark_at marks i) → ⊥) → ArePartsDone marks (cell_at cells i) → Same j ≡ cell_at cells i → k ≡ number_of (mark_at marks j) → new ≡ set marks i (Done k)
    → IsOrdered cells new shapes
ordered_same cells marks new shapes i j k h l undone parts e ek en =
    let done : IsDone (mark_at marks j) = subst (ArePartsDone marks) (sym e) parts in
    let SaysIt : (ℕ → SimpleType) → SimpleType → Type 0 = λ v s. Says v s (cell_at cells i) in
    let within : k < length shapes = let Q : ℕ → Type 0 = λ n. n < length shapes in subst Q (sym ek) (h.inside j done) in
    subst (λ (ms : List Mark). IsOrdered cells ms shapes) (sym en)
    (ordered_more cells marks shapes shapes i k h l undone parts (omega arith) h.are_shapes within
    (λ w models. models)
    (λ w models. subst (Says (placed w marks) (w k)) e (ap w ek))
    (λ v w mv mw agree.
    let same : v i ≡ v j = subst (HoldsAt v i) (sym e) (mv i) in
    (w, mw, λ n below. refl, same ∙ agree j done ∙ ap w (sym ek))))

-- a cell with a shape of its own

-- the shapes as a store
pub shapes_store : (shapes : List Cell) → AreShapes shapes → IsStore shapes
shapes_store shapes are k =
    three_ways (IsCell (length shapes) k (cell_at shapes k)) k (length shapes)
    (λ l. go (cell_at shapes k) l (are k))
    (λ e. subst (IsCell (length shapes) k) (sym (cell_past shapes k (let f : k ≡ length shapes = e in omega arith))) tt)
    (λ l. subst (IsCell (length shapes) k) (sym (cell_past shapes k (omega arith))) tt)
  where
    go : (c : Cell) → k < length shapes → IsShape k c → IsCell (length shapes) k c
    go Open l h = tt
    go (Same j) l h = absurd h
    go (Base letter) l h = tt
    go (Function i j) l h = let a : i < k = h.0 in let b : j < k = h.1 in (omega arith, omega arith)

shape_is_shape : (cells : List Cell) (marks : List Mark) (shapes : List Cell) (c : Cell) → IsOrdered cells marks shapes → ((j : ℕ) → Same j ≡ c → ⊥) → ArePartsDone marks c
    → IsShape (length shapes) (shape_of marks c)
shape_is_shape cells marks shapes Open h other parts = tt
shape_is_shape cells marks shapes (Same j) h other parts = absurd (other j refl)
shape_is_shape cells marks shapes (Base letter) h other parts = tt
shape_is_shape cells marks shapes (Function j k) h other parts = (h.inside j parts.0, h.inside k parts.1)

shape_is_cell : (n : ℕ) (c : Cell) → IsShape n c → IsCell n n c
shape_is_cell n Open h = tt
shape_is_cell n (Same j) h = absurd h
shape_is_cell n (Base letter) h = tt
shape_is_cell n (Function j k) h = h

shape_says : (w : ℕ → SimpleType) (marks : List Mark) (k : ℕ) (c : Cell) → ((j : ℕ) → Same j ≡ c → ⊥) → HoldsAt w k (shape_of marks c) → Says (placed w marks) (w k) c
shape_says w marks k Open other h = tt
shape_says w marks k (Same j) other h = absurd (other j refl)
shape_says w marks k (Base letter) other h = h
shape_says w marks k (Function i j) other h = h

shape_value : (v w : ℕ → SimpleType) (marks : List Mark) (i : ℕ) (c : Cell) → ((j : ℕ) → Same j ≡ c → ⊥) → ArePartsDone marks c
    → ((j : ℕ) → IsDone (mark_at marks j) → v j ≡ placed w marks j) → HoldsAt v i c → v i ≡ value_of w (v i) (shape_of marks c)
shape_value v w marks i Open other parts agree h = refl
shape_value v w marks i (Same j) other parts agree h = absurd (other j refl)
shape_value v w marks i (Base letter) other parts agree h = h
shape_value v w marks i (Function j k) other parts agree h = h ∙ ap₂ function_type (agree j parts.0) (agree k parts.1)

shapes_pushed : (shapes : List Cell) (c : Cell) → AreShapes shapes → IsShape (length shapes) c → AreShapes (shapes ++ c ∷ [])
shapes_pushed shapes c are is = each_pushed IsShape shapes c (λ k. tt) (λ k l. are k) is

pub ordered_new : (cells : List Cell) (marks new : List Mark) (shapes more : List Cell) (i k : ℕ) (c s : Cell) → IsOrdered cells marks shapes → i < length cells
    → (IsDone (mark_at marks i) → ⊥) → ArePartsDone marks (cell_at cells i) → c ≡ cell_at cells i → ((j : ℕ) → Same j ≡ c → ⊥) → s ≡ shape_of marks c
    → k ≡ length shapes → more ≡ shapes ++ s ∷ [] → new ≡ set marks i (Done k)
    → IsOrdered cells new more
ordered_new cells marks new shapes more i k c s h l undone parts ec other es ek em en =
    let n : ℕ = length shapes in
    let shape : Cell = shape_of marks (cell_at cells i) in
    let apart : (j : ℕ) → Same j ≡ cell_at cells i → ⊥ = λ j e. other j (e ∙ sym ec) in
    let is : IsShape n shape = shape_is_shape cells marks shapes (cell_at cells i) h apart parts in
    let all : List Cell = shapes ++ shape ∷ [] in
    let same : length all ≡ n + 1 = length_push shapes shape in
    let here : IsOrdered cells (set marks i (Done n)) all =
    ordered_more cells marks shapes all i n h l undone parts (omega arith) (shapes_pushed shapes shape h.are_shapes is) (omega arith)
    (λ w models. models_front w shapes shape models)
    (λ w models. shape_says w marks n (cell_at cells i) apart (models_new w shapes shape models))
    (λ v w mv mw agree.
    let u : ℕ → SimpleType = changed n (value_of w (v i) shape) w in (
      u,
      models_pushed w (v i) shapes shape (shapes_store shapes h.are_shapes) (shape_is_cell n shape is) mw,
      changed_below n (value_of w (v i) shape) w,
      shape_value v w marks i (cell_at cells i) apart parts agree (mv i) ∙ sym (changed_at n (value_of w (v i) shape) w),
    )) in
    let same_shape : s ≡ shape = es ∙ ap (shape_of marks) ec in
    let same_more : more ≡ all = em ∙ ap (λ (c : Cell). shapes ++ c ∷ []) same_shape in
    let same_new : new ≡ set marks i (Done n) = en ∙ ap (λ (n : ℕ). set marks i (Done n)) ek in
    subst (λ (ms : List Mark). IsOrdered cells ms more) (sym same_new) (subst (IsOrdered cells (set marks i (Done n))) (sym same_more) here)

pub ordered_waiting : (cells : List Cell) (marks new : List Mark) (shapes : List Cell) (i : ℕ) → IsOrdered cells marks shapes → i < length cells → (IsDone (mark_at marks i) → ⊥)
    → new ≡ set marks i Waiting → IsOrdered cells new shapes
ordered_waiting cells marks new shapes i h l undone en =
    let within : i < length marks = let same = h.as_long in omega arith in
    let waiting : List Mark = set marks i Waiting in
    let apart : (j : ℕ) → IsDone (mark_at waiting j) → j ≢ i = λ j done e.
    let Q : ℕ → Type 0 = λ j. IsDone (mark_at waiting j) in subst IsDone (mark_set marks i Waiting within) (subst Q e done) in
    let old : (j : ℕ) → IsDone (mark_at waiting j) → IsDone (mark_at marks j) = λ j done. marked_before IsDone marks i j Waiting (apart j done) done in
    let here : IsOrdered cells waiting shapes = record {
      as_long = length-set marks i Waiting ∙ h.as_long;
      are_shapes = h.are_shapes;
      inside = λ j done. let Q : Mark → Type 0 = λ m. number_of m < length shapes in subst Q (sym (mark_other marks i j Waiting (apart j done))) (h.inside j (old j done));
      parts = λ j done. parts_kept marks i Waiting (cell_at cells j) undone (h.parts j (old j done));
      keeps = λ w models j done. holds_kept w marks i j Waiting (cell_at cells j) undone (old j done) (h.parts j (old j done)) (h.keeps w models j (old j done));
      goes_on = λ v models. let before = h.goes_on v models in
          (before.0, before.1, λ j done. before.2 j (old j done) ∙ sym (placed_kept before.0 marks i j Waiting undone (old j done)));
    } in
    subst (λ (ms : List Mark). IsOrdered cells ms shapes) (sym en) here

-- lower types

lower_not_itself : (v : ℕ → SimpleType) (i : ℕ) → IsLower v i i → ⊥
lower_not_itself v i (inl h) = omega arith
lower_not_itself v i (inr h) = let l : i < i = h.1 in omega arith

lower_twice : (v : ℕ → SimpleType) (i j k : ℕ) → IsLower v i j → IsLower v j k → IsLower v i k
lower_twice v i j k (inl h) (inl g) = inl (omega arith)
lower_twice v i j k (inl h) (inr g) = let e : size_of (v j) ≡ size_of (v k) = g.0 in inl (omega arith)
lower_twice v i j k (inr h) (inl g) = let e : size_of (v i) ≡ size_of (v j) = h.0 in inl (omega arith)
lower_twice v i j k (inr h) (inr g) =
    let e : size_of (v i) ≡ size_of (v j) = h.0 in let f : size_of (v j) ≡ size_of (v k) = g.0 in
    let a : i < j = h.1 in let b : j < k = g.1 in inr (omega arith, omega arith)

part_lower : (v : ℕ → SimpleType) (n i j : ℕ) (c : Cell) → IsCell n i c → HoldsAt v i c → IsPart j c → IsLower v j i
part_lower v n i j Open cell h part = absurd part
part_lower v n i j (Same k) cell h part =
    let e : j ≡ k = part in
    let l : k < i = cell in
    let same : size_of (v i) ≡ size_of (v k) = ap size_of h in
    let there : size_of (v j) ≡ size_of (v k) = ap (λ (n : ℕ). size_of (v n)) e in
    inr (omega arith, omega arith)
part_lower v n i j (Base letter) cell h part = absurd part
part_lower v n i j (Function k l) cell h (inl e) =
    let whole : size_of (v i) ≡ size_of (v k) + size_of (v l) + 1 = ap size_of h in
    let there : size_of (v j) ≡ size_of (v k) = ap (λ (n : ℕ). size_of (v n)) e in
    inl (omega arith)
part_lower v n i j (Function k l) cell h (inr e) =
    let whole : size_of (v i) ≡ size_of (v k) + size_of (v l) + 1 = ap size_of h in
    let there : size_of (v j) ≡ size_of (v l) = ap (λ (n : ℕ). size_of (v n)) e in
    inl (omega arith)

-- the path of waiting cells

waiting_not_done : (m : Mark) → IsWaiting m → IsDone m → ⊥
waiting_not_done New w d = d
waiting_not_done Waiting w d = d
waiting_not_done (Done k) w d = w

pub path_of_new : (cells : List Cell) (n : ℕ) (marks : List Mark) → marks ≡ replicate n New → IsPath cells marks []
path_of_new cells n marks e = record {
  waits = λ i w. subst IsWaiting (new_at i) w;
  marked = λ i w. absurd w;
  once = tt;
  falls = λ v h. tt;
}
  where
    new_at : (i : ℕ) → mark_at marks i ≡ New
    new_at i = three_ways (mark_at marks i ≡ New) i n
        (λ l. ap (λ (ms : List Mark). mark_at ms i) e ∙ get_or-replicate n i New New l)
        (λ same. get_or_past marks i New (let f : i ≡ n = same in let long : length marks ≡ n = ap length e ∙ length-replicate n New in omega arith))
        (λ l. get_or_past marks i New (let long : length marks ≡ n = ap length e ∙ length-replicate n New in omega arith))

pub ordered_of_new : (cells : List Cell) (marks : List Mark) → marks ≡ replicate (length cells) New → IsOrdered cells marks []
ordered_of_new cells marks e = record {
  as_long = ap length e ∙ length-replicate (length cells) New;
  are_shapes = λ k. tt;
  inside = λ i done. absurd (none i done);
  parts = λ i done. absurd (none i done);
  keeps = λ w models i done. absurd (none i done);
  goes_on = λ v models. (v, λ i. tt, λ i done. absurd (none i done));
}
  where
    none : (i : ℕ) → IsDone (mark_at marks i) → ⊥
    none i done = three_ways ⊥ i (length cells)
        (λ l. subst IsDone (ap (λ (ms : List Mark). mark_at ms i) e ∙ get_or-replicate (length cells) i New New l) done)
        (λ same. subst IsDone (get_or_past marks i New (let f : i ≡ length cells = same in let long : length marks ≡ length cells = ap length e ∙ length-replicate (length cells) New in omega arith)) done)
        (λ l. subst IsDone (get_or_past marks i New (let long : length marks ≡ length cells = ap length e ∙ length-replicate (length cells) New in omega arith)) done)

path_grown : (cells : List Cell) (marks : List Mark) (path : List ℕ) (i : ℕ) → i < length marks → IsPath cells marks path → (IsWaiting (mark_at marks i) → ⊥)
    → ((v : ℕ → SimpleType) → Models v cells → (j : ℕ) → IsIn j path → IsLower v i j)
    → IsPath cells (set marks i Waiting) (i ∷ path)
path_grown cells marks path i l h undone lower = record {
  waits = λ j w. two_ways ((j ≡ i) ⊎ IsIn j path) j i (λ e. inl e) (λ other. inr (h.waits j (marked_before IsWaiting marks i j Waiting other w)));
  marked = λ j is. two_ways (IsWaiting (mark_at (set marks i Waiting) j)) j i
      (λ e. let Q : ℕ → Type 0 = λ j. IsWaiting (mark_at (set marks i Waiting) j) in subst Q (sym e) (subst IsWaiting (sym (mark_set marks i Waiting l)) tt))
      (λ other. marked_still IsWaiting marks i j Waiting other (h.marked j (tail j other is)));
  once = (λ is. undone (h.marked i is), h.once);
  falls = λ v models. (lower v models, h.falls v models);
}
  where
    tail : (j : ℕ) → j ≢ i → (j ≡ i) ⊎ IsIn j path → IsIn j path
    tail j other (inl e) = absurd (other e)
    tail j other (inr is) = is

pub path_started : (cells : List Cell) (marks new : List Mark) (shapes : List Cell) (i : ℕ) → IsOrdered cells marks shapes → i < length cells → IsPath cells marks [] → new ≡ set marks i Waiting
    → IsPath cells new (i ∷ [])
path_started cells marks new shapes i ordered l h en =
    let within : i < length marks = let same = ordered.as_long in omega arith in
    subst (λ (ms : List Mark). IsPath cells ms (i ∷ [])) (sym en)
    (path_grown cells marks [] i within h (λ w. h.waits i w) (λ v models j is. absurd is))

pub path_pushed : (cells : List Cell) (marks new : List Mark) (shapes : List Cell) (path : List ℕ) (i j : ℕ) → IsStore cells → IsOrdered cells marks shapes → IsPath cells marks (i ∷ path)
    → IsPart j (cell_at cells i) → j < length cells → (IsWaiting (mark_at marks j) → ⊥) → new ≡ set marks j Waiting
    → IsPath cells new (j ∷ i ∷ path)
path_pushed cells marks new shapes path i j store ordered h part l undone en =
    let within : j < length marks = let same = ordered.as_long in omega arith in
    subst (λ (ms : List Mark). IsPath cells ms (j ∷ i ∷ path)) (sym en)
    (path_grown cells marks (i ∷ path) j within h undone (λ v models k is. below v models k is))
  where
    below : (v : ℕ → SimpleType) → Models v cells → (k : ℕ) → IsIn k (i ∷ path) → IsLower v j k
    below v models k (inl e) = let Q : ℕ → Type 0 = λ k. IsLower v j k in subst Q (sym e) (part_lower v (length cells) i j (cell_at cells i) (store i) (models i) part)
    below v models k (inr is) = lower_twice v j i k (part_lower v (length cells) i j (cell_at cells i) (store i) (models i) part) ((h.falls v models).0 k is)

pub path_finished : (cells : List Cell) (marks new : List Mark) (shapes : List Cell) (path : List ℕ) (i : ℕ) → IsOrdered cells marks shapes → i < length cells → IsPath cells marks (i ∷ path)
    → Finishes marks new i → IsPath cells new path
path_finished cells marks new shapes path i ordered l h finishes =
    let k : ℕ = finishes.number in
    let within : i < length marks = let same = ordered.as_long in omega arith in
    subst (λ (ms : List Mark). IsPath cells ms path) (sym finishes.finished) (record {
      waits = λ j w. two_ways (IsIn j path) j i
          (λ e. let Q : ℕ → Type 0 = λ j. IsWaiting (mark_at (set marks i (Done k)) j) in absurd (subst IsWaiting (mark_set marks i (Done k) within) (subst Q e w)))
          (λ other. tail j other (h.waits j (marked_before IsWaiting marks i j (Done k) other w)));
      marked = λ j is. marked_still IsWaiting marks i j (Done k) (λ e. let Q : ℕ → Type 0 = λ j. IsIn j path in h.once.0 (subst Q e is)) (h.marked j (inr is));
      once = h.once.1;
      falls = λ v models. (h.falls v models).1;
    })
  where
    tail : (j : ℕ) → j ≢ i → (j ≡ i) ⊎ IsIn j path → IsIn j path
    tail j other (inl e) = absurd (other e)
    tail j other (inr is) = is

pub path_closed : (cells : List Cell) (marks : List Mark) (path : List ℕ) (i j : ℕ) → IsStore cells → IsPath cells marks (i ∷ path) → IsPart j (cell_at cells i) → IsWaiting (mark_at marks j)
    → (types : ℕ → SimpleType) → Models types cells → ⊥
path_closed cells marks path i j store h part w v models = go (h.waits j w)
  where
    lower : IsLower v j i
    lower = part_lower v (length cells) i j (cell_at cells i) (store i) (models i) part

    go : IsIn j (i ∷ path) → ⊥
    go (inl e) = let Q : ℕ → Type 0 = λ k. IsLower v k i in lower_not_itself v i (subst Q e lower)
    go (inr is) = lower_not_itself v i (lower_twice v i j i ((h.falls v models).0 j is) lower)

pub top_not_done : (cells : List Cell) (marks : List Mark) (path : List ℕ) (i : ℕ) → IsPath cells marks (i ∷ path) → IsDone (mark_at marks i) → ⊥
top_not_done cells marks path i h = waiting_not_done (mark_at marks i) (h.marked i (inl refl))

pub top_inside : (cells : List Cell) (marks : List Mark) (shapes : List Cell) (path : List ℕ) (i : ℕ) → IsOrdered cells marks shapes → IsPath cells marks (i ∷ path) → i < length cells
top_inside cells marks shapes path i ordered h =
    three_ways (i < length cells) i (length cells) (λ l. l)
    (λ e. absurd (subst IsWaiting (get_or_past marks i New (let f : i ≡ length cells = e in let same = ordered.as_long in omega arith)) (h.marked i (inl refl))))
    (λ l. absurd (subst IsWaiting (get_or_past marks i New (let same = ordered.as_long in omega arith)) (h.marked i (inl refl))))

pub reverse_pushed : (xs : List ℕ) (x : ℕ) → reverse (xs ++ x ∷ []) ≡ x ∷ reverse xs
reverse_pushed xs x = reverse-append xs (x ∷ [])

-- what is left to do

pub marks_weight_set : (marks : List Mark) (i : ℕ) (m : Mark) → i < length marks → marks_weight (set marks i m) + mark_weight (mark_at marks i) ≡ marks_weight marks + mark_weight m
marks_weight_set [] i m l = absurd (omega arith)
marks_weight_set (x ∷ marks) zero m l = omega arith
marks_weight_set (x ∷ marks) (suc i) m l = let h : marks_weight (set marks i m) + mark_weight (mark_at marks i) ≡ marks_weight marks + mark_weight m = marks_weight_set marks i m (omega arith) in omega arith

weight_of_waiting : (m : Mark) → IsWaiting m → mark_weight m ≡ 1
weight_of_waiting New h = absurd h
weight_of_waiting Waiting h = refl
weight_of_waiting (Done k) h = absurd h

weight_of_new : (m : Mark) → (IsDone m → ⊥) → (IsWaiting m → ⊥) → mark_weight m ≡ 2
weight_of_new New d w = refl
weight_of_new Waiting d w = absurd (w tt)
weight_of_new (Done k) d w = absurd (d tt)

pub lighter_finished : (cells : List Cell) (marks new : List Mark) (shapes : List Cell) (path : List ℕ) (i : ℕ) → IsOrdered cells marks shapes → i < length cells → IsPath cells marks (i ∷ path)
    → Finishes marks new i → marks_weight new < marks_weight marks
lighter_finished cells marks new shapes path i ordered l h finishes =
    let k : ℕ = finishes.number in
    let within : i < length marks = let same = ordered.as_long in omega arith in
    let sum : marks_weight (set marks i (Done k)) + mark_weight (mark_at marks i) ≡ marks_weight marks + 0 = marks_weight_set marks i (Done k) within in
    let one : mark_weight (mark_at marks i) ≡ 1 = weight_of_waiting (mark_at marks i) (h.marked i (inl refl)) in
    let same : marks_weight new ≡ marks_weight (set marks i (Done k)) = ap marks_weight finishes.finished in
    omega arith

pub lighter_pushed : (cells : List Cell) (marks new : List Mark) (shapes : List Cell) (j : ℕ) → IsOrdered cells marks shapes → j < length cells
    → (IsDone (mark_at marks j) → ⊥) → (IsWaiting (mark_at marks j) → ⊥) → new ≡ set marks j Waiting → marks_weight new < marks_weight marks
lighter_pushed cells marks new shapes j ordered l d w en =
    let within : j < length marks = let same = ordered.as_long in omega arith in
    let sum : marks_weight (set marks j Waiting) + mark_weight (mark_at marks j) ≡ marks_weight marks + 1 = marks_weight_set marks j Waiting within in
    let two : mark_weight (mark_at marks j) ≡ 2 = weight_of_new (mark_at marks j) d w in
    let same : marks_weight new ≡ marks_weight (set marks j Waiting) = ap marks_weight en in
    omega arith

-- what was done stays so

pub goes_on_started : (cells : List Cell) (marks new : List Mark) (shapes : List Cell) (i : ℕ) → IsOrdered cells marks shapes → i < length cells → (IsDone (mark_at marks i) → ⊥)
    → new ≡ set marks i Waiting → GoesOn marks new i
goes_on_started cells marks new shapes i ordered l undone en =
    let within : i < length marks = let same = ordered.as_long in omega arith in
    subst (λ (ms : List Mark). GoesOn marks ms i) (sym en)
    (record { still = λ j done. done_kept marks i j Waiting undone done; seen = subst IsSeen (sym (mark_set marks i Waiting within)) tt })

goes_on_set : (first marks : List Mark) (start i : ℕ) (m : Mark) → i < length marks → (IsDone (mark_at marks i) → ⊥) → IsSeen m → GoesOn first marks start → GoesOn first (set marks i m) start
goes_on_set first marks start i m l undone is h = record {
  still = λ j done. done_kept marks i j m undone (h.still j done);
  seen = two_ways (IsSeen (mark_at (set marks i m) start)) start i
      (λ e. let Q : ℕ → Type 0 = λ j. IsSeen (mark_at (set marks i m) j) in subst Q (sym e) (subst IsSeen (sym (mark_set marks i m l)) is))
      (λ other. marked_still IsSeen marks i start m other h.seen);
}

pub goes_on_finished : (cells : List Cell) (first marks new : List Mark) (shapes : List Cell) (path : List ℕ) (start i : ℕ) → IsOrdered cells marks shapes → i < length cells → IsPath cells marks (i ∷ path)
    → Finishes marks new i → GoesOn first marks start → GoesOn first new start
goes_on_finished cells first marks new shapes path start i ordered l h finishes g =
    let within : i < length marks = let same = ordered.as_long in omega arith in
    subst (λ (ms : List Mark). GoesOn first ms start) (sym finishes.finished)
    (goes_on_set first marks start i (Done finishes.number) within (top_not_done cells marks path i h) tt g)

pub goes_on_pushed : (cells : List Cell) (first marks new : List Mark) (shapes : List Cell) (start j : ℕ) → IsOrdered cells marks shapes → j < length cells
    → (IsDone (mark_at marks j) → ⊥) → new ≡ set marks j Waiting → GoesOn first marks start → GoesOn first new start
goes_on_pushed cells first marks new shapes start j ordered l undone en g =
    let within : j < length marks = let same = ordered.as_long in omega arith in
    subst (λ (ms : List Mark). GoesOn first ms start) (sym en) (goes_on_set first marks start j Waiting within undone tt g)

seen_done : (m : Mark) → IsSeen m → (IsWaiting m → ⊥) → IsDone m
seen_done New s w = absurd s
seen_done Waiting s w = absurd (w tt)
seen_done (Done k) s w = tt

pub start_done : (cells : List Cell) (first marks : List Mark) (start : ℕ) → IsPath cells marks [] → GoesOn first marks start → IsDone (mark_at marks start)
start_done cells first marks start h g = seen_done (mark_at marks start) g.seen (λ w. h.waits start w)
