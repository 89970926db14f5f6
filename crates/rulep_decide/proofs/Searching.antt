-- Steps of a search keep the trail sound, and there are finitely many.
use Rattle.std.proofs.Common.{ℕ, zero, suc, ◌+◌, ◌-◌, ◌<◌, ◌≤◌, List, [], ◌∷◌, ◌++◌, length, Bool, true, false, not, ◌&&◌, IsTrue, cond, ◌≡◌, refl, sym, ap, ap₂, subst, ◌∙◌, Option, Some, None, arith, ◌⊎◌, inl, inr, slice_get, zero-add}
use Rattle.std.specs.Prelude.{Result, Ok, Err, OnOk, IfOk}
use Rattle.std.specs.declared.alloc.AllocError.{AllocError}
use Rattle.std.proofs.lemmas.List.{get_or_append_left, length-append}
use Rattle.std.proofs.lemmas.Option.{slice_get_within}
use Rattle.std.proofs.Math.Seq.{get_or-append_seam}
use Rattle.rulep_decide.specs.declared.search.Advanced.{Advanced}
use Rattle.rulep_decide.specs.declared.search.Advanced.TheVariants.{Found, Further, NoneFits}
use Rattle.rulep_decide.specs.declared.trails.Step.{Step}
use Rattle.rulep_decide.specs.declared.trails.Trail.{Trail}
use Rattle.rulep_decide.specs.Circuits.{Node, atom, always, opposite, both, demand, node_at, IsCircuit, Fits, IsValuation}
use Rattle.rulep_decide.specs.Trails.{steps_of, Has, Agrees, Forces, Refutes, IsSound, IsTrail, IsAddedTo, forced_step, decided_step, turned, undone, three_to, turns_held, turns_left}
use Rattle.rulep_decide.specs.Searches.{IsGood, Grows, Advances, IsAdvance, Keeps, assigned, IsKnown, AreKnown}
use Rattle.rulep_decide.proofs.Forcing.{fits_at, has_agrees, conflict_refutes}
use Rattle.rulep_decide.proofs.Nodes.{at_newest, at_older, newest_or_older}

-- how many turns are left

positive : (n : ℕ) → 1 ≤ three_to n
positive zero = omega arith
positive (suc n) = let h = positive n in omega arith

cond_most : (b : Bool) (n : ℕ) → cond b n 0 ≤ n
cond_most true n = omega arith
cond_most false n = omega arith

turns_at : (count : ℕ) (rest : List Step) → length rest < count
    → turns_left count rest ≡ three_to (suc (count - suc (length rest))) + turns_held (suc (count - suc (length rest))) rest
turns_at count rest h = ap (λ room. three_to room + turns_held room rest) (let e : count - length rest ≡ suc (count - suc (length rest)) = omega arith in e)

pub turns_push : (count : ℕ) (s : Step) (rest : List Step) → length rest < count → turns_left count (s ∷ rest) < turns_left count rest
turns_push count s rest h =
    let room = count - suc (length rest) in
    let some = positive room in
    let most = cond_most s.decided (three_to room) in
    let before : turns_left count rest ≡ three_to room + three_to room + three_to room + turns_held (suc room) rest = turns_at count rest h in
    let after : turns_left count (s ∷ rest) ≡ three_to room + (cond s.decided (three_to room) 0 + turns_held (suc room) rest) = refl in
    omega arith

turns_undone : (count : ℕ) (steps new : List Step) → undone steps ≡ Some new → length steps ≤ count → turns_left count new ≤ turns_held (count - length steps) steps
turns_undone count [] new e h = cc
turns_undone count (s ∷ rest) new e h = by_test s.decided refl e (turns_undone count rest new)
  where
    by_test : (b : Bool) → s.decided ≡ b → cond b (Some (turned s ∷ rest)) (undone rest) ≡ Some new
        → (undone rest ≡ Some new → length rest ≤ count → turns_left count new ≤ turns_held (count - length rest) rest)
        → turns_left count new ≤ cond s.decided (three_to (count - suc (length rest))) 0 + turns_held (suc (count - suc (length rest))) rest
    by_test true t e below =
        let room = count - suc (length rest) in
        let same : turned s ∷ rest ≡ new = cc in
        let here : turns_left count (turned s ∷ rest) ≡ three_to room + turns_held (suc room) rest =
        ap (λ n. three_to room + n) (zero-add (turns_held (suc room) rest)) in
        let left : turns_left count new ≡ three_to room + turns_held (suc room) rest = ap (turns_left count) (sym same) ∙ here in
        let held : cond s.decided (three_to room) 0 ≡ three_to room = ap (λ (b : Bool). cond b (three_to room) 0) t in
        omega arith
    by_test false t e below =
        let room = count - suc (length rest) in
        let more : count - length rest ≡ suc room = omega arith in
        let bound : turns_left count new ≤ turns_held (suc room) rest =
        subst (λ n. turns_left count new ≤ turns_held n rest) more (below e (omega arith)) in
        omega arith

pub turns_turned : (count : ℕ) (steps new : List Step) → undone steps ≡ Some new → length steps ≤ count → turns_left count new < turns_left count steps
turns_turned count steps new e h =
    let held = turns_undone count steps new e h in
    let some = positive (count - length steps) in
    omega arith

-- steps that are taken back

other_value : (x y : Bool) → (x ≡ y → ⊥) → x ≡ not y
other_value true true h = absurd (h refl)
other_value true false h = refl
other_value false true h = refl
other_value false false h = absurd (h refl)

not_decided : (b : Bool) → b ≡ false → IsTrue b → ⊥
not_decided b e h = cc

pub undone_sound : (nodes : List Node) (steps new : List Step) → IsSound nodes steps → Refutes nodes steps → undone steps ≡ Some new → IsSound nodes new
undone_sound nodes [] new sound refuted e = cc
undone_sound nodes (s ∷ rest) new sound refuted e = by_test s.decided refl e (undone_sound nodes rest new sound.1)
  where
    by_test : (b : Bool) → s.decided ≡ b → cond b (Some (turned s ∷ rest)) (undone rest) ≡ Some new
        → (Refutes nodes rest → undone rest ≡ Some new → IsSound nodes new) → IsSound nodes new
    by_test true t e below =
        let same : turned s ∷ rest ≡ new = cc in
        subst (IsSound nodes) same (inr (record { forced = λ w fits agrees. other_value (w s.node) s.value (λ here. refuted.refuted w fits (here, agrees)) }), sound.1)
    by_test false t e below =
        below (record {
          refuted = λ w fits agrees.
              elim sound.0 [ inl chosen ↦ not_decided s.decided t chosen | inr forces ↦ refuted.refuted w fits (forces.forced w fits agrees, agrees) ];
        }) e

pub none_left : (nodes : List Node) (steps : List Step) → IsSound nodes steps → Refutes nodes steps → undone steps ≡ None → (w : ℕ → Bool) → IsValuation w nodes → ⊥
none_left nodes [] sound refuted e = λ w fits. refuted.refuted w fits tt
none_left nodes (s ∷ rest) sound refuted e = by_test s.decided refl e (none_left nodes rest sound.1)
  where
    by_test : (b : Bool) → s.decided ≡ b → cond b (Some (turned s ∷ rest)) (undone rest) ≡ None
        → (Refutes nodes rest → undone rest ≡ None → (w : ℕ → Bool) → IsValuation w nodes → ⊥) → (w : ℕ → Bool) → IsValuation w nodes → ⊥
    by_test true t e below = cc
    by_test false t e below =
        below (record {
          refuted = λ w fits agrees.
              elim sound.0 [ inl chosen ↦ not_decided s.decided t chosen | inr forces ↦ refuted.refuted w fits (forces.forced w fits agrees, agrees) ];
        }) e

-- a trail that grows

pub steps_most : (nodes : List Node) (trail : Trail) → IsGood nodes trail → length (steps_of trail) ≤ length nodes
steps_most nodes trail good =
    let room = good.table.room in
    let count : length trail.values.items ≡ length nodes = good.count in
    omega arith

pub grows_none : (nodes : List Node) (trail : Trail) → IsGood nodes trail → Grows nodes trail trail
grows_none nodes trail good = record { good = good; longer = omega arith; turns = omega arith }

pub grows_then : (nodes : List Node) (old middle new : Trail) → Grows nodes old middle → Grows nodes middle new → Grows nodes old new
grows_then nodes old middle new h l =
    let a = h.longer in let b = l.longer in let c = h.turns in let d = l.turns in
    record { good = l.good; longer = omega arith; turns = omega arith }

pub grows_by : (nodes : List Node) (old new : Trail) (i : ℕ) (b : Bool) → IsGood nodes old → IsTrail new → length new.values.items ≡ length old.values.items
    → Forces nodes (steps_of old) i b → IsAddedTo (steps_of old) (length old.values.items) (forced_step i b) (steps_of new) → Grows nodes old new
grows_by nodes old new i b good table count forced (inl same) = record {
  good = record { circuit = good.circuit; table = table; count = count ∙ good.count; sound = subst (IsSound nodes) (sym same) good.sound };
  longer = (let e = ap (λ (xs : List Step). length xs) same in omega arith);
  turns = (let e = ap (turns_left (length nodes)) same in omega arith);
}
grows_by nodes old new i b good table count forced (inr (added, room)) = record {
  good = record { circuit = good.circuit; table = table; count = count ∙ good.count; sound = subst (IsSound nodes) (sym added) (inr forced, good.sound) };
  longer = (let e = ap (λ (xs : List Step). length xs) added in omega arith);
  turns = (
      let e = ap (turns_left (length nodes)) added in
      let within : length (steps_of old) < length nodes = subst (λ n. length (steps_of old) < n) good.count room in
      let fewer = turns_push (length nodes) (forced_step i b) (steps_of old) within in
      omega arith);
}

forces_after : (nodes : List Node) (old new : List Step) (count i : ℕ) (b : Bool) → Forces nodes old i b → IsAddedTo old count (forced_step i b) new → Forces nodes new i b
forces_after nodes old new count i b forced (inl same) = subst (λ (steps : List Step). Forces nodes steps i b) (sym same) forced
forces_after nodes old new count i b forced (inr (added, room)) =
    subst (λ (steps : List Step). Forces nodes steps i b) (sym added) (record { forced = λ w fits agrees. agrees.0 })

pub conflict_after : (nodes : List Node) (old new : List Step) (count i : ℕ) (b : Bool) → Forces nodes old i b → IsAddedTo old count (forced_step i b) new
    → Has new i (not b) → Refutes nodes new
conflict_after nodes old new count i b forced added h = conflict_refutes nodes new i b (forces_after nodes old new count i b forced added) h

-- a trail that is decided further, or turned

pub advances_by_choice : (nodes : List Node) (old new : Trail) (i : ℕ) (b : Bool) → IsGood nodes old → IsTrail new → length new.values.items ≡ length old.values.items
    → steps_of new ≡ decided_step i b ∷ steps_of old → length (steps_of old) < length old.values.items → Advances nodes old new
advances_by_choice nodes old new i b good table count added room = record {
  good = record { circuit = good.circuit; table = table; count = count ∙ good.count; sound = subst (IsSound nodes) (sym added) (inl refl, good.sound) };
  fewer = (
      let e = ap (turns_left (length nodes)) added in
      let within : length (steps_of old) < length nodes = subst (λ n. length (steps_of old) < n) good.count room in
      let fewer = turns_push (length nodes) (decided_step i b) (steps_of old) within in
      omega arith);
}

pub advances_by_turn : (nodes : List Node) (old new : Trail) → IsGood nodes old → Refutes nodes (steps_of old) → IsTrail new
    → length new.values.items ≡ length old.values.items → undone (steps_of old) ≡ Some (steps_of new) → Advances nodes old new
advances_by_turn nodes old new good refuted table count e = record {
  good = record {
    circuit = good.circuit;
    table = table;
    count = count ∙ good.count;
    sound = undone_sound nodes (steps_of old) (steps_of new) good.sound refuted e;
  };
  fewer = turns_turned (length nodes) (steps_of old) (steps_of new) e (steps_most nodes old good);
}

pub advances_after : (nodes : List Node) (old middle new : Trail) → Grows nodes old middle → Advances nodes middle new → Advances nodes old new
advances_after nodes old middle new h l =
    let a = h.turns in let b = l.fewer in
    record { good = l.good; fewer = omega arith }

pub advance_after : (nodes : List Node) (old middle new : Trail) (advanced : Advanced) → Grows nodes old middle → IsAdvance nodes middle new advanced
    → IsAdvance nodes old new advanced
advance_after nodes old middle new (Found values) h l = l
advance_after nodes old middle new Further h l = advances_after nodes old middle new h l
advance_after nodes old middle new NoneFits h l = l

pub good_at_start : (nodes : List Node) (trail : Trail) → IsCircuit nodes → IsTrail trail → length trail.values.items ≡ length nodes → steps_of trail ≡ []
    → IsGood nodes trail
good_at_start nodes trail circuit table count e = record { circuit = circuit; table = table; count = count; sound = subst (IsSound nodes) (sym e) tt }

-- values that keep those of a table

pub keeps_none : (table : List (Option Bool)) → Keeps table []
keeps_none table i b h e = absurd (omega arith)

pub keeps_one_more : (table : List (Option Bool)) (values : List Bool) (v : Bool) → Keeps table values
    → ((b : Bool) → slice_get table (length values) ≡ Some (Some b) → v ≡ b) → Keeps table (values ++ v ∷ [])
keeps_one_more table values v keeps here i b h e = by_place (newest_or_older i (length values) (let more : i < suc (length values) = omega (arith, length-append values (v ∷ [])) in more))
  where
    by_place : (i ≡ length values) ⊎ (i < length values) → assigned (values ++ v ∷ []) i ≡ b
    by_place (inl same) =
        ap (λ i. assigned (values ++ v ∷ []) i) same ∙ get_or-append_seam values v [] false ∙ here b (ap (slice_get table) (sym same) ∙ e)
    by_place (inr older) = get_or_append_left values (v ∷ []) false i older ∙ keeps i b older e

-- values that don't fit a node whose value and parts are known

node_there : (nodes : List Node) (i : ℕ) → i < length nodes → (n : Node) × (node_at nodes i ≡ Some n)
node_there [] i h = absurd (omega arith)
node_there (n ∷ rest) i h = by_place (newest_or_older i (length rest) h) (node_there rest i)
  where
    by_place : (i ≡ length rest) ⊎ (i < length rest) → (i < length rest → (m : Node) × (node_at rest i ≡ Some m)) → (m : Node) × (node_at (n ∷ rest) i ≡ Some m)
    by_place (inl e) below = (n, at_newest n rest i e)
    by_place (inr l) below = let p = below l in (p.0, at_older n rest i l ∙ p.1)

same_as_known : (nodes : List Node) (trail : Trail) (values : List Bool) (w : ℕ → Bool) (j : ℕ) → IsGood nodes trail → length values ≡ length nodes
    → Keeps trail.values.items values → Agrees w (steps_of trail) → IsKnown trail.values.items j → w j ≡ assigned values j
same_as_known nodes trail values w j good count keeps agrees known =
    let within : j < length trail.values.items = slice_get_within trail.values.items j (Some known.0) known.1 in
    let same : length trail.values.items ≡ length nodes = good.count in
    has_agrees w (steps_of trail) j known.0 (good.table.known j known.0 known.1) agrees ∙ sym (keeps j known.0 (omega arith) known.1)

pub unfit_refutes : (nodes : List Node) (trail : Trail) (values : List Bool) (i : ℕ) → IsGood nodes trail → i < length nodes → length values ≡ length nodes
    → Keeps trail.values.items values → ((n : Node) → node_at nodes i ≡ Some n → AreKnown trail.values.items i n)
    → ((n : Node) → node_at nodes i ≡ Some n → Fits (assigned values) i n → ⊥) → Refutes nodes (steps_of trail)
unfit_refutes nodes trail values i good within count keeps known unfit =
    let p = node_there nodes i within in
    record { refuted = λ w fits agrees. unfit p.0 p.1 (moved w p.0 agrees (known p.0 p.1) (fits_at w nodes i p.0 fits p.1)) }
  where
    same : (w : ℕ → Bool) (j : ℕ) → Agrees w (steps_of trail) → IsKnown trail.values.items j → w j ≡ assigned values j
    same w j agrees known = same_as_known nodes trail values w j good count keeps agrees known

    moved : (w : ℕ → Bool) (n : Node) → Agrees w (steps_of trail) → AreKnown trail.values.items i n → Fits w i n → Fits (assigned values) i n
    moved w (atom a) agrees known fits = tt
    moved w always agrees known fits = sym (same w i agrees known) ∙ fits
    moved w (opposite j) agrees known fits = sym (same w i agrees known.0) ∙ fits ∙ ap not (same w j agrees known.1)
    moved w (both j k) agrees known fits = sym (same w i agrees known.0) ∙ fits ∙ ap₂ ◌&&◌ (same w j agrees known.1) (same w k agrees known.2)
    moved w (demand j b) agrees known fits = (sym (same w i agrees known.0) ∙ fits.0, sym (same w j agrees known.1) ∙ fits.1)

pub open_within : (nodes : List Node) (trail : Trail) (values : List Bool) (i : ℕ) → IsGood nodes trail → length values ≡ length nodes
    → slice_get trail.values.items i ≡ Some None → i < length values
open_within nodes trail values i good count is_open =
    let within : i < length trail.values.items = slice_get_within trail.values.items i None is_open in
    let same : length trail.values.items ≡ length nodes = good.count in
    omega arith

pub conflict_result : (nodes : List Node) (old new : List Step) (count i : ℕ) (b : Bool) (result : Result Bool AllocError) → Forces nodes old i b
    → OnOk result (IsAddedTo old count (forced_step i b) new) → IfOk result (λ c. IsTrue c → Has new i (not b)) → IfOk result (λ c. IsTrue c → Refutes nodes new)
conflict_result nodes old new count i b (Ok c) forces added h = λ t. conflict_after nodes old new count i b forces added (h t)
conflict_result nodes old new count i b (Err e) forces added h = tt
