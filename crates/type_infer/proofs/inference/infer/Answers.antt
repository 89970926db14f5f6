use Rattle.std.proofs.Common.{Bor, false, map, sym, true, ◌≡◌, ◌∙◌}
use Rattle.std.specs.Option.{option_map}
use Rattle.hol_terms.specs.Terms.{plain_term, plain_type}
use Rattle.hol_terms.specs.declared.types.Ty.{Ty}
use Rattle.tps_reader.specs.Raws.{plain_raw}
use Rattle.type_infer.specs.Equations.{plain_condition}
use Rattle.type_infer.proofs.Answered.{are_open, conditions_within, is_only, no_annotation}
use Rattle.type_infer.proofs.inference.infer.Goals as goal

pub solve-requires : goal.solve-requires
solve-requires c =
    rw (c.deref.ensures.value)
    (conditions_within (plain_raw c.args.raw.now) (option_map (λ (s : Bor Ty). plain_type s.now) c.args.wanted) c.args.known.now
    c.in_ok-asked.asked.count (map plain_condition c.in_ok-asked.asked.conditions.items) c.in_ok-asked.ensures.conditions c.in_ok-asked.ensures.count)

pub first_unmet-requires-clause-within : goal.first_unmet-requires-clause-within
first_unmet-requires-clause-within c =
    rw (c.deref-in_default.ensures.value)
    (conditions_within (plain_raw c.args.raw.now) (option_map (λ (s : Bor Ty). plain_type s.now) c.args.wanted) c.args.known.now
    c.in_ok-asked.asked.count (map plain_condition c.in_ok-asked.asked.conditions.items) c.in_ok-asked.ensures.conditions c.in_ok-asked.ensures.count)

pub returns-in_default-clause-fault : goal.returns-in_default-clause-fault
returns-in_default-clause-fault c = (
  no_annotation (plain_raw c.args.raw.now) (option_map (λ (s : Bor Ty). plain_type s.now) c.args.wanted) c.args.known.now
      (map plain_condition c.in_ok-asked.asked.conditions.items) c.in_ok-asked.ensures.conditions (rw (c.in_default.is, c.deref.ensures.value) at c.in_ok-solution.ensures),
  rw (sym c.in_ok-asked.ensures.conditions) (rw (c.deref-in_default.ensures.value) at c.in_ok-place.ensures),
)

pub returns-then-same-clause-only : goal.returns-then-same-clause-only
returns-then-same-clause-only c =
    is_only (plain_raw c.args.raw.now) (option_map (λ (s : Bor Ty). plain_type s.now) c.args.wanted) c.args.known.now
    c.in_ok-asked.asked.count (map plain_condition c.in_ok-asked.asked.conditions.items) c.in-Some.solution.marks.items c.in-Some.solution.shapes.items
    (plain_term c.in_ok-first.first) (plain_term c.in_ok-second.second) c.in_ok-asked.ensures.conditions c.in_ok-asked.ensures.count
    (rw (c.in-Some.is, c.deref.ensures.value) at c.in_ok-solution.ensures)
    (rw (c.individuals.ensures) at c.in_ok-first.ensures) (rw (c.truth.ensures) at c.in_ok-second.ensures)
    (c.same.ensures.0 c.if-same.true)

pub returns-clause-fault : goal.returns-clause-fault
returns-clause-fault c =
    are_open (plain_raw c.args.raw.now) (option_map (λ (s : Bor Ty). plain_type s.now) c.args.wanted) c.args.known.now
    c.in_ok-asked.asked.count (map plain_condition c.in_ok-asked.asked.conditions.items) c.in-Some.solution.marks.items c.in-Some.solution.shapes.items
    (plain_term c.in_ok-first.first) (plain_term c.in_ok-second.second) c.in_ok-asked.ensures.conditions c.in_ok-asked.ensures.count
    (rw (c.in-Some.is, c.deref.ensures.value) at c.in_ok-solution.ensures)
    (rw (c.individuals.ensures) at c.in_ok-first.ensures) (rw (c.truth.ensures) at c.in_ok-second.ensures)
    (λ e. let f : false ≡ true = sym c.if-same.false ∙ c.same.ensures.1 e in cc)
