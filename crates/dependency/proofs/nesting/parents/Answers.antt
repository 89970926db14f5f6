use Rattle.std.proofs.Common.{◌+◌, ap, arith, length}
use Rattle.std.proofs.lemmas.List.{length_push}
use Rattle.expansion_tree.specs.Occurrences.{occurrences_of}
use Rattle.dependency.specs.Nesting.{IsPast}
use Rattle.dependency.proofs.Climbing.{AreParents-push, occurrence_seen}
use Rattle.dependency.proofs.nesting.parents.Goals as goal

pub climb-parent-requires-clause-starts : goal.climb-parent-requires-clause-starts
climb-parent-requires-clause-starts c o is_o =
    let occurrences = occurrences_of c.args.fitted.now.tree in
    let e = c.loop-e.e in
    let rise = c.requires.rising e (e + 1) o _ is_o (occurrence_seen occurrences (e + 1) _ (omega arith) c.occurrence-first.ensures) (omega arith) in
    omega (arith, rise)

pub loop-e-preserved : goal.loop-e-preserved
loop-e-preserved c =
    let occurrences = occurrences_of c.args.fitted.now.tree in
    let e = c.loop-e.e in
    let none : IsPast occurrences e e c.occurrence-first.result.node = λ f o less most at. absurd (omega (arith, less, most)) in
    let up = c.climb-parent.ensures e (omega arith) none in
    let items = c.in_ok-push-2.ensures.items in
    record {
      many = omega (arith, ap length items, length_push c.loop-e.parents.items c.climb-parent.result, c.loop-e.invariant.many);
      each = rw items (AreParents-push occurrences c.loop-e.parents.items e c.climb-parent.result _ c.loop-e.invariant.many
          (occurrence_seen occurrences (e + 1) _ (omega arith) c.occurrence-first.ensures) up c.loop-e.invariant.each);
    }
