use Rattle.std.proofs.Common.{◌≡◌, ◌∙◌, ◌-◌, ◌++◌, ◌∷◌, [], ap, length, take, arith}
use Rattle.dependency.proofs.Marks.{marked-place}
use Rattle.dependency.specs.Walks.{AreMarked}
use Rattle.dependency.proofs.graphs.Walk.place.Goals as goal

pub returns-clause-walk : goal.returns-clause-walk
returns-clause-walk c graph k walk mark many =
    let old = c.args.self.now in
    let rest : c.pop.new.self.items ≡ take (length old.waiting.items - 1) old.waiting.items = c.pop.ensures.rest ∙ (let e : old.waiting.len - 1 ≡ length old.waiting.items - 1 = omega (arith, old.waiting.ok) in ap (λ k. take k old.waiting.items) e) in
    let before : AreMarked graph old.marks.items (c.pop.new.self.items ++ c.args.vertex ∷ []) old.placed.items = rw (rest, ← c.requires.newest) walk in
    rw (c.set_mark.ensures.marks, c.set_mark.ensures.waiting, c.set_mark.ensures.placed, c.in_ok-push.ensures.items)
    (marked-place graph old.marks.items c.pop.new.self.items old.placed.items c.args.vertex k c.requires.vertex mark many before)
