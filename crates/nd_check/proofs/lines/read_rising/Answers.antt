use Rattle.std.proofs.Common.{◌≡◌, ◌∙◌, sym, ap, refl, ℕ, true, Err, None}
use Rattle.core_text.specs.Placed.{more_at, placed, placed_all, place_of}
use Rattle.nd_check.specs.Reading.{rising_at}
use Rattle.nd_check.proofs.Steps.{behind, last_of, rising_on, rising_stopped}
use Rattle.nd_check.proofs.lines.read_rising.Goals as goal

pub returns-then-not-may_push : goal.returns-then-not-may_push
returns-then-not-may_push c =
    let hyps = c.loop-rest.hyps in
    let f = placed c.deref.result.now in
    let fs = placed_all c.in-More.more.value in
    let parts : placed_all c.loop-rest.rest.now ≡ more_at f fs = rw (c.in-More.is, c.deref.ensures) refl in
    let place : c.place.result ≡ place_of f = rw (c.place.ensures, c.deref-then-not-may_push.ensures, c.deref.ensures) refl in
    rising_stopped hyps c.in-Ok.number f fs (rising_at None (placed_all c.args.members.now)) (λ above. let may : c.may_push.result ≡ true = c.may_push.ensures.1 above in let not_so = c.if-not-may_push.true in cc) c.in-Ok.ensures.answer
    (ap (λ x. behind hyps (rising_at (last_of hyps) x)) (sym parts) ∙ c.loop-rest.invariant) ∙ ap (λ (k : ℕ). Err k) (sym place)

pub loop-rest-preserved : goal.loop-rest-preserved
loop-rest-preserved c =
    let hyps = c.loop-rest.hyps in
    let f = placed c.deref.result.now in
    let fs = placed_all c.deref-rest.result.now in
    let parts : placed_all c.loop-rest.rest.now ≡ more_at f fs = rw (c.in-More.is, c.deref.ensures, c.deref-rest.ensures) refl in
    let may : c.may_push.result ≡ true = let not_so = c.if-not-may_push.false in cc in
    rising_on hyps c.push.new.self c.in-Ok.number f fs (rising_at None (placed_all c.args.members.now)) c.in_ok-push.ensures.ok (c.may_push.ensures.0 may) c.in-Ok.ensures.answer
    (ap (λ x. behind hyps (rising_at (last_of hyps) x)) (sym parts) ∙ c.loop-rest.invariant)
