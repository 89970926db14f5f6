use Rattle.std.proofs.Common.{◌≡◌, ◌≤◌, ◌<◌, ◌+◌, ℕ, Contains, subst, below_more, arith}
use Rattle.tree_growth.specs.Growths.{numbered_name}
use Rattle.tree_growth.proofs.names.TakenNames.fresh.Goals as goal

pub loop-name-preserved : goal.loop-name-preserved
loop-name-preserved c =
    let number : c.in_ok-number.number ≡ c.loop-name.number + 1 = c.in_ok-number.ensures in
    let taken : Contains c.args.self.now c.in_ok-name.name = c.has.ensures.0 c.if-not-has.false in
    let P : ℕ → Type 0 = λ m. c.args.from ≤ m → Contains c.args.self.now (numbered_name m) in
    record {
      rising = omega (arith, number, c.loop-name.invariant.rising);
      taken = λ m low high.
          below_more P c.loop-name.number (λ k less from. c.loop-name.invariant.taken k from less) (λ from. subst (Contains c.args.self.now) c.in_ok-name.ensures.spelled taken) m
          (let less : m < c.loop-name.number + 1 = omega (arith, high, number) in less) low;
    }
