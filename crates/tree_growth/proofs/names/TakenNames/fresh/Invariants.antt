use Rattle.std.proofs.Common.{◌-◌, ◌^◌, ◌<◌, ◌≤◌, ℕ, Contains}
use Rattle.tree_growth.specs.Growths.{numbered_name}
use Rattle.tree_growth.proofs.names.TakenNames.fresh.Given as goal

abbrev pub invariant-loop-name : goal.invariant-loop-name
invariant-loop-name l =
    record {
      rising : l.fn.from ≤ l.number;
      taken : (m : ℕ) → l.fn.from ≤ m → m < l.number → Contains l.self (numbered_name m);
    }

abbrev pub decreases-loop-name : goal.decreases-loop-name
decreases-loop-name l = 2 ^ 64 - l.number
