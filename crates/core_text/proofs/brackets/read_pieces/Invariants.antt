use Rattle.std.proofs.Common.{◌≡◌, ◌≤◌, ◌-◌, ◌++◌, All, false, nat_lt, length, map, drop}
use Rattle.core_text.specs.Tokens.{pieces}
use Rattle.core_text.specs.Placed.{kept}
use Rattle.core_text.specs.Open.{HasGoodItems, open_layout}
use Rattle.core_text.specs.Faults.{first_fault}
use Rattle.core_text.proofs.brackets.read_pieces.Given as goal

-- the open lists spell what was read, and the first fault is one of the rest
abbrev pub invariant-loop-piece : goal.invariant-loop-piece
invariant-loop-piece l =
    let depth = length l.frames.items in
    record {
      within : l.at ≤ length l.bytes;
      deep : depth ≤ 5000;
      good : All HasGoodItems l.frames.items;
      spelled : map kept (pieces 0 l.bytes) ≡ open_layout l.frames.items ++ map kept (pieces l.at (drop l.at l.bytes));
      faults : first_fault 0 false (pieces 0 l.bytes) (length l.bytes) ≡ first_fault depth (nat_lt 0 depth) (pieces l.at (drop l.at l.bytes)) (length l.bytes);
    }

abbrev pub decreases-loop-piece : goal.decreases-loop-piece
decreases-loop-piece l = length l.bytes - l.at
