use Rattle.std.proofs.Common.{◌≡◌, ◌∙◌, sym, ap, arith}
use Rattle.vertical_paths.specs.Matings.{first_open as first_open_of}
use Rattle.vertical_paths.specs.Walks.{chain, paths_through, untried_by, choice_paths}
use Rattle.vertical_paths.proofs.Chains.{chain-none}
use Rattle.vertical_paths.proofs.Closing.{empty_open, end_is_open}
use Rattle.vertical_paths.proofs.walk.first_open_path.Goals as goal

pub loop-walk-init : goal.loop-walk-init
loop-walk-init c = record {
  walk = c.in_ok-walk.ensures.walk;
  prefix = record {
    partners = rw c.in_ok-walk.ensures.bound c.in_ok-rows.ensures;
    so_far = rw c.in_ok-walk.ensures.leaves (empty_open c.args.pairs.now);
  };
  paths = ap (first_open_of c.args.pairs.now) c.in_ok-walk.ensures.paths;
}

pub returns : goal.returns
returns c =
    let walk = c.loop-walk.walk in
    let pairs = c.args.pairs.now in
    let zero : walk.at ≡ 0 = omega (arith, c.loop-walk-test.false) in
    let none = ap (chain walk.tasks.items) zero ∙ chain-none walk.tasks.items in
    sym (end_is_open pairs walk.prefix.leaves.items (choice_paths walk) c.loop-walk.invariant.prefix.so_far)
    ∙ sym (ap (λ matrices. first_open_of pairs (untried_by walk (paths_through matrices))) none) ∙ c.loop-walk.invariant.paths
