use Rattle.std.proofs.Common.{◌≡◌, ◌++◌, map, take, flat_map}
use Rattle.hol_terms.specs.Terms.{plain_type}
use Rattle.expansion_tree.specs.Budgets.{constant_head}
use Rattle.term_lists.specs.Heads.{plain_head}
use Rattle.term_lists.specs.Signatures.{quantifiers_at}
use Rattle.term_lists.proofs.signatures.add_quantifiers.Given as goal

abbrev pub invariant-loop-ty : goal.invariant-loop-ty
invariant-loop-ty l =
    map plain_head l.heads.items ≡ map plain_head l.fn.heads.items ++ map constant_head (flat_map quantifiers_at (map plain_type (take l.ty-index l.ty-items)))
