use Rattle.std.proofs.Common.{◌≡◌, false, map, take}
use Rattle.std.specs.List.{list_any}
use Rattle.hol_terms.specs.Computed.{same_type}
use Rattle.hol_terms.specs.Terms.{plain_type}
use Rattle.term_lists.proofs.type_lists.is_among.Given as goal

abbrev pub invariant-loop-other : goal.invariant-loop-other
invariant-loop-other l = list_any (same_type (plain_type l.ty)) (map plain_type (take l.other-index l.types)) ≡ false
