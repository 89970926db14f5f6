use Rattle.std.proofs.Common.{◌≡◌, ◌+◌, ◌-◌, ◌*◌, length, map, take}
use Rattle.hol_terms.specs.Terms.{plain_term, plain_type}
use Rattle.term_lists.specs.Spines.{IsExtendedBy, IsFromHeads, IsFromIndexBelow, IsOneWithRestBelow}
use Rattle.term_lists.proofs.long_terms.+list.Given as goal

abbrev pub decreases-terms_of_type : goal.decreases-terms_of_type
decreases-terms_of_type l = 8 * l.weight + 1

abbrev pub decreases-terms_of_letter : goal.decreases-terms_of_letter
decreases-terms_of_letter l = 8 * l.weight

abbrev pub decreases-add_from_heads : goal.decreases-add_from_heads
decreases-add_from_heads l = 8 * l.left + 6

abbrev pub decreases-add_from_head : goal.decreases-add_from_head
decreases-add_from_head l = 8 * l.left + 5

abbrev pub decreases-add_from_indices : goal.decreases-add_from_indices
decreases-add_from_indices l = 8 * l.left + 6

abbrev pub decreases-add_from_index : goal.decreases-add_from_index
decreases-add_from_index l = 8 * l.left + 5

abbrev pub decreases-add_applied : goal.decreases-add_applied
decreases-add_applied l = 8 * l.left + 4

abbrev pub decreases-add_with_arguments : goal.decreases-add_with_arguments
decreases-add_with_arguments l = 8 * l.left + 3

abbrev pub decreases-add_with_argument : goal.decreases-add_with_argument
decreases-add_with_argument l = 8 * (l.weight + l.rest) + 2

abbrev pub invariant-add_from_heads-loop-head : goal.invariant-add_from_heads-loop-head
invariant-add_from_heads-loop-head l =
    record {
      scope : l.scope ≡ l.fn.scope;
      terms : IsExtendedBy (map plain_term l.fn.terms.items) (map plain_term l.terms.items) (IsFromHeads l.fn.scope l.heads l.letter.byte l.left (take l.head-index l.heads));
    }

abbrev pub invariant-add_from_indices-loop-ty : goal.invariant-add_from_indices-loop-ty
invariant-add_from_indices-loop-ty l =
    record {
      scope : l.scope ≡ l.fn.scope;
      terms : IsExtendedBy (map plain_term l.fn.terms.items) (map plain_term l.terms.items) (IsFromIndexBelow l.fn.scope l.heads l.letter.byte l.left l.index);
    }

abbrev pub decreases-add_from_indices-loop-ty : goal.decreases-add_from_indices-loop-ty
decreases-add_from_indices-loop-ty l = length l.scope - l.index

abbrev pub invariant-add_with_arguments-loop-rest : goal.invariant-add_with_arguments-loop-rest
invariant-add_with_arguments-loop-rest l =
    record {
      scope : l.scope ≡ l.fn.scope;
      terms : IsExtendedBy (map plain_term l.fn.terms.items) (map plain_term l.terms.items)
          (IsOneWithRestBelow l.fn.scope l.heads (plain_type l.result_type) (plain_type l.argument) l.left (map plain_term l.functions) l.rest);
    }
