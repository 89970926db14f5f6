use Rattle.std.proofs.Common.{◌≡◌, map}
use Rattle.hol_terms.specs.Terms.{plain_term, plain_type}
use Rattle.term_lists.specs.Spines.{abstraction_over}
use Rattle.term_lists.proofs.spines.all_abstracted.Given as goal

abbrev pub invariant-loop-body : goal.invariant-loop-body
invariant-loop-body l = map plain_term l.terms.items ≡ map (abstraction_over (plain_type l.ty)) (map plain_term l.yielded)
