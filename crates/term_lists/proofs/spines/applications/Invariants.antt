use Rattle.std.proofs.Common.{◌≡◌, map, take}
use Rattle.hol_terms.specs.Terms.{plain_term}
use Rattle.term_lists.specs.Spines.{applications_of}
use Rattle.term_lists.proofs.spines.applications.Given as goal

abbrev pub invariant-loop-function : goal.invariant-loop-function
invariant-loop-function l = map plain_term l.terms.items ≡ applications_of (map plain_term (take l.function-index l.functions)) (map plain_term l.arguments)
