use Rattle.std.proofs.Common.{◌≡◌, ◌++◌, map, take}
use Rattle.hol_terms.specs.Terms.{application, plain_term}
use Rattle.term_lists.proofs.spines.add_applications.Given as goal

abbrev pub invariant-loop-argument : goal.invariant-loop-argument
invariant-loop-argument l =
    map plain_term l.terms.items ≡ map plain_term l.fn.terms.items ++ map (application (plain_term l.function)) (map plain_term (take l.argument-index l.arguments))
