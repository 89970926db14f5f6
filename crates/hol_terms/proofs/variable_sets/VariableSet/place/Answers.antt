use Rattle.std.proofs.Common.{◌≡◌, List, ℕ, Result, Ok, Err, IfOk, IfSome, Some}
use Rattle.std.specs.Prelude.{slice_get}
use Rattle.std.specs.declared.option.Option.{Option}
use Rattle.hol_terms.specs.Terms.{plain_type, Variable}
use Rattle.hol_terms.specs.Places.{place_of}
use Rattle.hol_terms.proofs.Placing.{place_there}
use Rattle.hol_terms.proofs.variable_sets.VariableSet.place.Goals as goal

in_ok : {E : Type 0} (v : Variable) (xs : List Variable) (r : Result (Option ℕ) E) → IfOk r (λ place. place ≡ place_of v xs) → IfOk r (λ place. IfSome place (λ k. slice_get xs k ≡ Some v))
in_ok v xs (Ok place) e = place_there v xs place e
in_ok v xs (Err x) e = e

pub returns-clause-there : goal.returns-clause-there
returns-clause-there c = in_ok (c.args.name.now, plain_type c.args.ty.now) c.args.self.now c.found.result c.found.ensures
