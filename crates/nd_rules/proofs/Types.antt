-- A term's type found, compared with a wanted one.
use Rattle.std.proofs.Common.{◌≡◌, ◌↔◌, Bool, IsTrue, [], subst}
use Rattle.hol_terms.specs.Terms.{SimpleType, Term}
use Rattle.hol_terms.specs.Typing.{Typed}
use Rattle.hol_terms.proofs.TypingLaws.{typed_once}

pub found_type : (t : Term) (found wanted : SimpleType) (b : Bool) → Typed [] t found → (IsTrue b ↔ (found ≡ wanted)) → (IsTrue b ↔ Typed [] t wanted)
found_type t found wanted b typed same = (λ yes. subst (Typed [] t) (same.0 yes) typed, λ other. same.1 (typed_once [] t found wanted typed other))
