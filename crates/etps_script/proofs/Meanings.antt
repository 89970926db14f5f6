-- Terms and refusals of phrases.
use Rattle.std.proofs.Common.{List, [], ◌≡◌, subst, Some}
use Rattle.std.specs.declared.option.Option.{Option}
use Rattle.hol_terms.specs.Terms.{SimpleType, Term, Variable, truth_type}
use Rattle.hol_terms.specs.Typing.{IsFormula, Typed}
use Rattle.tps_reader.specs.Raws.{RawFormula}
use Rattle.type_infer.specs.Annotations.{Annotates}
use Rattle.type_infer.specs.Faults.{AreOpenAnnotations}
use Rattle.type_infer.specs.Laws.{AnnotationsAreTyped}
use Rattle.etps_script.specs.Phrases.{HasTwoTerms}

pub two_terms : (raw : RawFormula) (wanted : Option SimpleType) (known : List Variable) (s t : Term) → AreOpenAnnotations raw wanted known s t → HasTwoTerms raw wanted known
two_terms raw wanted known s t h = record { first = s; second = t; annotates = h.first; annotates_too = h.second; different = h.different }

-- an annotation at type O is a formula
pub formula_typed : AnnotationsAreTyped → (raw : RawFormula) (known : List Variable) (q : SimpleType) (t : Term) → q ≡ truth_type → Annotates raw (Some q) known t → IsFormula t
formula_typed law raw known q t e a =
    let h = law raw (Some q) known t a in
    subst (Typed [] t) e (subst (Typed [] t) h.2 h.1)

-- an annotation has a type
pub term_typed : AnnotationsAreTyped → (raw : RawFormula) (wanted : Option SimpleType) (known : List Variable) (t : Term) → Annotates raw wanted known t → (s : SimpleType) × Typed [] t s
term_typed law raw wanted known t a =
    let h = law raw wanted known t a in
    (h.0, h.1)
