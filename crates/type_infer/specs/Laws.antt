-- Laws of annotations. Each is the clause of a function of the module `laws`.
use Rattle.std.specs.Prelude.{ℕ, List, [], ◌≡◌, ◌↔◌}
use Rattle.std.specs.declared.option.Option.{Option}
use Rattle.hol_terms.specs.Terms.{SimpleType, Term, Variable}
use Rattle.hol_terms.specs.Typing.{Typed}
use Rattle.tps_reader.specs.Raws.{RawFormula}
use Rattle.type_infer.specs.Annotations.{Annotates, IsAsked}
use Rattle.type_infer.specs.Assignments.{annotated}
use Rattle.type_infer.specs.Conditions.{MeetsAll, all_conditions}

-- an annotation is a typed term, of the wanted type where one is given
abbrev pub AnnotationsAreTyped : Type 0
AnnotationsAreTyped =
    (raw : RawFormula) (wanted : Option SimpleType) (known : List Variable) (t : Term) → Annotates raw wanted known t
    → (s : SimpleType) × Typed [] t s × IsAsked wanted s

-- the annotations are the terms that come of the assignments which meet all conditions
abbrev pub AssignmentsAnnotate : Type 0
AssignmentsAnnotate =
    (raw : RawFormula) (wanted : Option SimpleType) (known : List Variable) (t : Term)
    → Annotates raw wanted known t
    ↔ ((names : List ℕ → SimpleType) × (types : ℕ → SimpleType) × MeetsAll names types (all_conditions raw wanted known) × (t ≡ annotated types [] 0 raw))
