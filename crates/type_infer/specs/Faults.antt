-- What the answers of type inference say.
use Rattle.std.specs.Prelude.{List, ◌≡◌}
use Rattle.std.specs.declared.option.Option.{Option}
use Rattle.hol_terms.specs.Terms.{SimpleType, Term, Variable, plain_term}
use Rattle.tps_reader.specs.Raws.{RawFormula}
use Rattle.type_infer.specs.Annotations.{Annotates}
use Rattle.type_infer.specs.Conditions.{IsFirstUnmet, all_conditions}
use Rattle.type_infer.specs.Spans.{TermSpans}
use Rattle.type_infer.specs.declared.inference.InferFault.{InferFault}
use Rattle.type_infer.specs.declared.inference.InferFault.TheVariants.{Memory, NoTyping, Ambiguous}

-- the term is the only annotation
pub record IsOnlyAnnotation (raw : RawFormula) (wanted : Option SimpleType) (known : List Variable) (t : Term) : Type 0 where
  pub annotates : Annotates raw wanted known t
  pub only : (r : Term) → Annotates raw wanted known r → r ≡ t

-- both terms are annotations, and they differ; each annotation is like both but for the open types, where s has I and t has O
pub record AreOpenAnnotations (raw : RawFormula) (wanted : Option SimpleType) (known : List Variable) (s t : Term) : Type 0 where
  pub first : Annotates raw wanted known s
  pub second : Annotates raw wanted known t
  pub different : s ≡ t → ⊥
  pub all : (r : Term) → Annotates raw wanted known r → TermSpans s t r

-- there is no annotation, and the place is that of the first node whose conditions, with those before it, can't be met; or there
-- are annotations that differ
abbrev pub IsInferFault : RawFormula → Option SimpleType → List Variable → InferFault → Type 0
IsInferFault raw wanted known Memory = Unit {0}
IsInferFault raw wanted known (NoTyping place) =
    ((t : Term) → Annotates raw wanted known t → ⊥) × IsFirstUnmet (all_conditions raw wanted known) place
IsInferFault raw wanted known (Ambiguous s t) = AreOpenAnnotations raw wanted known (plain_term s) (plain_term t)
