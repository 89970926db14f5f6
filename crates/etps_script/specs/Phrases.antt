-- The terms for which the phrases of a command stand.
use Rattle.std.specs.Prelude.{◌≡◌, List, Option}
use Rattle.hol_terms.specs.Terms.{SimpleType, Term, Variable}
use Rattle.tps_reader.specs.Raws.{RawFormula}
use Rattle.type_infer.specs.Annotations.{Annotates}
use Rattle.type_infer.specs.Faults.{IsOnlyAnnotation}
use Rattle.nd_rules.specs.Lines.{DeductionLine}
use Rattle.etps_script.specs.Known.{AreKnown}
use Rattle.etps_script.specs.declared.refusals.Refusal.{Refusal}
use Rattle.etps_script.specs.declared.refusals.Refusal.TheVariants as refusal

-- two different terms are annotations of the phrase
pub record HasTwoTerms (raw : RawFormula) (wanted : Option SimpleType) (known : List Variable) : Type 0 where
  pub first : Term
  pub second : Term
  pub annotates : Annotates raw wanted known first
  pub annotates_too : Annotates raw wanted known second
  pub different : first ≡ second → ⊥

-- why a phrase has no term: it has no annotation, or more than one. Want of memory is free.
abbrev pub IsUntyped : RawFormula → Option SimpleType → List Variable → Refusal → Type 0
IsUntyped raw wanted known refusal.Memory = Unit {0}
IsUntyped raw wanted known refusal.NoTyping = (t : Term) → Annotates raw wanted known t → ⊥
IsUntyped raw wanted known refusal.Ambiguous = HasTwoTerms raw wanted known
IsUntyped raw wanted known e = ⊥

-- the only term for which the phrase stands beside the lines, whose names are known
pub record Means (lines : List DeductionLine) (raw : RawFormula) (wanted : Option SimpleType) (t : Term) : Type 0 where
  pub known : List Variable
  pub names : AreKnown lines known
  pub only : IsOnlyAnnotation raw wanted known t

-- why there is no such term. Want of memory is free.
abbrev pub IsMeaningless : List DeductionLine → RawFormula → Option SimpleType → Refusal → Type 0
IsMeaningless lines raw wanted refusal.Memory = Unit {0}
IsMeaningless lines raw wanted e = (known : List Variable) × AreKnown lines known × IsUntyped raw wanted known e
