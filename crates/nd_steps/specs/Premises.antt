-- What each rule wants of the lines before, so that the next line may have a formula under the given hypotheses. After Andrews 2002.
use Rattle.std.specs.Prelude.{◌≡◌, ℕ, List, [], ◌∷◌}
use Rattle.hol_terms.specs.Terms.{SimpleType, Term, free, constant, application, negation, disjunction, falsehood, truth_type}
use Rattle.hol_terms.specs.Typing.{Typed}
use Rattle.hol_terms.specs.Indices.{instance_of}
use Rattle.hol_terms.specs.FreeVariables.{IsFree, IsBodyOver}
use Rattle.hol_terms.specs.Truth.{Follows}
use Rattle.hol_conv.specs.Conversion.{Conv}
use Rattle.nd_rules.specs.Lines.{DeductionLine}
use Rattle.nd_rules.specs.Rules.{implies, universal, existence}
use Rattle.nd_steps.specs.Deductions.{Assumes, Proves, ProveAll, IsFreeInNone}

-- The rules

-- RULEP: the formula follows by assignments from those of the sources
pub record FollowsFrom (lines : List DeductionLine) (hyps sources : List ℕ) (formula : Term) : Type 0 where
  pub premises : List Term
  pub proved : ProveAll lines sources hyps premises
  pub follows : Follows premises formula

-- DEDUCT: the hypothesis implies what is proved with it
pub record Discharges (lines : List DeductionLine) (hyps : List ℕ) (source hyp : ℕ) (formula : Term) : Type 0 where
  pub assumption : Term
  pub conclusion : Term
  pub assumed : Assumes lines hyp assumption
  pub proved : Proves lines source (hyp ∷ hyps) conclusion
  pub is : formula ≡ implies assumption conclusion

-- UI: the instance of a universal formula with a term of the quantifier's type
pub record Instantiates (lines : List DeductionLine) (hyps : List ℕ) (source : ℕ) (term formula : Term) : Type 0 where
  pub ty : SimpleType
  pub body : Term
  pub proved : Proves lines source hyps (universal ty body)
  pub typed : Typed [] term ty
  pub is : formula ≡ instance_of body term

-- UGEN: the universal formula over a variable that is free in no hypothesis
pub record Generalizes (lines : List DeductionLine) (hyps : List ℕ) (source : ℕ) (name : List ℕ) (formula : Term) : Type 0 where
  pub ty : SimpleType
  pub body : Term
  pub instance : Term
  pub proved : Proves lines source hyps instance
  pub over : IsBodyOver name ty instance body
  pub is : formula ≡ universal ty body
  pub free_in_none : IsFreeInNone lines hyps name ty

-- EGEN: the existential formula whose instance with a term of the quantifier's type is proved
pub record Witnesses (lines : List DeductionLine) (hyps : List ℕ) (source : ℕ) (term formula : Term) : Type 0 where
  pub ty : SimpleType
  pub body : Term
  pub proved : Proves lines source hyps (instance_of body term)
  pub typed : Typed [] term ty
  pub is : formula ≡ existence ty body

-- RULEC: what is proved with the hypothesis that the existential formula holds of a variable, which is free in no other hypothesis, nor
-- in the existential formula, nor in the conclusion
pub record Chooses (lines : List DeductionLine) (hyps : List ℕ) (some_line hyp source : ℕ) (name : List ℕ) (formula : Term) : Type 0 where
  pub ty : SimpleType
  pub body : Term
  pub exists_one : Proves lines some_line hyps (existence ty body)
  pub assumed : Assumes lines hyp (instance_of body (free name ty))
  pub proved : Proves lines source (hyp ∷ hyps) formula
  pub new : IsFree name ty body → ⊥
  pub not_free : IsFree name ty formula → ⊥
  pub free_in_none : IsFreeInNone lines hyps name ty

-- LAMBDA: a convertible formula
pub record Converts (lines : List DeductionLine) (hyps : List ℕ) (source : ℕ) (formula : Term) : Type 0 where
  pub given : Term
  pub proved : Proves lines source hyps given
  pub converted : Conv [] truth_type given formula

-- Steps of several lines

abbrev pub not_so : Term → Term
not_so a = application (constant negation) a

abbrev pub either : Term → Term → Term
either a b = application (application (constant disjunction) a) b

-- a formula that is convertible with the instance of a universal formula
pub record InstantiatesTo (lines : List DeductionLine) (hyps : List ℕ) (source : ℕ) (term formula : Term) : Type 0 where
  pub ty : SimpleType
  pub body : Term
  pub proved : Proves lines source hyps (universal ty body)
  pub typed : Typed [] term ty
  pub converted : Conv [] truth_type (instance_of body term) formula

-- a formula that is convertible with an instance of an existential formula whose negation is proved
pub record DeniesInstance (lines : List DeductionLine) (hyps : List ℕ) (source : ℕ) (term formula : Term) : Type 0 where
  pub ty : SimpleType
  pub body : Term
  pub proved : Proves lines source hyps (not_so (existence ty body))
  pub typed : Typed [] term ty
  pub converted : Conv [] truth_type (instance_of body term) formula

-- with the hypothesis, FALSEHOOD is proved
pub record Contradicts (lines : List DeductionLine) (hyps : List ℕ) (hyp source : ℕ) (assumption : Term) : Type 0 where
  pub assumed : Assumes lines hyp assumption
  pub proved : Proves lines source (hyp ∷ hyps) (constant falsehood)

-- a formula from which one of two others follows, each of which is contradicted
pub record Splits (lines : List DeductionLine) (hyps : List ℕ) (source first_hyp first_line second_hyp second_line : ℕ) : Type 0 where
  pub formula : Term
  pub first : Term
  pub second : Term
  pub proved : Proves lines source hyps formula
  pub cases : Follows (formula ∷ []) (either first second)
  pub not_first : Contradicts lines hyps first_hyp first_line first
  pub not_second : Contradicts lines hyps second_hyp second_line second

-- the negation of a universal formula, where it is contradicted that it doesn't hold of a variable, which is free in no other
-- hypothesis, nor in the universal formula
pub record DeniesUniversal (lines : List DeductionLine) (hyps : List ℕ) (source hyp contradiction : ℕ) (name : List ℕ) : Type 0 where
  pub ty : SimpleType
  pub body : Term
  pub proved : Proves lines source hyps (not_so (universal ty body))
  pub contradicted : Contradicts lines hyps hyp contradiction (not_so (instance_of body (free name ty)))
  pub new : IsFree name ty body → ⊥
  pub free_in_none : IsFreeInNone lines hyps name ty
