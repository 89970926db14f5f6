-- The rules of natural deduction: which lines justify a line, and else the first refusal. After Andrews 2002.
use Rattle.std.specs.Prelude.{◌≡◌, ◌≢◌, ℕ, ◌==◌, nat_lt, List, [], ◌∷◌, ◌++◌, Bool, true, false, not, ◌&&◌, Option, Some, None, is_none, find, filter, All, Contains}
use Rattle.std.specs.List.{flat_map}
use Rattle.hol_terms.specs.Terms.{SimpleType, Term, plain_term, free, constant, application, abstraction, implication, forall, exists, truth_type}
use Rattle.hol_terms.specs.Typing.{Typed}
use Rattle.hol_terms.specs.Indices.{instance_of}
use Rattle.hol_terms.specs.FreeVariables.{IsFree, IsBodyOver}
use Rattle.hol_terms.specs.Truth.{Follows}
use Rattle.hol_conv.specs.Conversion.{Conv, IsNormalOf}
use Rattle.rulep_decide.specs.Verdicts.{Falsifies}
use Rattle.nd_rules.specs.Lines.{Justification, hypothesis, deduction, universal_instance, generalization, existential, choice, conversion, assignments, planned, DeductionLine, named_by, line_with, IsLine}
use Rattle.nd_rules.specs.declared.faults.RuleFault.{RuleFault}
use Rattle.nd_rules.specs.declared.faults.RuleFault.TheVariants.{Memory, NoLine, NotEarlier, Shape, Hyps, VariableFree, NotFollows, NotConvertible, WrongType}

-- A IMPLIES B
abbrev pub implies : Term → Term → Term
implies a b = application (application (constant implication) a) b

-- ALL, and SOME, on the abstraction with body b over a variable of type s
abbrev pub universal : SimpleType → Term → Term
universal s b = application (constant (forall s)) (abstraction s b)

abbrev pub existence : SimpleType → Term → Term
existence s b = application (constant (exists s)) (abstraction s b)

-- Lines

-- each line that l names is there
abbrev pub is_missing : List DeductionLine → DeductionLine → ℕ → Bool
is_missing lines l n = is_none (line_with lines l n)

abbrev pub is_hypothesis : Justification → Bool
is_hypothesis hypothesis = true
is_hypothesis (deduction d h) = false
is_hypothesis (universal_instance d t) = false
is_hypothesis (generalization d a) = false
is_hypothesis (existential d t) = false
is_hypothesis (choice e h d a) = false
is_hypothesis (conversion d) = false
is_hypothesis (assignments ds) = false
is_hypothesis planned = false

-- and has a smaller number; the own number of a P line is exempt
abbrev pub is_late : DeductionLine → ℕ → Bool
is_late l n = not (nat_lt n l.number) && not (is_hypothesis l.why && n == l.number)

-- The form of the formula: with the lines that l cites. An instance is compared only where the term has the quantifier's type.

abbrev pub HasShape : List DeductionLine → DeductionLine → Justification → Type 0
HasShape lines l hypothesis = Unit {0}
HasShape lines l (deduction d h) =
    (source : DeductionLine) × IsLine lines l d source × (hyp : DeductionLine) × IsLine lines l h hyp
    × (hyp.why ≡ hypothesis) × (l.formula ≡ implies hyp.formula source.formula)
HasShape lines l (universal_instance d t) =
    (source : DeductionLine) × IsLine lines l d source × (s : SimpleType) × (b : Term)
    × (source.formula ≡ universal s b) × (Typed [] t s → l.formula ≡ instance_of b t)
HasShape lines l (generalization d a) =
    (source : DeductionLine) × IsLine lines l d source × (s : SimpleType) × (b : Term)
    × (l.formula ≡ universal s b) × IsBodyOver a s source.formula b
HasShape lines l (existential d t) =
    (source : DeductionLine) × IsLine lines l d source × (s : SimpleType) × (b : Term)
    × (l.formula ≡ existence s b) × (Typed [] t s → source.formula ≡ instance_of b t)
HasShape lines l (choice e h d a) =
    (some : DeductionLine) × IsLine lines l e some × (hyp : DeductionLine) × IsLine lines l h hyp
    × (source : DeductionLine) × IsLine lines l d source × (s : SimpleType) × (b : Term)
    × (some.formula ≡ existence s b) × (hyp.why ≡ hypothesis) × (hyp.formula ≡ instance_of b (free a s)) × (l.formula ≡ source.formula)
HasShape lines l (conversion d) = Unit {0}
HasShape lines l (assignments ds) = Unit {0}
HasShape lines l planned = Unit {0}

-- The hypotheses

-- those of a line; none where there is no such line
abbrev pub hypotheses_in : Option DeductionLine → List ℕ
hypotheses_in None = []
hypotheses_in (Some m) = m.hypotheses

abbrev pub hypotheses_of : List DeductionLine → DeductionLine → ℕ → List ℕ
hypotheses_of lines l n = hypotheses_in (line_with lines l n)

-- without one of them
abbrev pub discharged : ℕ → List ℕ → List ℕ
discharged h = filter (λ n. not (n == h))

-- the hypotheses on which the rule lets l rest
abbrev pub inherited : List DeductionLine → DeductionLine → Justification → List ℕ
inherited lines l hypothesis = []
inherited lines l (deduction d h) = discharged h (hypotheses_of lines l d)
inherited lines l (universal_instance d t) = hypotheses_of lines l d
inherited lines l (generalization d a) = hypotheses_of lines l d
inherited lines l (existential d t) = hypotheses_of lines l d
inherited lines l (choice e h d a) = hypotheses_of lines l e ++ discharged h (hypotheses_of lines l d)
inherited lines l (conversion d) = hypotheses_of lines l d
inherited lines l (assignments ds) = flat_map (hypotheses_of lines l) ds
inherited lines l planned = []

-- line n is a P line
abbrev pub IsHypothesisLine : List DeductionLine → DeductionLine → ℕ → Type 0
IsHypothesisLine lines l n = (m : DeductionLine) × IsLine lines l n m × (m.why ≡ hypothesis)

-- a P line rests on itself alone; under any other rule the line's hypotheses are P lines, those that it inherits among them
abbrev pub HasHypotheses : List DeductionLine → DeductionLine → Type 0
HasHypotheses lines l =
    (l.why ≡ hypothesis → l.hypotheses ≡ l.number ∷ [])
    × All (Contains l.hypotheses) (inherited lines l l.why) × All (IsHypothesisLine lines l) l.hypotheses

-- The variable that a rule generalizes or chooses

-- the rule's variable, of the type of the quantifier
abbrev pub IsRuleVariable : List DeductionLine → DeductionLine → Justification → List ℕ → SimpleType → Type 0
IsRuleVariable lines l hypothesis a s = ⊥
IsRuleVariable lines l (deduction d h) a s = ⊥
IsRuleVariable lines l (universal_instance d t) a s = ⊥
IsRuleVariable lines l (generalization d b) a s = (a ≡ b) × ((body : Term) × (l.formula ≡ universal s body))
IsRuleVariable lines l (existential d t) a s = ⊥
IsRuleVariable lines l (choice e h d b) a s = (a ≡ b) × ((some : DeductionLine) × IsLine lines l e some × ((body : Term) × (some.formula ≡ existence s body)))
IsRuleVariable lines l (conversion d) a s = ⊥
IsRuleVariable lines l (assignments ds) a s = ⊥
IsRuleVariable lines l planned a s = ⊥

-- the lines in whose formulas it may not be free, in the order in which they are tried
abbrev pub barred : DeductionLine → Justification → List ℕ
barred l hypothesis = []
barred l (deduction d h) = []
barred l (universal_instance d t) = []
barred l (generalization d a) = l.hypotheses
barred l (existential d t) = []
barred l (choice e h d a) = e ∷ l.number ∷ l.hypotheses
barred l (conversion d) = []
barred l (assignments ds) = []
barred l planned = []

-- the rule's variable is free in the formula of line n
abbrev pub IsFreeIn : List DeductionLine → DeductionLine → ℕ → Type 0
IsFreeIn lines l n =
    (a : List ℕ) × (s : SimpleType) × IsRuleVariable lines l l.why a s × ((m : DeductionLine) × IsLine lines l n m × IsFree a s m.formula)

abbrev pub HasNewVariable : List DeductionLine → DeductionLine → Type 0
HasNewVariable lines l = All (λ n. IsFreeIn lines l n → ⊥) (barred l l.why)

-- Consequence, conversion and types

abbrev pub formulas_in : Option DeductionLine → List Term
formulas_in None = []
formulas_in (Some m) = m.formula ∷ []

-- the formulas of the lines
abbrev pub formulas_of : List DeductionLine → DeductionLine → List ℕ → List Term
formulas_of lines l ds = flat_map (λ d. formulas_in (line_with lines l d)) ds

-- what a rule asks beside lines, shape, hypotheses and variables: consequence by assignments under RULEP, conversion under LAMBDA
abbrev pub IsConsequence : List DeductionLine → DeductionLine → Justification → Type 0
IsConsequence lines l hypothesis = Unit {0}
IsConsequence lines l (deduction d h) = Unit {0}
IsConsequence lines l (universal_instance d t) = Unit {0}
IsConsequence lines l (generalization d a) = Unit {0}
IsConsequence lines l (existential d t) = Unit {0}
IsConsequence lines l (choice e h d a) = Unit {0}
IsConsequence lines l (conversion d) = Unit {0}
IsConsequence lines l (assignments ds) = Follows (formulas_of lines l ds) l.formula
IsConsequence lines l planned = Unit {0}

abbrev pub IsConverted : List DeductionLine → DeductionLine → Justification → Type 0
IsConverted lines l hypothesis = Unit {0}
IsConverted lines l (deduction d h) = Unit {0}
IsConverted lines l (universal_instance d t) = Unit {0}
IsConverted lines l (generalization d a) = Unit {0}
IsConverted lines l (existential d t) = Unit {0}
IsConverted lines l (choice e h d a) = Unit {0}
IsConverted lines l (conversion d) = (source : DeductionLine) × IsLine lines l d source × Conv [] truth_type source.formula l.formula
IsConverted lines l (assignments ds) = Unit {0}
IsConverted lines l planned = Unit {0}

-- the term has the quantifier's type under UI and EGEN
abbrev pub HasTypedTerm : List DeductionLine → DeductionLine → Justification → Type 0
HasTypedTerm lines l hypothesis = Unit {0}
HasTypedTerm lines l (deduction d h) = Unit {0}
HasTypedTerm lines l (universal_instance d t) =
    (source : DeductionLine) × IsLine lines l d source × (s : SimpleType) × (b : Term) × (source.formula ≡ universal s b) × Typed [] t s
HasTypedTerm lines l (generalization d a) = Unit {0}
HasTypedTerm lines l (existential d t) = (s : SimpleType) × (b : Term) × (l.formula ≡ existence s b) × Typed [] t s
HasTypedTerm lines l (choice e h d a) = Unit {0}
HasTypedTerm lines l (conversion d) = Unit {0}
HasTypedTerm lines l (assignments ds) = Unit {0}
HasTypedTerm lines l planned = Unit {0}

-- The line is justified by the lines, with itself put at its number.
pub record IsJustified (lines : List DeductionLine) (l : DeductionLine) : Type 0 where
  pub there : find (is_missing lines l) (named_by l) ≡ None
  pub earlier : find (is_late l) (named_by l) ≡ None
  pub shape : HasShape lines l l.why
  pub hypotheses : HasHypotheses lines l
  pub variable : HasNewVariable lines l
  pub consequence : IsConsequence lines l l.why
  pub converted : IsConverted lines l l.why
  pub typed : HasTypedTerm lines l l.why

-- The refusals

-- the lines that l names are there, with smaller numbers
abbrev pub NamesEarlier : List DeductionLine → DeductionLine → Type 0
NamesEarlier lines l = (find (is_missing lines l) (named_by l) ≡ None) × (find (is_late l) (named_by l) ≡ None)

-- and the formula and the hypotheses are as the rule wants them
abbrev pub RestsWell : List DeductionLine → DeductionLine → Type 0
RestsWell lines l = NamesEarlier lines l × HasShape lines l l.why × HasHypotheses lines l

-- k is the first of the barred lines in which the rule's variable is free
pub record IsFirstFree (lines : List DeductionLine) (l : DeductionLine) (k : ℕ) : Type 0 where
  pub before : List ℕ
  pub after : List ℕ
  pub split : barred l l.why ≡ before ++ k ∷ after
  pub none_before : All (λ n. IsFreeIn lines l n → ⊥) before
  pub free : IsFreeIn lines l k

-- these are the true atoms of an assignment that makes the cited formulas hold, and l not
abbrev pub IsFalsified : List DeductionLine → DeductionLine → Justification → List Term → Type 0
IsFalsified lines l hypothesis true_atoms = ⊥
IsFalsified lines l (deduction d h) true_atoms = ⊥
IsFalsified lines l (universal_instance d t) true_atoms = ⊥
IsFalsified lines l (generalization d a) true_atoms = ⊥
IsFalsified lines l (existential d t) true_atoms = ⊥
IsFalsified lines l (choice e h d a) true_atoms = ⊥
IsFalsified lines l (conversion d) true_atoms = ⊥
IsFalsified lines l (assignments ds) true_atoms = Falsifies true_atoms (formulas_of lines l ds) l.formula
IsFalsified lines l planned true_atoms = ⊥

-- the long normal forms of the cited line and of l differ
abbrev pub HasNormals : List DeductionLine → DeductionLine → Justification → Term → Term → Type 0
HasNormals lines l hypothesis s t = ⊥
HasNormals lines l (deduction d h) s t = ⊥
HasNormals lines l (universal_instance d u) s t = ⊥
HasNormals lines l (generalization d a) s t = ⊥
HasNormals lines l (existential d u) s t = ⊥
HasNormals lines l (choice e h d a) s t = ⊥
HasNormals lines l (conversion d) s t =
    (source : DeductionLine) × IsLine lines l d source × IsNormalOf [] truth_type s source.formula × IsNormalOf [] truth_type t l.formula × (s ≢ t)
HasNormals lines l (assignments ds) s t = ⊥
HasNormals lines l planned s t = ⊥

-- The refusals in their order, each where none before it holds: a line named that isn't there, one that isn't earlier, the form of the
-- formula, the hypotheses, the variable, consequence, conversion, the type of the term. Want of memory is free.
abbrev pub IsFirstRefusal : List DeductionLine → DeductionLine → RuleFault → Type 0
IsFirstRefusal lines l Memory = Unit {0}
IsFirstRefusal lines l (NoLine k) = find (is_missing lines l) (named_by l) ≡ Some k
IsFirstRefusal lines l (NotEarlier k) = (find (is_missing lines l) (named_by l) ≡ None) × (find (is_late l) (named_by l) ≡ Some k)
IsFirstRefusal lines l Shape = NamesEarlier lines l × (HasShape lines l l.why → ⊥)
IsFirstRefusal lines l Hyps = NamesEarlier lines l × HasShape lines l l.why × (HasHypotheses lines l → ⊥)
IsFirstRefusal lines l (VariableFree k) = RestsWell lines l × IsFirstFree lines l k
IsFirstRefusal lines l (NotFollows true_atoms) = RestsWell lines l × HasNewVariable lines l × IsFalsified lines l l.why true_atoms
IsFirstRefusal lines l (NotConvertible s t) = RestsWell lines l × HasNewVariable lines l × HasNormals lines l l.why (plain_term s) (plain_term t)
IsFirstRefusal lines l WrongType = RestsWell lines l × HasNewVariable lines l × (HasTypedTerm lines l l.why → ⊥)
