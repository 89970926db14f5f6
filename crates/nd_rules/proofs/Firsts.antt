-- The first number of a list for which something holds, and the variable of a rule.
use Rattle.std.proofs.Common.{◌≡◌, ℕ, suc, ◌+◌, ◌<◌, ◌≤◌, List, ◌++◌, length, get_or, take, drop, Bool, false, IsTrue, ◌↔◌, sym, ◌∙◌, ap, subst, drop-cons}
use Rattle.std.specs.Prelude.{All, Option, Some, None, IfNone, IfSome, MatchOption}
use Rattle.std.proofs.lemmas.List.{take-append-drop, take_all}
use Rattle.std.proofs.lemmas.List.Elements.{All-more, All-weaker}
use Rattle.hol_terms.specs.Terms.{SimpleType}
use Rattle.nd_rules.specs.Lines.{Justification, hypothesis, deduction, universal_instance, generalization, existential, choice, conversion, assignments, planned, DeductionLine}
use Rattle.nd_rules.specs.Rules.{IsRuleVariable, IsFreeIn, IsFirstFree, HasNewVariable, barred}
use Rattle.nd_rules.specs.Variables.{IsFreeAt, IsFirstOf}

not_true : (b : Bool) → b ≡ false → IsTrue b → ⊥
not_true b e h = cc

pub first_found : (P : ℕ → Type 0) (ns : List ℕ) (i : ℕ) → i < length ns → All (λ n. P n → ⊥) (take i ns) → P (get_or ns i 0) → IsFirstOf P ns (get_or ns i 0)
first_found P ns i within before here = record {
  before = take i ns;
  after = drop (suc i) ns;
  split = sym (take-append-drop i ns) ∙ ap (λ rest. take i ns ++ rest) (drop-cons ns i 0 within);
  none_before = before;
  holds = here;
}

pub one_more : (P : ℕ → Type 0) (ns : List ℕ) (i : ℕ) (b : Bool) → i < length ns → All (λ n. P n → ⊥) (take i ns) → (IsTrue b ↔ P (get_or ns i 0)) → b ≡ false → All (λ n. P n → ⊥) (take (i + 1) ns)
one_more P ns i b within before tells isnt = All-more (λ n. P n → ⊥) ns i 0 within before (λ h. not_true b isnt (tells.1 h))

pub none_in_all : (P : ℕ → Type 0) (ns : List ℕ) (i : ℕ) → length ns ≤ i → All (λ n. P n → ⊥) (take i ns) → All (λ n. P n → ⊥) ns
none_in_all P ns i done h = subst (All (λ n. P n → ⊥)) (take_all i ns done) h

-- a rule has one variable
rule_variable-unique : (lines : List DeductionLine) (l : DeductionLine) (w : Justification) (a b : List ℕ) (s r : SimpleType) → IsRuleVariable lines l w a s → IsRuleVariable lines l w b r → (a ≡ b) × (s ≡ r)
rule_variable-unique lines l hypothesis a b s r h g = absurd h
rule_variable-unique lines l (deduction d e) a b s r h g = absurd h
rule_variable-unique lines l (universal_instance d t) a b s r h g = absurd h
rule_variable-unique lines l (generalization d c) a b s r h g = (h.0 ∙ sym g.0, cc (h.1.1, g.1.1))
rule_variable-unique lines l (existential d t) a b s r h g = absurd h
rule_variable-unique lines l (choice e k d c) a b s r h g =
    let same : h.1.0 ≡ g.1.0 = cc (h.1.1, g.1.1) in
    let formulas : h.1.0.formula ≡ g.1.0.formula = ap (λ (m : DeductionLine). m.formula) same in
    (h.0 ∙ sym g.0, cc (formulas, h.1.2.1, g.1.2.1))
rule_variable-unique lines l (conversion d) a b s r h g = absurd h
rule_variable-unique lines l (assignments ds) a b s r h g = absurd h
rule_variable-unique lines l planned a b s r h g = absurd h

-- the rule's variable is free in a line where this one is
free_in_at : (lines : List DeductionLine) (l : DeductionLine) (a : List ℕ) (s : SimpleType) (n : ℕ) → IsRuleVariable lines l l.why a s → IsFreeIn lines l n → IsFreeAt lines l a s n
free_in_at lines l a s n rule h =
    let same = rule_variable-unique lines l l.why h.0 a h.1 s h.2 rule in
    let P : List ℕ → Type 0 = λ b. IsFreeAt lines l b s n in
    let Q : SimpleType → Type 0 = λ r. IsFreeAt lines l h.0 r n in
    subst P same.0 (subst Q same.1 h.3)

-- what was found among the barred lines
pub variable_judged : (lines : List DeductionLine) (l : DeductionLine) (a : List ℕ) (s : SimpleType) (numbers : List ℕ) (r : Option ℕ) → IsRuleVariable lines l l.why a s → numbers ≡ barred l l.why
    → IfNone r (All (λ n. IsFreeAt lines l a s n → ⊥) numbers) → IfSome r (IsFirstOf (IsFreeAt lines l a s) numbers) → MatchOption r (HasNewVariable lines l) (IsFirstFree lines l)
variable_judged lines l a s numbers None rule same h g =
    subst (All (λ n. IsFreeIn lines l n → ⊥)) same (All-weaker (λ n. IsFreeAt lines l a s n → ⊥) (λ n. IsFreeIn lines l n → ⊥) (λ n none f. none (free_in_at lines l a s n rule f)) numbers h)
variable_judged lines l a s numbers (Some k) rule same g h = record {
  before = h.before;
  after = h.after;
  split = sym same ∙ h.split;
  none_before = All-weaker (λ n. IsFreeAt lines l a s n → ⊥) (λ n. IsFreeIn lines l n → ⊥) (λ n none f. none (free_in_at lines l a s n rule f)) h.before h.none_before;
  free = (a, s, rule, h.holds);
}

-- a rule without a variable
pub no_variable : (lines : List DeductionLine) (l : DeductionLine) → ((a : List ℕ) (s : SimpleType) → IsRuleVariable lines l l.why a s → ⊥) → HasNewVariable lines l
no_variable lines l none k d within free = none free.0 free.1 free.2
