-- The next line's formula is one, by its rule.
use Rattle.std.proofs.Common.{◌≡◌, ℕ, List, [], ◌∷◌, refl, sym, ◌∙◌, subst}
use Rattle.hol_terms.specs.Terms.{SimpleType, function_type, Term, truth_type}
use Rattle.hol_terms.specs.Typing.{Typed, IsFormula}
use Rattle.hol_terms.proofs.TypingLaws.{typed_instance, typed_body}
use Rattle.hol_conv.proofs.Uniqueness.{conv-last}
use Rattle.nd_rules.specs.Lines.{DeductionLine}
use Rattle.nd_rules.specs.Outlines.{IsWellFormed}
use Rattle.nd_rules.specs.Rules.{implies, universal, existence}
use Rattle.nd_steps.specs.Deductions.{IsDeduction, Assumes, Proves}
use Rattle.nd_steps.specs.Premises.{Discharges, Instantiates, Generalizes, Chooses, Converts}
use Rattle.nd_steps.proofs.Numbering.{found_in}

module _ (lines : List DeductionLine) (d : IsDeduction lines) where
  pub proved_formed : (n : ℕ) (hyps : List ℕ) (a : Term) → Proves lines n hyps a → IsFormula a
  proved_formed n hyps a p = subst IsFormula p.says (found_in IsWellFormed lines n p.line d.outline.formed p.found).0

  pub assumed_formed : (n : ℕ) (a : Term) → Assumes lines n a → IsFormula a
  assumed_formed n a p = subst IsFormula p.says (found_in IsWellFormed lines n p.line d.outline.formed p.found).0

  implies_formed : (a b : Term) → IsFormula a → IsFormula b → IsFormula (implies a b)
  implies_formed a b ha hb = (truth_type, (truth_type, refl, ha), hb)

  quantified_type : (s q r : SimpleType) → function_type truth_type (function_type truth_type s) ≡ function_type truth_type q → function_type r s ≡ q → r ≡ truth_type
  quantified_type s q r e f = let whole : function_type truth_type s ≡ q = cc in let same : function_type r s ≡ function_type truth_type s = f ∙ sym whole in cc

  pub universal_body_formed : (s : SimpleType) (b : Term) → IsFormula (universal s b) → Typed (s ∷ []) b truth_type
  universal_body_formed s b h =
      let P : SimpleType → Type 0 = λ r. Typed (s ∷ []) b r in
      subst P (quantified_type s h.0 h.2.0 h.1 h.2.2) h.2.1

  pub existence_body_formed : (s : SimpleType) (b : Term) → IsFormula (existence s b) → Typed (s ∷ []) b truth_type
  existence_body_formed s b h =
      let P : SimpleType → Type 0 = λ r. Typed (s ∷ []) b r in
      subst P (quantified_type s h.0 h.2.0 h.1 h.2.2) h.2.1

  pub deduct_formed : (hyps : List ℕ) (formula : Term) (n h : ℕ) → Discharges lines hyps n h formula → IsFormula formula
  deduct_formed hyps formula n h c = subst IsFormula (sym c.is) (implies_formed c.assumption c.conclusion (assumed_formed h c.assumption c.assumed) (proved_formed n (h ∷ hyps) c.conclusion c.proved))

  pub instance_formed : (hyps : List ℕ) (formula : Term) (n : ℕ) (term : Term) → Instantiates lines hyps n term formula → IsFormula formula
  instance_formed hyps formula n term c =
      subst IsFormula (sym c.is) (typed_instance [] c.ty term c.body truth_type c.typed (universal_body_formed c.ty c.body (proved_formed n hyps (universal c.ty c.body) c.proved)))

  pub generalize_formed : (hyps : List ℕ) (formula : Term) (n : ℕ) (name : List ℕ) → Generalizes lines hyps n name formula → IsFormula formula
  generalize_formed hyps formula n name c =
      let body = typed_body name c.ty c.instance c.body truth_type (proved_formed n hyps c.instance c.proved) c.over in
      let made : IsFormula (universal c.ty c.body) = (function_type truth_type c.ty, refl, (truth_type, body, refl)) in
      subst IsFormula (sym c.is) made

  pub choose_formed : (hyps : List ℕ) (formula : Term) (e h n : ℕ) (name : List ℕ) → Chooses lines hyps e h n name formula → IsFormula formula
  choose_formed hyps formula e h n name c = proved_formed n (h ∷ hyps) formula c.proved

  pub convert_formed : (hyps : List ℕ) (formula : Term) (n : ℕ) → Converts lines hyps n formula → IsFormula formula
  convert_formed hyps formula n c = conv-last [] truth_type c.given formula c.converted
