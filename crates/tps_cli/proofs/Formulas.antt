-- The formula for which a text stands.
use Rattle.std.proofs.Common.{◌≡◌, ◌↔◌, ◌∙◌, Bool, false, true, List, ℕ, [], IsTrue, MatchOption, None, Option, Some, refl, subst, sym}
use Rattle.hol_terms.specs.Terms.{SimpleType, Term, Variable, plain_term, truth_type}
use Rattle.hol_terms.specs.declared.terms.Tm.{Tm}
use Rattle.tps_reader.specs.Faults.{IsFormulaText}
use Rattle.tps_reader.specs.Raws.{RawFormula}
use Rattle.type_infer.specs.Faults.{IsInferFault, IsOnlyAnnotation}
use Rattle.type_infer.specs.declared.inference.InferFault.{InferFault}
use Rattle.type_infer.specs.declared.inference.InferFault.TheVariants.{Memory, NoTyping, Ambiguous}
use Rattle.tps_cli.specs.Proves.{StandsFor}

-- a test that fails tells that what it decides doesn't hold
pub fails : {P : Type 0} → (b : Bool) → b ≡ false → IsTrue b ↔ P → P → ⊥
fails b e h p =
    let holds : b ≡ true = h.1 p in cc

-- where types can't be found, or more than one way, there is no only annotation
pub no_formula :
    (raw : RawFormula) (wanted : Option SimpleType) (known : List Variable) (fault : InferFault) → (fault ≡ Memory → ⊥)
    → IsInferFault raw wanted known fault → (t : Term) → IsOnlyAnnotation raw wanted known t → ⊥
no_formula raw wanted known Memory told h t only = told refl
no_formula raw wanted known (NoTyping place) told h t only = h.0 t only.annotates
no_formula raw wanted known (Ambiguous r s) told h t only = h.different (only.only (plain_term r) h.first ∙ sym (only.only (plain_term s) h.second))

-- the formula of a text's only phrase is that of the text
pub text_found :
    (bytes : List ℕ) (raw : RawFormula) (found : Option Tm) → IsFormulaText bytes raw → ((other : RawFormula) → IsFormulaText bytes other → other ≡ raw)
    → MatchOption found ((t : Term) → IsOnlyAnnotation raw (Some truth_type) [] t → ⊥) (λ t. IsOnlyAnnotation raw (Some truth_type) [] (plain_term t))
    → MatchOption found ((formula : Term) → StandsFor bytes formula → ⊥) (λ t. StandsFor bytes (plain_term t))
text_found bytes raw None text only h = λ formula stands.
    h formula (subst (λ (r : RawFormula). IsOnlyAnnotation r (Some truth_type) [] formula) (only stands.0 stands.1) stands.2)
text_found bytes raw (Some t) text only h = (raw, text, h)
