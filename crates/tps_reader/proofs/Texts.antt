-- A text is one formula at most.
use Rattle.std.proofs.Common.{◌≡◌, ℕ, ◌-◌, ◌<◌, ◌≤◌, length, List, [], ◌∷◌, refl, ap₂, sym, ◌∙◌, ap, subst, arith}
use Rattle.tps_reader.specs.Depth.{depth_of}
use Rattle.tps_reader.specs.Faults.{IsFormulaText, IsPhraseFault, IsRawFault}
use Rattle.tps_reader.specs.declared.faults.RawFault.{RawFault}
use Rattle.tps_reader.specs.declared.faults.RawFault.TheVariants.{NotUtf8, BadCharacter, TooDeep, Unexpected, Memory}
use Rattle.tps_reader.specs.Grammar.{IsFormula}
use Rattle.tps_reader.specs.Raws.{RawFormula}
use Rattle.tps_reader.specs.Tokens.{AreTokensOf, Token, token, tokens_from}
use Rattle.tps_reader.specs.Laws.{HasOneCut, HasOneDepth, SaysOneFormula}
use Rattle.tps_reader.proofs.Completing.{one_phrase}
use Rattle.tps_reader.proofs.Cutting.{one_reading}
use Rattle.tps_reader.proofs.Grouping.{counted_within, has_depth, only_depth, within_depth}

-- places from the start are the places
pub from_start : (ts : List Token) → tokens_from 0 ts ≡ ts
from_start [] = refl
from_start (token s place long ∷ ts) = let same : place - 0 ≡ place = omega arith in ap₂ (λ k l. token s k long ∷ l) same (from_start ts)

pub text_only : (bytes : List ℕ) (tokens ts : List Token) (v : RawFormula) → ((others : List Token) → AreTokensOf bytes others → others ≡ tokens) → ts ≡ tokens → ((w : RawFormula) → IsFormula ts w → w ≡ v)
    → (w : RawFormula) → IsFormulaText bytes w → w ≡ v
text_only bytes tokens ts v one same only w h = only w (subst (λ (l : List Token). IsFormula l w) (one h.0 h.1 ∙ sym same) h.3)

pub text_none : (bytes : List ℕ) (tokens ts : List Token) → ((others : List Token) → AreTokensOf bytes others → others ≡ tokens) → ts ≡ tokens → ((w : RawFormula) → IsFormula ts w → ⊥) → (w : RawFormula) → IsFormulaText bytes w → ⊥
text_none bytes tokens ts one same none w h = none w (subst (λ (l : List Token). IsFormula l w) (one h.0 h.1 ∙ sym same) h.3)

pub text_deep : (bytes : List ℕ) (tokens : List Token) (depth : ℕ) → ((others : List Token) → AreTokensOf bytes others → others ≡ tokens) → depth ≡ depth_of tokens → 1000 < depth → (w : RawFormula) → IsFormulaText bytes w → ⊥
text_deep bytes tokens depth one is deep w h =
    let same : depth_of h.0 ≡ depth = ap depth_of (one h.0 h.1) ∙ sym is in
    let low : depth_of h.0 ≤ 1000 = counted_within h.0 1000 h.2 in
    omega (arith, same, deep, low)

pub text_formula : (bytes : List ℕ) (tokens ts : List Token) (v : RawFormula) → AreTokensOf bytes tokens → depth_of tokens ≤ 1000 → ts ≡ tokens → IsFormula ts v → IsFormulaText bytes v
text_formula bytes tokens ts v are low same h = (tokens, are, within_depth tokens 1000 low, subst (λ (l : List Token). IsFormula l v) same h)

pub text_fault : (bytes : List ℕ) (tokens ts : List Token) (fault : RawFault) → AreTokensOf bytes tokens → depth_of tokens ≤ 1000 → ts ≡ tokens → IsPhraseFault ts (length bytes) fault → IsRawFault bytes fault
text_fault bytes tokens ts NotUtf8 are low same h = absurd h
text_fault bytes tokens ts (BadCharacter place) are low same h = absurd h
text_fault bytes tokens ts (TooDeep depth) are low same h = absurd h
text_fault bytes tokens ts (Unexpected place) are low same h = (tokens, are, within_depth tokens 1000 low, subst (λ (l : List Token). IsPhraseFault l (length bytes) (Unexpected place)) same h)
text_fault bytes tokens ts Memory are low same h = tt

-- the laws

pub one_cut : HasOneCut
one_cut bytes ts us h g = one_reading bytes us ts g h

pub one_formula : SaysOneFormula
one_formula bytes v w h g =
    one_phrase h.0 w v (subst (λ (l : List Token). IsFormula l w) (one_reading bytes h.0 g.0 h.1 g.1) g.3) h.3

pub one_depth : HasOneDepth
one_depth ts depth = ((λ h. only_depth ts (depth_of ts) refl depth h), (λ e. has_depth ts depth e))
