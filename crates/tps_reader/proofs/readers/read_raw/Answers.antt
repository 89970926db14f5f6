use Rattle.std.proofs.Common.{◌≡◌, ◌≢◌, ◌∙◌, arith, length}
use Rattle.tps_reader.specs.Faults.{IsFormulaText, IsPhraseFault, IsRawFault}
use Rattle.tps_reader.specs.Grammar.{IsFormula}
use Rattle.tps_reader.specs.Raws.{RawFormula, plain_raw}
use Rattle.tps_reader.specs.Tokens.{tokens_from}
use Rattle.tps_reader.specs.Views.{plain_tokens}
use Rattle.tps_reader.specs.declared.faults.RawFault.TheVariants.{Memory}
use Rattle.tps_reader.proofs.Results.{if_err, if_ok}
use Rattle.tps_reader.proofs.Texts.{from_start, text_deep, text_fault, text_formula, text_none, text_only}
use Rattle.tps_reader.proofs.readers.read_raw.Goals as goal

pub returns-in-Err-clause-none : goal.returns-in-Err-clause-none
returns-in-Err-clause-none c = λ real other h. c.in-Err.ensures.none real h.0 h.1

pub returns-then-depth-gt-DEEPEST-clause-none : goal.returns-then-depth-gt-DEEPEST-clause-none
returns-then-depth-gt-DEEPEST-clause-none c = λ real other h.
    text_deep c.args.text.now c.in-Ok.tokens c.depth-depth.result c.in-Ok.ensures.only c.depth-depth.ensures.counted c.if-depth-gt-DEEPEST.true other h

pub returns-clause-only : goal.returns-clause-only
returns-clause-only c =
    let text = c.args.text.now in
    let ts = tokens_from 0 (plain_tokens c.as_slice.result.now) in
    if_ok (λ v. (w : RawFormula) → IsFormula ts w → w ≡ plain_raw v) (λ v. (w : RawFormula) → IsFormulaText text w → w ≡ plain_raw v)
    (λ v only w h. text_only text c.in-Ok.tokens ts (plain_raw v) c.in-Ok.ensures.only (from_start (plain_tokens c.as_slice.result.now) ∙ c.as_slice.ensures) only w h) c.read_phrase.result c.read_phrase.ensures.only

pub returns-clause-none : goal.returns-clause-none
returns-clause-none c =
    let text = c.args.text.now in
    let ts = tokens_from 0 (plain_tokens c.as_slice.result.now) in
    if_err (λ e. e ≢ Memory → (w : RawFormula) → IsFormula ts w → ⊥) (λ e. e ≢ Memory → (w : RawFormula) → IsFormulaText text w → ⊥)
    (λ e none real w h. text_none text c.in-Ok.tokens ts c.in-Ok.ensures.only (from_start (plain_tokens c.as_slice.result.now) ∙ c.as_slice.ensures) (none real) w h) c.read_phrase.result c.read_phrase.ensures.none

pub returns-clause-formula : goal.returns-clause-formula
returns-clause-formula c =
    let text = c.args.text.now in
    let ts = tokens_from 0 (plain_tokens c.as_slice.result.now) in
    if_ok (λ v. IsFormula ts (plain_raw v)) (λ v. IsFormulaText text (plain_raw v))
    (λ v h. text_formula text c.in-Ok.tokens ts (plain_raw v) c.in-Ok.ensures.tokens (omega (arith, c.if-depth-gt-DEEPEST.false, c.depth-depth.ensures.counted)) (from_start (plain_tokens c.as_slice.result.now) ∙ c.as_slice.ensures) h) c.read_phrase.result c.read_phrase.ensures.phrase

pub returns-clause-fault : goal.returns-clause-fault
returns-clause-fault c =
    let text = c.args.text.now in
    let ts = tokens_from 0 (plain_tokens c.as_slice.result.now) in
    if_err (IsPhraseFault ts (length text)) (IsRawFault text)
    (λ e h. text_fault text c.in-Ok.tokens ts e c.in-Ok.ensures.tokens (omega (arith, c.if-depth-gt-DEEPEST.false, c.depth-depth.ensures.counted)) (from_start (plain_tokens c.as_slice.result.now) ∙ c.as_slice.ensures) h) c.read_phrase.result c.read_phrase.ensures.fault
