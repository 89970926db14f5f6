use Rattle.std.proofs.Common.{◌≡◌, ◌≢◌, Some}
use Rattle.tps_reader.specs.Faults.{IsPhraseFault}
use Rattle.tps_reader.specs.Parsing.{IsParseFault}
use Rattle.tps_reader.specs.Grammar.{IsFormula}
use Rattle.tps_reader.specs.Machine.{parsed}
use Rattle.tps_reader.specs.Raws.{RawFormula, plain_raw}
use Rattle.tps_reader.specs.Tokens.{tokens_from}
use Rattle.tps_reader.specs.Views.{plain_tokens}
use Rattle.tps_reader.specs.declared.faults.RawFault.TheVariants.{Memory}
use Rattle.tps_reader.proofs.Completing.{no_phrase, one_phrase, parsed_formula, phrase_fault}
use Rattle.tps_reader.proofs.Results.{if_err, if_ok}
use Rattle.tps_reader.proofs.phrases.read_phrase.Goals as goal

pub returns-clause-phrase : goal.returns-clause-phrase
returns-clause-phrase c =
    let ts = tokens_from c.args.origin (plain_tokens c.args.lexemes.now) in
    if_ok (λ v. parsed ts ≡ Some (plain_raw v)) (λ v. IsFormula ts (plain_raw v)) (λ v h. parsed_formula ts (plain_raw v) h) c.read_all.result c.read_all.ensures.phrase

pub returns-clause-only : goal.returns-clause-only
returns-clause-only c =
    let ts = tokens_from c.args.origin (plain_tokens c.args.lexemes.now) in
    if_ok (λ v. parsed ts ≡ Some (plain_raw v)) (λ v. (w : RawFormula) → IsFormula ts w → w ≡ plain_raw v) (λ v h w g. one_phrase ts (plain_raw v) w (parsed_formula ts (plain_raw v) h) g) c.read_all.result c.read_all.ensures.phrase

pub returns-clause-fault : goal.returns-clause-fault
returns-clause-fault c =
    let ts = tokens_from c.args.origin (plain_tokens c.args.lexemes.now) in
    if_err (IsParseFault ts c.args.end) (IsPhraseFault ts c.args.end) (λ e h. phrase_fault ts c.args.end e h) c.read_all.result c.read_all.ensures.fault

pub returns-clause-none : goal.returns-clause-none
returns-clause-none c =
    let ts = tokens_from c.args.origin (plain_tokens c.args.lexemes.now) in
    if_err (IsParseFault ts c.args.end) (λ e. e ≢ Memory → (w : RawFormula) → IsFormula ts w → ⊥) (λ e h real w g. no_phrase ts c.args.end e w (phrase_fault ts c.args.end e h) real g) c.read_all.result c.read_all.ensures.fault
