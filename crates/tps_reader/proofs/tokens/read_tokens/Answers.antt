use Rattle.std.proofs.Common.{◌≡◌, ◌≢◌, ℕ, List, subst, sym}
use Rattle.tps_reader.specs.Faults.{IsTokenFault}
use Rattle.tps_reader.specs.Tokens.{AreTokensOf, Token}
use Rattle.tps_reader.specs.declared.faults.RawFault.TheVariants.{Memory, NotUtf8}
use Rattle.tps_reader.proofs.Cutting.{no_reading, one_reading}
use Rattle.tps_reader.proofs.Results.{if_err, if_ok}
use Rattle.tps_reader.proofs.tokens.read_tokens.Goals as goal

pub returns-in-Ok-clause-only : goal.returns-in-Ok-clause-only
returns-in-Ok-clause-only c =
    let text = c.in-Ok.text.now in
    let same : text ≡ c.args.text.now = c.in-Ok.ensures.cases.0 in
    if_ok (AreTokensOf text) (λ ts. (us : List Token) → AreTokensOf c.args.text.now us → us ≡ ts) (λ ts h us g. one_reading text ts us h (subst (λ (t : List ℕ). AreTokensOf t us) (sym same) g)) c.tokens_of.result c.tokens_of.ensures.tokens

pub returns-in-Ok-clause-none : goal.returns-in-Ok-clause-none
returns-in-Ok-clause-none c =
    let text = c.in-Ok.text.now in
    let same : text ≡ c.args.text.now = c.in-Ok.ensures.cases.0 in
    if_err (IsTokenFault text) (λ fault. fault ≢ Memory → (ts : List Token) → AreTokensOf c.args.text.now ts → ⊥) (λ fault h real ts g. no_reading text fault ts h real (subst (λ (t : List ℕ). AreTokensOf t ts) (sym same) g)) c.tokens_of.result c.tokens_of.ensures.fault

pub returns-in-Err-clause-none : goal.returns-in-Err-clause-none
returns-in-Err-clause-none c = λ real ts g. no_reading c.args.text.now NotUtf8 ts c.in-Err.ensures.cases.0 real g
