use Rattle.std.proofs.Common.{◌≡◌, ◌∙◌, ℕ, subst, sym}
use Rattle.tps_reader.specs.Grammar.{IsFormula}
use Rattle.tps_reader.specs.Raws.{plain_raw}
use Rattle.tps_reader.specs.Tokens.{tokens_from}
use Rattle.tps_reader.specs.Views.{plain_tokens}
use Rattle.script_text.specs.Grammar.{first_place}
use Rattle.script_text.specs.Tails.{HasTail, IsFaultIn, variable}
use Rattle.script_text.proofs.Phrasing.{first_start}
use Rattle.script_text.proofs.Typing.{read_variable, variable_memory, variable_only}
use Rattle.script_text.proofs.variables.read_variable.Goals as goal

pub returns-in-Ok-clause-variable : goal.returns-in-Ok-clause-variable
returns-in-Ok-clause-variable c =
    let ts = plain_tokens c.args.lexemes.now in
    let e : c.place_at-origin.result ≡ first_place ts = c.place_at-origin.ensures ∙ first_start ts in
    variable_only ts (plain_raw c.in-Ok.raw) (read_variable ts c.in_ok-read_on.ensures.whole) (λ w h. c.in-Ok.ensures.only w (subst (λ (k : ℕ). IsFormula (tokens_from k ts) w) (sym e) h))

pub returns-in-Err-clause-fault : goal.returns-in-Err-clause-fault
returns-in-Err-clause-fault c =
    let ts = plain_tokens c.args.lexemes.now in
    let e : c.place_at-origin.result ≡ first_place ts = c.place_at-origin.ensures ∙ first_start ts in
    subst (IsFaultIn (HasTail variable) ts c.args.end) (sym c.of_text.ensures)
    (variable_memory ts c.args.end c.in-Err.fault (read_variable ts c.in_ok-read_on.ensures.whole) (λ real w h. c.in-Err.ensures.none real w (subst (λ (k : ℕ). IsFormula (tokens_from k ts) w) (sym e) h)))
