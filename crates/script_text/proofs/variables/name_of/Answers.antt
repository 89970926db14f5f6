use Rattle.std.proofs.Common.{◌∙◌, Err, ap, sym}
use Rattle.script_text.proofs.Naming.{name_found, no_name_found}
use Rattle.script_text.proofs.variables.name_of.Goals as goal

pub returns-in-Ok : goal.returns-in-Ok
returns-in-Ok c = name_found c.args.characters.now c.in-Ok.name (c.in-Ok.ensures.ok.0 ∙ c.as_str.ensures.value ∙ c.in_ok-text.ensures) c.in-Ok.ensures.ok.1

pub returns-in-Err-NotAName : goal.returns-in-Err-NotAName
returns-in-Err-NotAName c = no_name_found c.args.characters.now (λ name e h. c.in-Err-NotAName.ensures.not_a_name (ap (λ f. Err f) c.in-Err-NotAName.field-0-is) name (e ∙ sym (c.as_str.ensures.value ∙ c.in_ok-text.ensures)) h)
