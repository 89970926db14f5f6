use Rattle.std.proofs.Common.{sym, ◌∙◌}
use Rattle.core_text.proofs.NameLaws.{name_found, no_name_found, no_name_in_bytes}
use Rattle.core_text.proofs.terms.name_in.Goals as goal

pub returns-in_default : goal.returns-in_default
returns-in_default c = no_name_in_bytes c.args.bytes.now c.args.place c.in_default.ensures.cases.0

pub returns-in-Ok-new : goal.returns-in-Ok-new
returns-in-Ok-new c = name_found c.args.bytes.now c.in-Ok-new.name c.args.place (c.in-Ok-new.ensures.ok.0 ∙ c.in-Ok.ensures.cases.0) c.in-Ok-new.ensures.ok.1

pub returns-in-Err-NotAName : goal.returns-in-Err-NotAName
returns-in-Err-NotAName c = no_name_found c.args.bytes.now c.args.place (λ name e h. c.in-Err-NotAName.ensures.not_a_name (cc) name (e ∙ sym c.in-Ok.ensures.cases.0) h)
