use Rattle.std.proofs.Common.{◌<◌, ◌∙◌, List, ap, drop, length, subst, sym}
use Rattle.tps_reader.specs.Tokens.{Token}
use Rattle.tps_reader.specs.Views.{plain_token, plain_tokens}
use Rattle.tps_reader.specs.declared.faults.RawFault.TheVariants.{Unexpected}
use Rattle.tps_reader.specs.declared.lexemes.Lexeme.{Lexeme}
use Rattle.script_text.specs.Languages.{LeavesFirst}
use Rattle.script_text.specs.Tails.{HasTail, no_more}
use Rattle.script_text.specs.declared.faults.CommandFault.TheVariants.{Raw}
use Rattle.script_text.proofs.Slicing.{first_lexeme, not_empty, unexpected_at}
use Rattle.script_text.proofs.Tailing.{nothing_first}
use Rattle.script_text.proofs.tails.read_nothing.Goals as goal

pub returns-else-is_empty-clause-fault : goal.returns-else-is_empty-clause-fault
returns-else-is_empty-clause-fault c = λ last.
    let ls = c.args.lexemes.now in
    let lexeme = c.index-lexemes-0.result in
    let some : 0 < length ls = not_empty ls c.if-is_empty.ensures in
    let e = first_lexeme ls lexeme some c.index-lexemes-0.is in
    let place = c.unexpected.ensures ∙ ap (λ (l : Lexeme). Raw (Unexpected l.place)) (sym c.index-lexemes-0.is) in
    unexpected_at (HasTail no_more) (plain_tokens ls) last lexeme.place c.unexpected.result place
    (subst (λ (l : List Token). LeavesFirst (HasTail no_more) l last lexeme.place) (sym e) (nothing_first (plain_token lexeme) (plain_tokens (drop 1 ls)) last))
