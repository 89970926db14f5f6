use Rattle.std.proofs.Common.{◌≡◌, ◌<◌, ◌∷◌, ◌∙◌, List, None, Some, ap, drop, length, subst, sym}
use Rattle.tps_reader.specs.Tokens.{Token, sign_of}
use Rattle.tps_reader.specs.Views.{plain_sign, plain_token, plain_tokens}
use Rattle.tps_reader.specs.declared.faults.RawFault.TheVariants.{Unexpected}
use Rattle.tps_reader.specs.declared.lexemes.Lexeme.{Lexeme}
use Rattle.script_text.specs.Languages.{LeavesFirst}
use Rattle.script_text.specs.Tails.{HasTail, bare_name}
use Rattle.script_text.specs.Variables.{name_in}
use Rattle.script_text.specs.declared.faults.CommandFault.TheVariants.{Raw}
use Rattle.script_text.proofs.Naming.{bare_ends, bare_first, bare_second}
use Rattle.script_text.proofs.Slicing.{empty_tokens, first_lexeme, not_empty, second_lexeme, unexpected_at}
use Rattle.script_text.proofs.variables.read_name.Goals as goal

pub returns-then-is_empty-clause-fault : goal.returns-then-is_empty-clause-fault
returns-then-is_empty-clause-fault c =
    let ls = c.args.lexemes.now in
    let last = c.args.end in
    unexpected_at (HasTail bare_name) (plain_tokens ls) last last c.unexpected.result c.unexpected.ensures
    (subst (λ (l : List Token). LeavesFirst (HasTail bare_name) l last last) (sym (empty_tokens ls c.if-is_empty.ensures)) (bare_ends last))

pub returns-in-None-clause-fault : goal.returns-in-None-clause-fault
returns-in-None-clause-fault c =
    let ls = c.args.lexemes.now in
    let last = c.args.end in
    let lexeme = c.index-lexemes-0.result in
    let again = c.index-lexemes-0-in-None.result in
    let some : 0 < length ls = not_empty ls c.if-is_empty.ensures in
    let e = first_lexeme ls again some c.index-lexemes-0-in-None.is in
    let d = first_lexeme ls lexeme some c.index-lexemes-0.is in
    let place = c.unexpected-in-None.ensures ∙ ap (λ (l : Lexeme). Raw (Unexpected l.place)) (sym c.index-lexemes-0-in-None.is) in
    let none : name_in (plain_sign lexeme.symbol) ≡ None = ap (λ (l : Lexeme). name_in (plain_sign l.symbol)) c.index-lexemes-0.is ∙ sym c.in_ok-name.ensures ∙ c.in-None.is in
    let same : plain_token lexeme ≡ plain_token again = let both : plain_token lexeme ∷ plain_tokens (drop 1 ls) ≡ plain_token again ∷ plain_tokens (drop 1 ls) = sym d ∙ e in cc in
    let none_again : name_in (plain_sign again.symbol) ≡ None = ap (λ (t : Token). name_in (sign_of t)) (sym same) ∙ none in
    unexpected_at (HasTail bare_name) (plain_tokens ls) last again.place c.unexpected-in-None.result place
    (subst (λ (l : List Token). LeavesFirst (HasTail bare_name) l last again.place) (sym e) (bare_first (plain_token again) (plain_tokens (drop 1 ls)) last none_again))

pub returns-then-lexemes-gt1-clause-fault : goal.returns-then-lexemes-gt1-clause-fault
returns-then-lexemes-gt1-clause-fault c =
    let ls = c.args.lexemes.now in
    let last = c.args.end in
    let first = c.index-lexemes-0.result in
    let second = c.index-lexemes-1.result in
    let e = second_lexeme ls first second c.if-lexemes-gt1.true c.index-lexemes-0.is c.index-lexemes-1.is in
    let place = c.unexpected-then-lexemes-gt1.ensures ∙ ap (λ (l : Lexeme). Raw (Unexpected l.place)) (sym c.index-lexemes-1.is) in
    let found : name_in (plain_sign first.symbol) ≡ Some c.in-Some.name = ap (λ (l : Lexeme). name_in (plain_sign l.symbol)) c.index-lexemes-0.is ∙ sym c.in_ok-name.ensures ∙ c.in-Some.is in
    unexpected_at (HasTail bare_name) (plain_tokens ls) last second.place c.unexpected-then-lexemes-gt1.result place
    (subst (λ (l : List Token). LeavesFirst (HasTail bare_name) l last second.place) (sym e) (bare_second (plain_token first) (plain_token second) (plain_tokens (drop 2 ls)) c.in-Some.name last found))
