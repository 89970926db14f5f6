use Rattle.std.proofs.Common.{◌≡◌, ◌+◌, ◌∙◌, ap, drop, false, refl, subst, sym, true}
use Rattle.tps_reader.specs.Tokens.{semicolon}
use Rattle.tps_reader.specs.Views.{plain_sign, plain_token, plain_tokens}
use Rattle.tps_reader.specs.declared.lexemes.Lexeme.{Lexeme}
use Rattle.script_text.specs.Tails.{SemicolonFirst}
use Rattle.script_text.proofs.Slicing.{lexeme_at}
use Rattle.script_text.proofs.Tailing.{no_semicolon_next}
use Rattle.script_text.proofs.tails.semicolon_at.Goals as goal

pub returns-then-is_semicolon-clause-found : goal.returns-then-is_semicolon-clause-found
returns-then-is_semicolon-clause-found c =
    let ls = c.args.lexemes.now in
    let lexeme = c.index-lexemes-at.result in
    let e = lexeme_at ls c.loop-at.at lexeme c.loop-at-test.true c.index-lexemes-at.is in
    let is : plain_sign lexeme.symbol ≡ semicolon = ap (λ (l : Lexeme). plain_sign l.symbol) c.index-lexemes-at.is ∙ c.if-is_semicolon.ensures.0 refl in
    subst SemicolonFirst (sym e) is

pub loop-at-preserved : goal.loop-at-preserved
loop-at-preserved c =
    let ls = c.args.lexemes.now in
    let lexeme = c.index-lexemes-at.result in
    let e = lexeme_at ls c.loop-at.at lexeme c.loop-at-test.true c.index-lexemes-at.is in
    no_semicolon_next (plain_tokens ls) c.loop-at.at (plain_token lexeme) (drop (c.loop-at.at + 1) (plain_tokens ls)) e c.loop-at.invariant
    (λ h. let none : false ≡ true = c.if-is_semicolon.ensures.1 (ap (λ (l : Lexeme). plain_sign l.symbol) (sym c.index-lexemes-at.is) ∙ h) in cc)
