use Rattle.std.proofs.Common.{◌∙◌, ap, sym}
use Rattle.tps_reader.specs.Views.{plain_sign}
use Rattle.tps_reader.specs.declared.lexemes.Lexeme.{Lexeme}
use Rattle.script_text.specs.Tails.{first_number, number_in}
use Rattle.script_text.proofs.Slicing.{lexeme_at}
use Rattle.script_text.proofs.numerals.number_at.Goals as goal

pub returns-then-at-lexemes : goal.returns-then-at-lexemes
returns-then-at-lexemes c =
    let e = lexeme_at c.args.lexemes.now c.args.at c.index-lexemes-at.result c.if-at-lexemes.true c.index-lexemes-at.is in
    c.number_of.ensures ∙ ap (λ (l : Lexeme). number_in (plain_sign l.symbol)) (sym c.index-lexemes-at.is) ∙ sym (ap first_number e)
