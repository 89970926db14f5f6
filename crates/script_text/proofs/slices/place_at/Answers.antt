use Rattle.std.proofs.Common.{◌∙◌, List, ap, sym}
use Rattle.tps_reader.specs.Tokens.{Token}
use Rattle.tps_reader.specs.declared.lexemes.Lexeme.{Lexeme}
use Rattle.script_text.specs.Tails.{first_or}
use Rattle.script_text.proofs.Slicing.{lexeme_at}
use Rattle.script_text.proofs.slices.place_at.Goals as goal

pub returns-then-at-lexemes : goal.returns-then-at-lexemes
returns-then-at-lexemes c =
    let e = lexeme_at c.args.lexemes.now c.args.at c.index-lexemes-at.result c.if-at-lexemes.true c.index-lexemes-at.is in
    ap (λ (l : Lexeme). l.place) (sym c.index-lexemes-at.is) ∙ sym (ap (λ (l : List Token). first_or l c.args.end) e)
