use Rattle.std.proofs.Common.{◌≤◌, ◌-◌, ◌∙◌, List, ap, arith, drop, length}
use Rattle.std.proofs.lemmas.List.{length-drop, take_all}
use Rattle.tps_reader.specs.Views.{plain_tokens}
use Rattle.tps_reader.specs.declared.lexemes.Lexeme.{Lexeme}
use Rattle.script_text.proofs.Slicing.{drop_tokens}
use Rattle.script_text.proofs.slices.behind.Goals as goal

pub returns : goal.returns
returns c =
    let ls = c.args.lexemes.now in
    let at = c.args.at in
    let low : length (drop at ls) ≤ length ls - at = omega (arith, length-drop at ls) in
    ap (λ (l : List Lexeme). plain_tokens l) (take_all (length ls - at) (drop at ls) low) ∙ drop_tokens at ls
