use Rattle.std.proofs.Common.{◌≡◌, ◌∙◌, ap, map, [], List, ℕ}
use Rattle.std.specs.String.{string_bytes}
use Rattle.nd_rules.specs.Lines.{DeductionLine, plain_line}
use Rattle.tps_print.specs.Lines.{line_pieces, term_of}
use Rattle.tps_print.specs.Outputs.{State, after}
use Rattle.tps_print.specs.Pieces.{Piece, written}
use Rattle.tps_print.specs.Printed.{names_beside}
use Rattle.tps_print.proofs.Printing.{after_writes}
use Rattle.tps_print.proofs.lines.print_line.Goals as goal

pub returns : goal.returns
returns c =
    let l : DeductionLine = plain_line c.args.line.now in
    let names : map string_bytes c.deref.result.now ≡ names_beside l.formula (term_of l.why) =
    ap (map string_bytes) c.deref.ensures.value ∙ c.in_ok-names.ensures.names ∙ ap (names_beside l.formula) c.term_of.ensures in
    let ps : List Piece = line_pieces (map string_bytes c.deref.result.now) l in
    c.into_text.ensures ∙ ap (λ (s : State). s.0) c.in_ok-append_line.ensures
    ∙ ap (λ (s : State). (after s ps).0) c.new-out.ensures
    ∙ after_writes ([], []) ps
    ∙ ap (λ (n : List (List ℕ)). written [] (line_pieces n l)) names
