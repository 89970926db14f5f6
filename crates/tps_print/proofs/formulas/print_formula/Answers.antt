use Rattle.std.proofs.Common.{◌≡◌, ◌∙◌, ap, subst, sym, map, [], List, ℕ, None}
use Rattle.std.specs.String.{string_bytes}
use Rattle.hol_terms.specs.Terms.{Term, plain_term}
use Rattle.tps_print.specs.Outputs.{State, after}
use Rattle.tps_print.specs.Pieces.{Piece, pieces, written}
use Rattle.tps_print.specs.Printed.{names_beside}
use Rattle.tps_print.specs.declared.levels.Level.TheVariants as level
use Rattle.tps_print.specs.Laws.{IsReadBack}
use Rattle.tps_print.proofs.Printing.{after_writes}
use Rattle.tps_print.proofs.Readable.{has_formula_text}
use Rattle.tps_print.proofs.formulas.print_formula.Goals as goal

pub returns-clause-printed : goal.returns-clause-printed
returns-clause-printed c =
    let t : Term = plain_term c.args.t.now in
    let names : map string_bytes c.deref.result.now ≡ names_beside t None = ap (map string_bytes) c.deref.ensures.value ∙ c.in_ok-names.ensures.names in
    let ps : List Piece = pieces (map string_bytes c.deref.result.now) 0 level.Top t in
    c.into_text.ensures ∙ ap (λ (s : State). s.0) c.in_ok-append_term.ensures
    ∙ ap (λ (s : State). (after s ps).0) c.new-out.ensures
    ∙ after_writes ([], []) ps
    ∙ ap (λ (n : List (List ℕ)). written [] (pieces n 0 level.Top t)) names

pub returns-clause-read : goal.returns-clause-read
returns-clause-read c =
    let t : Term = plain_term c.args.t.now in
    let P : List ℕ → Type 0 = λ text. IsReadBack t text in
    subst P (sym (returns-clause-printed c)) (has_formula_text t c.in_ok-names.ensures.named c.in_ok-names.ensures.few)
