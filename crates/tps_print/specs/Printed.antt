-- The printed text of a formula and of a line.
use Rattle.std.specs.Prelude.{ℕ, max, List, [], ◌++◌, Option, None, Some}
use Rattle.hol_terms.specs.Terms.{Term}
use Rattle.nd_rules.specs.Lines.{DeductionLine}
use Rattle.tps_print.specs.BoundNames.{bound_names, binder_depth, free_names}
use Rattle.tps_print.specs.Lines.{line_pieces, term_of}
use Rattle.tps_print.specs.Pieces.{pieces, written}
use Rattle.tps_print.specs.declared.levels.Level.TheVariants as level

-- the names of the binders of a term alone, and of a term and another that are printed together
abbrev pub names_beside : Term → Option Term → List (List ℕ)
names_beside t None = bound_names (free_names t) (binder_depth t)
names_beside t (Some u) = bound_names (free_names t ++ free_names u) (max (binder_depth t) (binder_depth u))

-- a term at the top
abbrev pub printed_formula : Term → List ℕ
printed_formula t = written [] (pieces (names_beside t None) 0 level.Top t)

-- a line, whose formula and justification are printed together
abbrev pub printed_line : DeductionLine → List ℕ
printed_line l = written [] (line_pieces (names_beside l.formula (term_of l.why)) l)
