-- How lines are printed.
use Rattle.std.specs.Prelude.{ℕ, List, [], ◌∷◌, ◌++◌, codes, decimal, encode_utf8_all, Option, None, Some}
use Rattle.hol_terms.specs.Terms.{Term}
use Rattle.nd_rules.specs.Lines.{Justification, hypothesis, deduction, universal_instance, generalization, existential, choice, conversion, assignments, planned, DeductionLine}
use Rattle.tps_print.specs.Pieces.{Piece, fixed, pieces}
use Rattle.tps_print.specs.declared.levels.Level.TheVariants as level

-- numbers in decimal, each after a space
abbrev pub spaced_numbers : List ℕ → List ℕ
spaced_numbers [] = []
spaced_numbers (n ∷ ns) = codes " " ++ (decimal n ++ spaced_numbers ns)

-- numbers in decimal, each after a comma
abbrev pub further_numbers : List ℕ → List ℕ
further_numbers [] = []
further_numbers (n ∷ ns) = codes "," ++ (decimal n ++ further_numbers ns)

-- numbers in decimal with commas between them
abbrev pub listed_numbers : List ℕ → List ℕ
listed_numbers [] = []
listed_numbers (n ∷ ns) = decimal n ++ further_numbers ns

-- the term of a justification, if it has one
abbrev pub term_of : Justification → Option Term
term_of hypothesis = None
term_of (deduction d h) = None
term_of (universal_instance d t) = Some t
term_of (generalization d a) = None
term_of (existential d t) = Some t
term_of (choice e h d a) = None
term_of (conversion d) = None
term_of (assignments ds) = None
term_of planned = None

-- a rule's word, the numbers of lines, and the bare name or the term as an argument, each after a space
abbrev pub why_pieces : List (List ℕ) → Justification → List Piece
why_pieces names hypothesis = fixed (codes "P") ∷ []
why_pieces names (deduction d h) = fixed (codes "DEDUCT" ++ spaced_numbers (d ∷ h ∷ [])) ∷ []
why_pieces names (universal_instance d t) = fixed (codes "UI" ++ (spaced_numbers (d ∷ []) ++ codes " ")) ∷ pieces names 0 level.Argument t
why_pieces names (generalization d a) = fixed (codes "UGEN" ++ (spaced_numbers (d ∷ []) ++ (codes " " ++ encode_utf8_all a))) ∷ []
why_pieces names (existential d t) = fixed (codes "EGEN" ++ (spaced_numbers (d ∷ []) ++ codes " ")) ∷ pieces names 0 level.Argument t
why_pieces names (choice e h d a) = fixed (codes "RULEC" ++ (spaced_numbers (e ∷ h ∷ d ∷ []) ++ (codes " " ++ encode_utf8_all a))) ∷ []
why_pieces names (conversion d) = fixed (codes "LAMBDA" ++ spaced_numbers (d ∷ [])) ∷ []
why_pieces names (assignments ds) = fixed (codes "RULEP" ++ spaced_numbers ds) ∷ []
why_pieces names planned = fixed (codes "PLANNED") ∷ []

-- the number, the hypotheses in braces, the formula at the top, and the justification
abbrev pub line_pieces : List (List ℕ) → DeductionLine → List Piece
line_pieces names l =
    fixed (decimal l.number ++ (codes " {" ++ (listed_numbers l.hypotheses ++ codes "} |- ")))
    ∷ (pieces names 0 level.Top l.formula ++ (fixed (codes " : ") ∷ why_pieces names l.why))
