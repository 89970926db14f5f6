use Rattle.std.proofs.Common.{◌≡◌, ◌++◌, drop, map}
use Rattle.core_text.specs.Written.{written_others}
use Rattle.nd_rules.specs.Lines.{plain_line}
use Rattle.nd_check.specs.Forms.{line_forms}
use Rattle.nd_check.specs.Texts.{LinesHaveNames, LinesHaveNumerals}
use Rattle.nd_check.proofs.writers.append_lines.Given as goal

-- what was written, before the lines that are left
abbrev pub invariant-loop-line : goal.invariant-loop-line
invariant-loop-line l = record {
  text : l.out ++ written_others (line_forms (map plain_line (drop l.line-index l.lines))) ≡ l.fn.out ++ written_others (line_forms (map plain_line l.lines));
  names : LinesHaveNames (map plain_line (drop l.line-index l.lines)) → LinesHaveNames (map plain_line l.lines);
  numerals : LinesHaveNumerals (map plain_line (drop l.line-index l.lines)) → LinesHaveNumerals (map plain_line l.lines);
}
