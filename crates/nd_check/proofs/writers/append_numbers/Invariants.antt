use Rattle.std.proofs.Common.{◌≡◌, ◌++◌, drop}
use Rattle.core_text.specs.Written.{written_others}
use Rattle.nd_check.specs.Forms.{number_forms}
use Rattle.nd_check.specs.Texts.{AreNumerals}
use Rattle.nd_check.proofs.writers.append_numbers.Given as goal

-- what was written, before the numbers that are left
abbrev pub invariant-loop-number : goal.invariant-loop-number
invariant-loop-number l = record {
  text : l.out ++ written_others (number_forms (drop l.number-index l.numbers)) ≡ l.fn.out ++ written_others (number_forms l.numbers);
  numerals : AreNumerals (drop l.number-index l.numbers) → AreNumerals l.numbers;
}
