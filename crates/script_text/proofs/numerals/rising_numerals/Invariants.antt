use Rattle.std.proofs.Common.{◌≡◌, drop, length, map}
use Rattle.std.specs.List.Sorted.{IsStrictlyIncreasing}
use Rattle.script_text.specs.Grammar.{Leads}
use Rattle.tps_reader.specs.Tokens.{number}
use Rattle.tps_reader.specs.Views.{plain_tokens}
use Rattle.script_text.proofs.numerals.rising_numerals.Given as goal

abbrev pub invariant-loop-at : goal.invariant-loop-at
invariant-loop-at l = record {
  leads : Leads (map number l.numbers) (drop l.at (plain_tokens l.lexemes)) (plain_tokens l.lexemes);
  count : length l.numbers ≡ l.at;
  rising : IsStrictlyIncreasing l.numbers;
}
