use Rattle.std.proofs.Common.{◌≡◌, take, true}
use Rattle.std.specs.List.{list_all}
use Rattle.tps_reader.specs.Grammar.{is_letter}
use Rattle.script_text.proofs.variables.are_letters.Given as goal

abbrev pub invariant-loop-c : goal.invariant-loop-c
invariant-loop-c l = list_all is_letter (take l.c-index l.characters) ≡ true
