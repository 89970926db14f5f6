use Rattle.std.proofs.Common.{◌≡◌, ◌++◌, take, encode_utf8_all}
use Rattle.std.specs.String.{string_bytes}
use Rattle.hol_terms.proofs.variables.write_characters.Given as goal

abbrev pub invariant-loop-c : goal.invariant-loop-c
invariant-loop-c l = string_bytes l.key ≡ string_bytes l.initial.key ++ encode_utf8_all (take l.c-index l.characters)
