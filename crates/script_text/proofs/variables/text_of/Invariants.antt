use Rattle.std.proofs.Common.{◌≡◌, take}
use Rattle.std.specs.Prelude.{encode_utf8_all}
use Rattle.script_text.proofs.variables.text_of.Given as goal

abbrev pub invariant-loop-c : goal.invariant-loop-c
invariant-loop-c l = l.text.bytes.items ≡ encode_utf8_all (take l.c-index l.characters)
