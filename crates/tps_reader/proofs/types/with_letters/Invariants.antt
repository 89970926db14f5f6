use Rattle.std.proofs.Common.{◌≡◌, drop, take, true}
use Rattle.std.specs.List.{list_all}
use Rattle.std.specs.Option.{option_map}
use Rattle.hol_terms.specs.Terms.{plain_type}
use Rattle.tps_reader.specs.Grammar.{is_letter, with_letters}
use Rattle.tps_reader.proofs.types.with_letters.Given as goal

abbrev pub invariant-loop-letter : goal.invariant-loop-letter
invariant-loop-letter l = record {
  all : list_all is_letter (take l.letter-index l.letters) ≡ true;
  part : with_letters (option_map plain_type l.fn.part) l.letters ≡ with_letters (option_map plain_type l.part) (drop l.letter-index l.letters);
}
