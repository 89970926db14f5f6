use Rattle.std.proofs.Common.{◌∷◌, [], ap}
use Rattle.core_text.specs.Tokens.{piece, word}
use Rattle.core_text.proofs.Numerals.{decimal-numeral_of}
use Rattle.core_text.proofs.brackets.leaf.Goals as goal

pub returns-in-Some-clause-spelled : goal.returns-in-Some-clause-spelled
returns-in-Some-clause-spelled c = ap (λ w. piece (word w) c.args.place ∷ []) (decimal-numeral_of c.args.bytes.now c.in-Some.number c.in-Some.ensures)
