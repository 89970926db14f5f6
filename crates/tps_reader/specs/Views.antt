-- What the program's own tokens stand for.
use Rattle.std.specs.Prelude.{List, map, reverse}
use Rattle.tps_reader.specs.Depth.{Part, part}
use Rattle.tps_reader.specs.Tokens.{Sign, open_square, close_square, open_round, close_round, dot, tilde, semicolon, number, word, Token, token}
use Rattle.tps_reader.specs.declared.lexemes.Symbol.{Symbol}
use Rattle.tps_reader.specs.declared.lexemes.Symbol.TheVariants as symbol
use Rattle.tps_reader.specs.declared.lexemes.Lexeme.{Lexeme}
use Rattle.tps_reader.specs.declared.depths.Count.{Count}

abbrev pub plain_sign : Symbol → Sign
plain_sign symbol.OpenSquare = open_square
plain_sign symbol.CloseSquare = close_square
plain_sign symbol.OpenRound = open_round
plain_sign symbol.CloseRound = close_round
plain_sign symbol.Dot = dot
plain_sign symbol.Tilde = tilde
plain_sign symbol.Semicolon = semicolon
plain_sign (symbol.Numeral n) = number n
plain_sign (symbol.Word characters) = word characters.items

abbrev pub plain_token : Lexeme → Token
plain_token lexeme = token (plain_sign lexeme.symbol) lexeme.place lexeme.length

abbrev pub plain_tokens : List Lexeme → List Token
plain_tokens lexemes = map plain_token lexemes

-- the counts of the parts of groups, the part that begins first standing last
abbrev pub plain_count : Count → Part
plain_count count = part count.own count.inside

abbrev pub plain_counts : List Count → List Part
plain_counts counts = reverse (map plain_count counts)
