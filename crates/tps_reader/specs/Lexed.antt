-- Single characters that are tokens.
use Rattle.std.specs.Prelude.{ℕ, ◌==◌, if◌then◌else◌, Option, None, Some}
use Rattle.tps_reader.specs.Tokens.{Sign, open_square, close_square, open_round, close_round, dot, tilde, semicolon}

-- the mark that a character is
abbrev pub mark_of : ℕ → Option Sign
mark_of c =
    if c == 91 then Some open_square else (if c == 93 then Some close_square else (if c == 40 then Some open_round
    else (if c == 41 then Some close_round else (if c == 46 then Some dot else (if c == 126 then Some tilde else (if c == 59 then Some semicolon else None))))))
