-- Codes of tokens, by which a type whose model holds them tells its values apart.
use Rattle.std.specs.Prelude.{ℕ, zero, suc, ◌≡◌, refl}
use mathlib.Core.Path.{ap}
use package.base.Stored.{Gv, gnil, gnum, gcons, Coded}
use denote.Struct.Codes.{itself, code_by}
use Rattle.hol_terms.specs.Codes.{name_to, name_from, name_back}
use Rattle.tps_reader.specs.Tokens.{Sign, open_square, close_square, open_round, close_round, dot, tilde, semicolon, number, word, Token, token}

abbrev pub sign_to : Sign → Gv
sign_to open_square = gnum 0
sign_to close_square = gnum 1
sign_to open_round = gnum 2
sign_to close_round = gnum 3
sign_to dot = gnum 4
sign_to tilde = gnum 5
sign_to semicolon = gnum 6
sign_to (number n) = gcons (gnum n) gnil
sign_to (word w) = gcons gnil (name_to w)

abbrev pub mark_from : ℕ → Sign
mark_from zero = open_square
mark_from (suc zero) = close_square
mark_from (suc (suc zero)) = open_round
mark_from (suc (suc (suc zero))) = close_round
mark_from (suc (suc (suc (suc zero)))) = dot
mark_from (suc (suc (suc (suc (suc zero))))) = tilde
mark_from (suc (suc (suc (suc (suc (suc n)))))) = semicolon

abbrev pub sign_from : Gv → Sign
sign_from gnil = semicolon
sign_from (gnum n) = mark_from n
sign_from (gcons gnil w) = word (name_from w)
sign_from (gcons (gnum n) x) = number n
sign_from (gcons (gcons x y) z) = semicolon

pub sign_back : (s : Sign) → sign_from (sign_to s) ≡ s
sign_back open_square = refl
sign_back close_square = refl
sign_back open_round = refl
sign_back close_round = refl
sign_back dot = refl
sign_back tilde = refl
sign_back semicolon = refl
sign_back (number n) = refl
sign_back (word w) = ap word (name_back w)

abbrev pub token_to : Token → Gv
token_to (token s place long) = gcons (sign_to s) (gcons (gnum place) (gnum long))

abbrev pub token_from : Gv → Token
token_from (gcons s (gcons (gnum place) (gnum long))) = token (sign_from s) place long
token_from _ = token semicolon 0 0

pub token_back : (t : Token) → token_from (token_to t) ≡ t
token_back (token s place long) = ap (λ s. token s place long) (sign_back s)

abbrev pub token_code : Coded Token
token_code = code_by Gv itself token_to token_from token_back
