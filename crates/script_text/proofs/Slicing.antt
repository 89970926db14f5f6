-- The tokens that the program reads at a place of a slice.
use Rattle.std.proofs.Common.{◌≡◌, ℕ, zero, suc, Some, false, true, ◌==◌, ◌+◌, ◌<◌, List, [], ◌∷◌, ◌++◌, drop, take, get_or, length, map, refl, sym, ◌∙◌, ap, ap₂, subst, arith}
use Rattle.std.proofs.lemmas.Bool.{eqb-true, false≢true}
use Rattle.std.proofs.lemmas.List.{drop-map, drop_more, length-map, map-append}
use Rattle.tps_reader.specs.Tokens.{Sign, Token, number}
use Rattle.tps_reader.specs.declared.faults.RawFault.TheVariants as raw_fault
use Rattle.tps_reader.specs.Views.{plain_token, plain_tokens}
use Rattle.tps_reader.specs.declared.lexemes.Lexeme.{Lexeme}
use Rattle.script_text.specs.Grammar.{Leads}
use Rattle.script_text.specs.Languages.{LeavesFirst}
use Rattle.script_text.specs.Tails.{IsFaultIn, first_number}
use Rattle.script_text.specs.declared.faults.CommandFault.{CommandFault}
use Rattle.script_text.specs.declared.faults.CommandFault.TheVariants.{Raw as InPhrase}
use Rattle.script_text.proofs.Leading.{first_is, leads_more}

pub drop_tokens : (at : ℕ) (ls : List Lexeme) → plain_tokens (drop at ls) ≡ drop at (plain_tokens ls)
drop_tokens at ls = sym (drop-map plain_token at ls)

pub lexeme_at : (ls : List Lexeme) (at : ℕ) (lexeme : Lexeme) → at < length ls → lexeme ≡ get_or ls at lexeme → drop at (plain_tokens ls) ≡ plain_token lexeme ∷ drop (at + 1) (plain_tokens ls)
lexeme_at ls at lexeme inside is =
    drop-map plain_token at ls ∙ ap (map plain_token) (drop_more ls at lexeme inside) ∙ ap (λ (l : Lexeme). plain_token l ∷ map plain_token (drop (at + 1) ls)) (sym is)
    ∙ ap (λ (l : List Token). plain_token lexeme ∷ l) (sym (drop-map plain_token (at + 1) ls))

-- the tokens after one
pub drop_next : (at : ℕ) (ts : List Token) (t : Token) (rest : List Token) → drop at ts ≡ t ∷ rest → (drop (at + 1) ts ≡ rest) × (at < length ts)
drop_next zero [] t rest e = cc
drop_next zero (u ∷ ts) t rest e = let tails : ts ≡ rest = cc in (tails, omega arith)
drop_next (suc at) [] t rest e = cc
drop_next (suc at) (u ∷ ts) t rest e =
    let more = drop_next at ts t rest e in
    let next : suc at + 1 ≡ suc (at + 1) = omega arith in
    let low : suc at < length (u ∷ ts) = omega (arith, more.1) in
    (ap (λ (n : ℕ). drop n (u ∷ ts)) next ∙ more.0, low)

-- one numeral more
pub lead_step : (ns : List ℕ) (at n : ℕ) (ts : List Token) → Leads (map number ns) (drop at ts) ts → first_number (drop at ts) ≡ Some n → Leads (map number (ns ++ n ∷ [])) (drop (at + 1) ts) ts × (at < length ts)
lead_step ns at n ts h e =
    let f = first_is (drop at ts) n e in
    let next = drop_next at ts f.0 f.1 f.2 in
    let here : Leads (map number ns) (f.0 ∷ drop (at + 1) ts) ts = subst (λ (l : List Token). Leads (map number ns) l ts) (f.2 ∙ ap (λ (l : List Token). f.0 ∷ l) (sym next.0)) h in
    let more : Leads (map number ns ++ map number (n ∷ [])) (drop (at + 1) ts) ts = leads_more (map number ns) (number n) f.0 (drop (at + 1) ts) ts here f.3 in
    (subst (λ (l : List Sign). Leads l (drop (at + 1) ts) ts) (sym (map-append number ns (n ∷ []))) more, next.1)

-- a fault of this place
pub unexpected_at : (L : List Token → Type 0) (ts : List Token) (last place : ℕ) (fault : CommandFault) → fault ≡ InPhrase (raw_fault.Unexpected place) → LeavesFirst L ts last place → IsFaultIn L ts last fault
unexpected_at L ts last place fault e h = subst (IsFaultIn L ts last) (sym e) h

pub token_count : (ls : List Lexeme) → length (plain_tokens ls) ≡ length ls
token_count ls = length-map ls plain_token

-- the first token of a slice that isn't empty
pub first_lexeme : (ls : List Lexeme) (lexeme : Lexeme) → 0 < length ls → lexeme ≡ get_or ls 0 lexeme → plain_tokens ls ≡ plain_token lexeme ∷ plain_tokens (drop 1 ls)
first_lexeme [] lexeme h e = absurd (omega (arith, h))
first_lexeme (l ∷ ls) lexeme h e = ap (λ (l : Lexeme). plain_token l ∷ plain_tokens ls) (sym e)

pub no_lexemes : (ls : List Lexeme) → length ls ≡ 0 → plain_tokens ls ≡ []
no_lexemes [] e = refl
no_lexemes (l ∷ ls) e = absurd (omega (arith, e))

pub take_tokens : (at : ℕ) (ls : List Lexeme) → plain_tokens (take at ls) ≡ take at (plain_tokens ls)
take_tokens zero ls = refl
take_tokens (suc at) [] = refl
take_tokens (suc at) (l ∷ ls) = ap (λ (ts : List Token). plain_token l ∷ ts) (take_tokens at ls)

-- what the test of an empty slice says
pub not_empty : (ls : List Lexeme) → false ≡ (length ls == 0) → 0 < length ls
not_empty [] e = absurd (false≢true e)
not_empty (l ∷ ls) e = omega arith

pub empty_tokens : (ls : List Lexeme) → true ≡ (length ls == 0) → plain_tokens ls ≡ []
empty_tokens [] e = refl
empty_tokens (l ∷ ls) e = let none : length (l ∷ ls) ≡ 0 = eqb-true (length (l ∷ ls)) 0 (sym e) in absurd (omega (arith, none))

pub second_lexeme : (ls : List Lexeme) (first second : Lexeme) → 1 < length ls → first ≡ get_or ls 0 first → second ≡ get_or ls 1 second → plain_tokens ls ≡ plain_token first ∷ plain_token second ∷ plain_tokens (drop 2 ls)
second_lexeme [] first second h e g = absurd (omega (arith, h))
second_lexeme (l ∷ []) first second h e g = absurd (omega (arith, h))
second_lexeme (l ∷ m ∷ ls) first second h e g = ap₂ (λ (l : Lexeme) (m : Lexeme). plain_token l ∷ plain_token m ∷ plain_tokens ls) (sym e) (sym g)
