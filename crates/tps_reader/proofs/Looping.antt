-- The tokens that a loop has read.
use Rattle.std.proofs.Common.{◌≡◌, ◌≢◌, ℕ, ◌+◌, ◌-◌, ◌<◌, ◌≤◌, List, [], ◌∷◌, ◌++◌, Option, Some, None, Result, Ok, Err, refl, sym, ◌∙◌, ap, arith, length, get_or, take, drop, inl, inr}
use Rattle.std.proofs.lemmas.List.{get_or_default, take_more, take_all, take-append-drop, drop_more}
use Rattle.tps_reader.specs.Parsing.{IsParseFault}
use Rattle.tps_reader.specs.Machine.{State, begun, finish, run, step}
use Rattle.tps_reader.specs.Reader.{Answers}
use Rattle.tps_reader.specs.Tokens.{Token, token, token_from, tokens_from}
use Rattle.tps_reader.specs.Views.{plain_sign, plain_token, plain_tokens}
use Rattle.tps_reader.specs.declared.faults.RawFault.{RawFault}
use Rattle.tps_reader.specs.declared.faults.RawFault.TheVariants.{NotUtf8, BadCharacter, TooDeep, Unexpected, Memory}
use Rattle.tps_reader.specs.declared.frames.Frame.{Frame}
use Rattle.tps_reader.specs.declared.lexemes.Lexeme.{Lexeme}
use Rattle.tps_reader.proofs.Running.{run_append}

-- the tokens as they are read
abbrev pub seen : ℕ → List Lexeme → List Token
seen origin ls = tokens_from origin (plain_tokens ls)

seen_append : (origin : ℕ) (ls ms : List Lexeme) → seen origin (ls ++ ms) ≡ seen origin ls ++ seen origin ms
seen_append origin [] ms = refl
seen_append origin (l ∷ ls) ms = ap (λ ts. token_from origin (plain_token l) ∷ ts) (seen_append origin ls ms)

-- one token more
pub run_next : (ls : List Lexeme) (origin i : ℕ) (lexeme : Lexeme) (state next : State) → i < length ls → lexeme ≡ get_or ls i lexeme → run (seen origin (take i ls)) (Some begun) ≡ Some state
    → step state (token_from origin (plain_token lexeme)) ≡ Some next → run (seen origin (take (i + 1) ls)) (Some begun) ≡ Some next
run_next ls origin i lexeme state next inside is h e =
    let front : take (i + 1) ls ≡ take i ls ++ lexeme ∷ [] = take_more ls i lexeme inside ∙ ap (λ (l : Lexeme). take i ls ++ l ∷ []) (sym is) in
    let t : List Token = token_from origin (plain_token lexeme) ∷ [] in
    ap (λ (ls : List Lexeme). run (seen origin ls) (Some begun)) front ∙ ap (λ ts. run ts (Some begun)) (seen_append origin (take i ls) (lexeme ∷ []))
    ∙ run_append (seen origin (take i ls)) t (Some begun) ∙ ap (run t) h ∙ e

-- a token that none may follow
pub loop_dies : (ls : List Lexeme) (origin i last : ℕ) (lexeme : Lexeme) (state : State) (frames : List Frame) (fault : RawFault) → i < length ls → lexeme ≡ get_or ls i lexeme → run (seen origin (take i ls)) (Some begun) ≡ Some state
    → Answers (lexeme.place - origin) (step state (token_from origin (plain_token lexeme))) frames (Err fault) → IsParseFault (seen origin ls) last fault
loop_dies ls origin i last lexeme state frames NotUtf8 inside is h a = a
loop_dies ls origin i last lexeme state frames (BadCharacter place) inside is h a = a
loop_dies ls origin i last lexeme state frames (TooDeep depth) inside is h a = a
loop_dies ls origin i last lexeme state frames Memory inside is h a = tt
loop_dies ls origin i last lexeme state frames (Unexpected place) inside is h a =
    let rest : drop i ls ≡ lexeme ∷ drop (i + 1) ls = drop_more ls i lexeme inside ∙ ap (λ (l : Lexeme). l ∷ drop (i + 1) ls) (sym is) in
    let cut : ls ≡ take i ls ++ lexeme ∷ drop (i + 1) ls = sym (take-append-drop i ls) ∙ ap (λ l. take i ls ++ l) rest in
    inl (record {
      before = seen origin (take i ls);
      s = plain_sign lexeme.symbol;
      long = lexeme.length;
      after = seen origin (drop (i + 1) ls);
      state = state;
      parts = ap (seen origin) cut ∙ seen_append origin (take i ls) (lexeme ∷ drop (i + 1) ls) ∙ ap (λ k. seen origin (take i ls) ++ (token (plain_sign lexeme.symbol) k lexeme.length ∷ seen origin (drop (i + 1) ls))) (sym a.0);
      runs = h;
      dies = ap (λ k. step state (token (plain_sign lexeme.symbol) k lexeme.length)) a.0 ∙ a.1;
    })

unexpected_same : (j k : ℕ) → Unexpected j ≡ Unexpected k → j ≡ k
unexpected_same j k e = cc

-- the end of the tokens
pub loop_ends : (ls : List Lexeme) (origin i last : ℕ) (state : State) (fault : RawFault) → length ls ≤ i → run (seen origin (take i ls)) (Some begun) ≡ Some state
    → (fault ≢ Memory → (fault ≡ Unexpected last) × (finish state ≡ None)) → IsParseFault (seen origin ls) last fault
loop_ends ls origin i last state fault past h f = go fault f
  where
    all : run (seen origin ls) (Some begun) ≡ Some state
    all = ap (λ (ls : List Lexeme). run (seen origin ls) (Some begun)) (sym (take_all i ls past)) ∙ h

    go : (fault : RawFault) → (fault ≢ Memory → (fault ≡ Unexpected last) × (finish state ≡ None)) → IsParseFault (seen origin ls) last fault
    go NotUtf8 f = let e = (f (λ m. cc)).0 in cc
    go (BadCharacter place) f = let e = (f (λ m. cc)).0 in cc
    go (TooDeep depth) f = let e = (f (λ m. cc)).0 in cc
    go (Unexpected place) f = let e = f (λ m. cc) in inr (unexpected_same place last e.0, record { state = state; runs = all; open_end = e.1 })
    go Memory f = tt
