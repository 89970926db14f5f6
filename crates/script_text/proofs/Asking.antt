-- The commands as words, numerals and what stands after them.
use Rattle.std.proofs.Common.{◌≡◌, ◌≢◌, ℕ, List, [], ◌∷◌, ◌++◌, length, map, refl, sym, ◌∙◌, ap, ap₂, subst, arith, inl, inr}
use Rattle.tps_reader.specs.Raws.{RawFormula}
use Rattle.tps_reader.specs.Tokens.{Sign, number, word, Token, sign_of, tokens_from}
use Rattle.tps_reader.specs.declared.faults.RawFault.TheVariants as raw_fault
use Rattle.tps_reader.proofs.Completing.{one_phrase as one_reading}
use Rattle.script_text.specs.Commands.{ScriptRequest, say_prove, say_plan, say_suppose, say_deduce, say_instantiate, say_generalize, say_witness, say_choose, say_convert, say_follow, say_undo, say_done}
use Rattle.script_text.specs.Grammar.{Asks, IsCommand, IsCommandOf, IsLine, IsPhraseOf, IsUnknown, Leads, first_place}
use Rattle.script_text.specs.Languages.{LeavesFirst}
use Rattle.script_text.specs.Lines.{IsTokensFault}
use Rattle.script_text.specs.Tails.{BeginsNoNumber, HasBody, HasTail, IsFaultIn, NoSemicolon, tail_of}
use Rattle.script_text.specs.Words.{numeral_count, word_text}
use Rattle.script_text.specs.declared.faults.CommandFault.{CommandFault}
use Rattle.script_text.specs.declared.faults.CommandFault.TheVariants.{Raw as InPhrase, Unknown, Memory}
use Rattle.script_text.specs.declared.words.CommandWord.{CommandWord}
use Rattle.script_text.specs.declared.words.CommandWord.TheVariants as verb
use Rattle.script_text.proofs.Leading.{Front, front_of, leads_all, leads_same}
use Rattle.script_text.proofs.Leaving.{Follows, fault_map, leaves_behind, leaves_none}
use Rattle.script_text.proofs.Phrasing.{plain_number, plain_semicolon, tokens_plain}
use Rattle.script_text.proofs.Tailing.{first_semicolon}
use Rattle.script_text.proofs.Typing.{variable_phrase}
use Rattle.script_text.proofs.Wording.{one_word}

-- lists of so many numbers
pub none_of : (ns : List ℕ) → length ns ≡ 0 → ns ≡ []
none_of [] e = refl
none_of (n ∷ ns) e = absurd (omega (arith, e))

pub one_of : (ns : List ℕ) → length ns ≡ 1 → (n : ℕ) × (ns ≡ n ∷ [])
one_of [] e = absurd (omega (arith, e))
one_of (n ∷ ns) e = (n, ap (λ (l : List ℕ). n ∷ l) (none_of ns (omega (arith, e))))

pub two_of : (ns : List ℕ) → length ns ≡ 2 → (n : ℕ) × (d : ℕ) × (ns ≡ n ∷ d ∷ [])
two_of [] e = absurd (omega (arith, e))
two_of (n ∷ ns) e = let more = one_of ns (omega (arith, e)) in (n, more.0, ap (λ (l : List ℕ). n ∷ l) more.1)

pub three_of : (ns : List ℕ) → length ns ≡ 3 → (n : ℕ) × (d : ℕ) × (h : ℕ) × (ns ≡ n ∷ d ∷ h ∷ [])
three_of [] e = absurd (omega (arith, e))
three_of (n ∷ ns) e = let more = two_of ns (omega (arith, e)) in (n, more.0, more.1, ap (λ (l : List ℕ). n ∷ l) more.2)

pub four_of : (ns : List ℕ) → length ns ≡ 4 → (n : ℕ) × (e : ℕ) × (h : ℕ) × (d : ℕ) × (ns ≡ n ∷ e ∷ h ∷ d ∷ [])
four_of [] e = absurd (omega (arith, e))
four_of (n ∷ ns) e = let more = three_of ns (omega (arith, e)) in (n, more.0, more.1, more.2, ap (λ (l : List ℕ). n ∷ l) more.3)

-- what is asked for has so many numerals and such a tail
asks_body : (k : CommandWord) (ns : List ℕ) (ts : List Token) (r : ScriptRequest) → Asks k ns ts r → (length ns ≡ numeral_count k) × HasTail (tail_of k) ts
asks_body verb.Prove ns ts r h = (ap length h.2, (h.1, h.3))
asks_body verb.Plan ns ts r h = (ap length h.4, (h.1, h.2, h.3, h.5, h.6, h.7))
asks_body verb.P ns ts r h = (ap length h.2, (h.1, h.3))
asks_body verb.Deduct ns ts r h = (ap length h.3, h.4)
asks_body verb.Ui ns ts r h = (ap length h.3, (h.2, h.4))
asks_body verb.Ugen ns ts r h = (ap length h.3, (h.2, h.4))
asks_body verb.Egen ns ts r h = (ap length h.7, (h.2, h.3, h.4, h.5, h.6, h.8, h.9, h.10, h.11))
asks_body verb.Rulec ns ts r h = (ap length h.5, (h.4, h.6, h.7))
asks_body verb.Lambda ns ts r h = (ap length h.3, (h.2, h.4))
asks_body verb.Rulep ns ts r h = (ap length h.4, (h.1, h.2, h.3, h.5, tt, h.6))
asks_body verb.Undo ns ts r h = (ap length h.0, h.1)
asks_body verb.Done ns ts r h = (ap length h.0, h.1)

-- so many numerals and such a tail ask for something
body_asks : (k : CommandWord) (ns : List ℕ) (ts : List Token) → length ns ≡ numeral_count k → HasTail (tail_of k) ts → (r : ScriptRequest) × Asks k ns ts r
body_asks verb.Prove ns ts e h = let l = one_of ns e in (say_prove l.0 h.0, (l.0, h.0, l.1, h.1, refl))
body_asks verb.Plan ns ts e h = let l = one_of ns e in (say_plan l.0 h.0 h.2, (l.0, h.0, h.1, h.2, l.1, h.3, h.4, h.5, refl))
body_asks verb.P ns ts e h = let l = one_of ns e in (say_suppose l.0 h.0, (l.0, h.0, l.1, h.1, refl))
body_asks verb.Deduct ns ts e h = let l = three_of ns e in (say_deduce l.0 l.1 l.2, (l.0, l.1, l.2, l.3, h, refl))
body_asks verb.Ui ns ts e h = let l = two_of ns e in (say_instantiate l.0 l.1 h.0, (l.0, l.1, h.0, l.2, h.1, refl))
body_asks verb.Ugen ns ts e h = let l = two_of ns e in (say_generalize l.0 l.1 h.0, (l.0, l.1, h.0, l.2, h.1, refl))
body_asks verb.Egen ns ts e h = let l = two_of ns e in (say_witness l.0 l.1 h.3 h.4, (l.0, l.1, h.0, h.1, h.2, h.3, h.4, l.2, h.5, h.6, h.7, h.8, refl))
body_asks verb.Rulec ns ts e h = let l = four_of ns e in (say_choose l.0 l.1 l.2 l.3 h.0, (l.0, l.1, l.2, l.3, h.0, l.4, h.1, h.2, refl))
body_asks verb.Lambda ns ts e h = let l = two_of ns e in (say_convert l.0 l.1 h.0, (l.0, l.1, h.0, l.2, h.1, refl))
body_asks verb.Rulep ns ts e h = let l = one_of ns e in (say_follow l.0 h.0 h.2, (l.0, h.0, h.1, h.2, l.1, h.3, h.5, refl))
body_asks verb.Undo ns ts e h = (say_undo, (none_of ns e, h, refl))
body_asks verb.Done ns ts e h = (say_done, (none_of ns e, h, refl))

-- tokens are one phrase at most
one_read : (ts us : List Token) (v w : RawFormula) → ts ≡ us → IsPhraseOf ts v → IsPhraseOf us w → w ≡ v
one_read ts us v w e g h = one_reading (tokens_from (first_place ts) ts) v w g (subst (λ (l : List Token). IsPhraseOf l w) (sym e) h)

free_of_numbers : (ts : List Token) (v : RawFormula) → IsPhraseOf ts v → BeginsNoNumber ts
free_of_numbers ts v h = plain_number ts (tokens_plain ts v h)

free_of_semicolons : (ts : List Token) (v : RawFormula) → IsPhraseOf ts v → NoSemicolon ts
free_of_semicolons ts v h = plain_semicolon ts (tokens_plain ts v h)

-- equal numbers
same_one : (n m : ℕ) → n ∷ [] ≡ m ∷ [] → n ≡ m
same_one n m e = cc

same_two : (n d m e : ℕ) → n ∷ d ∷ [] ≡ m ∷ e ∷ [] → (n ≡ m) × (d ≡ e)
same_two n d m e h = let a : n ≡ m = cc in let b : d ≡ e = cc in (a, b)

same_three : (n d h m e g : ℕ) → n ∷ d ∷ h ∷ [] ≡ m ∷ e ∷ g ∷ [] → (n ≡ m) × (d ≡ e) × (h ≡ g)
same_three n d h m e g f = let a : n ≡ m = cc in let b : d ≡ e = cc in let c : h ≡ g = cc in (a, b, c)

same_four : (n d h k m e g l : ℕ) → n ∷ d ∷ h ∷ k ∷ [] ≡ m ∷ e ∷ g ∷ l ∷ [] → (n ≡ m) × (d ≡ e) × (h ≡ g) × (k ≡ l)
same_four n d h k m e g l f = let a : n ≡ m = cc in let b : d ≡ e = cc in let c : h ≡ g = cc in let i : k ≡ l = cc in (a, b, c, i)

same_word : (v w : List ℕ) (s : Sign) → s ≡ word v → s ≡ word w → v ≡ w
same_word v w s g h = cc

named_same : (v w : List ℕ) (ts : List Token) → Leads (word v ∷ []) [] ts → Leads (word w ∷ []) [] ts → v ≡ w
named_same v w [] g h = absurd g
named_same v w (t ∷ ts) g h = same_word v w (sign_of t) g.0 h.0

-- the word, the numerals and what stands after them ask for one thing
pub one_asked : (k : CommandWord) (ns : List ℕ) (ts : List Token) (r q : ScriptRequest) → Asks k ns ts r → Asks k ns ts q → q ≡ r
one_asked verb.Prove ns ts r q g h =
    h.4 ∙ ap₂ say_prove (same_one h.0 g.0 (sym h.2 ∙ g.2)) (one_read ts ts g.1 h.1 refl g.3 h.3) ∙ sym g.4
one_asked verb.Plan ns ts r q g h =
    let n : h.0 ≡ g.0 = same_one h.0 g.0 (sym h.4 ∙ g.4) in
    let all = leads_all h.1 g.1 h.2 g.2 ts h.5 g.5 (free_of_numbers h.2 h.3 h.7) (free_of_numbers g.2 g.3 g.7) in
    let v : h.3 ≡ g.3 = one_read g.2 h.2 g.3 h.3 (sym all.1) g.7 h.7 in
    let numbers : h.1 ≡ g.1 = all.0 in
    h.8 ∙ ap₂ (λ (n : ℕ) (l : List ℕ). say_plan n l h.3) n numbers ∙ ap (say_plan g.0 g.1) v ∙ sym g.8
one_asked verb.P ns ts r q g h =
    h.4 ∙ ap₂ say_suppose (same_one h.0 g.0 (sym h.2 ∙ g.2)) (one_read ts ts g.1 h.1 refl g.3 h.3) ∙ sym g.4
one_asked verb.Deduct ns ts r q g h =
    let n = same_three h.0 h.1 h.2 g.0 g.1 g.2 (sym h.3 ∙ g.3) in
    h.5 ∙ ap₂ (λ (n : ℕ) (d : ℕ). say_deduce n d h.2) n.0 n.1 ∙ ap (say_deduce g.0 g.1) n.2 ∙ sym g.5
one_asked verb.Ui ns ts r q g h =
    let n = same_two h.0 h.1 g.0 g.1 (sym h.3 ∙ g.3) in
    h.5 ∙ ap₂ (λ (n : ℕ) (d : ℕ). say_instantiate n d h.2) n.0 n.1 ∙ ap (say_instantiate g.0 g.1) (one_read ts ts g.2 h.2 refl g.4 h.4) ∙ sym g.5
one_asked verb.Ugen ns ts r q g h =
    let n = same_two h.0 h.1 g.0 g.1 (sym h.3 ∙ g.3) in
    h.5 ∙ ap₂ (λ (n : ℕ) (d : ℕ). say_generalize n d h.2) n.0 n.1
    ∙ ap (say_generalize g.0 g.1) (one_read ts ts g.2 h.2 refl (variable_phrase ts g.2 g.4) (variable_phrase ts h.2 h.4)) ∙ sym g.5
one_asked verb.Egen ns ts r q g h =
    let n = same_two h.0 h.1 g.0 g.1 (sym h.7 ∙ g.7) in
    let cut = first_semicolon h.2 h.4 g.2 g.4 h.3 g.3 (free_of_semicolons h.2 h.5 h.10) (free_of_semicolons g.2 g.5 g.10) h.9 g.9 (sym h.8 ∙ g.8) in
    let v : h.5 ≡ g.5 = one_read g.2 h.2 g.5 h.5 (sym cut.0) g.10 h.10 in
    let w : h.6 ≡ g.6 = one_read g.4 h.4 g.6 h.6 (sym cut.1) g.11 h.11 in
    h.12 ∙ ap₂ (λ (n : ℕ) (d : ℕ). say_witness n d h.5 h.6) n.0 n.1 ∙ ap₂ (say_witness g.0 g.1) v w ∙ sym g.12
one_asked verb.Rulec ns ts r q g h =
    let n = same_four h.0 h.1 h.2 h.3 g.0 g.1 g.2 g.3 (sym h.5 ∙ g.5) in
    h.8 ∙ ap₂ (λ (n : ℕ) (e : ℕ). say_choose n e h.2 h.3 h.4) n.0 n.1 ∙ ap₂ (λ (i : ℕ) (d : ℕ). say_choose g.0 g.1 i d h.4) n.2 n.3
    ∙ ap (say_choose g.0 g.1 g.2 g.3) (named_same h.4 g.4 ts h.6 g.6) ∙ sym g.8
one_asked verb.Lambda ns ts r q g h =
    let n = same_two h.0 h.1 g.0 g.1 (sym h.3 ∙ g.3) in
    h.5 ∙ ap₂ (λ (n : ℕ) (d : ℕ). say_convert n d h.2) n.0 n.1 ∙ ap (say_convert g.0 g.1) (one_read ts ts g.2 h.2 refl g.4 h.4) ∙ sym g.5
one_asked verb.Rulep ns ts r q g h =
    let n : h.0 ≡ g.0 = same_one h.0 g.0 (sym h.4 ∙ g.4) in
    let all = leads_all h.1 g.1 h.2 g.2 ts h.5 g.5 (free_of_numbers h.2 h.3 h.6) (free_of_numbers g.2 g.3 g.6) in
    let v : h.3 ≡ g.3 = one_read g.2 h.2 g.3 h.3 (sym all.1) g.6 h.6 in
    let numbers : h.1 ≡ g.1 = all.0 in
    h.7 ∙ ap₂ (λ (n : ℕ) (l : List ℕ). say_follow n l h.3) n numbers ∙ ap (say_follow g.0 g.1) v ∙ sym g.7
one_asked verb.Undo ns ts r q g h = h.2 ∙ sym g.2
one_asked verb.Done ns ts r q g h = h.2 ∙ sym g.2

-- a command's word, and what is after it
line_from : (k : CommandWord) (t : Token) (ts : List Token) → sign_of t ≡ word (word_text k) → IsLine (t ∷ ts) → HasBody (numeral_count k) (tail_of k) ts
line_from k t ts e h = go h.1
  where
    go : IsCommand (t ∷ ts) h.0 → HasBody (numeral_count k) (tail_of k) ts
    go (inl g) = let clash : t ∷ ts ≡ [] = g.0 in cc
    go (inr g) =
        let c = g.1 in
        let same : g.0 ≡ k = one_word g.0 k (sym c.2.0 ∙ e) in
        let a = asks_body g.0 c.0 c.1 h.0 c.3 in
        let P : CommandWord → Type 0 = λ (j : CommandWord). HasBody (numeral_count j) (tail_of j) ts in
        subst P same (c.0, c.1, c.2.1, a.0, a.1)

line_to : (k : CommandWord) (t : Token) (ts : List Token) → sign_of t ≡ word (word_text k) → HasBody (numeral_count k) (tail_of k) ts → IsLine (t ∷ ts)
line_to k t ts e h = let a = body_asks k h.0 h.1 h.3 h.4 in (a.0, inr (k, (h.0, h.1, (e, h.2), a.1)))

pub line_fault : (k : CommandWord) (t : Token) (ts : List Token) (last : ℕ) (fault : CommandFault) → sign_of t ≡ word (word_text k) → IsFaultIn (HasBody (numeral_count k) (tail_of k)) ts last fault → IsFaultIn IsLine (t ∷ ts) last fault
line_fault k t ts last fault e h =
    let K : List Token → Type 0 = HasBody (numeral_count k) (tail_of k) in
    let follows : Follows IsLine K (t ∷ []) ts = record {
      to = λ xs p. line_to k t xs e p;
      from = line_from k t ts e;
      from_part = λ b a m u parts. line_from k t (b ++ (u ∷ m)) e;
    } in
    fault_map K IsLine ts (t ∷ ts) last last (λ place leaves. leaves_behind IsLine K (t ∷ []) ts follows last place leaves) fault h

-- the numerals, and what is after them
pub body_fault : (k : CommandWord) (ns : List ℕ) (rest ts : List Token) (last : ℕ) (fault : CommandFault) → Leads (map number ns) rest ts → length ns ≡ numeral_count k → IsFaultIn (HasTail (tail_of k)) rest last fault
    → IsFaultIn (HasBody (numeral_count k) (tail_of k)) ts last fault
body_fault k ns rest ts last fault h long f =
    let p : Front (map number ns) rest ts = front_of (map number ns) rest ts h in
    let L : List Token → Type 0 = HasBody (numeral_count k) (tail_of k) in
    let K : List Token → Type 0 = HasTail (tail_of k) in
    let from : (xs : List Token) → L (p.front ++ xs) → K xs =
    λ xs g.
    let same = leads_same ns g.0 xs g.1 (p.front ++ xs) (p.leads xs) g.2 (long ∙ sym g.3) in
    subst K (sym same.1) g.4 in
    let follows : Follows L K p.front rest = record {
      to = λ xs t. (ns, xs, p.leads xs, long, t);
      from = from rest;
      from_part = λ b a m u parts. from (b ++ (u ∷ m));
    } in
    fault_map K L rest ts last last (λ place leaves. subst (λ (l : List Token). LeavesFirst L l last place) (sym p.parts) (leaves_behind L K p.front rest follows last place leaves)) fault f

-- a fault after a command's word
pub known_fault : (k : CommandWord) (t : Token) (ts : List Token) (last : ℕ) (fault : CommandFault) → sign_of t ≡ word (word_text k) → IsFaultIn IsLine (t ∷ ts) last fault → IsTokensFault (t ∷ ts) last fault
known_fault k t ts last (InPhrase raw_fault.NotUtf8) e h = h
known_fault k t ts last (InPhrase (raw_fault.BadCharacter place)) e h = h
known_fault k t ts last (InPhrase (raw_fault.TooDeep depth)) e h = h
known_fault k t ts last (InPhrase (raw_fault.Unexpected place)) e h = ((k, e), h)
known_fault k t ts last (InPhrase raw_fault.Memory) e h = h
known_fault k t ts last Unknown e h = absurd h
known_fault k t ts last Memory e h = tt

-- tokens spell one thing at most
pub one_command : (ts : List Token) (r q : ScriptRequest) → IsCommand ts r → IsCommand ts q → q ≡ r
one_command ts r q (inl g) (inl h) = h.1 ∙ sym g.1
one_command [] r q (inl g) (inr h) = absurd h.1.2
one_command (t ∷ ts) r q (inl g) (inr h) = let clash : t ∷ ts ≡ [] = g.0 in cc
one_command [] r q (inr g) (inl h) = absurd g.1.2
one_command (t ∷ ts) r q (inr g) (inl h) = let clash : t ∷ ts ≡ [] = h.0 in cc
one_command [] r q (inr g) (inr h) = absurd h.1.2
one_command (t ∷ ts) r q (inr g) (inr h) = both g.0 h.0 (one_word h.0 g.0 (sym h.1.2.0 ∙ g.1.2.0)) g.1 h.1
  where
    both : (j k : CommandWord) → k ≡ j → IsCommandOf j (t ∷ ts) r → IsCommandOf k (t ∷ ts) q → q ≡ r
    both j k e g h =
        let i : IsCommandOf j (t ∷ ts) q = subst (λ (k : CommandWord). IsCommandOf k (t ∷ ts) q) e h in
        let long : length i.0 ≡ length g.0 = (asks_body j i.0 i.1 q i.3).0 ∙ sym (asks_body j g.0 g.1 r g.3).0 in
        let same = leads_same i.0 g.0 i.1 g.1 ts i.2.1 g.2.1 long in
        one_asked j g.0 g.1 r q g.3 (subst (λ (l : List Token). Asks j g.0 l q) same.1 (subst (λ (ns : List ℕ). Asks j ns i.1 q) same.0 i.3))

-- tokens with a fault spell nothing
unknown_none : (ts : List Token) (q : ScriptRequest) → IsUnknown ts → IsCommand ts q → ⊥
unknown_none [] q h g = h
unknown_none (t ∷ ts) q h (inl g) = let clash : t ∷ ts ≡ [] = g.0 in cc
unknown_none (t ∷ ts) q h (inr g) = h g.0 g.1.2.0

pub no_command : (ts : List Token) (last : ℕ) (fault : CommandFault) (q : ScriptRequest) → IsTokensFault ts last fault → fault ≢ Memory → IsCommand ts q → ⊥
no_command ts last (InPhrase raw_fault.NotUtf8) q h real g = h
no_command ts last (InPhrase (raw_fault.BadCharacter place)) q h real g = h
no_command ts last (InPhrase (raw_fault.TooDeep depth)) q h real g = h
no_command ts last (InPhrase (raw_fault.Unexpected place)) q h real g = leaves_none IsLine ts last place h.1 (q, g)
no_command ts last (InPhrase raw_fault.Memory) q h real g = h
no_command ts last Unknown q h real g = unknown_none ts q h g
no_command ts last Memory q h real g = real refl
