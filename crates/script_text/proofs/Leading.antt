-- Tokens that say given signs, and then others.
use Rattle.std.proofs.Common.{◌≡◌, ℕ, ◌≤◌, List, [], ◌∷◌, ◌++◌, length, map, Some, None, refl, sym, ◌∙◌, ap, ap₂, subst, arith}
use Rattle.tps_reader.specs.Tokens.{Sign, open_square, close_square, open_round, close_round, dot, tilde, semicolon, number, word, Token, sign_of}
use Rattle.script_text.specs.Grammar.{Leads}
use Rattle.script_text.specs.Tails.{BeginsNoNumber, first_number, number_in}

-- the tokens in front, which others may follow too
pub record Front (signs : List Sign) (rest ts : List Token) : Type 0 where
  pub front : List Token
  pub parts : ts ≡ front ++ rest
  pub leads : (others : List Token) → Leads signs others (front ++ others)

pub front_of : (signs : List Sign) (rest ts : List Token) → Leads signs rest ts → Front signs rest ts
front_of [] rest ts h = record { front = []; parts = h; leads = λ others. refl }
front_of (s ∷ signs) rest [] h = absurd h
front_of (s ∷ signs) rest (t ∷ ts) h =
    let f = front_of signs rest ts h.1 in
    record { front = t ∷ f.front; parts = ap (λ (l : List Token). t ∷ l) f.parts; leads = λ others. (h.0, f.leads others) }

-- one sign more at the end
pub leads_more : (signs : List Sign) (s : Sign) (t : Token) (rest ts : List Token) → Leads signs (t ∷ rest) ts → sign_of t ≡ s → Leads (signs ++ s ∷ []) rest ts
leads_more [] s t rest ts h e = subst (λ (l : List Token). Leads (s ∷ []) rest l) (sym h) (e, refl)
leads_more (r ∷ signs) s t rest [] h e = absurd h
leads_more (r ∷ signs) s t rest (u ∷ ts) h e = (h.0, leads_more signs s t rest ts h.1 e)

-- signs and then more signs
pub leads_append : (xs ys : List Sign) (rest middle ts : List Token) → Leads xs middle ts → Leads ys rest middle → Leads (xs ++ ys) rest ts
leads_append [] ys rest middle ts h g = subst (λ (l : List Token). Leads ys rest l) (sym h) g
leads_append (x ∷ xs) ys rest middle [] h g = absurd h
leads_append (x ∷ xs) ys rest middle (t ∷ ts) h g = (h.0, leads_append xs ys rest middle ts h.1 g)

same_number : (n m : ℕ) → number n ≡ number m → n ≡ m
same_number n m e = cc

-- so many numerals are found in one way
pub leads_same : (ns ms : List ℕ) (x y ts : List Token) → Leads (map number ns) x ts → Leads (map number ms) y ts → length ns ≡ length ms → (ns ≡ ms) × (x ≡ y)
leads_same [] [] x y ts g h e = (refl, sym g ∙ h)
leads_same [] (m ∷ ms) x y ts g h e = absurd (omega (arith, e))
leads_same (n ∷ ns) [] x y ts g h e = absurd (omega (arith, e))
leads_same (n ∷ ns) (m ∷ ms) x y [] g h e = absurd g
leads_same (n ∷ ns) (m ∷ ms) x y (t ∷ ts) g h e =
    let more = leads_same ns ms x y ts g.1 h.1 (omega (arith, e)) in
    (ap₂ (λ (n : ℕ) (l : List ℕ). n ∷ l) (same_number n m (sym g.0 ∙ h.0)) more.0, more.1)

-- all numerals are found in one way
pub leads_all : (ns ms : List ℕ) (x y ts : List Token) → Leads (map number ns) x ts → Leads (map number ms) y ts → BeginsNoNumber x → BeginsNoNumber y → (ns ≡ ms) × (x ≡ y)
leads_all [] [] x y ts g h a b = (refl, sym g ∙ h)
leads_all [] (m ∷ ms) x y [] g h a b = absurd h
leads_all [] (m ∷ ms) x y (t ∷ ts) g h a b = absurd (subst BeginsNoNumber (sym g) a m h.0)
leads_all (n ∷ ns) [] x y [] g h a b = absurd g
leads_all (n ∷ ns) [] x y (t ∷ ts) g h a b = absurd (subst BeginsNoNumber (sym h) b n g.0)
leads_all (n ∷ ns) (m ∷ ms) x y [] g h a b = absurd g
leads_all (n ∷ ns) (m ∷ ms) x y (t ∷ ts) g h a b =
    let more = leads_all ns ms x y ts g.1 h.1 a b in
    (ap₂ (λ (n : ℕ) (l : List ℕ). n ∷ l) (same_number n m (sym g.0 ∙ h.0)) more.0, more.1)

-- where a numeral follows, all numerals are more
pub leads_past : (ns ms : List ℕ) (n : ℕ) (t : Token) (x y ts : List Token) → Leads (map number ns) (t ∷ x) ts → sign_of t ≡ number n → Leads (map number ms) y ts → BeginsNoNumber y → (more : List ℕ) × (ms ≡ ns ++ n ∷ more)
leads_past [] [] n t x y ts g e h b = absurd (subst BeginsNoNumber (sym h ∙ g) b n e)
leads_past [] (m ∷ ms) n t x y [] g e h b = absurd h
leads_past [] (m ∷ ms) n t x y (u ∷ ts) g e h b =
    let same : u ≡ t = cc in
    (ms, ap (λ (k : ℕ). k ∷ ms) (same_number m n (sym h.0 ∙ ap sign_of same ∙ e)))
leads_past (k ∷ ns) [] n t x y [] g e h b = absurd g
leads_past (k ∷ ns) [] n t x y (u ∷ ts) g e h b = absurd (subst BeginsNoNumber (sym h) b k g.0)
leads_past (k ∷ ns) (m ∷ ms) n t x y [] g e h b = absurd g
leads_past (k ∷ ns) (m ∷ ms) n t x y (u ∷ ts) g e h b =
    let more = leads_past ns ms n t x y ts g.1 e h.1 b in
    (more.0, ap₂ (λ (n : ℕ) (l : List ℕ). n ∷ l) (same_number m k (sym h.0 ∙ g.0)) more.1)

-- fewer numerals than these are followed by a numeral
pub leads_fewer : (ns ms : List ℕ) (x y ts : List Token) → Leads (map number ns) x ts → Leads (map number ms) y ts → BeginsNoNumber x → length ms ≤ length ns
leads_fewer ns [] x y ts g h a = omega arith
leads_fewer [] (m ∷ ms) x y [] g h a = absurd h
leads_fewer [] (m ∷ ms) x y (t ∷ ts) g h a = absurd (subst BeginsNoNumber (sym g) a m h.0)
leads_fewer (n ∷ ns) (m ∷ ms) x y [] g h a = absurd g
leads_fewer (n ∷ ns) (m ∷ ms) x y (t ∷ ts) g h a = let more = leads_fewer ns ms x y ts g.1 h.1 a in omega (arith, more)

-- the first token's number
number_here : (s : Sign) (n : ℕ) → number_in s ≡ Some n → s ≡ number n
number_here open_square n e = cc
number_here close_square n e = cc
number_here open_round n e = cc
number_here close_round n e = cc
number_here dot n e = cc
number_here tilde n e = cc
number_here semicolon n e = cc
number_here (number m) n e = let same : m ≡ n = cc in ap number same
number_here (word w) n e = cc

pub first_is : (ts : List Token) (n : ℕ) → first_number ts ≡ Some n → (t : Token) × (rest : List Token) × (ts ≡ t ∷ rest) × (sign_of t ≡ number n)
first_is [] n e = cc
first_is (t ∷ ts) n e = (t, ts, refl, number_here (sign_of t) n e)

pub first_none : (ts : List Token) → first_number ts ≡ None → BeginsNoNumber ts
first_none [] e = tt
first_none (t ∷ ts) e = λ n h. let clash : Some n ≡ None = ap number_in (sym h) ∙ e in cc
