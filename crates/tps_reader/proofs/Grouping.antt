-- The depth that is counted is that of the groups.
use Rattle.std.proofs.Common.{◌≡◌, ℕ, ◌+◌, ◌≤◌, max, List, [], ◌∷◌, ◌++◌, refl, sym, ◌∙◌, ap, ap₂, subst, arith, append_assoc, inl, inr}
use Rattle.tps_reader.specs.Depth.{Part, part, before_parts, depth_of, first_depth, parts_of, with_opening, with_own}
use Rattle.tps_reader.specs.Groups.{Group, HasDepth, IsWithinDepth, no_more, own_token, inner_group, open_group, IsClosed, IsClosing, IsGroup, IsOpening, IsOwn, IsWhole, deepest, group_depth, group_tokens, own_count}
use Rattle.tps_reader.specs.Tokens.{Sign, open_square, close_square, open_round, close_round, dot, tilde, semicolon, number, word, Token, token}

own_parts : (t : Token) (ts : List Token) → IsOwn t → parts_of (t ∷ ts) ≡ with_own (parts_of ts)
own_parts (token open_square k l) ts h = absurd (h.0 refl)
own_parts (token close_square k l) ts h = absurd (h.1 refl)
own_parts (token open_round k l) ts h = refl
own_parts (token close_round k l) ts h = refl
own_parts (token dot k l) ts h = refl
own_parts (token tilde k l) ts h = refl
own_parts (token semicolon k l) ts h = refl
own_parts (token (number n) k l) ts h = refl
own_parts (token (word w) k l) ts h = refl

opening_parts : (t : Token) (ts : List Token) → IsOpening t → parts_of (t ∷ ts) ≡ with_opening (parts_of ts)
opening_parts (token s k l) ts h = ap (λ s. before_parts s (parts_of ts)) h

closing_parts : (t : Token) (ts : List Token) → IsClosing t → parts_of (t ∷ ts) ≡ part 0 0 ∷ with_own (parts_of ts)
closing_parts (token s k l) ts h = ap (λ s. before_parts s (parts_of ts)) h

-- a part of a group grows to the front
abbrev grown : ℕ → ℕ → List Part → List Part
grown own inside [] = []
grown own inside (part o i ∷ parts) = part (own + o) (max inside i) ∷ parts

grown_none : (parts : List Part) → parts ≡ grown 0 0 parts
grown_none [] = refl
grown_none (part o i ∷ parts) =
    let own : o ≡ 0 + o = omega arith in
    let inside : i ≡ max 0 i = omega arith in
    ap₂ (λ o i. part o i ∷ parts) own inside

grown_own : (own inside : ℕ) (parts : List Part) → with_own (grown own inside parts) ≡ grown (own + 1) inside parts
grown_own own inside [] = refl
grown_own own inside (part o i ∷ parts) = let same : own + o + 1 ≡ own + 1 + o = omega arith in ap (λ n. part n (max inside i) ∷ parts) same

-- the parts are never none
abbrev Some_ : List Part → Type 0
Some_ parts = (o : ℕ) × (i : ℕ) × (rest : List Part) × (parts ≡ part o i ∷ rest)

own_some : (parts : List Part) → Some_ parts → Some_ (with_own parts)
own_some parts h = (h.0 + 1, h.1, h.2, ap with_own h.3)

opening_some : (o i : ℕ) (parts : List Part) → Some_ (with_opening (part o i ∷ parts))
opening_some o i [] = (1, o + i, [], refl)
opening_some o i (part around most ∷ parts) = (around + 1, max most (o + i), parts, refl)

before_some : (s : Sign) (parts : List Part) → Some_ parts → Some_ (before_parts s parts)
before_some open_square parts h = let x = opening_some h.0 h.1 h.2 in (x.0, x.1, x.2, ap with_opening h.3 ∙ x.3)
before_some close_square parts h = (0, 0, with_own parts, refl)
before_some open_round parts h = own_some parts h
before_some close_round parts h = own_some parts h
before_some dot parts h = own_some parts h
before_some tilde parts h = own_some parts h
before_some semicolon parts h = own_some parts h
before_some (number n) parts h = own_some parts h
before_some (word w) parts h = own_some parts h

some_parts : (ts : List Token) → Some_ (parts_of ts)
some_parts [] = (0, 0, [], refl)
some_parts (token s k l ∷ ts) = before_some s (parts_of ts) (some_parts ts)

-- a bracketed group before the parts of what follows
inner_parts : (oi di om dm : ℕ) (parts : List Part) → Some_ parts → with_opening (grown oi di (part 0 0 ∷ with_own (grown om dm parts))) ≡ grown (om + 1 + 1) (max dm (oi + di)) parts
inner_parts oi di om dm parts h = subst (λ (ps : List Part). with_opening (grown oi di (part 0 0 ∷ with_own (grown om dm ps))) ≡ grown (om + 1 + 1) (max dm (oi + di)) ps) (sym h.3) (go h.0 h.1 h.2)
  where
    go : (o i : ℕ) (rest : List Part) → with_opening (grown oi di (part 0 0 ∷ with_own (grown om dm (part o i ∷ rest)))) ≡ grown (om + 1 + 1) (max dm (oi + di)) (part o i ∷ rest)
    go o i rest =
        let own : om + o + 1 + 1 ≡ om + 1 + 1 + o = omega arith in
        let inside : max (max dm i) (oi + 0 + max di 0) ≡ max (max dm (oi + di)) i = omega arith in
        ap₂ (λ o i. part o i ∷ rest) own inside

closed_parts : (g : Group) (rest : List Token) → IsClosed g → parts_of (group_tokens g ++ rest) ≡ grown (own_count g) (deepest g) (parts_of rest)
closed_parts no_more rest h = grown_none (parts_of rest)
closed_parts (own_token t more) rest h = own_parts t (group_tokens more ++ rest) h.0 ∙ ap with_own (closed_parts more rest h.1) ∙ grown_own (own_count more) (deepest more) (parts_of rest)
closed_parts (inner_group t inner u more) rest h =
    let tail : List Token = u ∷ (group_tokens more ++ rest) in
    let behind : parts_of tail ≡ part 0 0 ∷ with_own (grown (own_count more) (deepest more) (parts_of rest)) = closing_parts u (group_tokens more ++ rest) h.2 ∙ ap (λ ps. part 0 0 ∷ with_own ps) (closed_parts more rest h.3) in
    opening_parts t ((group_tokens inner ++ (u ∷ group_tokens more)) ++ rest) h.0
    ∙ ap (λ ts. with_opening (parts_of ts)) (append_assoc (group_tokens inner) (u ∷ group_tokens more) rest)
    ∙ ap with_opening (closed_parts inner tail h.1 ∙ ap (grown (own_count inner) (deepest inner)) behind)
    ∙ inner_parts (own_count inner) (deepest inner) (own_count more) (deepest more) (parts_of rest) (some_parts rest)
closed_parts (open_group t inner) rest h = absurd h

group_parts : (g : Group) → IsGroup g → parts_of (group_tokens g) ≡ part (own_count g) (deepest g) ∷ []
group_parts no_more h = refl
group_parts (own_token t more) h = own_parts t (group_tokens more) h.0 ∙ ap with_own (group_parts more h.1)
group_parts (inner_group t inner u more) h =
    let behind : parts_of (u ∷ group_tokens more) ≡ part 0 0 ∷ part (own_count more + 1) (deepest more) ∷ [] = closing_parts u (group_tokens more) h.2 ∙ ap (λ ps. part 0 0 ∷ with_own ps) (group_parts more h.3) in
    let inside : max (deepest more) (own_count inner + 0 + max (deepest inner) 0) ≡ max (deepest more) (own_count inner + deepest inner) = omega arith in
    opening_parts t (group_tokens inner ++ (u ∷ group_tokens more)) h.0 ∙ ap with_opening (closed_parts inner (u ∷ group_tokens more) h.1 ∙ ap (grown (own_count inner) (deepest inner)) behind)
    ∙ ap (λ n. part (own_count more + 1 + 1) n ∷ []) inside
group_parts (open_group t inner) h = opening_parts t (group_tokens inner) h.0 ∙ ap with_opening (group_parts inner h.1)

-- the depth is that of the whole group
pub depth_is : (ts : List Token) (g : Group) → IsWhole ts g → depth_of ts ≡ group_depth g
depth_is ts g (inl h) = ap depth_of h.1 ∙ ap first_depth (group_parts g h.0)
depth_is ts g (inr h) =
    let same : own_count g + 0 + max (deepest g) 0 ≡ group_depth g = omega arith in
    ap depth_of h.4 ∙ ap first_depth (closed_parts g (h.1 ∷ h.2) h.0 ∙ ap (grown (own_count g) (deepest g)) (closing_parts h.1 h.2 h.3)) ∙ same

-- groups that end one after the other, the last where the tokens end
data Cut : List Token → Type 0 where
  last_group : (ts : List Token) (g : Group) → IsGroup g → ts ≡ group_tokens g → Cut ts
  next_group : (ts : List Token) (g : Group) (u : Token) (rest : List Token) → IsClosed g → IsClosing u → Cut rest → ts ≡ group_tokens g ++ (u ∷ rest) → Cut ts

cut_own : (t : Token) (ts : List Token) → IsOwn t → Cut ts → Cut (t ∷ ts)
cut_own t ts h (last_group _ g k e) = last_group (t ∷ ts) (own_token t g) (h, k) (ap (λ l. t ∷ l) e)
cut_own t ts h (next_group _ g u rest k c more e) = next_group (t ∷ ts) (own_token t g) u rest (h, k) c more (ap (λ l. t ∷ l) e)

cut_opening : (t : Token) (ts : List Token) → IsOpening t → Cut ts → Cut (t ∷ ts)
cut_opening t ts h (last_group _ g k e) = last_group (t ∷ ts) (open_group t g) (h, k) (ap (λ l. t ∷ l) e)
cut_opening t ts h (next_group _ g u rest k c (last_group _ f j d) e) =
    last_group (t ∷ ts) (inner_group t g u f) (h, k, c, j) (ap (λ l. t ∷ l) (e ∙ ap (λ l. group_tokens g ++ (u ∷ l)) d))
cut_opening t ts h (next_group _ g u rest k c (next_group _ f v more j b cut d) e) =
    next_group (t ∷ ts) (inner_group t g u f) v more (h, k, c, j) b cut
    (ap (λ l. t ∷ l) (e ∙ ap (λ l. group_tokens g ++ (u ∷ l)) d ∙ sym (append_assoc (group_tokens g) (u ∷ group_tokens f) (v ∷ more))))

cut_all : (ts : List Token) → Cut ts
cut_all [] = last_group [] no_more tt refl
cut_all (token open_square k l ∷ ts) = cut_opening (token open_square k l) ts refl (cut_all ts)
cut_all (token close_square k l ∷ ts) = next_group (token close_square k l ∷ ts) no_more (token close_square k l) ts tt refl (cut_all ts) refl
cut_all (token open_round k l ∷ ts) = cut_own (token open_round k l) ts ((λ e. cc), (λ e. cc)) (cut_all ts)
cut_all (token close_round k l ∷ ts) = cut_own (token close_round k l) ts ((λ e. cc), (λ e. cc)) (cut_all ts)
cut_all (token dot k l ∷ ts) = cut_own (token dot k l) ts ((λ e. cc), (λ e. cc)) (cut_all ts)
cut_all (token tilde k l ∷ ts) = cut_own (token tilde k l) ts ((λ e. cc), (λ e. cc)) (cut_all ts)
cut_all (token semicolon k l ∷ ts) = cut_own (token semicolon k l) ts ((λ e. cc), (λ e. cc)) (cut_all ts)
cut_all (token (number n) k l ∷ ts) = cut_own (token (number n) k l) ts ((λ e. cc), (λ e. cc)) (cut_all ts)
cut_all (token (word w) k l ∷ ts) = cut_own (token (word w) k l) ts ((λ e. cc), (λ e. cc)) (cut_all ts)

whole_in : (ts : List Token) → Cut ts → (g : Group) × IsWhole ts g
whole_in ts (last_group _ g k e) = (g, inl (k, e))
whole_in ts (next_group _ g u rest k c more e) = (g, inr (k, u, rest, c, e))

-- tokens have a depth, and it is the counted one
pub has_depth : (ts : List Token) (depth : ℕ) → depth ≡ depth_of ts → HasDepth ts depth
has_depth ts depth e = let w = whole_in ts (cut_all ts) in (w.0, w.1, e ∙ depth_is ts w.0 w.1)

pub only_depth : (ts : List Token) (depth : ℕ) → depth ≡ depth_of ts → (other : ℕ) → HasDepth ts other → other ≡ depth
only_depth ts depth e other h = h.2 ∙ sym (depth_is ts h.0 h.1) ∙ sym e

pub within_depth : (ts : List Token) (most : ℕ) → depth_of ts ≤ most → IsWithinDepth ts most
within_depth ts most h = (depth_of ts, has_depth ts (depth_of ts) refl, h)

pub counted_within : (ts : List Token) (most : ℕ) → IsWithinDepth ts most → depth_of ts ≤ most
counted_within ts most h =
    let same : h.0 ≡ depth_of ts = only_depth ts (depth_of ts) refl h.0 h.1 in
    let low : h.0 ≤ most = h.2 in
    omega (arith, same, low)
