-- The groups of a list of tokens, as a tree. A group is the whole list, or what stands between an opening square bracket and its closing
-- one. A bracket that isn't closed is closed at the end, and a closing bracket with none open ends the whole.
use Rattle.std.specs.Prelude.{◌≡◌, ◌⊎◌, ℕ, ◌+◌, ◌≤◌, max, List, [], ◌∷◌, ◌++◌}
use Rattle.tps_reader.specs.Tokens.{Sign, open_square, close_square, open_round, close_round, dot, tilde, semicolon, number, word, Token, token}

-- What a group holds: nothing more; a token that is no square bracket, and then more; a group in brackets, and then more; or a bracket
-- that isn't closed, and the group after it.
pub data Group : Type 0 where
  no_more : Group
  own_token : Token → Group → Group
  inner_group : Token → Group → Token → Group → Group
  open_group : Token → Group → Group

abbrev pub group_tokens : Group → List Token
group_tokens no_more = []
group_tokens (own_token t more) = t ∷ group_tokens more
group_tokens (inner_group t inner u more) = t ∷ (group_tokens inner ++ (u ∷ group_tokens more))
group_tokens (open_group t inner) = t ∷ group_tokens inner

abbrev pub IsOpening : Token → Type 0
IsOpening (token s place long) = s ≡ open_square

abbrev pub IsClosing : Token → Type 0
IsClosing (token s place long) = s ≡ close_square

-- no square bracket
abbrev pub IsOwn : Token → Type 0
IsOwn (token s place long) = (s ≡ open_square → ⊥) × (s ≡ close_square → ⊥)

-- all brackets in the group are closed
abbrev pub IsClosed : Group → Type 0
IsClosed no_more = Unit {0}
IsClosed (own_token t more) = IsOwn t × IsClosed more
IsClosed (inner_group t inner u more) = IsOpening t × IsClosed inner × IsClosing u × IsClosed more
IsClosed (open_group t inner) = ⊥

-- a group that ends where the list ends
abbrev pub IsGroup : Group → Type 0
IsGroup no_more = Unit {0}
IsGroup (own_token t more) = IsOwn t × IsGroup more
IsGroup (inner_group t inner u more) = IsOpening t × IsClosed inner × IsClosing u × IsGroup more
IsGroup (open_group t inner) = IsOpening t × IsGroup inner

-- the group is the whole of the tokens, or of those before a closing bracket with none open
abbrev pub IsWhole : List Token → Group → Type 0
IsWhole ts g = (IsGroup g × (ts ≡ group_tokens g)) ⊎ (IsClosed g × (u : Token) × (rest : List Token) × IsClosing u × (ts ≡ group_tokens g ++ (u ∷ rest)))

-- how many tokens of the group stand in no group inside it
abbrev pub own_count : Group → ℕ
own_count no_more = 0
own_count (own_token t more) = own_count more + 1
own_count (inner_group t inner u more) = own_count more + 1 + 1
own_count (open_group t inner) = 1

-- the greatest depth of a group directly inside the group
abbrev pub deepest : Group → ℕ
deepest no_more = 0
deepest (own_token t more) = deepest more
deepest (inner_group t inner u more) = max (deepest more) (own_count inner + deepest inner)
deepest (open_group t inner) = own_count inner + deepest inner

-- the depth of a group is the number of its own tokens plus the greatest depth of a group directly inside it
abbrev pub group_depth : Group → ℕ
group_depth g = own_count g + deepest g

-- how deep the groups of the tokens stand in each other
abbrev pub HasDepth : List Token → ℕ → Type 0
HasDepth ts depth = (g : Group) × IsWhole ts g × (depth ≡ group_depth g)

-- the groups of the tokens stand no deeper in each other than so much
abbrev pub IsWithinDepth : List Token → ℕ → Type 0
IsWithinDepth ts most = (depth : ℕ) × HasDepth ts depth × (depth ≤ most)
