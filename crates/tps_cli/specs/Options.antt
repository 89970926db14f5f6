-- The options of `prove`.
use Rattle.std.specs.Prelude.{◌≡◌, ◌⊎◌, ◌≤◌, ℕ, List, [], ◌∷◌, ◌++◌, codes, Some}
use Rattle.core_text.specs.Words.{numeral_of}
use Rattle.tps_cli.specs.declared.options.Budget.{Budget}

-- the word spells the number, which isn't above the greatest
abbrev pub IsNumberUpTo : ℕ → List ℕ → ℕ → Type 0
IsNumberUpTo greatest word n = (numeral_of word ≡ Some n) × (n ≤ greatest)

-- both numbers of a budget are spelled: a weight up to 64 and a level up to 2
abbrev pub AreBudget : Budget → List ℕ → List ℕ → Type 0
AreBudget b weight level = IsNumberUpTo 64 weight b.weight × IsNumberUpTo 2 level b.level

-- the words are the option of the name with its number; or there are none, and the number is the usual one
abbrev pub IsOption : List ℕ → ℕ → ℕ → ℕ → List (List ℕ) → Type 0
IsOption name usual greatest n words =
    ((words ≡ []) × (n ≡ usual)) ⊎ ((word : List ℕ) × (words ≡ name ∷ word ∷ []) × IsNumberUpTo greatest word n)

-- the words are the options of a budget, in either order; the usual weight is 6, and the usual level 1
pub record AreOptions (b : Budget) (words : List (List ℕ)) : Type 0 where
  pub weight_words : List (List ℕ)
  pub level_words : List (List ℕ)
  pub weight : IsOption (codes "--weight") 6 64 b.weight weight_words
  pub level : IsOption (codes "--level") 1 2 b.level level_words
  pub both : (words ≡ weight_words ++ level_words) ⊎ (words ≡ level_words ++ weight_words)
