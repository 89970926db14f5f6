-- What `generate` writes.
use Rattle.std.specs.Prelude.{◌≡◌, ℕ, ◌+◌, ◌*◌, List, [], ◌∷◌, ◌++◌, codes, decimal}
use Rattle.tps_cli.specs.declared.status.Status.{Status}
use Rattle.tps_cli.specs.declared.status.Status.TheVariants.{Done, No, Words, BadText, TooLong, ReadFault, WriteFault, Memory}

-- a line of a word and a number
abbrev pub figure : List ℕ → ℕ → List ℕ
figure word n = word ++ (32 ∷ (decimal n ++ 10 ∷ []))

-- the lines of a chain with n instances that has these figures, with the words that it was accepted and verified
abbrev pub told : ℕ → ℕ → ℕ → ℕ → ℕ → List ℕ
told n leaves pairs occurrences weight =
    figure (codes "CHAIN") n ++ (figure (codes "LEAVES") leaves ++ (figure (codes "PAIRS") pairs ++ (figure (codes "OCCURRENCES") occurrences
    ++ (figure (codes "WEIGHT") weight ++ codes "ACCEPTED\nVERIFIED\n"))))

-- its terms weigh n (n + 1) / 2 together
abbrev pub IsSummary : ℕ → List ℕ → Type 0
IsSummary n out = (weight : ℕ) × (2 * weight ≡ n * (n + 1)) × (out ≡ told n (2 * n + 2) (n + 1) n weight)

-- always done, with the summary of the chain
abbrev pub GeneratesTo : ℕ → Status → List ℕ → Type 0
GeneratesTo n Done out = IsSummary n out
GeneratesTo n No out = ⊥
GeneratesTo n BadText out = ⊥
GeneratesTo n Words out = ⊥
GeneratesTo n TooLong out = ⊥
GeneratesTo n ReadFault out = ⊥
GeneratesTo n WriteFault out = ⊥
GeneratesTo n Memory out = ⊥
