-- The lines of a generated chain.
use Rattle.std.proofs.Common.{◌≡◌, ◌+◌, ◌*◌, ◌∙◌, ◌++◌, ℕ, List, [], ap, append_assoc, length}
use Rattle.expansion_tree.specs.Occurrences.{occurrences_of, tree_weight}
use Rattle.exp_check.specs.Accepted.{AcceptedProof, IsAccepted, proof_of}
use Rattle.tps_gen.specs.Chains.{HasFigures}
use Rattle.tps_cli.specs.Generates.{IsSummary, told}

-- a list, after which stands the rest, was appended to
further : (old new more rest : List ℕ) → new ≡ old ++ more → new ++ rest ≡ old ++ (more ++ rest)
further old new more rest e = ap (λ l. l ++ rest) e ∙ append_assoc old more rest

-- six lists that were appended one after the other
pub lines_joined :
    (o a b c d e f p q r s t u : List ℕ) → o ≡ [] → p ≡ o ++ a → q ≡ p ++ b → r ≡ q ++ c → s ≡ r ++ d → t ≡ s ++ e → u ≡ t ++ f
    → u ≡ a ++ (b ++ (c ++ (d ++ (e ++ f))))
lines_joined o a b c d e f p q r s t u none first second third fourth fifth sixth =
    sixth ∙ further s t e f fifth ∙ further r s d (e ++ f) fourth ∙ further q r c (d ++ (e ++ f)) third ∙ further p q b (c ++ (d ++ (e ++ f))) second
    ∙ further o p a (b ++ (c ++ (d ++ (e ++ f)))) first ∙ ap (λ l. l ++ (a ++ (b ++ (c ++ (d ++ (e ++ f)))))) none

-- the lines of an accepted proof that has the figures of a chain are a summary
pub summary_told :
    (n : ℕ) (a : AcceptedProof) (text : List ℕ) (l p o w : ℕ) → IsAccepted a → HasFigures n (proof_of a)
    → l ≡ length a.fitted.leaf_list → p ≡ length a.mating → o ≡ length (occurrences_of a.fitted.tree) → w ≡ tree_weight a.fitted.tree
    → text ≡ told n l p o w → IsSummary n text
summary_told n a text l p o w accepted figures leaves pairs occurrences weight e =
    let leaf_total : l ≡ 2 * n + 2 = leaves ∙ ap length accepted.fits.1.leaf_list ∙ figures.leaf_total accepted.fits.0 accepted.fits.1.is_tree in (
      w,
      ap (λ k. 2 * k) weight ∙ figures.weight,
      e ∙ ap (λ k. told n k p o w) leaf_total ∙ ap (λ k. told n (2 * n + 2) k o w) (pairs ∙ figures.pair_total)
          ∙ ap (λ k. told n (2 * n + 2) (n + 1) k w) (occurrences ∙ figures.occurrence_total),
    )
