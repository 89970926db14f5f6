-- Laws of expansion proofs. Each is the clause of a function of the module `laws`.
use Rattle.std.specs.Prelude.{◌≡◌, ℕ, List}
use Rattle.proof_text.specs.Texts.{IsProofText, IsTyped, IsWithinLimits, IsWrittenProof, Proof}
use Rattle.exp_check.specs.Proofs.{IsProof}

-- the terms of an expansion proof have types
abbrev pub ProofIsTyped : Type 0
ProofIsTyped = (p : Proof) → IsProof p → IsTyped p

-- what is written for an expansion proof, within the limits of reading, is a text of that proof and of no other
abbrev pub WrittenProofIsRead : Type 0
WrittenProofIsRead =
    (bytes : List ℕ) (p : Proof) → IsProof p → IsWrittenProof bytes p → IsWithinLimits bytes
    → IsProofText bytes p × ((q : Proof) → IsProofText bytes q → q ≡ p)
