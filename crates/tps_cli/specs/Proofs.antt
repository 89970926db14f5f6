-- What a command answers that takes the text of an expansion proof.
use Rattle.std.specs.Prelude.{◌≡◌, ℕ, List, [], codes}
use Rattle.proof_text.specs.Texts.{Proof, IsProofText}
use Rattle.exp_check.specs.Proofs.{IsProof}

-- the bytes are a proof text
abbrev pub IsReadable : List ℕ → Type 0
IsReadable bytes = (p : Proof) × IsProofText bytes p

-- the bytes are the text of an expansion proof
abbrev pub HoldsProof : List ℕ → Type 0
HoldsProof bytes = (p : Proof) × IsProofText bytes p × IsProof p

-- the bytes are a proof text and not that of an expansion proof, and the output says so
abbrev pub IsRejected : List ℕ → List ℕ → Type 0
IsRejected bytes out = IsReadable bytes × (HoldsProof bytes → ⊥) × (out ≡ codes "REJECTED\n")

-- the bytes aren't a proof text, and nothing is put out
abbrev pub IsNoProofText : List ℕ → List ℕ → Type 0
IsNoProofText bytes out = (IsReadable bytes → ⊥) × (out ≡ [])
