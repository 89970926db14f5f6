-- Expansion proofs as texts.
use Rattle.std.proofs.Common.{◌≡◌, ℕ, List, true}
use Rattle.proof_text.specs.Texts.{IsProofText, IsTyped, IsWithinLimits, IsWrittenProof, Proof}
use Rattle.proof_text.proofs.Kept.{standing_is_typed, written_is_read}
use Rattle.exp_check.specs.Proofs.{IsProof}

pub proof_is_typed : (p : Proof) → IsProof p → IsTyped p
proof_is_typed p (s, h) = record { formula = h.formula; terms = standing_is_typed true h.is_tree.normal p.tree s h.is_tree.stands }

pub proof_is_read : (bytes : List ℕ) (p : Proof) → IsProof p → IsWrittenProof bytes p → IsWithinLimits bytes → IsProofText bytes p × ((q : Proof) → IsProofText bytes q → q ≡ p)
proof_is_read bytes p proof h limits = written_is_read bytes p h (proof_is_typed p proof) limits
