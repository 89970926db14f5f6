-- Laws of proof texts. Each is the clause of a function of the module `laws`.
use Rattle.std.specs.Prelude.{◌≡◌, ℕ, ◌≤◌, List, [], ◌∷◌, ◌++◌, Bool}
use Rattle.hol_terms.specs.Terms.{Term}
use Rattle.core_text.specs.Forms.{IsWellSpelled, nesting}
use Rattle.core_text.specs.Written.{written}
use Rattle.expansion_tree.specs.Trees.{ExpansionTree}
use Rattle.expansion_tree.specs.Standing.{Standing, Stands}
use Rattle.proof_text.specs.Forms.{mating_form}
use Rattle.proof_text.specs.Texts.{HasProofNames, IsProofText, IsTyped, IsWithinLimits, IsWrittenProof, Proof, TreeIsTyped, proof_form}

-- a text says one proof at most
abbrev pub SaysOneProof : Type 0
SaysOneProof = (bytes : List ℕ) (p q : Proof) → IsProofText bytes p → IsProofText bytes q → p ≡ q

-- what is written for a proof whose terms have types and whose numbers have 64 bits is a text of it, within the limits of reading
abbrev pub WrittenIsProofText : Type 0
WrittenIsProofText =
    (p : Proof) → HasProofNames p → IsWellSpelled (mating_form p.mating) → IsTyped p → nesting (proof_form p) ≤ 5000
    → IsProofText (written (proof_form p) ++ 10 ∷ []) p

-- what is written for a proof whose terms have types, within those limits, is a text of that proof and of no other
abbrev pub WrittenIsRead : Type 0
WrittenIsRead =
    (bytes : List ℕ) (p : Proof) → IsWrittenProof bytes p → IsTyped p → IsWithinLimits bytes
    → IsProofText bytes p × ((q : Proof) → IsProofText bytes q → q ≡ p)

-- the terms of a tree that stands at a formula have types
abbrev pub StandingIsTyped : Type 0
StandingIsTyped = (p : Bool) (a : Term) (t : ExpansionTree) (s : Standing) → Stands p a t s → TreeIsTyped t
