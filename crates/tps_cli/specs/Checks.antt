-- What `check` answers to its input.
use Rattle.std.specs.Prelude.{◌≡◌, ℕ, List, codes}
use Rattle.tps_cli.specs.Proofs.{HoldsProof, IsRejected, IsNoProofText}
use Rattle.tps_cli.specs.declared.status.Status.{Status}
use Rattle.tps_cli.specs.declared.status.Status.TheVariants.{Done, No, Words, BadText, TooLong, ReadFault, WriteFault, Memory}

-- yes exactly to the texts of expansion proofs, and no exactly to the other proof texts
abbrev pub ChecksTo : List ℕ → Status → List ℕ → Type 0
ChecksTo bytes Done out = HoldsProof bytes × (out ≡ codes "ACCEPTED\n")
ChecksTo bytes No out = IsRejected bytes out
ChecksTo bytes BadText out = IsNoProofText bytes out
ChecksTo bytes Words out = ⊥
ChecksTo bytes TooLong out = ⊥
ChecksTo bytes ReadFault out = ⊥
ChecksTo bytes WriteFault out = ⊥
ChecksTo bytes Memory out = ⊥
