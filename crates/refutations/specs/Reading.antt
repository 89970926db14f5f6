-- What a refutation reads of an expansion proof.
use Rattle.std.specs.Prelude.{◌+◌, List, ℕ, length, Vec}
use Rattle.std.specs.declared.alloc.Global.{Global}
use Rattle.vertical_paths.specs.Partners.{ArePartnerRows}
use Rattle.exp_check.specs.Accepted.{AcceptedProof, IsAccepted}

-- an expansion proof, and the partners of each of its leaves
pub record IsRead (g : AcceptedProof) (rows : List (Vec ℕ Global)) : Type 0 where
  pub accepted : IsAccepted g
  pub partners : ArePartnerRows (length g.fitted.leaf_list + 1) g.mating rows
