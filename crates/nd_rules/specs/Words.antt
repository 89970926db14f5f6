-- The words by which a refusal is told.
use Rattle.std.specs.Prelude.{ℕ, List, [], ◌∷◌, ◌++◌, codes, decimal}
use Rattle.nd_rules.specs.declared.faults.RuleFault.{RuleFault}
use Rattle.nd_rules.specs.declared.faults.RuleFault.TheVariants.{Memory, NoLine, NotEarlier, Shape, Hyps, VariableFree, NotFollows, NotConvertible, WrongType}

abbrev pub fault_words : RuleFault → List ℕ
fault_words Memory = []
fault_words (NoLine k) = codes "NOLINE" ++ 32 ∷ decimal k
fault_words (NotEarlier k) = codes "NOTEARLIER" ++ 32 ∷ decimal k
fault_words Shape = codes "SHAPE"
fault_words Hyps = codes "HYPS"
fault_words (VariableFree k) = codes "VARIABLE" ++ 32 ∷ decimal k
fault_words (NotFollows true_atoms) = codes "NOTFOLLOWS"
fault_words (NotConvertible s t) = codes "NOTCONVERTIBLE"
fault_words WrongType = codes "WRONGTYPE"
