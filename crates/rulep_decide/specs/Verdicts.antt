-- The verdict on a consequence.
use Rattle.std.specs.Prelude.{List, [], ◌∷◌, ◌++◌, All, Contains}
use Rattle.std.specs.List.{flat_map}
use Rattle.hol_terms.specs.Terms.{Term}
use Rattle.hol_terms.specs.Truth.{Holds, Follows, IsAtom, atoms_of}
use Rattle.rulep_decide.specs.declared.verdicts.Verdict.{Verdict}
use Rattle.rulep_decide.specs.declared.verdicts.Verdict.TheVariants.{Follows as Yes, Falsified}

-- no term stands twice
abbrev pub AreDistinct : List Term → Type 0
AreDistinct [] = Unit {0}
AreDistinct (a ∷ rest) = (Contains rest a → ⊥) × AreDistinct rest

-- the atoms of the given formulas and of the conclusion
abbrev pub atoms_among : List Term → Term → List Term
atoms_among given conclusion = flat_map atoms_of given ++ atoms_of conclusion

-- The atoms are the true ones of an assignment that makes the given formulas hold and the conclusion fail; each is an atom of these, and
-- stands once.
pub record Falsifies (true_atoms given : List Term) (conclusion : Term) : Type 0 where
  pub atoms : All IsAtom true_atoms
  pub occurring : All (Contains (atoms_among given conclusion)) true_atoms
  pub distinct : AreDistinct true_atoms
  pub given_hold : All (Holds true_atoms) given
  pub conclusion_fails : Holds true_atoms conclusion → ⊥

abbrev pub IsVerdict : List Term → Term → Verdict → Type 0
IsVerdict given conclusion Yes = Follows given conclusion
IsVerdict given conclusion (Falsified true_atoms) = Falsifies true_atoms given conclusion
