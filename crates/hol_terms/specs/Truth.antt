-- Truth by assignments. The atoms of a formula are its parts of type O that are reached through NOT, AND, OR, IMPLIES, TRUTH and
-- FALSEHOOD and whose head is none of these: so a quantified formula is an atom. A finite list of atoms is an assignment: those
-- of the list are true, all others are false.
use Rattle.std.specs.Prelude.{List, [], ◌∷◌, ◌++◌, ◌⊎◌, All, Contains}
use Rattle.hol_terms.specs.Terms.{Term, negation, conjunction, disjunction, implication, truth, falsehood, application, constant}

-- the formula holds where exactly the atoms of the list are true
abbrev pub Holds : List Term → Term → Type 0
Holds true_atoms (application (constant negation) a) = Holds true_atoms a → ⊥
Holds true_atoms (application (application (constant conjunction) a) b) = Holds true_atoms a × Holds true_atoms b
Holds true_atoms (application (application (constant disjunction) a) b) = Holds true_atoms a ⊎ Holds true_atoms b
Holds true_atoms (application (application (constant implication) a) b) = Holds true_atoms a → Holds true_atoms b
Holds true_atoms (constant truth) = Unit {0}
Holds true_atoms (constant falsehood) = ⊥
Holds true_atoms atom = Contains true_atoms atom

-- the formula is none of NOT a, a AND b, a OR b, a IMPLIES b, TRUTH and FALSEHOOD
abbrev pub IsAtom : Term → Type 0
IsAtom (application (constant negation) a) = ⊥
IsAtom (application (application (constant conjunction) a) b) = ⊥
IsAtom (application (application (constant disjunction) a) b) = ⊥
IsAtom (application (application (constant implication) a) b) = ⊥
IsAtom (constant truth) = ⊥
IsAtom (constant falsehood) = ⊥
IsAtom atom = Unit {0}

-- the atoms of a formula, each occurrence, from left to right
abbrev pub atoms_of : Term → List Term
atoms_of (application (constant negation) a) = atoms_of a
atoms_of (application (application (constant conjunction) a) b) = atoms_of a ++ atoms_of b
atoms_of (application (application (constant disjunction) a) b) = atoms_of a ++ atoms_of b
atoms_of (application (application (constant implication) a) b) = atoms_of a ++ atoms_of b
atoms_of (constant truth) = []
atoms_of (constant falsehood) = []
atoms_of atom = atom ∷ []

-- each assignment that makes all of the given formulas hold makes the formula hold
abbrev pub Follows : List Term → Term → Type 0
Follows given formula = (true_atoms : List Term) → All (Holds true_atoms) given → Holds true_atoms formula

-- a formula that follows from none
abbrev pub IsTautology : Term → Type 0
IsTautology formula = Follows [] formula
