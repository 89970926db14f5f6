-- Tables of results, which last as long as one substitution: at a place of a term and a number, the place of what the substitution
-- makes of that term under so many abstractions.
use Rattle.std.specs.Prelude.{ℕ, List, Contains, ◌≡◌}
use Rattle.hol_terms.specs.Terms.{SimpleType, Term}
use Rattle.hol_terms.specs.Indices.{raise, put}
use Rattle.hol_conv.specs.NormalForms.{hereditary}
use Rattle.terms_db.specs.Nodes.{TermNode}
use Rattle.terms_db.specs.Stores.{IsLive, term_at}

-- an entry: the place of a term, a number, and the place of the result
abbrev pub Entry : Type 0
Entry = (ℕ × ℕ) × ℕ

-- the entry's places are live, and its result is the function's
abbrev pub IsResult : (ℕ → Term → Term) → List TermNode → Entry → Type 0
IsResult result nodes e = IsLive nodes e.0.0 × IsLive nodes e.1 × (term_at nodes e.1 ≡ result e.0.1 (term_at nodes e.0.0))

-- and each entry's of a table is
abbrev pub AreResults : (ℕ → Term → Term) → List TermNode → List Entry → Type 0
AreResults result nodes entries = (e : Entry) → Contains entries e → IsResult result nodes e

-- raised by d from an index on
abbrev pub AreRaised : ℕ → List TermNode → List Entry → Type 0
AreRaised d nodes entries = AreResults (λ c t. raise d c t) nodes entries

-- with u put for an index, as it is
abbrev pub ArePut : Term → List TermNode → List Entry → Type 0
ArePut u nodes entries = AreResults (λ k t. put k u t) nodes entries

-- with the long term u of type s put for an index of a long term
abbrev pub ArePutInLong : SimpleType → Term → List TermNode → List Entry → Type 0
ArePutInLong s u nodes entries = AreResults (λ k t. hereditary s k u t) nodes entries
