-- Terms of a store by lists of their places.
use Rattle.std.specs.Prelude.{ℕ, List, [], ◌∷◌, map}
use Rattle.hol_terms.specs.Terms.{Term}
use Rattle.terms_db.specs.Nodes.{TermNode}
use Rattle.terms_db.specs.Stores.{IsLive, term_at}

-- each place of the list holds a node
abbrev pub AreLive : List TermNode → List ℕ → Type 0
AreLive nodes [] = Unit {0}
AreLive nodes (i ∷ places) = IsLive nodes i × AreLive nodes places

-- their terms, in the order of the list
abbrev pub terms_at : List TermNode → List ℕ → List Term
terms_at nodes places = map (term_at nodes) places
