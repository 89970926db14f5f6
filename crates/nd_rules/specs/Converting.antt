-- Two formulas that aren't convertible.
use Rattle.std.specs.Prelude.{◌≢◌, []}
use Rattle.hol_terms.specs.Terms.{Term, truth_type}
use Rattle.hol_conv.specs.Conversion.{IsNormalOf}

-- n and m are the long normal forms of s and t, and differ
pub record AreNormals (s t n m : Term) : Type 0 where
  pub first : IsNormalOf [] truth_type n s
  pub second : IsNormalOf [] truth_type m t
  pub differ : n ≢ m
