-- The test for the same record decides that two records are the same, and is symmetric and transitive.
use Rattle.std.specs.Bool.{Decides}
use Rattle.std.specs.Cmp.{IsPartialEquivalence}
use Rattle.std.specs.Cmp.Rules.{comparing}
use Rattle.std.proofs.Common.{arith}
use Rattle.std.proofs.lemmas.Slice.Eq.{bytes_eq-Decides}
use Rattle.station.specs.declared.record.Station.{Station}
use Rattle.station.specs.Labels.{label_of}
use Rattle.station.specs.Same.{Same, is_same}

-- for a caller of !=, and for generic code, which know the test alone
pub is_same-Decides : (a b : Station) → Decides (is_same a b) (Same a b)
is_same-Decides a b = grind (arith, bytes_eq-Decides (label_of a.label) (label_of b.label))

pub is_same_laws : IsPartialEquivalence is_same
is_same_laws = search comparing depth 7
