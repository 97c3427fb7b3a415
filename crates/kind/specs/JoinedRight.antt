-- A stretch's element joined from the left is the one joined from the right, for every kind that keeps the joining laws.
use Rattle.std.specs.Prelude.{◌≡◌, true, List, [], ◌∷◌, fold}
use Rattle.std.proofs.Common.{sym, arith}
use Rattle.station.specs.declared.record.Station.{Station}
use Rattle.kind.specs.Laws.{KindOps, KindLaws}
use Rattle.kind.specs.Stretch.{takes_all, joined_all}

-- the first station joined to all behind it
abbrev pub joined_right : {E C : Type 0} → KindOps E C → List Station → E
joined_right o [] = o.empty
joined_right o (x ∷ xs) = o.join (o.single x) (joined_right o xs)

module _ {E C : Type 0} (o : KindOps E C) (laws : KindLaws o) where
  right_fit : (xs : List Station) → takes_all o xs ≡ true → o.fit (joined_right o xs)
  right_fit [] t = laws.neutral.empty_fit
  right_fit (x ∷ xs) t = grind (arith, right_fit xs)

  from_left : (a : E) (xs : List Station) → o.fit a → takes_all o xs ≡ true → fold (λ e x. o.join e (o.single x)) a xs ≡ o.join a (joined_right o xs)
  from_left a [] fa t = sym (laws.neutral.right a fa)
  from_left a (x ∷ xs) fa t = grind (arith, right_fit xs, from_left (o.join a (o.single x)) xs)

  pub left_is_right : (xs : List Station) → takes_all o xs ≡ true → joined_all o xs ≡ joined_right o xs
  left_is_right xs t = grind (arith, from_left o.empty xs, right_fit xs)
