-- What a station weighs up and down over a semiring, by its status.
-- Words: up_as, down_as, up_weight, down_weight.
use Rattle.std.specs.Prelude.{ℕ}
use Rattle.semiring.specs.Algebra.{SemiringOps}
use Rattle.station.specs.declared.record.Station.{Station}
use Rattle.station.specs.declared.record.Status.{Status}
use Rattle.station.specs.declared.record.Status.TheVariants.{Judged, Down, Up, Bypass}

abbrev pub up_as : SemiringOps → Status → ℕ → ℕ
up_as S Judged up = up
up_as S Down up = S.zero
up_as S Up up = up
up_as S Bypass up = S.one

abbrev pub down_as : SemiringOps → Status → ℕ → ℕ
down_as S Judged down = down
down_as S Down down = down
down_as S Up down = S.zero
down_as S Bypass down = S.zero

abbrev pub up_weight : SemiringOps → Station → ℕ
up_weight S x = up_as S x.status x.up

abbrev pub down_weight : SemiringOps → Station → ℕ
down_weight S x = down_as S x.status x.down
