-- What the memory of a station can hold.
-- Words: Stored.
use Rattle.std.specs.Prelude.{◌^◌, ◌<◌, ◌≤◌, length}
use Rattle.station.specs.declared.record.Station.{Station}

-- whatever it holds: the label's room is at most 24 bytes, and each code has 64 bits
pub record Stored (x : Station) : Type 0 where
  pub room : length x.label ≤ 24
  pub up_fits : x.up < 2 ^ 64
  pub down_fits : x.down < 2 ^ 64
