-- When two station records are the same, as a fact and as a test.
-- Words: Same, status_index, is_same.
use Rattle.std.specs.Prelude.{◌≡◌, ℕ, Bool, nat_eq}
use Rattle.std.specs.Ordering.{eq_of_both, on}
use Rattle.std.specs.Cmp.Lexicographic.{pointwise}
use Rattle.station.specs.declared.record.Station.{Station}
use Rattle.station.specs.declared.record.Status.{Status}
use Rattle.station.specs.declared.record.Status.TheVariants.{Judged, Down, Up, Bypass}
use Rattle.station.specs.Labels.{label_of}

pub record Same (a b : Station) : Type 0 where
  pub label : label_of a.label ≡ label_of b.label
  pub status : a.status ≡ b.status
  pub up : a.up ≡ b.up
  pub down : a.down ≡ b.down

-- tells the statuses apart
abbrev pub status_index : Status → ℕ
status_index Judged = 0
status_index Down = 1
status_index Up = 2
status_index Bypass = 3

-- whether two records are the same, by their labels, statuses and codes
abbrev pub is_same : Station → Station → Bool
is_same =
    eq_of_both (on (λ x. label_of x.label) (pointwise nat_eq))
    (eq_of_both (on (λ x. status_index x.status) nat_eq) (eq_of_both (on (λ x. x.up) nat_eq) (on (λ x. x.down) nat_eq)))
