-- The station that an add record makes: what is kept of its label tells whether the whole column is a label.
use Rattle.std.proofs.Common.{◌≡◌, ℕ, ◌<◌, ◌≤◌, min, Bool, true, false, not, List, [], ◌∷◌, ◌++◌, length, take, replicate, Ok, Err, Result, sym, refl, ap, ◌∙◌, ⊎_elim, inr, arith}
use Rattle.std.proofs.lemmas.Bool.{cases_lt}
use Rattle.std.proofs.lemmas.List.{take_all, take-append-le, take-take, take_min, length-take}
use Rattle.refusal.specs.declared.Refusal.{Refusal}
use Rattle.refusal.specs.Refusals.{by_number, answered, first, number}
use Rattle.station.specs.declared.record.Station.{Station}
use Rattle.station.specs.declared.record.Status.{Status}
use Rattle.station.specs.Labels.{legal, station_with}
use Rattle.text.specs.declared.add.AddColumns.{AddColumns}
use Rattle.text.specs.declared.label.LabelColumn.{LabelColumn}
use Rattle.text.specs.declared.record.Record.{Record}
use Rattle.text.specs.declared.fault.RecordFault.TheVariants.{Line}
use Rattle.text.specs.Adding.{AddColumnsAre, made_with, made_of, AddMakes, StationIs}
use Rattle.text.specs.Columns.{column}
use Rattle.text.specs.LabelColumns.{label_room, held, held_bytes}

held_front : (v : List ℕ) → held_bytes (held v) ≡ take label_room v
held_front v =
    take-take (min label_room (length v)) label_room (v ++ replicate label_room 0) (omega arith)
    ∙ take-append-le (min label_room (length v)) v (replicate label_room 0) (omega arith)
    ∙ take_min label_room v

held_short : (v : List ℕ) → length v ≤ label_room → held_bytes (held v) ≡ v
held_short v h = held_front v ∙ take_all label_room v h

long_illegal : (v : List ℕ) → 24 < length v → legal v ≡ false
long_illegal v h = grind arith

legal_short : (v : List ℕ) → legal v ≡ true → length v ≤ 24
legal_short v h = grind arith

held_long : (v : List ℕ) → label_room < length v → length (held_bytes (held v)) ≡ label_room
held_long v h = ap length (held_front v) ∙ length-take label_room v ∙ omega arith

-- what is kept is a label exactly where the whole is
pub legal-held : (v : List ℕ) → legal (held_bytes (held v)) ≡ legal v
legal-held v =
    ⊎_elim
    (λ (long : label_room < length v). long_illegal (held_bytes (held v)) (omega (arith, held_long v long)) ∙ sym (long_illegal v (omega arith)))
    (λ short. ap legal (held_short v short))
    (cases_lt label_room (length v))

pub held-legal : (v : List ℕ) → legal v ≡ true → held_bytes (held v) ≡ v
held-legal v h = held_short v (omega (arith, legal_short v h))

-- so a station made with what is kept is the one made with the whole, or both are refused
made_with-held : (v : List ℕ) (status : Status) (up down : ℕ) → made_with (held_bytes (held v)) status up down ≡ made_with v status up down
made_with-held v status up down = by_legal (legal v) refl
  where
    by_legal : (t : Bool) → legal v ≡ t → made_with (held_bytes (held v)) status up down ≡ made_with v status up down
    by_legal true e = ap (λ w. made_with w status up down) (held-legal v e)
    by_legal false e =
        ap (λ t. answered (first ((not t, 4) ∷ [])) (station_with (held_bytes (held v)) status up down)) (legal-held v ∙ e)
        ∙ sym (ap (λ t. answered (first ((not t, 4) ∷ [])) (station_with v status up down)) e)

add_makes : (s : List ℕ) (x : Record) (c : AddColumns) (answer : Result Station ℕ) → AddColumnsAre s x (Ok c) → answer ≡ made_of c → AddMakes s x answer
add_makes s x c answer h made = record {
  status = c.status;
  up = c.up;
  down = c.down;
  says = h.0;
  made = sym (made ∙ ap (λ (l : LabelColumn). made_with (held_bytes l) c.status c.up c.down) h.1 ∙ made_with-held (column s x 1) c.status c.up c.down);
}

pub station_made : (s : List ℕ) (x : Record) (c : AddColumns) (y : Station) → AddColumnsAre s x (Ok c) → by_number (Ok y) ≡ made_of c → StationIs s x (Ok y)
station_made s x c y h made = add_makes s x c (Ok y) h made

pub label_refused : (s : List ℕ) (x : Record) (c : AddColumns) (e : Refusal) → AddColumnsAre s x (Ok c) → by_number {A = Station} (Err e) ≡ made_of c
    → StationIs s x (Err (Line e))
label_refused s x c e h made = inr (e, refl, add_makes s x c (Err (number e)) h made)
