-- What made the station, or refused its label, says what the record says.
use Rattle.std.proofs.Common.{rules}
use Rattle.std.proofs.lemmas.Result.{err_from_is_err_and}
use Rattle.text.proofs.Making.{station_made, label_refused}
use Rattle.text.proofs.record.Record.station.Goals as goal

pub returns-in_err-station : goal.returns-in_err-station
returns-in_err-station c =
    let gone = err_from_is_err_and c.from_residual-in_err-station.result c.from_residual-in_err-station.ensures.1 in
    rw (gone.1, gone.2)
    (label_refused c.args.text.now c.args.self.now c.in_ok-add_columns.field-0 c.in_err-station.field-0.0 (search rules) (search rules))

pub returns : goal.returns
returns c = station_made c.args.text.now c.args.self.now c.in_ok-add_columns.field-0 c.in_ok-station.station (search rules) (search rules)
