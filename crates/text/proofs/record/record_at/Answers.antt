-- A field more, the record's end, and a first impossible byte.
use Rattle.std.proofs.lemmas.Result.{err_from_is_err_and}
use Rattle.text.proofs.Recording.{so_far_more, reads_end, stops_quoted, stops_behind}
use Rattle.text.proofs.record.record_at.Goals as goal

pub returns-in_err-field : goal.returns-in_err-field
returns-in_err-field c =
    let p = err_from_is_err_and c.from_residual.result c.from_residual.ensures.1 in
    rw (p.1, p.2) (stops_quoted _ _ _ _ c.fields.invariant c.in_err-field.ensures)

pub fields-preserved : goal.fields-preserved
fields-preserved c = rw (c.push.ensures) (so_far_more _ _ _ _ c.fields.invariant c.in_ok-field.ensures c.in-Comma.ensures)

pub returns-in-End : goal.returns-in-End
returns-in-End c = rw (c.push.ensures) (reads_end _ _ _ _ _ c.requires c.fields.invariant c.in_ok-field.ensures c.in-End.ensures)

pub returns-in-Impossible : goal.returns-in-Impossible
returns-in-Impossible c = stops_behind _ _ _ _ _ c.fields.invariant c.in_ok-field.ensures.1 c.in-Impossible.ensures
