-- A record with no verb is no add record.
use Rattle.std.proofs.lemmas.Result.{err_from_is_err_and}
use Rattle.text.specs.declared.words.Verb.TheVariants.{Add}
use Rattle.text.proofs.record.Record.expect_add.Goals as goal

pub returns-in_err-verb : goal.returns-in_err-verb
returns-in_err-verb c =
    let gone = err_from_is_err_and c.from_residual.result c.from_residual.ensures.1 in
    rw (gone.1, gone.2) (c.in_err-verb.ensures.1 Add, c.in_err-verb.ensures.0)
