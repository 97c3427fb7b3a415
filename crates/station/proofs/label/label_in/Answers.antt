-- The label stands before the byte that `position` finds.
use Rattle.std.proofs.Common.{rules, tests}
use Rattle.std.proofs.lemmas.Iterator.{YieldsList-from_slice}
use Rattle.std.proofs.lemmas.Iterator.Search.{position_from_yields_List}
use Rattle.station.proofs.Labelling.{ends_label, take-position}
use Rattle.station.proofs.label.label_in.Goals as goal

pub returns : goal.returns
returns c =
    let bs = c.args.bytes.now in
    let found = position_from_yields_List ends_label _ _ c.position.result c.position.ensures.ran (YieldsList-from_slice bs cc) (λ x b q k. search (rules, tests)) in
    rw (c.unwrap_or-end.ensures, found) (take-position bs)
