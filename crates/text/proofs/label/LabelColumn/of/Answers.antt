-- As many bytes as there is room for are copied, and zeros stay behind them.
use Rattle.std.proofs.Common.{rules}
use Rattle.text.proofs.Holding.{held_copied}
use Rattle.text.proofs.label.LabelColumn.of.Goals as goal

pub returns : goal.returns
returns c = held_copied c.args.bytes.now c.copy_from_slice.new.self c.min-len.result (search rules) (search rules)
