-- Where all passed so far, each code that the loop has seen is plain.
use Rattle.std.proofs.Common.{◌≡◌, true}
use Rattle.matrix.specs.Matrix.{PlainRow}
use Rattle.matrix.proofs.chain.Chain.is_plain_row.Given as goal

abbrev pub invariant-loop-code : goal.invariant-loop-code
invariant-loop-code g l = l.all ≡ true → PlainRow (g.S.Semiring.plain l.self.semiring) l.code-index l.row
