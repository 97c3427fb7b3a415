-- A left code adds its term, or is passed over since its term is zero.
use Rattle.std.proofs.Common.{ℕ, arith}
use Rattle.std.proofs.lemmas.List.{places}
use Rattle.matrix.proofs.Rows.{turn, room}
use Rattle.matrix.proofs.chain.Chain.row_product.Goals as goal
use Rattle.matrix.proofs.chain.Chain.row_product.Goals.{then-not-adds_nothing, else-not-adds_nothing}

pub loop-l-preserved : goal.loop-l-preserved
loop-l-preserved g c =
    let s = c.args.self.now.semiring in
    let r = room c.loop-l.l (g.S.Semiring.growth s) (omega arith) in
    let within = c.loop-l.invariant.0 in
    let stands = c.loop-l.invariant.1 in
    let t = λ (q : ℕ). turn (g.S.Semiring.ops s) c.loop-l.l c.args.left.now c.args.b.now q (g.met.S.Semiring.lawful s) in
    elim c.if-not-adds_nothing.branch [
      | then-not-adds_nothing w ↦ (λ q hq. grind (arith, places, r, w.totals-is, w.add_row.ensures.within q hq, within q hq), λ q hq. grind (arith, places, t q, r, w.totals-is, w.add_row.ensures.adds q hq, within q hq, stands q hq))
      | else-not-adds_nothing w ↦ (λ q hq. grind (arith, places, r, w.totals-is, within q hq), λ q hq. grind (arith, places, t q, w.totals-is, c.adds_nothing.ensures.zero, w.if-not-adds_nothing, stands q hq))
    ]
