use Rattle.std.proofs.Common.{sym}
use Rattle.reader.proofs.Taking.{goes_on_lem, comes_to_an_end, stops}
use Rattle.reader.proofs.composition.Composition.join.Goals as goal

pub returns-in-Err : goal.returns-in-Err
returns-in-Err c = stops _ _ _ _ _ _ _ c.loop-next.invariant c.next-placed.ensures.gives c.in-Err.stop _ _ c.at.ensures c.in-Err.ensures

pub returns-then-is_last : goal.returns-then-is_last
returns-then-is_last c = comes_to_an_end _ _ _ _ _ _ _ c.loop-next.invariant c.next-placed.ensures.gives _ _ c.in-Ok.ensures (sym c.if-is_last.ensures)

pub loop-next-preserved : goal.loop-next-preserved
loop-next-preserved c = goes_on_lem _ _ _ _ _ _ _ c.loop-next.invariant c.next-placed.ensures.gives _ _ c.in-Ok.ensures (sym c.if-is_last.ensures)
