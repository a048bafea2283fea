use Rattle.std.proofs.Common.{◌≡◌, ◌≤◌, take}
use Rattle.scan.specs.Lines.{feeds_in}
use Rattle.scan.proofs.lines.count_feeds.Given as goal

abbrev pub invariant-loop-b : goal.invariant-loop-b
invariant-loop-b l = (l.count ≡ feeds_in (take l.b-index l.bytes)) × (l.count ≤ l.b-index)
