use Rattle.std.proofs.Common.{◌+◌, ◌<◌, ◌≤◌, eqb, length, sym, ap, ◌∙◌, arith}
use Rattle.std.proofs.lemmas.List.{take_all}
use Rattle.std.proofs.lemmas.List.Sums.{count_by_more_yes, count_by_more_no}
use Rattle.std.proofs.lemmas.Bool.{eq-eqb, ne_eqb}
use Rattle.scan.specs.Lines.{feeds_in}
use Rattle.scan.proofs.lines.count_feeds.Goals as goal
use Rattle.scan.proofs.lines.count_feeds.Goals.{then-b-eq10, else-b-eq10}

pub loop-b-preserved : goal.loop-b-preserved
loop-b-preserved c =
    let bytes = c.args.bytes.now in
    let i = c.loop-b.b-index in
    let here : i < length bytes = omega arith in
    elim c.if-b-eq10.branch [
      | then-b-eq10 w ↦ (w.count-is ∙ ap (λ n. n + 1) c.loop-b.invariant.0 ∙ sym (count_by_more_yes (λ b. eqb b 10) bytes i 0 here (eq-eqb _ 10 w.if-b-eq10.true)), omega (arith, w.count-is))
      | else-b-eq10 w ↦ (w.count-is ∙ c.loop-b.invariant.0 ∙ sym (count_by_more_no (λ b. eqb b 10) bytes i 0 here (ne_eqb _ 10 w.if-b-eq10.false)), omega (arith, w.count-is))
    ]

pub returns : goal.returns
returns c =
    let over : length c.args.bytes.now ≤ c.loop-b.b-index = omega arith in
    record { count = c.loop-b.invariant.0 ∙ ap feeds_in (take_all _ _ over); few = omega arith }
