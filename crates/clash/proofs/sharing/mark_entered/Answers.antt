use Rattle.std.proofs.Common.{◌+◌, true, set, sym, ap, ◌∙◌, subst}
use Rattle.std.proofs.lemmas.Bool.{both_ways}
use Rattle.clash.proofs.Marks.{Marking, marked_too, beyond, not_above, by_another_path, all_marked}
use Rattle.clash.proofs.sharing.mark_entered.Goals as goal
use Rattle.clash.proofs.sharing.mark_entered.Goals.{then-low-dom+then-dom-lt32+then-are_same, else-low-dom, else-low-dom-via-then-low-dom+then-dom-lt32+else-are_same, else-low-dom-via-then-low-dom+else-dom-lt32, else-low-dom-via-else-low-dom}

pub loop-entry-preserved : goal.loop-entry-preserved
loop-entry-preserved c =
    let xs = c.args.entries.now in
    let e = c.args.low.0 in
    let p = c.args.path.now in
    let i = c.loop-entry.entry-index in
    let x = c.entry-item.result in
    let is_next = c.loop-entry-test.true in
    let before = c.args.row.now in
    let row = c.loop-entry.row in
    let inv = c.loop-entry.invariant in (
      c.if-low-dom.array_long,
      elim c.if-low-dom.branch [
        | then-low-dom+then-dom-lt32+then-are_same w ↦
            subst (Marking xs e p (i + 1) before) (sym (w.row-is ∙ ap (λ n. set row n true) w.from.ensures))
            (marked_too xs i x is_next c.entry-item.is e p before row inv.1 inv.0 w.if-dom-lt32.true
            (sym w.as_bytes.ensures.value ∙ w.are_same.ensures.0 w.if-are_same.true))
        | else-low-dom w ↦
            subst (Marking xs e p (i + 1) before) (sym w.row-is)
            (elim w.else-low-dom.branch [
              | else-low-dom-via-then-low-dom+then-dom-lt32+else-are_same v ↦
                  by_another_path xs i x is_next c.entry-item.is e p before row inv.1
                  (λ q. both_ways _ v.if-are_same.false (v.are_same.ensures.1 (v.as_bytes.ensures.value ∙ q)))
              | else-low-dom-via-then-low-dom+else-dom-lt32 v ↦ beyond xs i x is_next c.entry-item.is e p before row inv.1 v.if-dom-lt32.false
              | else-low-dom-via-else-low-dom v ↦ not_above xs i x is_next c.entry-item.is e p before row inv.1 v.if-low-dom.false
            ])
      ],
    )

pub returns : goal.returns
returns c = all_marked c.args.entries.now c.loop-entry.entry-index c.loop-entry-test.false c.args.low.0 c.args.path.now c.args.row.now c.loop-entry.row c.loop-entry.invariant.1
