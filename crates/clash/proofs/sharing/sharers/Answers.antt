use Rattle.std.proofs.Common.{◌+◌, sym, ◌∙◌, subst}
use Rattle.clash.specs.Sharing.{Sharers}
use Rattle.clash.proofs.Marks.{Gathering, its_own, of_another, all_gathered, none_gathered}
use Rattle.std.proofs.lemmas.Bool.{eqb-true, eqb-false}
use Rattle.clash.proofs.sharing.sharers.Goals as goal
use Rattle.clash.proofs.sharing.sharers.Goals.{then-eq, else-eq}

pub loop-entry-init : goal.loop-entry-init
loop-entry-init c = none_gathered c.as_slice-entries.result.now c.args.low.0

pub loop-entry-preserved : goal.loop-entry-preserved
loop-entry-preserved c =
    let xs = c.as_slice-entries.result.now in
    let e = c.args.low.0 in
    let i = c.loop-entry.entry-index in
    let x = c.entry-item.result in
    let row = c.loop-entry.row in
    elim c.if-eq.branch [
      | then-eq w ↦
          subst (Gathering xs e (i + 1)) (sym w.row-is)
          (its_own xs i x c.loop-entry-test.true c.entry-item.is e row c.loop-entry.invariant _ w.mark_entered.new.row w.as_bytes.ensures.value (eqb-true x.dom.0 e (sym c.eq.ensures ∙ w.if-eq.true)) w.mark_entered.ensures)
      | else-eq w ↦
          subst (Gathering xs e (i + 1)) (sym w.row-is)
          (of_another xs i x c.loop-entry-test.true c.entry-item.is e row c.loop-entry.invariant (eqb-false x.dom.0 e (sym c.eq.ensures ∙ w.if-eq.false)))
    ]

pub returns : goal.returns
returns c =
    subst (λ xs. Sharers xs c.args.low.0 c.loop-entry.row) (c.as_slice-entries.ensures ∙ c.entries.ensures)
    (all_gathered c.as_slice-entries.result.now c.loop-entry.entry-index c.loop-entry-test.false c.args.low.0 c.loop-entry.row c.loop-entry.invariant)
