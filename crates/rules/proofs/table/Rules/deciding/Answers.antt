use Rattle.std.proofs.Common.{sym, ap, ◌∙◌}
use Rattle.rules.specs.Typing.{deciding}
use Rattle.rules.proofs.Highest.{higher, claims_no_more, covers-not, highest_at_end}
use Rattle.rules.proofs.table.Rules.deciding.Goals as goal
use Rattle.rules.proofs.table.Rules.deciding.Goals.{then-claim-most+then-covers, else-claim-most, else-claim-most-via-then-claim-most+else-covers, else-claim-most-via-else-claim-most}

pub loop-rule-preserved : goal.loop-rule-preserved
loop-rule-preserved c =
    elim c.if-claim-most.branch [
      | then-claim-most+then-covers w ↦ higher _ _ _ _ _ _ c.loop-rule-test.true c.rule-item.is c.loop-rule.invariant _ _ _ c.claim-claim.ensures (sym w.if-covers.true ∙ w.covers.ensures) w.most-is w.best-is w.if-claim-most.true
      | else-claim-most w ↦ elim w.else-claim-most.branch [
        | else-claim-most-via-then-claim-most+else-covers v ↦ covers-not _ _ _ _ _ _ c.loop-rule-test.true c.rule-item.is c.loop-rule.invariant _ _ (sym v.if-covers.false ∙ v.covers.ensures) w.most-is w.best-is
        | else-claim-most-via-else-claim-most v ↦ claims_no_more _ _ _ _ _ _ c.loop-rule-test.true c.rule-item.is c.loop-rule.invariant _ _ _ c.claim-claim.ensures w.most-is w.best-is v.if-claim-most.false
      ]
    ]

pub returns : goal.returns
returns c =
    highest_at_end _ _ _ _ _ c.loop-rule-test.false c.loop-rule.invariant
    ∙ ap (λ x. deciding x c.args.path.now) c.deref-rule-items.ensures.value
