use Rattle.std.proofs.Common.{◌<◌, false, ◌||◌, length, sym, refl, ap, ◌∙◌, subst, arith}
use Rattle.std.specs.Str.{bytes_eq}
use Rattle.std.proofs.lemmas.List.{length-set, get_or-replicate}
use Rattle.tables.specs.Entries.{enters, Entered}
use Rattle.tables.proofs.Enters.{entered_here, entered_elsewhere, entered_not, entered_at_end}
use Rattle.tables.proofs.entry.Entries.entered_by.Goals as goal
use Rattle.tables.proofs.entry.Entries.entered_by.Goals.{then-e-lt32+then-eq, else-e-lt32, else-e-lt32-via-then-e-lt32+else-eq, else-e-lt32-via-else-e-lt32}

pub loop-entry-init : goal.loop-entry-init
loop-entry-init c = (refl, λ e h. ap (λ b. b || enters c.deref-entry-items.result.now e c.args.path.now) (get_or-replicate 32 e false false h))

pub loop-entry-preserved : goal.loop-entry-preserved
loop-entry-preserved c =
    let x = c.entry-item.result in
    let p = c.args.path.now in
    elim c.if-e-lt32.branch [
      | then-e-lt32+then-eq w ↦
          let m : x.dom.0 < length c.loop-entry.entered = omega (arith, w.if-e-lt32.true, c.loop-entry.invariant.0) in (
            ap length w.entered-is ∙ length-set _ _ _ ∙ c.loop-entry.invariant.0,
            entered_here _ _ x p c.loop-entry-test.true c.entry-item.is _ c.loop-entry.invariant.1 _ w.entered-is m
                (sym w.if-eq.true ∙ w.eq.ensures ∙ ap (λ t. bytes_eq t p) w.as_bytes.ensures.value),
          )
      | else-e-lt32 w ↦ (
        ap length w.entered-is ∙ c.loop-entry.invariant.0,
        elim w.else-e-lt32.branch [
          | else-e-lt32-via-then-e-lt32+else-eq v ↦ entered_not _ _ x p c.loop-entry-test.true c.entry-item.is _ c.loop-entry.invariant.1 _ w.entered-is (sym v.if-eq.false ∙ v.eq.ensures ∙ ap (λ t. bytes_eq t p) v.as_bytes.ensures.value)
          | else-e-lt32-via-else-e-lt32 v ↦ entered_elsewhere _ _ x p c.loop-entry-test.true c.entry-item.is _ c.loop-entry.invariant.1 _ w.entered-is v.if-e-lt32.false
        ],
      )
    ]

pub returns : goal.returns
returns c =
    subst (λ xs. Entered xs c.args.path.now c.loop-entry.entered) c.deref-entry-items.ensures.value
    (entered_at_end c.deref-entry-items.result.now c.loop-entry.entry-index c.args.path.now c.loop-entry.entered c.loop-entry-test.false c.loop-entry.invariant.1)
