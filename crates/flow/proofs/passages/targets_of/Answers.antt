use Rattle.std.proofs.Common.{◌≡◌, ◌+◌, false, ◌||◌, get_or, sym, ap, ◌∙◌, subst, rules}
use Rattle.policy.specs.Abstract.{asked}
use Rattle.policy.specs.Holds.{model_of}
use Rattle.policy.specs.Passages.{pass}
use Rattle.policy.proofs.Asks.{asks}
use Rattle.flow.specs.Passages.{TargetsOf}
use Rattle.flow.proofs.Bounded.{pass_from}
use Rattle.flow.proofs.Filling.{filled}
use Rattle.flow.proofs.Targets.{none_yet, by_this_too, not_by_this}
use Rattle.flow.proofs.passages.targets_of.Goals as goal
use Rattle.flow.proofs.passages.targets_of.Goals.{then-may_run, else-may_run}

pub loop-o-init : goal.loop-o-init
loop-o-init c = none_yet (asked c.args.policy.now.policy) c.args.dom.0

pub loop-o-preserved : goal.loop-o-preserved
loop-o-preserved c =
    let p = c.args.policy.now.policy in
    let d = c.args.dom.0 in
    let o = c.loop-o.o in
    let row = c.loop-o.targets in
    elim c.if-may_run.branch [
      | then-may_run w ↦
          subst (TargetsOf (asked p) d (o + 1)) (sym w.targets-is)
          (by_this_too (asked p) d o row c.loop-o.invariant w.from_fn-targets.result
          (λ e l.
          filled _ _ (λ i r. r ≡ (get_or row i false || pass (model_of p) d o i)) (λ i r f q. search rules) _ _ w.from_fn-targets.ensures.items e false l
          ∙ ap (λ b. get_or row e false || b) (sym (asks.passes p d o e))))
      | else-may_run w ↦
          subst (TargetsOf (asked p) d (o + 1)) (sym w.targets-is)
          (not_by_this (asked p) d o row c.loop-o.invariant (pass_from p d) (sym c.may_run.ensures ∙ w.if-may_run.false))
    ]
