use Rattle.std.proofs.Common.{◌≡◌, ◌<◌, true, false, length, get_or, sym, subst, rules}
use Rattle.std.proofs.ByRecursion.{All-more}
use Rattle.tables.specs.declared.table.Apart.{Apart}
use Rattle.policy.specs.Abstract.{asked}
use Rattle.policy.specs.Holds.{model_of}
use Rattle.draft.specs.Breaks.{Chained}
use Rattle.draft.specs.Endings.{KeptApart, FirstBroken}
use Rattle.draft.proofs.Breaking.{broken_here}
use Rattle.draft.proofs.aparts.first_broken.Goals as goal

none : Apart
none = record { from = record { 0 = 0 }; to = record { 0 = 0 } }

pub returns-then-is_broken : goal.returns-then-is_broken
unfolding none
returns-then-is_broken c =
    let P = asked c.args.decisions.now.policy in
    let e : c.aparts-apart-items.result.now ≡ (model_of c.args.decisions.now.policy).aparts = search rules in
    let l : c.loop-apart.apart-index < length (model_of c.args.decisions.now.policy).aparts = subst (λ xs. c.loop-apart.apart-index < length xs) e (search rules) in
    subst (λ xs. FirstBroken P (model_of c.args.decisions.now.policy).aparts ((get_or xs c.loop-apart.apart-index none).from, (get_or xs c.loop-apart.apart-index none).to)) (sym e)
    (broken_here P (model_of c.args.decisions.now.policy).aparts none c.loop-apart.apart-index l c.loop-apart.invariant
    (subst (λ xs. Chained P (get_or xs c.loop-apart.apart-index none) true) e c.if-is_broken.ensures))

pub loop-apart-preserved : goal.loop-apart-preserved
unfolding none
loop-apart-preserved c =
    let P = asked c.args.decisions.now.policy in
    let e : c.aparts-apart-items.result.now ≡ (model_of c.args.decisions.now.policy).aparts = search rules in
    let l : c.loop-apart.apart-index < length (model_of c.args.decisions.now.policy).aparts = subst (λ xs. c.loop-apart.apart-index < length xs) e (search rules) in
    All-more (KeptApart P) (model_of c.args.decisions.now.policy).aparts c.loop-apart.apart-index none l c.loop-apart.invariant
    (subst (λ xs. Chained P (get_or xs c.loop-apart.apart-index none) false) e c.if-is_broken.ensures)
