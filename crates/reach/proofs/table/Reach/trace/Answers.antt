use Rattle.std.proofs.Common.{◌≡◌, ◌+◌, ◌-◌, ◌<◌, length, get_or, sym, ◌∙◌, arith, rules}
use Rattle.std.proofs.lemmas.List.{length-set}
use Rattle.reach.proofs.SteppingBack.{distance_bounds, has_step, parent_is, stepping_none, stepping_more, stepping_all}
use Rattle.reach.proofs.table.Reach.trace.Goals as goal

pub overflow_cast-nodes : goal.overflow_cast-nodes
overflow_cast-nodes c =
    let node : c.args.to < 160 = (distance_bounds _ _ _ (sym c.in_ok-n.ensures)).0 in
    search rules

pub bounds-nodes-n : goal.bounds-nodes-n
bounds-nodes-n c = omega (arith, (distance_bounds _ _ _ (sym c.in_ok-n.ensures)).1)

pub loop-k-init : goal.loop-k-init
loop-k-init c =
    let e = sym c.in_ok-n.ensures in
    stepping_none _ _ _ e c.args.nodes.now (omega (arith, (distance_bounds _ _ _ e).1))

pub bounds-nodes-k : goal.bounds-nodes-k
bounds-nodes-k c =
    omega (arith, (distance_bounds _ _ _ (sym c.in_ok-n.ensures)).1, simp length-set at c.loop-k.auto.nodes, c.loop-k.auto.k)

pub bounds-nodes-k-in-loop-k : goal.bounds-nodes-k-in-loop-k
bounds-nodes-k-in-loop-k c =
    omega (arith, (distance_bounds _ _ _ (sym c.in_ok-n.ensures)).1, simp length-set at c.loop-k.auto.nodes, c.loop-k.auto.k)

pub unwrap-requires : goal.unwrap-requires
unwrap-requires c =
    let e : (c.loop-k.k - 1) + 1 ≡ c.loop-k.k = omega arith in
    rw c.step.ensures (has_step c.args.self.now (get_or c.loop-k.nodes ((c.loop-k.k - 1) + 1) 0) c.loop-k.k (rw e c.loop-k.invariant.far))

pub loop-k-preserved : goal.loop-k-preserved
loop-k-preserved c =
    let e : (c.loop-k.k - 1) + 1 ≡ c.loop-k.k = omega arith in
    let small = (distance_bounds _ _ _ (sym c.in_ok-n.ensures)).1 in
    let long : length c.loop-k.nodes ≡ length c.args.nodes.now = simp length-set at c.loop-k.auto.nodes in
    let parent = parent_is c.args.self.now _ _ (sym c.step.ensures ∙ c.unwrap.ensures) in
    stepping_more _ _ _ (c.loop-k.k - 1) _ _ _ parent (omega (arith, c.loop-k.auto.k)) small (omega arith) (rw e c.loop-k.invariant)

pub returns-clause-nodes : goal.returns-clause-nodes
returns-clause-nodes c =
    let done : c.loop-k.k ≡ 0 = omega arith in
    let long : length c.loop-k.nodes ≡ length c.args.nodes.now = simp length-set at c.loop-k.auto.nodes in
    stepping_all _ _ _ _ _ (omega arith) (rw done at c.loop-k.invariant)
