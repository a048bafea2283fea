use Rattle.std.proofs.Common.{◌≡◌, ◌+◌, ◌<◌, ap, rules, arith}
use Rattle.std.proofs.iter.runs.Sources.{range_runs}
use Rattle.slot_store.proofs.Chains.{by_answer, at_number, some_number}
use Rattle.slot_store.proofs.slots.SlotsLayout.is_sound.Goals as goal

pub returns : goal.returns
returns c =
    let p = c.all.ensures.runs.0 in
    let r = range_runs p p.seen in
    let first = ap (λ s. s.start) c.all.ensures.runs.1 in
    let last = ap (λ s. s.end) c.all.ensures.runs.1 in
    by_answer c.all.result c.all.ensures.runs.2
    (λ a k lt.
    let here : p.from.start + k ≡ k = omega (arith, first) in
    let called = at_number (p.at k) k _ _ (rw here at (r.3 k (omega (arith, r.1 a.0)))) (rw here at (r.2 k)) (a.1 (λ x y z h. search rules) k) in
    search rules)
    (λ b ok.
    let d = b (λ x y z h. search rules) in
    let e = some_number (p.at d.0) _ (λ x. (x ≡ p.from.start + d.0) × (x < p.from.end)) d.2 (r.2 d.0) in
    let m = ok e.0 (omega (arith, e.2.1, last)) in
    let called = e.1 in
    search rules)
