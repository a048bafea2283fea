use Rattle.std.proofs.Common.{◌≡◌, ◌*◌, ◌/◌, min, length, vec_items, ap, rules, ◌∙◌}
use Rattle.std.proofs.Math.Nat.{mul-div_cancel_left}
use Rattle.store_report.proofs.fresh_in.Goals as goal

pub returns : goal.returns
returns g c =
    let l = g.met.L.Image in
    let ys = vec_items c.into_memory.result in
    let long : length ys ≡ g.L.Layout.PLACE * c.args.places = search rules in
    record {
      image = search rules;
      places = l.counts ys ∙ ap (λ n. min (n / g.L.Layout.PLACE) 128) long ∙ ap (λ n. min n 128) (mul-div_cancel_left c.args.places g.L.Layout.some);
      contents = l.holds ys ∙ search rules;
    }
