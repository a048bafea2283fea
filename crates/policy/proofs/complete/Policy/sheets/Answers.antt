use Rattle.std.proofs.Common.{◌<◌, ◌≤◌, length, ap, arith, rules}
use Rattle.policy.specs.Grants.{path_of}
use Rattle.policy.specs.Holds.{model_of}
use Rattle.policy.specs.Sheets.{SheetFor, written, number_of}
use Rattle.policy.proofs.Filled.{filled}
use Rattle.policy.proofs.complete.Policy.sheets.Goals as goal

pub returns : goal.returns
returns c =
    let m = model_of c.args.self.now in
    let made = filled 128 (λ o s. o < length m.objects → SheetFor m (path_of m o) s) (λ i y q h k. (search rules, search rules)) _ c.from_fn.ensures.items in
    let few : length m.objects ≤ 128 = omega (arith, c.args.self.now.tables.objects.few, c.args.self.now.tables.objects.list.ok.0) in
    record {
      cells = λ at h. ap written ((made at.0 _ (omega (arith, few, h.0)) h.0).cells at.1 h.1);
      types = λ o h. ap number_of (made o _ (omega (arith, few, h)) h).typ;
    }
