use Rattle.std.proofs.Common.{◌≡◌, Some, rules}
use Rattle.policy.specs.Cells.{cell_of}
use Rattle.policy.specs.Grants.{type_at}
use Rattle.policy.specs.Holds.{model_of}
use Rattle.policy.specs.Sheets.{blank_cell}
use Rattle.policy.proofs.Filled.{filled}
use Rattle.policy.proofs.complete.Policy.sheet.Goals as goal

pub returns : goal.returns
returns c =
    let s = c.site-site.result in
    let n = model_of s.policy.now in
    let typed : Some s.typ ≡ type_at n s.path.now = s.typed in
    let policy = c.site-site.ensures.policy in
    let path = c.site-site.ensures.path in
    record {
      typ = cc;
      cells = λ d l.
          let made = filled 32 (λ k x. x ≡ cell_of n k s.path.now (type_at n s.path.now)) (λ i y q h k. (search rules, search rules)) _ c.from_fn.ensures.items d blank_cell l in
          cc;
    }
