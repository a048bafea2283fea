use Rattle.std.proofs.Common.{[], rules}
use Rattle.tables.specs.Model.{model}
use Rattle.policy.proofs.Filled.{filled}
use Rattle.clash.specs.Sharing.{Sharers}
use Rattle.clash.proofs.sharing.Sharing.of.Goals as goal

pub invariant_of-result : goal.invariant_of-result
invariant_of-result c =
    record { shared = λ e l. filled 32 (λ k row. Sharers (model c.args.tables.now).entries k row) (λ i y q b h. (search rules, search rules)) _ c.from_fn.ensures.items e [] l }
