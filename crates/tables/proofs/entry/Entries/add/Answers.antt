use Rattle.std.proofs.Common.{is_ok, vec_items, rules}
use Rattle.tables.proofs.Enters.{few_after_push}
use Rattle.tables.proofs.entry.Entries.add.Goals as goal

pub invariant_of-self : goal.invariant_of-self
invariant_of-self c = record {
  few =
      few_after_push (vec_items c.args.self.now.list) (vec_items c.push.new.self) c.args.entry (is_ok c.push.result) c.push.ensures.items c.args.self.now.few
      (search rules);
}
