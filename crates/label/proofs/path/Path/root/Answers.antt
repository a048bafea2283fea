use Rattle.std.proofs.Common.{codes, sym, refl}
use Rattle.label.specs.Held.{pathed_held}
use Rattle.label.proofs.Parts.{path_root}
use Rattle.label.proofs.path.Path.root.Goals as goal

pub returns-clause-value : goal.returns-clause-value
returns-clause-value c = sym (pathed_held _ (codes "/") (path_root (codes "/") refl refl) c.of.ensures.bytes c.of.ensures.len)
