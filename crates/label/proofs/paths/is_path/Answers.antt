use Rattle.std.proofs.Common.{rules}
use Rattle.label.proofs.Parts.{path_components, path_back}
use Rattle.label.proofs.paths.is_path.Goals as goal

pub returns-else-is_empty : goal.returns-else-is_empty
returns-else-is_empty c = (
  λ e. path_components _ (search rules) (search rules) (search rules) (c.are_components.ensures.0 e),
  λ p. c.are_components.ensures.1 (path_back _ (search rules) p),
)
