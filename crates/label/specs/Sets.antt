-- Rights are sets of letters.
use Rattle.std.specs.Prelude.{◌≡◌, ℕ, false, ◌||◌}
use Rattle.label.specs.Letters.{none, union, has}
use Rattle.label.specs.declared.rights.Rights.{Rights}

pub record Sets : Type 0 where
  pub none_has : (l : ℕ) → has none l ≡ false
  pub union_has : (s t : Rights) (l : ℕ) → has (union s t) l ≡ (has s l || has t l)
