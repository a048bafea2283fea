-- What is written of a set of letters.
use Rattle.std.specs.Prelude.{ℕ, cond, List, codes, filter, ◌==◌}
use Rattle.label.specs.declared.rights.Rights.{Rights}
use Rattle.label.specs.Letters.{has}

-- those of the letters that the set has
abbrev pub those : Rights → List ℕ → List ℕ
those s ls = filter (has s) ls

-- its letters in their order; a dash stands for none
abbrev pub letters : Rights → List ℕ
letters s = cond (s.bits == 0) (codes "-") (those s (codes "rwaxcd"))
