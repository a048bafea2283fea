-- A word is read as a thing exactly where it is that thing's spelling.
use Rattle.std.proofs.Common.{◌≡◌, ℕ, List, [], ◌∷◌, Some, ap, ◌∙◌, arith}
use Rattle.std.proofs.lemmas.Slice.Eq.{bytes_eq-Decides}
use Rattle.words.specs.Spelled.{spelled_so, EachReadBack, ReadAsSpelled}

module _ {K : Type 0} (spelling : K → List ℕ) where
  spelled_is : (ks : List K) (w : List ℕ) (k : K) → spelled_so spelling ks w ≡ Some k → w ≡ spelling k
  spelled_is [] w k e = grind arith
  spelled_is (j ∷ js) w k e = grind (arith, bytes_eq-Decides w (spelling j), spelled_is js w k)

  pub read_as_spelled : (ks : List K) → EachReadBack spelling ks → ReadAsSpelled spelling (spelled_so spelling ks)
  read_as_spelled ks own w k = (spelled_is ks w k, λ e. ap (spelled_so spelling ks) e ∙ own k)
