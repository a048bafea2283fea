-- The place of a text is that of the first label that has it.
use Rattle.std.proofs.Common.{◌≡◌, ℕ, suc, cond, List, [], ◌∷◌, map, Some, refl, ap, ◌∙◌, add-one}
use Rattle.std.proofs.lemmas.Iterator.Adapters.{position_from-zero}
use Rattle.std.specs.List.{position, position_from}
use Rattle.std.specs.Str.{bytes_eq}
use Rattle.lists.specs.Places.{place_from, place_of}

module _ {X : Type 0} (f : X → List ℕ) (s : List ℕ) where
  position_from_is : (n : ℕ) (xs : List X) → position_from (λ x. bytes_eq (f x) s) n xs ≡ place_from n (map f xs) s
  unfolding place_from
  position_from_is n [] = refl
  position_from_is n (x ∷ xs) =
      ap (λ o. cond (bytes_eq (f x) s) (Some n) o)
      (ap (λ k. position_from (λ y. bytes_eq (f y) s) k xs) (add-one n) ∙ position_from_is (suc n) xs)

  pub position_is : (xs : List X) → position (λ x. bytes_eq (f x) s) xs ≡ place_of (map f xs) s
  position_is xs = position_from-zero (λ x. bytes_eq (f x) s) xs ∙ position_from_is 0 xs
