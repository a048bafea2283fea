-- A text from a place on.
use Rattle.std.proofs.Common.{◌≡◌, ℕ, ◌+◌, ◌<◌, List, ◌∷◌, length, get_or, drop, sym, ap, ◌∙◌, arith}
use Rattle.std.proofs.lemmas.Grind.{common_steps}
use Rattle.std.proofs.lemmas.List.{drop-drop, length-drop}

module _ (text : List ℕ) (p b : ℕ) (bs : List ℕ) (left : drop p text ≡ b ∷ bs) where
  pub byte_at : get_or text p 0 ≡ b
  byte_at = grind (arith, common_steps, left)

  pub rest_at : drop (p + 1) text ≡ bs
  rest_at = sym (drop-drop 1 p text) ∙ ap (λ l. drop 1 l) left

  pub within_text : p < length text
  within_text = omega (arith, sym (length-drop p text) ∙ ap length left)
