-- What a search upward finds is the lowest number that passes a test.
use Rattle.std.proofs.Common.{◌≡◌, ℕ, suc, ◌<◌, ◌≤◌, Bool, true, false, cond, Some, None, Option, MatchOption, sym, ap, ◌∙◌, arith}
use native.Mathlib.Decide.{le_ind}
use Rattle.std.proofs.lemmas.Bool.{cond-true}
use Rattle.std.specs.Option.{option_or}
use Rattle.policy.specs.Lowest.{lowest}
use Rattle.policy.specs.LowestLaws.{none-lowest}

module _ (f : ℕ → Bool) where
  pub lowest_here : (n m : ℕ) → n < m → lowest f n ≡ None → f n ≡ true → Some n ≡ lowest f m
  unfolding lowest
  lowest_here n m h e l =
      sym (le_ind {n = suc n} (λ k. lowest f k ≡ Some n) (ap (λ x. option_or x (cond (f n) (Some n) None)) e ∙ cond-true _ _ _ l)
      (λ k _ q. ap (λ x. option_or x (cond (f k) (Some k) None)) q)
      m (omega arith))

  pub lowest_found : (n : ℕ) (r : Option ℕ) → MatchOption r ((k : ℕ) → 0 ≤ k → k < n → f k ≡ false) (λ i. (0 ≤ i) × (i < n) × (f i ≡ true) × ((k : ℕ) → 0 ≤ k → k < i → f k ≡ false)) → r ≡ lowest f n
  lowest_found n None h = sym (none-lowest f n (λ k l. h k (omega arith) l))
  lowest_found n (Some i) h = lowest_here i n h.1 (none-lowest f i (λ k l. h.3 k (omega arith) l)) h.2
