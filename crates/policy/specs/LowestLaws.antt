-- What it is to be the lowest number that passes a test.
use Rattle.std.proofs.lemmas.Option.{none-some}
use Rattle.std.specs.Prelude.{◌≡◌, ℕ, zero, suc, ◌<◌, Bool, true, false, cond, ◌⊎◌, Some, None, Option}
use Rattle.std.proofs.Math.Path.{refl, ap}
use Rattle.std.proofs.Common.{sym, ◌∙◌, inl, inr, arith}
use Rattle.std.proofs.Math.Logic.{⊎_elim}
use Rattle.std.proofs.lemmas.Bool.{cond-false, cases_eq}
use Rattle.std.specs.Option.{option_or}
use Rattle.policy.specs.Lowest.{lowest}

-- k passes, and none below it does
pub record Lowest (f : ℕ → Bool) (n k : ℕ) : Type 0 where
  pub below : k < n
  pub passes : f k ≡ true
  pub others : (j : ℕ) → j < k → f j ≡ false

or_some : {X : Type 0} (a b : Option X) (x : X) → option_or a b ≡ Some x → (a ≡ Some x) ⊎ ((a ≡ None) × (b ≡ Some x))
or_some None b x e = inr (refl, e)
or_some (Some y) b x e = inl e

or_none : {X : Type 0} (a b : Option X) → option_or a b ≡ None → (a ≡ None) × (b ≡ None)
or_none None b e = (refl, e)
or_none (Some x) b e = absurd (none-some _ (sym e))

cond-some : (b : Bool) (n k : ℕ) → cond b (Some n) None ≡ Some k → (b ≡ true) × (n ≡ k)
cond-some true n k e = (refl, cc)
cond-some false n k e = absurd (none-some _ e)

cond-none : (b : Bool) (n : ℕ) → cond b (Some n) None ≡ None → b ≡ false
cond-none true n e = absurd (none-some _ (sym e))
cond-none false n e = refl

module _ (f : ℕ → Bool) where
  pub none_passes : (n : ℕ) → lowest f n ≡ None → (k : ℕ) → k < n → f k ≡ false
  unfolding lowest
  none_passes zero e k l = absurd (omega arith)
  none_passes (suc n) e k l =
      let h = or_none (lowest f n) _ e in
      ⊎_elim (λ s. ap f s ∙ cond-none _ n h.1) (λ s. none_passes n h.0 k (omega (arith, s))) (cases_eq k n)

  pub none-lowest : (n : ℕ) → ((k : ℕ) → k < n → f k ≡ false) → lowest f n ≡ None
  unfolding lowest
  none-lowest zero h = refl
  none-lowest (suc n) h =
      ap (λ x. option_or x (cond (f n) (Some n) None)) (none-lowest n (λ k l. h k (omega arith)))
      ∙ cond-false (f n) (Some n) None (h n (omega arith))

  pub is_lowest : (n k : ℕ) → lowest f n ≡ Some k → Lowest f n k
  unfolding lowest
  is_lowest zero k e = absurd (none-some _ e)
  is_lowest (suc n) k e =
      ⊎_elim
      (λ h. let r = is_lowest n k h in record { below = omega (arith, r.below); passes = r.passes; others = r.others })
      (λ h.
      let c = cond-some (f n) n k h.1 in
      record {
        below = omega (arith, c.1);
        passes = ap f (sym c.1) ∙ c.0;
        others = λ j l. none_passes n h.0 j (omega (arith, c.1));
      })
      (or_some (lowest f n) _ k e)
