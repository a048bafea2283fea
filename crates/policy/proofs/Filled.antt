-- What `array::from_fn` fills an array with.
use Rattle.std.proofs.Common.{◌≡◌, ℕ, zero, suc, ◌+◌, ◌<◌, ◌≤◌, List, get_or, sym, subst, ⊎_elim, arith}
use Rattle.std.proofs.lemmas.Bool.{cases_eq}
use Rattle.std.specs.Array.{IsFromFnResult, IsFromFnResultFrom}
use Rattle.std.specs.Fn.{Called}
use denote.Param.Members.{Mut}

-- where calls leave the closure as it was, each place has what a call at its index gives
module _ {F B : Type 0} {g : Mut F (ℕ × Unit {0}) B} {f : F} (n : ℕ) (P : ℕ → B → Type 0) (gives : (i : ℕ) (y : B) (q : F) → i < n → Called g f (i, tt) y q → (q ≡ f) × P i y) where
  filled_from : (i m : ℕ) (ys : List B) → i + m ≡ n → IsFromFnResultFrom g f ys i m → (k : ℕ) (e : B) → i ≤ k → k < n → P k (get_or ys k e)
  filled_from i zero ys s h k e l b = absurd (omega arith)
  filled_from i (suc m) ys s h k e l b =
      let here = gives i h.1 h.0 (omega arith) h.3 in
      ⊎_elim
      (λ same. subst (λ j. P j (get_or ys j e)) (sym same) (subst (P i) (sym (h.2.1 e)) here.1))
      (λ other. filled_from (i + 1) m ys (omega arith) (subst (λ q. IsFromFnResultFrom g q ys (i + 1) m) here.0 h.4) k e (omega (arith, other)) b)
      (cases_eq k i)

  pub filled : (ys : List B) → IsFromFnResult g f ys n → (k : ℕ) (e : B) → k < n → P k (get_or ys k e)
  filled ys h k e l = filled_from 0 n ys (omega arith) h.each k e (omega arith) l
