-- An array that is filled by calls of a function that stays as it was.
use Rattle.std.proofs.Common.{◌≡◌, ℕ, zero, suc, ◌+◌, ◌<◌, ◌≤◌, List, get_or, sym, refl, subst, ⊎_elim, arith}
use Rattle.std.proofs.lemmas.Bool.{cases_eq}
use Rattle.std.specs.Array.{IsFromFnResult, IsFromFnResultFrom}
use denote.Param.Members.{Mut, Called}

module _ {F B : Type 0} (g : Mut F (ℕ × Unit {0}) B) (f : F) (P : ℕ → B → Type 0)
    (each : (i : ℕ) (r : B) (f' : F) → Called g f (i, tt) r f' → (f' ≡ f) × P i r) where
  filled_from : (p : F) → p ≡ f → (xs : List B) (i n : ℕ) → IsFromFnResultFrom g p xs i n → (k : ℕ) (d : B) → i ≤ k → k < i + n → P k (get_or xs k d)
  filled_from p e xs i zero h k d l m = absurd (omega arith)
  filled_from p e xs i (suc n) h k d l m =
      let s = each i h.1 h.0 (subst (λ x. Called g x (i, tt) h.1 h.0) e h.3) in
      ⊎_elim
      (λ same. subst (λ j. P j (get_or xs j d)) (sym same) (subst (P i) (sym (h.2.1 d)) s.1))
      (λ other. filled_from h.0 s.0 xs (i + 1) n h.4 k d (omega (arith, other)) (omega arith))
      (cases_eq k i)

  pub filled : (xs : List B) (n : ℕ) → IsFromFnResult g f xs n → (k : ℕ) (d : B) → k < n → P k (get_or xs k d)
  filled xs n h k d l = filled_from f refl xs 0 n h.each k d (omega arith) (omega arith)
