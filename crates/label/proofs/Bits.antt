-- A set of letters as bits has what it should.
use Rattle.std.proofs.Common.{◌≡◌, ℕ, ◌+◌, ◌-◌, ◌*◌, ◌/◌, ◌%◌, ◌^◌, ◌<◌, Bool, true, false, cond, not, ◌||◌, eqb, ◌⊎◌, Some, None, Option, sym, refl, ap, ◌∙◌, subst, inl, inr, ⊎_elim, mod-lt, mul-pos, zero-mul, arith, pow_pos}
use lib.Bits.{bit_and, bit_or, and_high, or_shr, or_mod}
use Rattle.std.proofs.lemmas.Bool.{cond_both, cases_eq, eq-eqb, ne_eqb}
use Rattle.label.specs.Letters.{bit, meets, letter_r, letter_w, letter_a, letter_x, letter_c, letter_d}
use Rattle.label.specs.Sets.{Sets}

-- a single bit, the one of number k
abbrev single : ℕ → ℕ
single k = 2 ^ (1 + k) - 2 ^ k

-- what the bit of number k is in s
abbrev digit : ℕ → ℕ → ℕ
digit k s = s / 2 ^ k % 2 ^ 1

two_digits : (n : ℕ) → n < 2 → (n ≡ 0) ⊎ (n ≡ 1)
two_digits n l = ⊎_elim inl (λ h. inr (omega (arith, h))) (cases_eq n 0)

either : (u v : ℕ) → (u ≡ 0) ⊎ (u ≡ 1) → (v ≡ 0) ⊎ (v ≡ 1) → eqb (bit_or u v) 0 ≡ (cond (eqb u 0) (eqb v 0) false)
either u v (inl a) (inl b) = ap (λ x. eqb (bit_or x v) 0) a ∙ ap (λ y. eqb (bit_or 0 y) 0) b ∙ sym (ap (λ x. cond (eqb x 0) (eqb v 0) false) a ∙ ap (λ y. eqb y 0) b)
either u v (inl a) (inr b) = ap (λ x. eqb (bit_or x v) 0) a ∙ ap (λ y. eqb (bit_or 0 y) 0) b ∙ sym (ap (λ x. cond (eqb x 0) (eqb v 0) false) a ∙ ap (λ y. eqb y 0) b)
either u v (inr a) (inl b) = ap (λ x. eqb (bit_or x v) 0) a ∙ ap (λ y. eqb (bit_or 1 y) 0) b ∙ sym (ap (λ x. cond (eqb x 0) (eqb v 0) false) a)
either u v (inr a) (inr b) = ap (λ x. eqb (bit_or x v) 0) a ∙ ap (λ y. eqb (bit_or 1 y) 0) b ∙ sym (ap (λ x. cond (eqb x 0) (eqb v 0) false) a)

module _ (k : ℕ) where
  meets_digit : (s : ℕ) → eqb (bit_and s (single k)) 0 ≡ eqb (digit k s) 0
  meets_digit s = ap (λ x. eqb x 0) (and_high s 1 k) ∙ zero_times (digit k s)
    where
      zero_times : (n : ℕ) → eqb (n * 2 ^ k) 0 ≡ eqb n 0
      zero_times n =
          ⊎_elim
          (λ e. eq-eqb (n * 2 ^ k) 0 (ap (λ x. x * 2 ^ k) e ∙ zero-mul (2 ^ k)) ∙ sym (eq-eqb n 0 e))
          (λ e.
          let p : 0 < n * 2 ^ k = mul-pos (let q : 0 < n = omega (arith, e) in q) (pow_pos k) in
          ne_eqb (n * 2 ^ k) 0 (λ z. omega (arith, z, p)) ∙ sym (ne_eqb n 0 e))
          (cases_eq n 0)

  digit_or : (s t : ℕ) → digit k (bit_or s t) ≡ bit_or (digit k s) (digit k t)
  digit_or s t = ap (λ x. x % 2 ^ 1) (or_shr s t k) ∙ or_mod (s / 2 ^ k) (t / 2 ^ k) 1

  meets-or : (s t : ℕ) → meets (bit_or s t) (Some (single k)) ≡ (meets s (Some (single k)) || meets t (Some (single k)))
  meets-or s t =
      ap not
      (meets_digit (bit_or s t)
      ∙ ap (λ x. eqb x 0) (digit_or s t)
      ∙ either (digit k s) (digit k t) (two_digits _ (mod-lt (s / 2 ^ k) {m = 2} (omega arith))) (two_digits _ (mod-lt (t / 2 ^ k) {m = 2} (omega arith))))
      ∙ joined (eqb (digit k s) 0) (eqb (digit k t) 0)
      ∙ sym (ap (λ x. not x || meets t (Some (single k))) (meets_digit s) ∙ ap (λ y. not (eqb (digit k s) 0) || not y) (meets_digit t))
    where
      joined : (a b : Bool) → not (cond a b false) ≡ (not a || not b)
      joined true b = refl
      joined false b = refl

-- each letter has a single bit
abbrev Single : Option ℕ → Type 0
Single None = Unit {0}
Single (Some b) = (k : ℕ) × (b ≡ single k)

single_bit : (l : ℕ) → Single (bit l)
single_bit l =
    cond_both (eqb l letter_r) _ _ Single (λ _. (0, refl))
    (λ _. cond_both (eqb l letter_w) _ _ Single (λ _. (1, refl))
    (λ _. cond_both (eqb l letter_a) _ _ Single (λ _. (2, refl))
    (λ _. cond_both (eqb l letter_x) _ _ Single (λ _. (3, refl))
    (λ _. cond_both (eqb l letter_c) _ _ Single (λ _. (4, refl)) (λ _. cond_both (eqb l letter_d) _ _ Single (λ _. (5, refl)) (λ _. tt))))))

union_by : (o : Option ℕ) → Single o → (s t : ℕ) → meets (bit_or s t) o ≡ (meets s o || meets t o)
union_by None h s t = refl
union_by (Some b) h s t = subst (λ x. meets (bit_or s t) (Some x) ≡ (meets s (Some x) || meets t (Some x))) (sym h.1) (meets-or h.0 s t)

none_by : (o : Option ℕ) → meets 0 o ≡ false
none_by None = refl
none_by (Some b) = refl

pub sets : Sets
sets = record { none_has = λ l. none_by (bit l); union_has = λ s t l. union_by (bit l) (single_bit l) s.bits t.bits }
