-- Lists of marks.
use Rattle.std.proofs.Common.{◌≡◌, ℕ, ◌+◌, ◌<◌, Bool, true, false, ◌⊎◌, List, length, get_or, set, replicate, sym, ◌∙◌, inl, inr, ⊎_elim, arith}
use Rattle.std.proofs.lemmas.List.{get_or-replicate, get_or_past, length-replicate, get_or-set_same, get_or-set_other}
use Rattle.std.proofs.lemmas.Bool.{true≢false, cases_lt, cases_eq}

pub blank : (n v : ℕ) → get_or (replicate n false) v false ≡ false
blank n v = ⊎_elim (λ h. get_or-replicate n v false false h) (λ h. get_or_past (replicate n false) v false (rw length-replicate h)) (cases_lt v n)

pub marked_new : (xs : List Bool) (i v : ℕ) → get_or (set xs i true) v false ≡ true → (v ≡ i) ⊎ (get_or xs v false ≡ true)
marked_new xs i v h = ⊎_elim inl (λ q. inr (sym (get_or-set_other xs i v true false q) ∙ h)) (cases_eq v i)

pub marked_here : (xs : List Bool) (i : ℕ) → i < length xs → get_or (set xs i true) i false ≡ true
marked_here xs i h = get_or-set_same xs i true false h

-- one mark on a blank list
pub one_mark : (n i v : ℕ) → get_or (set (replicate n false) i true) v false ≡ true → v ≡ i
one_mark n i v h = ⊎_elim (λ e. e) (λ q. absurd (true≢false (sym q ∙ blank n v))) (marked_new (replicate n false) i v h)

pub one_mark_here : (n i : ℕ) → i < n → get_or (set (replicate n false) i true) i false ≡ true
one_mark_here n i h = marked_here (replicate n false) i (rw length-replicate h)

pub domains_apart : (i j : ℕ) → 128 + i ≡ 128 + j → i ≡ j
domains_apart i j h = omega arith
