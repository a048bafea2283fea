-- What stands at the places of a list.
use Rattle.std.proofs.Common.{◌≡◌, ℕ, zero, suc, ◌+◌, ◌<◌, ◌≤◌, Bool, true, false, cond, List, [], ◌∷◌, ◌++◌, map, length, get_or, set, replicate, is_some, Some, None, Option, refl, ap, subst, subst₂, ⊎_elim, arith}
use Rattle.std.proofs.lemmas.Slice.Eq.{bytes_eq-Decides}
use Rattle.std.proofs.lemmas.List.{length_push, get_or_append_left, get_or_push}
use Rattle.std.proofs.lemmas.Bool.{true≢false, both_ways, cases_lt, and_from, or_parts, eq-eqb}
use Rattle.std.specs.Str.{bytes_eq}
use Rattle.label.specs.Texts.{text}
use Rattle.lists.specs.Places.{place_from, place_of}
use Rattle.tables.specs.Entries.{is_for, enters}
use Rattle.tables.specs.declared.entry.Entry.{Entry}
use Rattle.sound_tables.specs.Sound.{NoTwo, SameEntry}

pub longer : {X : Type 0} (xs : List X) (x : X) → length xs ≤ length (xs ++ x ∷ [])
longer xs x = let h = length_push xs x in omega (arith, h)

-- what holds of the new one and of the old one holds after a write
pub after_write : {X : Type 0} (P : X → Type 0) (xs : List X) (i j : ℕ) (a d : X) → (j ≡ i → P a) → P (get_or xs j d) → P (get_or (set xs i a) j d)
after_write P [] i j a d here there = there
after_write P (x ∷ xs) zero zero a d here there = here refl
after_write P (x ∷ xs) zero (suc j) a d here there = there
after_write P (x ∷ xs) (suc i) zero a d here there = there
after_write P (x ∷ xs) (suc i) (suc j) a d here there = after_write P xs i j a d (λ e. here (ap suc e)) there

pub in_copies : {X : Type 0} (P : X → Type 0) (n i : ℕ) (a d : X) → P a → P d → P (get_or (replicate n a) i d)
in_copies P zero i a d one past = past
in_copies P (suc n) zero a d one past = one
in_copies P (suc n) (suc i) a d one past = in_copies P n i a d one past

pub no_two_of_none : {X : Type 0} (Alike : X → X → Type 0) → NoTwo Alike []
no_two_of_none Alike i j x l = absurd (omega arith)

module _ {X : Type 0} (Alike : X → X → Type 0) (flip : (a b : X) → Alike a b → Alike b a) (xs : List X) (x : X) where
  pub no_two_push : NoTwo Alike xs → ((i : ℕ) (d : X) → i < length xs → Alike (get_or xs i d) x → ⊥) → NoTwo Alike (xs ++ x ∷ [])
  no_two_push none new i j d li lj a =
      ⊎_elim
      (λ oi.
      ⊎_elim
      (λ oj. none i j d oi oj (subst₂ Alike (old i oi) (old j oj) a))
      (λ nj. absurd (new i d oi (subst₂ Alike (old i oi) (last j lj nj) a)))
      (cases_lt j (length xs)))
      (λ ni.
      ⊎_elim
      (λ oj. absurd (new j d oj (flip _ _ (subst₂ Alike (last i li ni) (old j oj) a))))
      (λ nj. omega (arith, length_push xs x))
      (cases_lt j (length xs)))
      (cases_lt i (length xs))
    where
      old : (k : ℕ) → k < length xs → get_or (xs ++ x ∷ []) k d ≡ get_or xs k d
      old k l = get_or_append_left xs (x ∷ []) d k l

      last : (k : ℕ) → k < length (xs ++ x ∷ []) → length xs ≤ k → get_or (xs ++ x ∷ []) k d ≡ x
      last k l n = get_or_push xs x d k (omega (arith, length_push xs x))

-- ── Look-ups ──

none_first : (b : Bool) (n : ℕ) (o : Option ℕ) → is_some (cond b (Some n) o) ≡ false → (b ≡ false) × (is_some o ≡ false)
none_first true n o e = absurd (true≢false e)
none_first false n o e = (refl, e)

-- a text that is found nowhere stands nowhere
pub stands_nowhere : {X : Type 0} (f : X → List ℕ) (n : ℕ) (xs : List X) (s : List ℕ) → is_some (place_from n (map f xs) s) ≡ false → (i : ℕ) (d : X) → i < length xs → f (get_or xs i d) ≡ s → ⊥
unfolding place_from
stands_nowhere f n [] s e i d l h = omega arith
stands_nowhere f n (x ∷ xs) s e zero d l h = both_ways (bytes_eq (f x) s) (none_first _ _ _ e).0 ((bytes_eq-Decides (f x) s).1 h)
stands_nowhere f n (x ∷ xs) s e (suc i) d l h = stands_nowhere f (suc n) xs s (none_first (bytes_eq (f x) s) n _ e).1 i d (omega arith) h

-- a number that is found is that of a place
abbrev BelowBy : ℕ → Option ℕ → Type 0
BelowBy n None = Unit {0}
BelowBy n (Some k) = k < n

first_below : (b : Bool) (n m : ℕ) (o : Option ℕ) → n < m → BelowBy m o → BelowBy m (cond b (Some n) o)
first_below true n m o l h = l
first_below false n m o l h = h

found_below : {X : Type 0} (f : X → List ℕ) (n m : ℕ) (xs : List X) (s : List ℕ) → n + length xs ≤ m → BelowBy m (place_from n (map f xs) s)
unfolding place_from
found_below f n m [] s l = tt
found_below f n m (x ∷ xs) s l = first_below (bytes_eq (f x) s) n m _ (omega arith) (found_below f (suc n) m xs s (omega arith))

pub place_below : {X : Type 0} (f : X → List ℕ) (xs : List X) (s : List ℕ) (k : ℕ) → place_of (map f xs) s ≡ Some k → k < length xs
place_below f xs s k e = subst (BelowBy (length xs)) e (found_below f 0 (length xs) xs s (omega arith))

-- what is no entry path of the domain stands nowhere as one
pub enters_nowhere : (xs : List Entry) (x : Entry) → enters xs x.dom.0 (text x.path) ≡ false → (i : ℕ) (d : Entry) → i < length xs → SameEntry (get_or xs i d) x → ⊥
enters_nowhere [] x e i d l h = omega arith
enters_nowhere (y ∷ xs) x e zero d l h =
    both_ways (is_for y x.dom.0 (text x.path))
    (or_parts _ _ e).0
    (and_from _ _ (eq-eqb y.dom.0 x.dom.0 (ap (λ z. z.0) h.0)) ((bytes_eq-Decides (text y.path) (text x.path)).1 h.1))
enters_nowhere (y ∷ xs) x e (suc i) d l h = enters_nowhere xs x (or_parts (is_for y x.dom.0 (text x.path)) _ e).1 i d (omega arith) h
