-- What a write to one slot does to the contents of the memory.
use Rattle.std.proofs.Common.{◌≡◌, ℕ, ◌+◌, ◌-◌, ◌*◌, ◌/◌, ◌<◌, ◌≤◌, min, true, false, eqb, ltb, List, length, set, Some, None, Option, sym, refl, ap, ◌∙◌, ⊎_elim, arith, length-drop, length-take, get_or-set_other, get_or-set_same, rules}
use Rattle.std.proofs.Math.Path.{fun_ext}
use Rattle.std.proofs.lemmas.List.{get_or-take, get_or-drop, ext_get_or, places}
use Rattle.std.proofs.lemmas.Bool.{cases_eq, eq-eqb, ne_eqb, cases_lt, lt-ltb, le-ltb, cond-true, cond-false}
use Rattle.std.specs.Map.{update}
use Rattle.std.proofs.lemmas.Map.{update_here, update_apart}
use Rattle.store.specs.Meaning.{Contents, Short, all_absent}
use Rattle.slot_store.specs.Layout.{slot_places, mark, slot_bytes, slot_at, slot_contents, Marked, SlotIs, Laid}
use Rattle.slot_store.specs.LayoutLaws.{beyond_absent, contents_here}
use Rattle.slot_store.specs.Frame.{Wrote, Unmarked}

module _ (xs ys : List ℕ) (at m : ℕ) (here : at < slot_places xs) (w : Wrote xs ys at m) where
  same_places : slot_places ys ≡ slot_places xs
  same_places = ap (λ n. min (n / 65) 128) w.long

  other_mark_stays : (k : ℕ) → (k ≡ at → ⊥) → mark ys k ≡ mark xs k
  other_mark_stays k ne = w.other (65 * k) (λ a b. ne (omega arith))

  other_bytes_stay : (k n : ℕ) → (k ≡ at → ⊥) → k < slot_places xs → n ≤ 64 → slot_bytes ys k n ≡ slot_bytes xs k n
  other_bytes_stay k n ne lt le =
      let fits : 65 * k + 65 ≤ length xs = omega arith in
      let long = w.long in
      ext_get_or 0 _ _ (simp (length-take, length-drop) (omega arith))
      (λ i h. let p : i < n = omega (arith, simp (length-take, length-drop) at h) in
      rw (get_or-take, get_or-drop, get_or-take, get_or-drop) (w.other (65 * k + 1 + i) (λ a b. ne (omega arith))))

  other_slot_stays : (k : ℕ) → Marked xs → (k ≡ at → ⊥) → k < slot_places xs → slot_at ys k ≡ slot_at xs k
  other_slot_stays k ok ne lt =
      let a = other_mark_stays k ne in
      let n : mark xs k - 1 ≤ 64 = omega (arith, ok k lt) in
      let b = other_bytes_stay k (mark xs k - 1) ne lt n in
      rw a (rw b refl)

  other_place_stays : (k : ℕ) → Marked xs → (k ≡ at → ⊥) → slot_contents ys k ≡ slot_contents xs k
  unfolding slot_contents
  other_place_stays k ok ne =
      ⊎_elim
      (λ lt. cond-true (ltb k (slot_places ys)) _ _ (rw same_places (lt-ltb _ _ lt)) ∙ other_slot_stays k ok ne lt ∙ sym (cond-true (ltb k (slot_places xs)) _ _ (lt-ltb _ _ lt)))
      (λ ge. cond-false (ltb k (slot_places ys)) _ _ (rw same_places (le-ltb _ _ ge)) ∙ sym (cond-false (ltb k (slot_places xs)) _ _ (le-ltb _ _ ge)))
      (cases_lt k (slot_places xs))

  slot_is_written : (o : Option (List ℕ)) → Marked xs → slot_at ys at ≡ o → slot_contents ys ≡ update eqb (slot_contents xs) at o
  unfolding slot_contents
  slot_is_written o ok is =
      let lt : ltb at (slot_places ys) ≡ true = rw same_places (lt-ltb _ _ here) in
      fun_ext (λ k. ⊎_elim
      (λ same. rw same (cond-true _ _ _ lt ∙ is ∙ sym (update_here (slot_contents xs) at o)))
      (λ ne. other_place_stays k ok ne ∙ sym (update_apart (slot_contents xs) at o k ne))
      (cases_eq k at))

  marks_stay_in_range : Marked xs → m ≤ 65 → Marked ys
  marks_stay_in_range ok le k lt =
      ⊎_elim (λ same. rw same (omega (arith, w.marked))) (λ ne. omega (arith, other_mark_stays k ne, ok k (let l : k < slot_places xs = omega (arith, same_places) in l))) (cases_eq k at)

-- What the one write of a clear does to the memory.
pub mark_cleared : (xs : List ℕ) (at : ℕ) → at < slot_places xs → Wrote xs (set xs (65 * at) 0) at 0
mark_cleared xs at here = record {
  long = search (rules, places);
  marked = search (rules, places);
  other = λ j out. grind (arith, places, get_or-set_other);
}

-- A put: xs is what the memory held, and zs what it holds then.
module _ (xs zs bytes : List ℕ) (at : ℕ) (here : at < slot_places xs) (le : length bytes ≤ 64) (ok : Marked xs) (w : Wrote xs zs at (length bytes + 1)) where
  pub put_is_marked : Marked zs
  put_is_marked = marks_stay_in_range xs zs at _ here w ok (omega arith)

  pub put_is_held : slot_bytes zs at (length bytes) ≡ bytes → slot_contents zs ≡ update eqb (slot_contents xs) at (Some bytes)
  put_is_held b =
      let p : mark zs at ≡ length bytes + 1 = w.marked in
      let z : eqb (mark zs at) 0 ≡ false = ne_eqb _ _ (omega arith) in
      let n : mark zs at - 1 ≡ length bytes = omega arith in
      slot_is_written xs zs at _ here w (Some bytes) ok (cond-false _ _ _ z ∙ ap Some (rw n b))

-- A clear.
module _ (xs zs : List ℕ) (at : ℕ) (here : at < slot_places xs) (ok : Marked xs) (w : Wrote xs zs at 0) where
  pub clear_is_marked : Marked zs
  clear_is_marked = marks_stay_in_range xs zs at _ here w ok (omega arith)

  pub clear_is_held : slot_contents zs ≡ update eqb (slot_contents xs) at None
  clear_is_held = slot_is_written xs zs at _ here w None ok (cond-true _ _ _ (eq-eqb _ _ w.marked))

-- Memory without a mark has every place absent.
pub next_mark_cleared : (xs : List ℕ) (p i m : ℕ) → p < slot_places xs → ((k : ℕ) → k < p → mark xs k ≡ 0) → i ≡ 65 * p → m ≡ 0 → (k : ℕ) → k < p + 1 → mark (set xs i m) k ≡ 0
next_mark_cleared xs p i m lt before e z k h =
    let fits : 65 * p < length xs = omega arith in
    rw (e, z) (⊎_elim
    (λ same. rw same (get_or-set_same xs (65 * p) 0 0 fits))
    (λ ne. let apart : 65 * k ≡ 65 * p → ⊥ = λ e. ne (omega arith) in get_or-set_other xs (65 * p) (65 * k) 0 0 apart ∙ before k (omega arith))
    (cases_eq k p))

module _ (xs : List ℕ) (none : Unmarked xs) where
  pub unmarked_is_absent : slot_contents xs ≡ all_absent
  unmarked_is_absent =
      fun_ext (λ k. ⊎_elim (λ lt. contents_here xs k lt ∙ cond-true _ _ _ (eq-eqb _ _ (none k lt))) (λ ge. beyond_absent xs k ge) (cases_lt k (slot_places xs)))

  pub unmarked_is_marked : Marked xs
  unmarked_is_marked k lt = omega (arith, none k lt)

slot_laid_is_marked : (xs : List ℕ) (k : ℕ) (o : Option (List ℕ)) → Short o → SlotIs xs k o → mark xs k ≤ 65
slot_laid_is_marked xs k None s h = omega arith
slot_laid_is_marked xs k (Some bytes) s h = omega (arith, h.0)

pub laid_is_marked : (xs : List ℕ) (v : Contents) → ((k : ℕ) → Short (v k)) → Laid xs v → Marked xs
laid_is_marked xs v s h k lt = slot_laid_is_marked xs k (v k) (s k) (h k lt)

slot_laid_is_read : (xs : List ℕ) (k : ℕ) (o : Option (List ℕ)) → SlotIs xs k o → o ≡ slot_at xs k
slot_laid_is_read xs k None h = sym (cond-true _ _ _ (eq-eqb _ _ h))
slot_laid_is_read xs k (Some bytes) h =
    let m = h.0 in
    let n : mark xs k - 1 ≡ length bytes = omega arith in
    sym (cond-false _ _ _ (ne_eqb (mark xs k) 0 (λ e. omega arith)) ∙ ap Some (rw n h.1))

pub laid_is_read : (xs : List ℕ) (v : Contents) → Laid xs v → (k : ℕ) → k < slot_places xs → v k ≡ slot_contents xs k
laid_is_read xs v h k lt = slot_laid_is_read xs k (v k) (h k lt) ∙ sym (contents_here xs k lt)
