-- What holds of every memory of slots.
use Rattle.std.specs.Prelude.{◌≡◌, ℕ, ◌+◌, ◌-◌, ◌*◌, ◌<◌, ◌≤◌, List, length, take, drop, None, ◌==◌, refl}
use Rattle.std.proofs.Common.{⊎_elim, eqb, get_or, arith, length-drop, length-take}
use Rattle.std.proofs.lemmas.Bool.{cases_lt, lt-ltb, le-ltb, cond-true, cond-false, cond_both, eqb-true, eqb-false}
use Rattle.std.proofs.lemmas.List.{get_or-take, get_or-drop, get_or_past, length-take-le}
use Rattle.store.specs.Meaning.{Short, Octets, byte_at, AllOctets}
use Rattle.store.specs.MemoryLaws.{few_places}
use Rattle.slot_store.specs.Layout.{slot_places, mark, slot_bytes, slot_at, slot_contents, Marked, SlotIs, Laid}

pub few_slots : (xs : List ℕ) → slot_places xs ≤ 128
few_slots xs = few_places 65 xs

pub beyond_absent : (xs : List ℕ) (k : ℕ) → slot_places xs ≤ k → slot_contents xs k ≡ None
unfolding slot_contents
beyond_absent xs k ge = cond-false _ _ _ (le-ltb _ _ ge)

pub contents_here : (xs : List ℕ) (k : ℕ) → k < slot_places xs → slot_contents xs k ≡ slot_at xs k
unfolding slot_contents
contents_here xs k lt = cond-true _ _ _ (lt-ltb _ _ lt)

slot_short : (xs : List ℕ) (k : ℕ) → mark xs k ≤ 65 → Short (slot_at xs k)
slot_short xs k le = cond_both (mark xs k == 0) _ _ Short (λ _. tt) (λ _. simp length-take (omega arith))

pub contents_short : (xs : List ℕ) → Marked xs → (k : ℕ) → Short (slot_contents xs k)
contents_short xs ok k =
    ⊎_elim (λ lt. rw (contents_here xs k lt) (slot_short xs k (ok k lt))) (λ ge. rw (beyond_absent xs k ge) tt) (cases_lt k (slot_places xs))

-- What bytes hold are bytes.
part_is_octets : (xs : List ℕ) (i n : ℕ) → Octets xs → Octets (take n (drop i xs))
part_is_octets xs i n all j =
    let within : j < n → get_or (take n (drop i xs)) j 0 < 256 = λ lt. rw (get_or-take, get_or-drop) (all (i + j)) in
    let past : n ≤ j → get_or (take n (drop i xs)) j 0 < 256 =
    λ ge. let none : get_or (take n (drop i xs)) j 0 ≡ 0 = get_or_past (take n (drop i xs)) j 0 (simp length-take (omega arith)) in omega arith in
    ⊎_elim within past (cases_lt j n)

pub contents_octets : (xs : List ℕ) → Octets xs → AllOctets (slot_contents xs)
contents_octets xs all k j =
    ⊎_elim
    (λ lt. rw (contents_here xs k lt) (cond_both (eqb (mark xs k) 0) _ _ (λ o. byte_at o j < 256) (λ _. omega arith) (λ _. part_is_octets xs (65 * k + 1) (mark xs k - 1) all j)))
    (λ ge. rw (beyond_absent xs k ge) (omega arith))
    (cases_lt k (slot_places xs))

-- The layout of what the memory holds.
slot_is_laid : (xs : List ℕ) (k : ℕ) → k < slot_places xs → mark xs k ≤ 65 → SlotIs xs k (slot_at xs k)
slot_is_laid xs k lt le =
    cond_both (eqb (mark xs k) 0) _ _ (SlotIs xs k)
    (λ z. eqb-true _ _ z)
    (λ z.
    let long : length (slot_bytes xs k (mark xs k - 1)) ≡ mark xs k - 1 = length-take-le _ _ (simp length-drop (omega arith)) in
    let ne = eqb-false _ _ z in
    (omega arith, rw long refl))

pub contents_are_laid : (xs : List ℕ) → Marked xs → Laid xs (slot_contents xs)
contents_are_laid xs ok k lt = rw (contents_here xs k lt) (slot_is_laid xs k lt (ok k lt))
