-- What holds of every memory of packed records.
use Rattle.std.specs.Prelude.{◌≡◌, ℕ, zero, suc, ◌+◌, ◌<◌, ◌≤◌, min, true, List, [], ◌∷◌, ◌++◌, length, take, drop, None, Option, ◌==◌, nat_le, slice_index_or, refl}
use Rattle.std.proofs.Common.{eqb, leb, get_or, sym, ap, ◌∙◌, ⊎_elim, arith, length-append, length-take, take-add}
use Rattle.std.proofs.lemmas.List.{take-append-drop, get_or_past, get_or-take, get_or-drop, length-take-le}
use Rattle.std.proofs.lemmas.Bool.{cases_lt, cond_both, eqb-true, leb-true}
use Rattle.store.specs.Meaning.{Short, Octets, byte_at, AllOctets}
use Rattle.store.specs.MemoryLaws.{few_places as places_few}
use Rattle.packed_store.specs.Layout.{packed_places, AllShort, coded, encode, Holds}
use Rattle.packed_store.specs.Reading.{record_at, decode, table, intact, packed_contents}

pub few_places : (xs : List ℕ) → packed_places xs ≤ 128
few_places xs = places_few 66 xs

pub record_short : (p : ℕ) (ys : List ℕ) → Short (record_at p ys)
record_short p [] = tt
record_short p (q ∷ []) = tt
record_short p (q ∷ len ∷ ys) =
    cond_both (q == p) _ _ Short
    (λ _. cond_both (nat_le len (min 64 (length ys))) _ _ Short (λ t. let h = leb-true _ _ t in simp length-take (omega arith)) (λ _. tt))
    (λ _. tt)

pub length-decode : (m p : ℕ) (ys : List ℕ) → length (decode m p ys) ≡ m
length-decode zero p ys = refl
length-decode (suc m) p ys = ap suc (length-decode m (suc p) _)

decode_short : (m p : ℕ) (ys : List ℕ) (k : ℕ) → Short (slice_index_or (decode m p ys) k None)
decode_short zero p ys k = tt
decode_short (suc m) p ys zero = record_short p ys
decode_short (suc m) p ys (suc k) = decode_short m (suc p) _ k

pub length-table : (xs : List ℕ) → length (table xs) ≡ packed_places xs
unfolding table
length-table xs = length-decode (packed_places xs) 0 xs

pub contents_short : (xs : List ℕ) (k : ℕ) → Short (packed_contents xs k)
unfolding packed_contents table
contents_short xs k = decode_short (packed_places xs) 0 xs k

pub beyond_absent : (xs : List ℕ) (k : ℕ) → packed_places xs ≤ k → packed_contents xs k ≡ None
unfolding packed_contents
beyond_absent xs k ge = get_or_past (table xs) k None (rw length-table ge)

-- A record that is read begins the bytes.
pub record_in_front : (p : ℕ) (ys : List ℕ) → take (length (coded p (record_at p ys))) ys ≡ coded p (record_at p ys)
record_in_front p [] = refl
record_in_front p (q ∷ []) = refl
record_in_front p (q ∷ len ∷ ys) =
    let P : Option (List ℕ) → Type 0 = λ o. take (length (coded p o)) (q ∷ len ∷ ys) ≡ coded p o in
    cond_both (eqb q p) _ _ P
    (λ is. cond_both (leb len (min 64 (length ys))) _ _ P
    (λ fits.
    let h = leb-true _ _ fits in
    let n : length (take len ys) ≡ len = length-take-le len ys (omega arith) in
    rw n (ap (λ x. x ∷ len ∷ take len ys) (eqb-true q p is)))
    (λ _. refl))
    (λ _. refl)

decode_all_short : (m p : ℕ) (ys : List ℕ) → AllShort (decode m p ys)
decode_all_short zero p ys = tt
decode_all_short (suc m) p ys = (record_short p ys, decode_all_short m (suc p) _)

pub table_short : (xs : List ℕ) → AllShort (table xs)
unfolding table
table_short xs = decode_all_short (packed_places xs) 0 xs

-- The memory begins with the records that are read from it.
decoded_in_front : (m p : ℕ) (ys : List ℕ) → take (length (encode p (decode m p ys))) ys ≡ encode p (decode m p ys)
decoded_in_front zero p ys = refl
decoded_in_front (suc m) p ys =
    let c = coded p (record_at p ys) in
    let r = encode (suc p) (decode m (suc p) (drop (length (coded p (record_at p ys))) ys)) in
    ap (λ n. take n ys) (length-append c r) ∙ take-add (length c) (length r) ys
    ∙ ap (λ u. u ++ take (length r) (drop (length c) ys)) (record_in_front p ys) ∙ ap (λ u. c ++ u) (decoded_in_front m (suc p) (drop (length c) ys))

table_in_front : (xs : List ℕ) → take (length (encode 0 (table xs))) xs ≡ encode 0 (table xs)
unfolding table
table_in_front xs = decoded_in_front (packed_places xs) 0 xs

-- A memory holds a table exactly if it is intact, and then the one that is read.
pub intact_holds : (xs : List ℕ) → intact xs ≡ true → Holds xs (table xs)
unfolding intact
intact_holds xs ok =
    let n = length (encode 0 (table xs)) in
    record {
      places = length-table xs;
      short = table_short xs;
      unused = drop n xs;
      records = sym (take-append-drop n xs) ∙ ap (λ u. u ++ drop n xs) (table_in_front xs);
      end = ok;
    }

-- What bytes hold are bytes.
take_octets : (xs : List ℕ) (n : ℕ) → Octets xs → Octets (take n xs)
take_octets xs n all j =
    let within : j < n → get_or (take n xs) j 0 < 256 = λ lt. rw get_or-take (all j) in
    let past : n ≤ j → get_or (take n xs) j 0 < 256 =
    λ ge. let none : get_or (take n xs) j 0 ≡ 0 = get_or_past (take n xs) j 0 (simp length-take (omega arith)) in omega arith in
    ⊎_elim within past (cases_lt j n)

Octets-drop : (xs : List ℕ) (n : ℕ) → Octets xs → Octets (drop n xs)
Octets-drop xs n all j = rw get_or-drop (all (n + j))

record_octets : (p : ℕ) (ys : List ℕ) → Octets ys → (j : ℕ) → byte_at (record_at p ys) j < 256
record_octets p [] all j = omega arith
record_octets p (q ∷ []) all j = omega arith
record_octets p (q ∷ len ∷ ys) all j =
    let P : Option (List ℕ) → Type 0 = λ o. byte_at o j < 256 in
    cond_both (eqb q p) _ _ P
    (λ _. cond_both (leb len (min 64 (length ys))) _ _ P (λ _. take_octets ys len (λ i. all (suc (suc i))) j) (λ _. omega arith))
    (λ _. omega arith)

decode_octets : (m p : ℕ) (ys : List ℕ) → Octets ys → (k j : ℕ) → byte_at (get_or (decode m p ys) k None) j < 256
decode_octets zero p ys all k j = omega arith
decode_octets (suc m) p ys all zero j = record_octets p ys all j
decode_octets (suc m) p ys all (suc k) j = decode_octets m (suc p) _ (Octets-drop ys _ all) k j

pub contents_octets : (xs : List ℕ) → Octets xs → AllOctets (packed_contents xs)
unfolding packed_contents table
contents_octets xs all = decode_octets (packed_places xs) 0 xs all
