-- How a scan of the records goes on, and what is written where it ends.
use Rattle.std.proofs.Common.{◌≡◌, ℕ, suc, ◌+◌, ◌-◌, ◌/◌, ◌<◌, ◌≤◌, min, true, eqb, List, [], ◌∷◌, ◌++◌, length, get_or, take, drop, set, replicate, Some, None, Option, sym, refl, ap, ◌∙◌, add-zero, add-one, arith, lit≤, length-append, length-drop, length-set, length-take, drop-cons, take-suc, take-take, drop-drop, take-add}
use Rattle.std.proofs.Math.Seq.{set_split, paste, length-paste, drop-set-add, take-set-le, take-append-le}
use Rattle.std.proofs.lemmas.List.{append-nil, append_assoc, take-append-drop, drop_at, take_all, drop_all, length-take-le, set-append_right, drop_more, take_more_set, drop-set-lt}
use Rattle.std.proofs.lemmas.Slice.{between_is}
use borrow.Rule.Slice.PartMut.{put_mid}
use Rattle.store.specs.Meaning.{Short}
use Rattle.packed_store.specs.Layout.{packed_places, Table, AllShort, coded, encode, ended, Holds}
use Rattle.packed_store.specs.Reading.{record_at, decode, table, intact, packed_contents}
use Rattle.packed_store.specs.ReadingLaws.{record_in_front, table_short, length-table}
use Rattle.packed_store.specs.Scan.{Found, Stands, Opened}
use Rattle.packed_store.proofs.Tables.{record_within, encode-append, length-encode, set_short, marked_is_ended}

pub scan_starts : (xs : List ℕ) → Stands xs 0 0
unfolding table
scan_starts xs = record { within = omega arith; front = refl; rest = ap (λ m. decode m 0 xs) (omega arith) }

encode_split : (s t : Table) (o : Option (List ℕ)) (p : ℕ) → length s ≡ p → encode 0 (s ++ o ∷ t) ≡ encode 0 s ++ (coded p o ++ encode (suc p) t)
encode_split s t o p e = let z : 0 + length s ≡ p = omega arith in encode-append s (o ∷ t) 0 ∙ rw z refl

module _ (xs : List ℕ) (p i : ℕ) (lt : p < packed_places xs) (w : Stands xs p i) where
  unrolled : record_at p (drop i xs) ∷ decode (packed_places xs - suc p) (suc p) (drop (length (coded p (record_at p (drop i xs)))) (drop i xs)) ≡ get_or (table xs) p None ∷ drop (suc p) (table xs)
  unrolled =
      let e : suc (packed_places xs - suc p) ≡ packed_places xs - p = omega arith in
      let h : p < length (table xs) = rw length-table lt in
      ap (λ m. decode m p (drop i xs)) e ∙ w.rest ∙ drop-cons (table xs) p None h

  entry_is_record : record_at p (drop i xs) ≡ get_or (table xs) p None
  entry_is_record = let e = unrolled in cc

  contents_are_record : record_at p (drop i xs) ≡ packed_contents xs p
  unfolding packed_contents
  contents_are_record = entry_is_record

  scan_goes_on : (n : ℕ) → n ≡ length (coded p (record_at p (drop i xs))) → Stands xs (p + 1) (i + n)
  scan_goes_on n is =
      let h : p < length (table xs) = rw length-table lt in
      let le = record_within p (drop i xs) in
      let m : take n (drop i xs) ≡ coded p (record_at p (drop i xs)) = rw is (record_in_front p (drop i xs)) in
      let l : length (take p (table xs)) ≡ p = length-take-le p (table xs) (omega arith) in
      record {
        within = omega (arith, w.within, simp length-drop at le);
        front =
            take-add i n xs ∙ ap (λ u. u ++ take n (drop i xs)) w.front ∙ ap (λ u. encode 0 (take p (table xs)) ++ u) (m ∙ sym (append-nil _))
            ∙ sym (encode_split (take p (table xs)) [] (record_at p (drop i xs)) p l)
            ∙ rw (entry_is_record, add-one, take-suc (table xs) p None h) refl;
        rest = let e = unrolled in rw (add-one, ← drop-drop n i xs, is) (cc);
      }

  pub scan_passes_absent : record_at p (drop i xs) ≡ None → Stands xs (p + 1) i
  scan_passes_absent e = rw add-zero at (scan_goes_on 0 (rw e refl))

  pub scan_passes_record : (len : ℕ) → Found xs i p len → Stands xs (p + 1) (i + (2 + len))
  scan_passes_record len f =
      let h = f.within in
      scan_goes_on (2 + len) (rw f.is (simp (length-take, length-drop) (omega arith)))

  -- what a get finds
  pub no_record_is_absent : record_at p (drop i xs) ≡ None → packed_contents xs p ≡ None
  no_record_is_absent e = sym contents_are_record ∙ e

  pub record_is_contents : (len : ℕ) → Found xs i p len → packed_contents xs p ≡ Some (take len (drop (i + 2) xs))
  record_is_contents len f = sym contents_are_record ∙ f.is

  pub record_is_as_long : (len : ℕ) → Found xs i p len → length (take len (drop (i + 2) xs)) ≡ len
  record_is_as_long len f = let h = f.within in length-take-le _ _ (simp length-drop (omega arith))

pub scan_of_equals : (xs : List ℕ) (n p i : ℕ) → n ≡ p → Stands xs n i → Stands xs p i
scan_of_equals xs n p i e w = rw (← e) w

-- A scan of all places ends behind the records.
module _ (xs : List ℕ) (e : ℕ) (z : Stands xs (packed_places xs) e) where
  all_records : take e xs ≡ encode 0 (table xs)
  all_records = z.front ∙ ap (encode 0) (take_all (packed_places xs) (table xs) (omega (arith, length-table xs)))

  intact_at_end : intact xs ≡ ended (drop e xs)
  unfolding intact
  intact_at_end =
      let n : length (encode 0 (table xs)) ≡ e = ap length (sym all_records) ∙ length-take-le e xs z.within in
      ap (λ m. ended (drop m xs)) n

  pub intact_at_memory_end : e ≡ length xs → true ≡ intact xs
  intact_at_memory_end at = sym (intact_at_end ∙ ap ended (drop_all e xs (omega arith)))

  pub intact_at_mark : (e ≡ length xs → ⊥) → eqb (get_or xs e 0) 255 ≡ intact xs
  intact_at_mark ne =
      let h : e < length xs = omega (arith, z.within) in
      sym (intact_at_end ∙ ap ended (drop_more xs e 0 h))

-- The memory with another entry at a place.
module _ (xs : List ℕ) (at i j e : ℕ) (lt : at < packed_places xs) (a : Stands xs at i) (b : Stands xs (at + 1) j) (z : Stands xs (packed_places xs) e) where
  here_in : at < length (table xs)
  here_in = rw length-table lt

  split : take e xs ≡ take j xs ++ encode (suc at) (drop (suc at) (table xs))
  split =
      let l : length (take (at + 1) (table xs)) ≡ suc at = length-take-le (at + 1) (table xs) (omega (arith, here_in)) ∙ add-one at in
      let k : 0 + length (take (at + 1) (table xs)) ≡ suc at = omega arith in
      all_records xs e z ∙ ap (encode 0) (sym (take-append-drop (at + 1) (table xs)))
      ∙ encode-append (take (at + 1) (table xs)) (drop (at + 1) (table xs)) 0 ∙ rw (k, ← b.front, add-one) refl

  pub tail_before_end : j ≤ e
  tail_before_end = omega (arith, simp (length-append, length-take) at (ap length split), b.within, z.within)

  tail_is_later_records : take (e - j) (drop j xs) ≡ encode (suc at) (drop (suc at) (table xs))
  tail_is_later_records = between_is xs j e ∙ ap (drop j) split ∙ drop_at (take j xs) _ j (length-take-le j xs b.within)

  module _ (o : Option (List ℕ)) (s : Short o) where
    records_with_entry : take i xs ++ (coded at o ++ take (e - j) (drop j xs)) ≡ encode 0 (set (table xs) at o)
    records_with_entry =
        let l : length (take at (table xs)) ≡ at = length-take-le at (table xs) (omega (arith, here_in)) in
        rw (a.front, tail_is_later_records) (sym (ap (encode 0) (set_split (table xs) at o here_in) ∙ encode_split (take at (table xs)) (drop (suc at) (table xs)) o at l))

    entry_keeps_short : AllShort (set (table xs) at o)
    entry_keeps_short = set_short (table xs) at o (table_short xs) s

    entry_keeps_places : length (set (table xs) at o) ≡ packed_places xs
    entry_keeps_places = length-set (table xs) at o ∙ length-table xs

    entry_fits : i + (length (coded at o) + (e - j)) ≤ length xs
    entry_fits =
        let n = length-encode (set (table xs) at o) 0 entry_keeps_short in
        let k = simp (length-append, length-take, length-drop) at (ap length records_with_entry) in
        omega (arith, entry_keeps_places, tail_before_end, a.within, b.within, z.within)

    holds_entry : (zs rest : List ℕ) → length zs ≡ length xs → ended rest ≡ true → zs ≡ take i xs ++ (coded at o ++ (take (e - j) (drop j xs) ++ rest)) → Holds zs (set (table xs) at o)
    holds_entry zs rest len end is =
        record {
          places = entry_keeps_places ∙ ap (λ m. min (m / 66) 128) (sym len);
          short = entry_keeps_short;
          unused = rest;
          records = is ∙ ap (λ u. take i xs ++ u) (sym (append_assoc (coded at o) _ rest)) ∙ sym (append_assoc (take i xs) _ rest) ∙ ap (λ u. u ++ rest) records_with_entry;
          end = end;
        }

-- The tail moved to leave a gap of `size` bytes, and the end marked.
module _ (xs : List ℕ) (at size i j e : ℕ) (lt : at < packed_places xs) (le : size ≤ 66) (a : Stands xs at i) (b : Stands xs (at + 1) j) (z : Stands xs (packed_places xs) e) where
  pub gap_fits : i + size + (e - j) ≤ length xs
  gap_fits =
      let h = entry_fits xs at i j e lt a b z (Some (replicate 64 0)) (lit≤ tt) in
      omega arith

  pub gap_opened : (ys zs : List ℕ) (to mark : ℕ) → ys ≡ paste xs to (drop j xs) (e - j) → zs ≡ set ys mark 255 → to ≡ i + size → mark ≡ i + size + (e - j) → Opened xs zs at size i
  gap_opened ys zs to mark y₀ n₀ is-to is-mark =
      let y : ys ≡ paste xs (i + size) (drop j xs) (e - j) = rw is-to at y₀ in
      let n : zs ≡ set ys (i + size + (e - j)) 255 = rw is-mark at n₀ in
      let r = gap_fits in
      let fw = tail_before_end xs at i j e lt a b z in
      let ze = z.within in
      let l : length (take (i + size) xs) ≡ i + size = length-take-le _ _ (omega arith) in
      let m : length (take (e - j) (drop j xs)) ≡ e - j = length-take-le _ _ (simp length-drop (omega arith)) in
      let long_y : length ys ≡ length xs = ap length y ∙ length-paste xs (i + size) (drop j xs) (e - j) r (simp length-drop (omega arith)) in
      let parts : ys ≡ take (i + size) xs ++ (take (e - j) (drop j xs) ++ drop (i + size + (e - j)) xs) = y ∙ append_assoc (take (i + size) xs) _ _ in
      let back : drop (i + size) zs ≡ take (e - j) (drop j xs) ++ set (drop (i + size + (e - j)) xs) 0 255 =
      ap (drop (i + size)) n ∙ drop-set-add (i + size) ys (e - j) 255
      ∙ ap (λ u. set u (e - j) 255) (ap (drop (i + size)) parts ∙ drop_at (take (i + size) xs) _ _ l)
      ∙ set-append_right (take (e - j) (drop j xs)) _ (e - j) (e - j) 255 m (omega arith)
      ∙ ap (λ u. take (e - j) (drop j xs) ++ set (drop (i + size + (e - j)) xs) u 255) (omega arith) in
      let front : take i zs ≡ take i xs =
      ap (take i) n ∙ take-set-le i ys _ 255 (omega arith) ∙ ap (take i) parts ∙ take-append-le i _ _ (omega arith) ∙ take-take i (i + size) xs (omega arith) in
      let long_z : length zs ≡ length xs = ap length n ∙ length-set ys _ _ ∙ long_y in
      record {
        long = long_z;
        room = omega arith;
        fills = λ o s k. holds_entry xs at i j e lt a b z o s _ (set (drop (i + size + (e - j)) xs) 0 255) (simp (length-append, length-take, length-drop) (omega arith)) (marked_is_ended _) (rw (front, back) refl);
      }

-- A record written into a gap.
pub written : (ys b part : List ℕ) (i at k a l : ℕ) → i + (2 + length b) ≤ length ys → part ≡ b → k ≡ length b → a ≡ at → l ≡ length b → put_mid (i + 2) k (set (set ys i a) (i + 1) l) part ≡ take i ys ++ (coded at (Some b) ++ drop (i + (2 + length b)) ys)
written ys b part i at k a l le p e ea el =
    let two : i + 1 + 1 ≡ i + 2 = omega arith in
    let front : take (i + 2) (set (set ys i at) (i + 1) (length b)) ≡ take i ys ++ at ∷ [] ++ length b ∷ [] =
    rw (← two) (take_more_set (set ys i at) (i + 1) (length b) (simp length-set (omega arith)) ∙ ap (λ u. u ++ length b ∷ []) (take_more_set ys i at (omega arith))) in
    let back : drop k (drop (i + 2) (set (set ys i at) (i + 1) (length b))) ≡ drop (i + (2 + length b)) ys =
    drop-drop k (i + 2) _ ∙ drop-set-lt (i + 2 + k) _ (i + 1) _ (omega arith) ∙ drop-set-lt (i + 2 + k) _ i _ (omega arith) ∙ ap (λ m. drop m ys) (omega arith) in
    rw (ea, el) (rw (front, back, p) (simp append_assoc))

pub unfilled : (ys : List ℕ) (i size : ℕ) → size ≡ 0 → ys ≡ take i ys ++ drop (i + size) ys
unfilled ys i size e = rw (e, add-zero) (sym (take-append-drop i ys))

pub holds_of_equals : (ys zs : List ℕ) (t : Table) → ys ≡ zs → Holds zs t → Holds ys t
holds_of_equals ys zs t e h = rw e h
