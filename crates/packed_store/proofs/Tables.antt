-- Tables and the bytes that hold them.
use Rattle.std.proofs.Common.{◌≡◌, ℕ, zero, suc, ◌+◌, ◌*◌, ◌<◌, ◌≤◌, min, Bool, true, false, eqb, MatchBool, List, [], ◌∷◌, ◌++◌, length, get_or, drop, set, replicate, Some, None, Option, sym, refl, ap, ◌∙◌, ⊎_elim, add-zero, add-suc, suc-add, arith, length-append, length-take, get_or-set_other, get_or-set_same}
use Rattle.std.proofs.Math.Path.{fun_ext}
use Rattle.std.proofs.lemmas.List.{append_assoc, take_at, drop_at, length-replicate}
use Rattle.std.proofs.lemmas.Bool.{cases_eq, eq-eqb, ne_eqb, eqb-true, le-leb, cond-true, cond-false}
use Rattle.std.specs.Map.{update}
use Rattle.std.proofs.lemmas.Map.{update_here, update_apart}
use Rattle.store.specs.Meaning.{Short, all_absent}
use Rattle.packed_store.specs.Layout.{packed_places, Table, AllShort, coded, encode, ended, Holds}
use Rattle.packed_store.specs.Reading.{record_at, decode, table, intact, packed_contents}
use Rattle.packed_store.specs.ReadingLaws.{record_in_front, length-table}

pub record_within : (p : ℕ) (ys : List ℕ) → length (coded p (record_at p ys)) ≤ length ys
record_within p ys = let h = ap length (record_in_front p ys) in omega (arith, simp length-take at h)

-- A record is read back.
record_hit : (p : ℕ) (b zs : List ℕ) → length b ≤ 64 → record_at p (p ∷ length b ∷ (b ++ zs)) ≡ Some b
record_hit p b zs h =
    cond-true _ _ _ (eq-eqb p p refl) ∙ cond-true _ _ _ (le-leb (length b) (min 64 (length (b ++ zs))) (simp length-append (omega arith))) ∙ ap Some (take_at b zs _ refl)

record_miss : (p : ℕ) (ys : List ℕ) → p < get_or ys 0 255 → record_at p ys ≡ None
record_miss p [] h = refl
record_miss p (q ∷ []) h = refl
record_miss p (q ∷ len ∷ ys) h = cond-false _ _ _ (ne_eqb q p (λ e. omega arith))

end_is_no_place : (ys : List ℕ) → ended ys ≡ true → 128 ≤ get_or ys 0 255
end_is_no_place [] e = omega arith
end_is_no_place (q ∷ ys) e = omega (arith, eqb-true q 255 e)

-- What begins the records of the places from p on is no place below p.
later_begins : (t : Table) (p q : ℕ) (rest : List ℕ) → q < p → p + length t ≤ 128 → 128 ≤ get_or rest 0 255 → q < get_or (encode p t ++ rest) 0 255
later_begins [] p q rest lt le end = omega arith
later_begins (None ∷ t) p q rest lt le end = later_begins t (suc p) q rest (omega arith) (omega arith) end
later_begins (Some b ∷ t) p q rest lt le end = lt

decode_next : (m p : ℕ) (ys : List ℕ) (o : Option (List ℕ)) → record_at p ys ≡ o → decode (suc m) p ys ≡ o ∷ decode m (suc p) (drop (length (coded p o)) ys)
decode_next m p ys o e = ap (λ v. v ∷ decode m (suc p) (drop (length (coded p v)) ys)) e

decode-encode : (t : Table) (p : ℕ) (rest : List ℕ) → AllShort t → p + length t ≤ 128 → 128 ≤ get_or rest 0 255 → decode (length t) p (encode p t ++ rest) ≡ t
decode-encode [] p rest s le end = refl
decode-encode (None ∷ t) p rest s le end =
    decode_next (length t) p (encode (suc p) t ++ rest) None (record_miss p (encode (suc p) t ++ rest) (later_begins t (suc p) p rest (omega arith) (omega arith) end))
    ∙ ap (λ u. None ∷ u) (decode-encode t (suc p) rest s.1 (omega arith) end)
decode-encode (Some b ∷ t) p rest s le end =
    let zs = encode (suc p) t ++ rest in
    ap (λ z. decode (suc (length t)) p (p ∷ length b ∷ z)) (append_assoc b (encode (suc p) t) rest)
    ∙ decode_next (length t) p (p ∷ length b ∷ (b ++ zs)) (Some b) (record_hit p b zs s.0)
    ∙ ap (λ z. Some b ∷ decode (length t) (suc p) z) (drop_at b zs _ refl)
    ∙ ap (λ u. Some b ∷ u) (decode-encode t (suc p) rest s.1 (omega arith) end)

pub encode-append : (s t : Table) (p : ℕ) → encode p (s ++ t) ≡ encode p s ++ encode (p + length s) t
encode-append [] t p = rw add-zero refl
encode-append (o ∷ s) t p = rw (encode-append s t (suc p)) (rw (add-suc, suc-add) (sym (append_assoc (coded p o) _ _)))

length-coded : (p : ℕ) (o : Option (List ℕ)) → Short o → length (coded p o) ≤ 66
length-coded p None s = omega arith
length-coded p (Some b) s = omega arith

pub length-encode : (t : Table) (p : ℕ) → AllShort t → length (encode p t) ≤ 66 * length t
length-encode [] p s = omega arith
length-encode (o ∷ t) p s = rw length-append (omega (arith, length-coded p o s.0, length-encode t (suc p) s.1))

pub set_short : (t : Table) (k : ℕ) (o : Option (List ℕ)) → AllShort t → Short o → AllShort (set t k o)
set_short [] k o s h = tt
set_short (x ∷ t) zero o s h = (h, s.1)
set_short (x ∷ t) (suc k) o s h = (s.0, set_short t k o s.1 h)

pub held_is_read : (xs : List ℕ) (t : Table) → Holds xs t → table xs ≡ t
unfolding table
held_is_read xs t h =
    let long = h.places in
    ap (λ m. decode m 0 xs) (sym long) ∙ ap (decode (length t) 0) h.records ∙ decode-encode t 0 h.unused h.short (omega arith) (end_is_no_place h.unused h.end)

pub held_is_intact : (xs : List ℕ) (t : Table) → Holds xs t → intact xs ≡ true
unfolding intact
held_is_intact xs t h =
    ap (λ u. ended (drop (length (encode 0 u)) xs)) (held_is_read xs t h) ∙ ap (λ u. ended (drop (length (encode 0 t)) u)) h.records
    ∙ ap ended (drop_at (encode 0 t) h.unused _ refl) ∙ h.end

pub one_table : (xs : List ℕ) (t u : Table) → Holds xs t → Holds xs u → t ≡ u
one_table xs t u h k = sym (held_is_read xs t h) ∙ held_is_read xs u k

pub held_at_place : (xs : List ℕ) (t : Table) → Holds xs t → (k : ℕ) → packed_contents xs k ≡ get_or t k None
unfolding packed_contents
held_at_place xs t h k = ap (λ u. get_or u k None) (held_is_read xs t h)

-- What a memory holds after a write of one entry.
module _ (xs zs : List ℕ) (at : ℕ) (o : Option (List ℕ)) (h : Holds zs (set (table xs) at o)) where
  pub set_is_intact : intact zs ≡ true
  set_is_intact = held_is_intact zs _ h

  pub set_is_held : at < packed_places xs → packed_contents zs ≡ update eqb (packed_contents xs) at o
  unfolding packed_contents
  set_is_held lt =
      let e = held_is_read zs _ h in
      let here : at < length (table xs) = rw length-table lt in
      fun_ext (λ k. ap (λ t. get_or t k None) e ∙ ⊎_elim
      (λ same. rw same (get_or-set_same (table xs) at o None here ∙ sym (update_here (packed_contents xs) at o)))
      (λ ne. get_or-set_other (table xs) at k o None ne ∙ sym (update_apart (packed_contents xs) at o k ne))
      (cases_eq k at))

-- A memory that begins with the end holds nothing.
encode-none : (n p : ℕ) → encode p (replicate n None) ≡ []
encode-none zero p = refl
encode-none (suc n) p = encode-none n (suc p)

none_short : (n : ℕ) → AllShort (replicate n None)
none_short zero = tt
none_short (suc n) = (tt, none_short n)

none_there : (n k : ℕ) → get_or (replicate {A = Option (List ℕ)} n None) k None ≡ None
none_there zero k = refl
none_there (suc n) zero = refl
none_there (suc n) (suc k) = none_there n k

pub marked_is_ended : (xs : List ℕ) → ended (set xs 0 255) ≡ true
marked_is_ended [] = refl
marked_is_ended (x ∷ xs) = refl

module _ (xs zs : List ℕ) (e : zs ≡ set xs 0 255) where
  fresh_holds : Holds zs (replicate (packed_places zs) None)
  fresh_holds = record {
    places = length-replicate (packed_places zs) None;
    short = none_short (packed_places zs);
    unused = zs;
    records = ap (λ u. u ++ zs) (sym (encode-none (packed_places zs) 0));
    end = ap ended e ∙ marked_is_ended xs;
  }

  pub fresh_is_intact : intact zs ≡ true
  fresh_is_intact = held_is_intact zs _ fresh_holds

  pub fresh_is_absent : packed_contents zs ≡ all_absent
  unfolding packed_contents
  fresh_is_absent = fun_ext (λ k. ap (λ t. get_or t k None) (held_is_read zs _ fresh_holds) ∙ none_there (packed_places zs) k)

-- What a test of the memory tells: b is its result.
pub test_is_exact : (b : Bool) (xs : List ℕ) → b ≡ intact xs → MatchBool b (intact xs ≡ true) ((t : Table) → Holds xs t → ⊥)
test_is_exact true xs is = sym is
test_is_exact false xs is = λ t h.
    let ok = held_is_intact xs t h in
    let z : ◌≡◌ {A = ℕ} 0 1 = cc in omega arith
