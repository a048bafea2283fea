-- The tests say what names and paths are.
use Rattle.std.specs.Prelude.{◌≡◌, ℕ, ◌≤◌, Bool, true, false, cond, not, ◌&&◌, ◌||◌, ◌⊎◌, List, [], ◌∷◌, ◌++◌, length, Decides, ◌==◌, ◌≢◌, nat_eq, nat_le, slice_index, refl}
use Rattle.std.proofs.Common.{sym, ap, subst, ◌∙◌, inl, inr, ⊎_elim}
use Rattle.std.specs.List.{AllByRecursion}
use Rattle.std.proofs.lemmas.List.{append_assoc}
use Rattle.std.proofs.ByRecursion.{All-append, Decides-by_and}
use Rattle.std.proofs.lemmas.Bool.{and_parts, and_from, or_cases, or_left, or_right, or_parts, or_from, le-leb, leb-true, eq-eqb, ne_eqb, eqb-true, eqb-false, not-true, not_from_false, cases_Bool, cases_eq, cond-true, cond-false, both_ways}
use Rattle.label.specs.Names.{Lower, NameByte, IsName}
use Rattle.label.specs.Paths.{PathByte, Component, IsRest, IsPath, slashed, written}
use Rattle.label.specs.Tests.{lower, name_byte, name_bytes, is_name, path_byte, Part, nothing, dot, dots, some, grown, whole, components, slash_first, is_path}

lower_test : (b : ℕ) → Decides (lower b) (Lower b)
lower_test b = (
  λ e. let p = and_parts (nat_le 97 b) (nat_le b 122) e in record { low = leb-true 97 b p.0; high = leb-true b 122 p.1 },
  λ l. and_from (nat_le 97 b) (nat_le b 122) (le-leb 97 b l.low) (le-leb b 122 l.high),
)

name_byte_test : (b : ℕ) → Decides (name_byte b) (NameByte b)
name_byte_test b = (
  λ e.
      ⊎_elim (λ x. inl ((lower_test b).0 x))
      (λ x. inr (⊎_elim (λ y. let p = and_parts (nat_le 48 b) (nat_le b 57) y in inl (leb-true 48 b p.0, leb-true b 57 p.1)) (λ y. inr (eqb-true b 95 y)) (or_cases (nat_le 48 b && nat_le b 57) (b == 95) x)))
      (or_cases (lower b) ((nat_le 48 b && nat_le b 57) || b == 95) e),
  λ h.
      ⊎_elim (λ x. or_left (lower b) ((nat_le 48 b && nat_le b 57) || b == 95) ((lower_test b).1 x))
      (λ x. or_right (lower b) ((nat_le 48 b && nat_le b 57) || b == 95)
      (⊎_elim (λ y. or_left (nat_le 48 b && nat_le b 57) (b == 95) (and_from (nat_le 48 b) (nat_le b 57) (le-leb 48 b y.0) (le-leb b 57 y.1))) (λ y. or_right (nat_le 48 b && nat_le b 57) (b == 95) (eq-eqb b 95 y)) x))
      h,
)

name_bytes_test : (s : List ℕ) → Decides (name_bytes s) (AllByRecursion NameByte s)
name_bytes_test = Decides-by_and name_byte NameByte name_bytes name_byte_test refl (λ _ _. refl)

pub name_test : (s : List ℕ) → Decides (is_name s) (IsName s)
unfolding is_name
name_test s = (
  λ e.
      let p = and_parts (nat_le 1 (length s) && nat_le (length s) 24) (lower (slice_index s 0) && name_bytes s) e in
      let q = and_parts (nat_le 1 (length s)) (nat_le (length s) 24) p.0 in
      let r = and_parts (lower (slice_index s 0)) (name_bytes s) p.1 in
      record { some = leb-true 1 (length s) q.0; short = leb-true (length s) 24 q.1; first = (lower_test (slice_index s 0)).0 r.0; bytes = (name_bytes_test s).0 r.1 },
  λ n.
      and_from (nat_le 1 (length s) && nat_le (length s) 24) (lower (slice_index s 0) && name_bytes s)
      (and_from (nat_le 1 (length s)) (nat_le (length s) 24) (le-leb 1 (length s) n.some) (le-leb (length s) 24 n.short))
      (and_from (lower (slice_index s 0)) (name_bytes s) ((lower_test (slice_index s 0)).1 n.first) ((name_bytes_test s).1 n.bytes)),
)

path_byte_test : (b : ℕ) → Decides (path_byte b) (PathByte b)
path_byte_test b = (from, to)
  where
    named : Bool
    named = b == 47 || (b == 40 || (b == 41 || (b == 35 || b == 92)))

    from : path_byte b ≡ true → PathByte b
    from e =
        let p = and_parts (nat_le 33 b && nat_le b 126) (not named) e in
        let q = and_parts (nat_le 33 b) (nat_le b 126) p.0 in
        let n1 = or_parts (b == 47) (b == 40 || (b == 41 || (b == 35 || b == 92))) (not-true named p.1) in
        let n2 = or_parts (b == 40) (b == 41 || (b == 35 || b == 92)) n1.1 in
        let n3 = or_parts (b == 41) (b == 35 || b == 92) n2.1 in
        let n4 = or_parts (b == 35) (b == 92) n3.1 in
        record {
          low = leb-true 33 b q.0;
          high = leb-true b 126 q.1;
          slash = eqb-false b 47 n1.0;
          left = eqb-false b 40 n2.0;
          right = eqb-false b 41 n3.0;
          hash = eqb-false b 35 n4.0;
          back = eqb-false b 92 n4.1;
        }

    to : PathByte b → path_byte b ≡ true
    to p =
        and_from (nat_le 33 b && nat_le b 126) (not named)
        (and_from (nat_le 33 b) (nat_le b 126) (le-leb 33 b p.low) (le-leb b 126 p.high))
        (not_from_false named
        (or_from (b == 47) _ (ne_eqb b 47 p.slash)
        (or_from (b == 40) _ (ne_eqb b 40 p.left)
        (or_from (b == 41) _ (ne_eqb b 41 p.right) (or_from (b == 35) (b == 92) (ne_eqb b 35 p.hash) (ne_eqb b 92 p.back))))))

-- how far the bytes come from a part on
abbrev come : Part → List ℕ → Part
come part [] = part
come part (b ∷ bs) = come (grown part b) bs

come-append : (part : Part) (s t : List ℕ) → come part (s ++ t) ≡ come (come part s) t
come-append part [] t = refl
come-append part (b ∷ bs) t = come-append (grown part b) bs t

come-some : (s : List ℕ) → come some s ≡ some
come-some [] = refl
come-some (b ∷ bs) = come-some bs

-- what is neither nothing nor one or two dots may be a component
come-whole : (c : List ℕ) → Component c → whole (come nothing c) ≡ true
come-whole [] h = absurd (h.some refl)
come-whole (x ∷ []) h = elim (cases_eq x 46) [ inl e ↦ absurd (h.dot (ap (λ y. y ∷ []) e)) | inr n ↦ ap whole (cond-false (x == 46) dot some (ne_eqb x 46 n)) ]
come-whole (x ∷ y ∷ []) h = two (cases_eq x 46) (cases_eq y 46)
  where
    two : (x ≡ 46) ⊎ (x ≢ 46) → (y ≡ 46) ⊎ (y ≢ 46) → whole (come nothing (x ∷ y ∷ [])) ≡ true
    two (inl e) (inl f) = absurd (h.dots (ap (λ a. a ∷ y ∷ []) e ∙ ap (λ a. 46 ∷ a ∷ []) f))
    two (inl e) (inr n) = ap (λ p. whole (grown p y)) (cond-true (x == 46) dot some (eq-eqb x 46 e)) ∙ ap whole (cond-false (y == 46) dots some (ne_eqb y 46 n))
    two (inr n) f = ap (λ p. whole (grown p y)) (cond-false (x == 46) dot some (ne_eqb x 46 n))
come-whole (x ∷ y ∷ z ∷ s) h = ap whole (ap (λ p. come p s) (third x y z) ∙ come-some s)
  where
    third : (x y z : ℕ) → come nothing (x ∷ y ∷ z ∷ []) ≡ some
    third x y z = three (cases_Bool (x == 46)) (cases_Bool (y == 46))
      where
        three : ((x == 46) ≡ true) ⊎ ((x == 46) ≡ false) → ((y == 46) ≡ true) ⊎ ((y == 46) ≡ false) → come nothing (x ∷ y ∷ z ∷ []) ≡ some
        three (inl e) (inl f) = ap (λ p. grown (grown p y) z) (cond-true (x == 46) dot some e) ∙ ap (λ p. grown p z) (cond-true (y == 46) dots some f)
        three (inl e) (inr f) = ap (λ p. grown (grown p y) z) (cond-true (x == 46) dot some e) ∙ ap (λ p. grown p z) (cond-false (y == 46) dots some f)
        three (inr e) f = ap (λ p. grown (grown p y) z) (cond-false (x == 46) dot some e)

whole_component : (c : List ℕ) → AllByRecursion PathByte c → whole (come nothing c) ≡ true → Component c
whole_component c a w =
    record {
      bytes = a;
      some = λ e. both_ways (whole (come nothing c)) (ap (λ x. whole (come nothing x)) e) w;
      dot = λ e. both_ways (whole (come nothing c)) (ap (λ x. whole (come nothing x)) e) w;
      dots = λ e. both_ways (whole (come nothing c)) (ap (λ x. whole (come nothing x)) e) w;
    }

-- a byte that is no slash
components_byte : (part : Part) (b : ℕ) (bs : List ℕ) → PathByte b → components part (b ∷ bs) ≡ components (grown part b) bs
components_byte part b bs h =
    let n : nat_eq b 47 ≡ false = ne_eqb b 47 h.slash in
    ap (λ t. cond t (whole part) (path_byte b) && components (cond t nothing (grown part b)) bs) n
    ∙ ap (λ t. t && components (grown part b) bs) ((path_byte_test b).1 h)

components_run : (part : Part) (c t : List ℕ) → AllByRecursion PathByte c → components part (c ++ t) ≡ components (come part c) t
components_run part [] t a = refl
components_run part (b ∷ bs) t a = components_byte part b (bs ++ t) a.0 ∙ components_run (grown part b) bs t a.1

components_to : (c : List ℕ) (cs : List (List ℕ)) → AllByRecursion Component (c ∷ cs) → components nothing (c ++ slashed cs) ≡ true
components_to c [] a = components_run nothing c [] a.0.bytes ∙ come-whole c a.0
components_to c (d ∷ ds) a =
    components_run nothing c (slashed (d ∷ ds)) a.0.bytes
    ∙ ap (λ t. t && components nothing (d ++ slashed ds)) (come-whole c a.0)
    ∙ components_to d ds a.1

components_from : (c s : List ℕ) → AllByRecursion PathByte c → components (come nothing c) s ≡ true → IsRest (c ++ s)
components_from c [] a e = record { first = c; others = []; components = (whole_component c a e, tt); whole = refl }
components_from c (b ∷ bs) a e = by (components_from [] bs tt) (components_from (c ++ b ∷ []) bs) (cases_Bool (b == 47))
  where
    part : Part
    part = come nothing c

    by :
        (components nothing bs ≡ true → IsRest bs) →
        (AllByRecursion PathByte (c ++ b ∷ []) → components (come nothing (c ++ b ∷ [])) bs ≡ true → IsRest ((c ++ b ∷ []) ++ bs)) →
        ((b == 47) ≡ true) ⊎ ((b == 47) ≡ false) → IsRest (c ++ b ∷ bs)
    by anew on (inl t) =
        let p = and_parts (whole part) (components nothing bs) (sym (ap (λ x. cond x (whole part) (path_byte b) && components (cond x nothing (grown part b)) bs) t) ∙ e) in
        let m : IsRest bs = anew p.1 in
        record {
          first = c;
          others = m.first ∷ m.others;
          components = (whole_component c a p.0, m.components);
          whole = ap (λ x. 47 ∷ (c ++ x)) (ap (λ y. y ∷ bs) (eqb-true b 47 t) ∙ m.whole);
        }
    by anew on (inr f) =
        let p = and_parts (path_byte b) (components (grown part b) bs) (sym (ap (λ x. cond x (whole part) (path_byte b) && components (cond x nothing (grown part b)) bs) f) ∙ e) in
        subst IsRest (append_assoc c (b ∷ []) bs)
        (on (All-append PathByte c (b ∷ []) a ((path_byte_test b).0 p.0, tt)) (ap (λ q. components q bs) (come-append nothing c (b ∷ [])) ∙ p.1))

path_from : (s : List ℕ) → length s ≤ 64 → slash_first s ≡ true → IsPath s
path_from [] l e = absurd (both_ways false refl e)
path_from (b ∷ []) l e =
    let p = and_parts (b == 47) true e in
    record { parts = []; components = tt; whole = ap (λ y. y ∷ []) (eqb-true b 47 p.0); short = l }
path_from (b ∷ x ∷ xs) l e =
    let p = and_parts (b == 47) (components nothing (x ∷ xs)) e in
    let m : IsRest (x ∷ xs) = components_from [] (x ∷ xs) tt p.1 in
    record { parts = m.first ∷ m.others; components = m.components; whole = ap (λ y. y ∷ x ∷ xs) (eqb-true b 47 p.0) ∙ m.whole; short = l }

path_to : (cs : List (List ℕ)) → AllByRecursion Component cs → slash_first (written cs) ≡ true
path_to [] a = refl
path_to ([] ∷ cs) a = absurd (a.0.some refl)
path_to ((x ∷ xs) ∷ cs) a = components_to (x ∷ xs) cs a

pub path_test : (s : List ℕ) → Decides (is_path s) (IsPath s)
unfolding is_path
path_test s = (
  λ e. let p = and_parts (nat_le (length s) 64) (slash_first s) e in path_from s (leb-true (length s) 64 p.0) p.1,
  λ p. and_from (nat_le (length s) 64) (slash_first s) (le-leb (length s) 64 p.short) (ap slash_first p.whole ∙ path_to p.parts p.components),
)

-- what decides the same is the same
pub decides_same : (r t : Bool) {P : Type 0} → Decides r P → Decides t P → r ≡ t
decides_same true true p q = refl
decides_same true false p q = absurd (both_ways false refl (q.1 (p.0 refl)))
decides_same false true p q = absurd (both_ways false refl (p.1 (q.0 refl)))
decides_same false false p q = refl
