-- The test of an ancestor's length is the relation.
use Rattle.std.proofs.Common.{◌≡◌, ℕ, zero, suc, ◌+◌, ◌-◌, ◌<◌, true, ◌&&◌, ◌||◌, eqb, ltb, ◌⊎◌, List, [], ◌∷◌, ◌++◌, length, get_or, take, sym, refl, ap, ◌∙◌, subst, inl, inr, ⊎_elim, arith}
use Rattle.std.specs.List.{AllByRecursion}
use Rattle.std.proofs.lemmas.List.{take_at, get_or_at, get_or_append_left, get_or-append_right, length-append, nil_from_length, length-take}
use Rattle.std.proofs.lemmas.Grind.{flat_map-append}
use Rattle.std.proofs.ByRecursion.{All-get_or}
use Rattle.std.proofs.lemmas.Bool.{cases_lt, and_parts, and_from, or_cases, or_left, or_right, ltb-true, lt-ltb, eqb-true, eq-eqb}
use Rattle.label.specs.Paths.{PathByte, Component, IsPath, Ancestor, Ancestors, ancestor, slashed, written}

-- where a slash stands, the components are cut
record Cut (cs : List (List ℕ)) (n : ℕ) : Type 0 where
  front : List (List ℕ)
  next : List ℕ
  rest : List (List ℕ)
  whole : cs ≡ front ++ next ∷ rest
  long : n ≡ length (slashed front)

cut : (cs : List (List ℕ)) (n : ℕ) → AllByRecursion Component cs → n < length (slashed cs) → get_or (slashed cs) n 0 ≡ 47 → Cut cs n
cut [] n a l e = absurd (omega arith)
cut (c ∷ cs) zero a l e = record { front = []; next = c; rest = cs; whole = refl; long = refl }
cut (c ∷ cs) (suc n) a l e =
    ⊎_elim
    (λ lt. absurd ((All-get_or PathByte c n 0 lt a.0.bytes).slash (sym (get_or_append_left c (slashed cs) 0 n lt) ∙ e)))
    (λ ge.
    let z = length-append c (slashed cs) in
    let r : Cut cs (n - length c) = cut cs (n - length c) a.1 (omega (arith, z)) (sym (get_or-append_right c (slashed cs) (length c) n 0 refl ge) ∙ e) in
    let y : length (c ++ slashed r.front) ≡ length c + length (slashed r.front) = length-append c (slashed r.front) in
    record { front = c ∷ r.front; next = r.next; rest = r.rest; whole = ap (λ x. c ∷ x) r.whole; long = omega (arith, r.long, y) })
    (cases_lt n (length c))

-- the written of the front is a front of the written
slashed_front : (c : List ℕ) (cs : List (List ℕ)) (d : List ℕ) (ds : List (List ℕ)) → written ((c ∷ cs) ++ d ∷ ds) ≡ written (c ∷ cs) ++ 47 ∷ (d ++ slashed ds)
slashed_front c cs d ds = flat_map-append (λ x. 47 ∷ x) (c ∷ cs) (d ∷ ds)

component_long : (c : List ℕ) → Component c → 0 < length c
component_long c n = ⊎_elim (λ l. l) (λ l. absurd (n.some (nil_from_length c (omega arith)))) (cases_lt 0 (length c))

all_right : (xs ys : List (List ℕ)) → AllByRecursion Component (xs ++ ys) → AllByRecursion Component ys
all_right [] ys a = a
all_right (x ∷ xs) ys a = all_right xs ys a.1

all_left : (xs ys : List (List ℕ)) → AllByRecursion Component (xs ++ ys) → AllByRecursion Component xs
all_left [] ys a = tt
all_left (x ∷ xs) ys a = (a.0, all_left xs ys a.1)

ancestor_from : (s : List ℕ) (n : ℕ) → 0 < n → n < length s → (n ≡ 1) ⊎ (get_or s n 0 ≡ 47) → ancestor s n ≡ true
ancestor_from s n l m e =
    and_from _ _ (and_from _ _ (lt-ltb 0 n l) (lt-ltb n (length s) m))
    (⊎_elim (λ x. or_left _ _ (eq-eqb n 1 x)) (λ x. or_right (eqb n 1) _ (eq-eqb (get_or s n 0) 47 x)) e)

pub test_from : (s : List ℕ) (n : ℕ) → Ancestor s n → ancestor s n ≡ true
test_from s n a = go a.front a.components a.whole a.long
  where
    go : (f : List (List ℕ)) → AllByRecursion Component (f ++ a.next ∷ a.rest) → s ≡ written (f ++ a.next ∷ a.rest) → n ≡ length (written f) → ancestor s n ≡ true
    go [] m e l =
        let y : length (a.next ++ slashed a.rest) ≡ length a.next + length (slashed a.rest) = length-append a.next (slashed a.rest) in
        let x : length s ≡ suc (length (a.next ++ slashed a.rest)) = ap length e in
        ancestor_from s n (omega arith) (omega (arith, component_long a.next m.0)) (inl l)
    go (c ∷ cs) m e l =
        let e' : s ≡ written (c ∷ cs) ++ 47 ∷ (a.next ++ slashed a.rest) = e ∙ slashed_front c cs a.next a.rest in
        let x : length s ≡ length (written (c ∷ cs)) + length (47 ∷ (a.next ++ slashed a.rest)) = ap length e' ∙ length-append (written (c ∷ cs)) (47 ∷ (a.next ++ slashed a.rest)) in
        ancestor_from s n (omega arith) (omega arith)
        (inr (ap (λ z. get_or z n 0) e' ∙ get_or_at (written (c ∷ cs)) 47 (a.next ++ slashed a.rest) 0 n (sym l)))

pub from_test : (s : List ℕ) (n : ℕ) → IsPath s → ancestor s n ≡ true → Ancestor s n
from_test s n p t = go p.parts p.components p.whole
  where
    t' : ((ltb 0 n && ltb n (length s)) ≡ true) × ((eqb n 1 || eqb (get_or s n 0) 47) ≡ true)
    t' = and_parts (ltb 0 n && ltb n (length s)) _ t

    lo : 0 < n
    lo = ltb-true 0 n (and_parts (ltb 0 n) _ t'.0).0

    hi : n < length s
    hi = ltb-true n (length s) (and_parts (ltb 0 n) _ t'.0).1

    go : (cs : List (List ℕ)) → AllByRecursion Component cs → s ≡ written cs → Ancestor s n
    go [] a e = let x : length s ≡ 1 = ap length e in absurd (omega (arith, lo, hi))
    go (c ∷ cs) a e =
        ⊎_elim
        (λ x. record { front = []; next = c; rest = cs; components = a; whole = e; long = eqb-true n 1 x })
        (λ x.
        let k : Cut (c ∷ cs) n = cut (c ∷ cs) n a (subst (λ z. n < length z) e hi) (ap (λ z. get_or z n 0) (sym e) ∙ eqb-true (get_or s n 0) 47 x) in
        later k k.front k.whole k.long)
        (or_cases (eqb n 1) _ t'.1)
      where
        later : (k : Cut (c ∷ cs) n) (f : List (List ℕ)) → c ∷ cs ≡ f ++ k.next ∷ k.rest → n ≡ length (slashed f) → Ancestor s n
        later k [] w l = absurd (omega (arith, lo, l))
        later k (f ∷ fs) w l =
            record { front = f ∷ fs; next = k.next; rest = k.rest; components = subst (AllByRecursion Component) w a; whole = e ∙ ap written w; long = l }

front_is : (s : List ℕ) (n : ℕ) (a : Ancestor s n) → take n s ≡ written a.front
front_is s n a = go a.front a.whole a.long
  where
    go : (f : List (List ℕ)) → s ≡ written (f ++ a.next ∷ a.rest) → n ≡ length (written f) → take n s ≡ written f
    go [] e l = ap (take n) e ∙ take_at (47 ∷ []) (a.next ++ slashed a.rest) n (sym l)
    go (c ∷ cs) e l = ap (take n) (e ∙ slashed_front c cs a.next a.rest) ∙ take_at (written (c ∷ cs)) _ n (sym l)

pub ancestors : Ancestors
ancestors =
    record {
      tests = λ s n p. (from_test s n p, test_from s n);
      paths = λ s n p t.
          let a : Ancestor s n = from_test s n p t in
          record { parts = a.front; components = all_left a.front _ a.components; whole = front_is s n a; short = simp length-take (omega (arith, p.short)) };
    }
