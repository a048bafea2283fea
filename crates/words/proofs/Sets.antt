-- Letters that are added to a set one by one, and the set that they make.
use Rattle.std.proofs.Common.{◌≡◌, ℕ, ◌^◌, zero, suc, ◌<◌, Bool, true, false, cond, not, ◌||◌, eqb, ◌⊎◌, List, [], ◌∷◌, IfSome, Some, None, codes, Decides, Option, sym, refl, ap, ◌∙◌, subst, inl, inr, ⊎_elim, arith, MatchOption}
use lib.Bits.{bit_and, or_lt}
use Rattle.std.specs.Int.{bit_at}
use Rattle.std.proofs.lemmas.Nat.{pow_pos}
use Rattle.std.proofs.lemmas.Nat.Bits.{and_pow, bit_at-lt, same_from_bits_below}
use Rattle.std.proofs.lemmas.Bool.{cond_both, both_ways, ne_eqb, eqb-true, or_cases, cases_Bool}
use Rattle.std.proofs.lemmas.Bool.Decides.{same_from_decides}
use Rattle.std.specs.Option.{option_map, option_flatten}
use Rattle.std.specs.List.{AllByRecursion}
use Rattle.label.specs.declared.rights.Rights.{Rights}
use Rattle.label.specs.Letters.{bit, meets, has, none, union}
use Rattle.label.proofs.Bits.{sets}
use Rattle.words.specs.Letters.{with_letter, with_letters, letters_of, Among, Distinct, OnceEach, SetOf, LettersAsSets}

abbrev Letter : ℕ → Type 0
Letter l = Among (codes "rwaxcd") l

-- what holds of each letter with its bit, and of what is no letter without one, holds of every byte
each_letter : (P : ℕ → Option ℕ → Type 0) → P 114 (Some 1) → P 119 (Some 2) → P 97 (Some 4) → P 120 (Some 8) → P 99 (Some 16) → P 100 (Some 32) → ((l : ℕ) → (Letter l → ⊥) → P l None) → (l : ℕ) → P l (bit l)
each_letter P r w a x c d other l =
    cond_both (eqb l 114) _ _ (P l) (λ t. subst (λ m. P m (Some 1)) (sym (eqb-true l 114 t)) r)
    (λ nr. cond_both (eqb l 119) _ _ (P l) (λ t. subst (λ m. P m (Some 2)) (sym (eqb-true l 119 t)) w)
    (λ nw. cond_both (eqb l 97) _ _ (P l) (λ t. subst (λ m. P m (Some 4)) (sym (eqb-true l 97 t)) a)
    (λ na. cond_both (eqb l 120) _ _ (P l) (λ t. subst (λ m. P m (Some 8)) (sym (eqb-true l 120 t)) x)
    (λ nx. cond_both (eqb l 99) _ _ (P l) (λ t. subst (λ m. P m (Some 16)) (sym (eqb-true l 99 t)) c)
    (λ nc. cond_both (eqb l 100) _ _ (P l) (λ t. subst (λ m. P m (Some 32)) (sym (eqb-true l 100 t)) d)
    (λ nd. other l (none_of nr nw na nx nc nd)))))))
  where
    none_of : eqb l 114 ≡ false → eqb l 119 ≡ false → eqb l 97 ≡ false → eqb l 120 ≡ false → eqb l 99 ≡ false → eqb l 100 ≡ false → Letter l → ⊥
    none_of nr nw na nx nc nd h = grind arith

record BitOf (l n : ℕ) : Type 0 where
  letter : Letter l
  small : n < 64
  alone : (m : ℕ) → meets n (bit m) ≡ eqb l m

bit_of : (l : ℕ) → MatchOption (bit l) (Letter l → ⊥) (BitOf l)
bit_of =
    each_letter (λ l o. MatchOption o (Letter l → ⊥) (BitOf l))
    (record { letter = inl refl; small = omega arith; alone = each_letter (λ m o. meets 1 o ≡ eqb 114 m) refl refl refl refl refl refl (λ m h. sym (ne_eqb 114 m (λ e. h (inl e)))) })
    (record { letter = inr (inl refl); small = omega arith; alone = each_letter (λ m o. meets 2 o ≡ eqb 119 m) refl refl refl refl refl refl (λ m h. sym (ne_eqb 119 m (λ e. h (inr (inl e))))) })
    (record { letter = inr (inr (inl refl)); small = omega arith; alone = each_letter (λ m o. meets 4 o ≡ eqb 97 m) refl refl refl refl refl refl (λ m h. sym (ne_eqb 97 m (λ e. h (inr (inr (inl e)))))) })
    (record { letter = inr (inr (inr (inl refl))); small = omega arith; alone = each_letter (λ m o. meets 8 o ≡ eqb 120 m) refl refl refl refl refl refl (λ m h. sym (ne_eqb 120 m (λ e. h (inr (inr (inr (inl e))))))) })
    (record { letter = inr (inr (inr (inr (inl refl)))); small = omega arith; alone = each_letter (λ m o. meets 16 o ≡ eqb 99 m) refl refl refl refl refl refl (λ m h. sym (ne_eqb 99 m (λ e. h (inr (inr (inr (inr (inl e)))))))) })
    (record { letter = inr (inr (inr (inr (inr (inl refl))))); small = omega arith; alone = each_letter (λ m o. meets 32 o ≡ eqb 100 m) refl refl refl refl refl refl (λ m h. sym (ne_eqb 100 m (λ e. h (inr (inr (inr (inr (inr (inl e))))))))) })
    (λ l h. h)

-- t is s with the letter l besides
record More (s : Rights) (l : ℕ) (t : Rights) : Type 0 where
  letter : Letter l
  new : has s l ≡ false
  has_is : (m : ℕ) → has t m ≡ (has s m || eqb l m)
  small : s.bits < 64 → t.bits < 64

with_letter_is : (s : Rights) (l : ℕ) → MatchOption (with_letter s l) ((has s l ≡ true) ⊎ (Letter l → ⊥)) (More s l)
unfolding with_letter
with_letter_is s l = at (has s l) refl (bit l) (bit_of l)
  where
    at : (b : Bool) → has s l ≡ b → (o : Option ℕ) → MatchOption o (Letter l → ⊥) (BitOf l) → MatchOption (cond b None (option_map (λ n. union s (record { bits = n })) o)) ((has s l ≡ true) ⊎ (Letter l → ⊥)) (More s l)
    at true e o h = inl e
    at false e None h = inr h
    at false e (Some n) h =
        record {
          letter = h.letter;
          new = e;
          has_is = λ m. sets.union_has s (record { bits = n }) m ∙ ap (λ x. has s m || x) (h.alone m);
          small = λ q. or_lt 6 s.bits n q h.small;
        }

-- t is s with the letters of bs besides, each of them new
record Grown (s : Rights) (bs : List ℕ) (t : Rights) : Type 0 where
  letters : AllByRecursion Letter bs
  once : Distinct bs
  new : (l : ℕ) → Among bs l → has s l ≡ false
  has_is : (m : ℕ) → Decides (has t m) ((has s m ≡ true) ⊎ Among bs m)
  small : s.bits < 64 → t.bits < 64

grown_more : (s u t : Rights) (b : ℕ) (bs : List ℕ) → More s b u → Grown u bs t → Grown s (b ∷ bs) t
grown_more s u t b bs m g =
    record {
      letters = (m.letter, g.letters);
      once = (λ a. both_ways _ (g.new b a) (held b (inr refl)), g.once);
      new = λ l a. ⊎_elim (λ e. subst (λ x. has s x ≡ false) e m.new) (λ a'. unheld l (g.new l a')) a;
      has_is = λ l. (λ e. ⊎_elim (λ h. back l h) (λ a. inr (inr a)) ((g.has_is l).0 e), λ h. (g.has_is l).1 (forth l h));
      small = λ q. g.small (m.small q);
    }
  where
    held : (l : ℕ) → (has s l ≡ true) ⊎ (b ≡ l) → has u l ≡ true
    held l h = grind (arith, m.has_is l)

    unheld : (l : ℕ) → has u l ≡ false → has s l ≡ false
    unheld l f = ⊎_elim (λ t'. absurd (both_ways _ f (held l (inl t')))) (λ e. e) (cases_Bool (has s l))

    back : (l : ℕ) → has u l ≡ true → (has s l ≡ true) ⊎ Among (b ∷ bs) l
    back l h = ⊎_elim (λ e. inl e) (λ e. inr (inl (eqb-true b l e))) (or_cases (has s l) (eqb b l) (sym (m.has_is l) ∙ h))

    forth : (l : ℕ) → (has s l ≡ true) ⊎ Among (b ∷ bs) l → (has u l ≡ true) ⊎ Among bs l
    forth l h = grind (arith, m.has_is l)

grows : (s : Rights) (bs : List ℕ) → IfSome (with_letters s bs) (Grown s bs)
unfolding with_letters
grows s [] = record { letters = tt; once = tt; new = λ l a. absurd a; has_is = λ m. (λ e. inl e, λ h. ⊎_elim (λ e. e) (λ a. absurd a) h); small = λ q. q }
grows s (b ∷ bs) = at (with_letter s b) (with_letter_is s b) (λ u. grows u bs)
  where
    at : (o : Option Rights) → MatchOption o ((has s b ≡ true) ⊎ (Letter b → ⊥)) (More s b) → ((u : Rights) → IfSome (with_letters u bs) (Grown u bs)) → IfSome (option_flatten (option_map (λ u. with_letters u bs) o)) (Grown s (b ∷ bs))
    at None h later = tt
    at (Some u) h later = then (with_letters u bs) (later u)
      where
        then : (o : Option Rights) → IfSome o (Grown u bs) → IfSome o (Grown s (b ∷ bs))
        then None g = tt
        then (Some t) g = grown_more s u t b bs h g

-- new letters, each once, are all taken
makes : (s : Rights) (bs : List ℕ) → AllByRecursion Letter bs → Distinct bs → ((l : ℕ) → Among bs l → has s l ≡ false) → (t : Rights) × (with_letters s bs ≡ Some t)
unfolding with_letters
makes s [] letters once new = (s, refl)
makes s (b ∷ bs) letters once new = at (with_letter s b) (with_letter_is s b) (λ u. makes u bs letters.1 once.1)
  where
    at : (o : Option Rights) → MatchOption o ((has s b ≡ true) ⊎ (Letter b → ⊥)) (More s b) → ((u : Rights) → ((l : ℕ) → Among bs l → has u l ≡ false) → (t : Rights) × (with_letters u bs ≡ Some t)) → (t : Rights) × (option_flatten (option_map (λ u. with_letters u bs) o) ≡ Some t)
    at None h later = absurd (⊎_elim (λ t. both_ways _ (new b (inl refl)) t) (λ n. n letters.0) h)
    at (Some u) h later = later u (λ l a. h.has_is l ∙ ap (λ x. x || eqb b l) (new l (inr a)) ∙ ne_eqb b l (λ e. once.0 (subst (Among bs) (sym e) a)))

-- a letter's bit shows that digit of the number
shown_digit : (n k : ℕ) → eqb (bit_and n (2 ^ k)) 0 ≡ eqb (bit_at n k) 0
shown_digit n k = grind (arith, and_pow n k, bit_at-lt n k, pow_pos k)

same_digit : (s t k : ℕ) → not (eqb (bit_and s (2 ^ k)) 0) ≡ not (eqb (bit_and t (2 ^ k)) 0) → bit_at s k ≡ bit_at t k
same_digit s t k e = grind (arith, shown_digit s k, shown_digit t k, bit_at-lt s k, bit_at-lt t k)

same_bits : (s t : ℕ) → s < 64 → t < 64 → ((m : ℕ) → meets s (bit m) ≡ meets t (bit m)) → s ≡ t
same_bits s t ls lt e = same_from_bits_below 6 s t ls lt digit
  where
    digit : (i : ℕ) → i < 6 → bit_at s i ≡ bit_at t i
    digit zero l = same_digit s t 0 (e 114)
    digit (suc zero) l = same_digit s t 1 (e 119)
    digit (suc (suc zero)) l = same_digit s t 2 (e 97)
    digit (suc (suc (suc zero))) l = same_digit s t 3 (e 120)
    digit (suc (suc (suc (suc zero)))) l = same_digit s t 4 (e 99)
    digit (suc (suc (suc (suc (suc zero))))) l = same_digit s t 5 (e 100)
    digit (suc (suc (suc (suc (suc (suc i)))))) l = absurd (omega arith)

same_set : (s t : Rights) → s.bits < 64 → t.bits < 64 → ((m : ℕ) → has s m ≡ has t m) → s ≡ t
same_set s t ls lt e = let of : ℕ → Rights = λ n. record { bits = n } in ap of (same_bits s.bits t.bits ls lt e)

letters_some : (bs : List ℕ) → (bs ≡ [] → ⊥) → letters_of bs ≡ with_letters none bs
unfolding letters_of
letters_some [] some = absurd (some refl)
letters_some (b ∷ bs) some = refl

letters_are : (bs : List ℕ) (s : Rights) → letters_of bs ≡ Some s → OnceEach bs × SetOf bs s
unfolding letters_of
letters_are [] s e = absurd (grind arith)
letters_are (b ∷ bs) s e =
    let g : Grown none (b ∷ bs) s = subst (λ o. IfSome o (Grown none (b ∷ bs))) e (grows none (b ∷ bs)) in (
      record { some = λ h. (grind arith); letters = g.letters; once = g.once },
      record {
        has_these = λ l. (λ t. ⊎_elim (λ h. absurd (both_ways _ (sets.none_has l) h)) (λ a. a) ((g.has_is l).0 t), λ a. (g.has_is l).1 (inr a));
        no_more = g.small (omega arith);
      },
    )

letters_make : (bs : List ℕ) → OnceEach bs → (t : Rights) × (letters_of bs ≡ Some t)
letters_make bs o =
    let m = makes none bs o.letters o.once (λ l a. sets.none_has l) in
    (m.0, letters_some bs o.some ∙ m.1)

letters_taken : (bs : List ℕ) (s : Rights) → OnceEach bs → SetOf bs s → letters_of bs ≡ Some s
letters_taken bs s o h =
    let m = letters_make bs o in
    let g = (letters_are bs m.0 m.1).1 in
    m.1 ∙ ap Some (same_set m.0 s g.no_more h.no_more (λ l. same_from_decides (has m.0 l) (has s l) (g.has_these l) (h.has_these l)))

pub letters_as_sets : LettersAsSets
letters_as_sets =
    record {
      taken = λ bs s. (letters_are bs s, λ h. letters_taken bs s h.0 h.1);
      refused = λ bs. (λ e o. grind (arith, e, (letters_make bs o).1), λ h. nothing bs h (letters_of bs) refl);
      any_order = λ bs cs o p same. (let m = letters_make bs o in
          let g = (letters_are bs m.0 m.1).1 in
          m.1
          ∙ sym (letters_taken cs m.0 p (record { has_these = λ l. (λ t. (same l).0 ((g.has_these l).0 t), λ a. (g.has_these l).1 ((same l).1 a)); no_more = g.no_more })));
    }
  where
    nothing : (bs : List ℕ) → (OnceEach bs → ⊥) → (o : Option Rights) → letters_of bs ≡ o → o ≡ None
    nothing bs h None e = refl
    nothing bs h (Some s) e = absurd (h (letters_are bs s e).0)
