-- The domains that a path enters, entry by entry, and how many entry paths a domain has.
use Rattle.std.proofs.Common.{◌≡◌, ℕ, ◌+◌, ◌<◌, ◌≤◌, Bool, true, false, cond, ◌&&◌, ◌||◌, eqb, List, [], ◌∷◌, ◌++◌, length, get_or, drop, set, sym, refl, ap, ◌∙◌, subst, ⊎_elim, arith}
use Rattle.std.proofs.lemmas.List.{at_drop_more, at_drop_all, get_or-set_same, get_or-set_other}
use Rattle.std.proofs.lemmas.Bool.{cond_both, and_from, and_right, or_left, or_right, cases_Bool, cases_eq, eqb-true, eq-eqb, ne_eqb}
use Rattle.std.specs.Str.{bytes_eq}
use Rattle.std.proofs.lemmas.List.Sums.{sum_by_push}
use Rattle.label.specs.Texts.{text}
use Rattle.tables.specs.declared.entry.Entry.{Entry}
use Rattle.tables.specs.Entries.{is_for, enters, count_of, Entered}

-- one step of the search for the domains that a path enters
module _ (xs : List Entry) (i : ℕ) (x : Entry) (p : List ℕ) (l : i < length xs) (is : x ≡ get_or xs i x) (es : List Bool) (inv : (e : ℕ) → e < 32 → (get_or es e false || enters (drop i xs) e p) ≡ enters xs e p) where
  entered_step : (e : ℕ) → e < 32 → (get_or es e false || (is_for x e p || enters (drop (i + 1) xs) e p)) ≡ enters xs e p
  entered_step e h =
      sym (ap (λ b. get_or es e false || b) (at_drop_more (λ z. enters z e p) xs i x l ∙ ap (λ z. is_for z e p || enters (drop (i + 1) xs) e p) (sym is)))
      ∙ inv e h

  unlike : (e : ℕ) → e < 32 → is_for x e p ≡ false → (get_or es e false || enters (drop (i + 1) xs) e p) ≡ enters xs e p
  unlike e h t = sym (ap (λ b. get_or es e false || (b || enters (drop (i + 1) xs) e p)) t) ∙ entered_step e h

  pub entered_here : (after : List Bool) → after ≡ set es x.dom.0 true → x.dom.0 < length es → true ≡ bytes_eq (text x.path) p → (e : ℕ) → e < 32 → (get_or after e false || enters (drop (i + 1) xs) e p) ≡ enters xs e p
  entered_here after a m t e h =
      ap (λ z. get_or z e false || enters (drop (i + 1) xs) e p) a
      ∙ ⊎_elim
      (λ q.
      let f : is_for x e p ≡ true = and_from _ _ (eq-eqb x.dom.0 e q) (sym t) in
      ap (λ k. get_or (set es x.dom.0 true) k false || enters (drop (i + 1) xs) e p) (sym q)
      ∙ ap (λ b. b || enters (drop (i + 1) xs) e p) (get_or-set_same es x.dom.0 true false m)
      ∙ sym (or_right (get_or es e false) _ (or_left _ _ f))
      ∙ entered_step e h)
      (λ q.
      ap (λ b. b || enters (drop (i + 1) xs) e p) (get_or-set_other es x.dom.0 e true false (λ r. q (sym r)))
      ∙ unlike e h (ap (λ b. b && bytes_eq (text x.path) p) (ne_eqb x.dom.0 e q)))
      (cases_eq x.dom.0 e)

  pub entered_elsewhere : (after : List Bool) → after ≡ es → 32 ≤ x.dom.0 → (e : ℕ) → e < 32 → (get_or after e false || enters (drop (i + 1) xs) e p) ≡ enters xs e p
  entered_elsewhere after a m e h =
      ap (λ z. get_or z e false || enters (drop (i + 1) xs) e p) a
      ∙ unlike e h (ap (λ b. b && bytes_eq (text x.path) p) (ne_eqb x.dom.0 e (λ q. omega (arith, q))))

  pub entered_not : (after : List Bool) → after ≡ es → false ≡ bytes_eq (text x.path) p → (e : ℕ) → e < 32 → (get_or after e false || enters (drop (i + 1) xs) e p) ≡ enters xs e p
  entered_not after a t e h =
      ap (λ z. get_or z e false || enters (drop (i + 1) xs) e p) a
      ∙ unlike e h (and_right (eqb x.dom.0 e) _ (sym t))

pub entered_at_end : (xs : List Entry) (i : ℕ) (p : List ℕ) (es : List Bool) → length xs ≤ i → ((e : ℕ) → e < 32 → (get_or es e false || enters (drop i xs) e p) ≡ enters xs e p) → Entered xs p es
entered_at_end xs i p es l inv e h = sym (or-false (get_or es e false)) ∙ sym (ap (λ b. get_or es e false || b) (at_drop_all (λ z. enters z e p) xs i l)) ∙ inv e h
  where
    or-false : (b : Bool) → (b || false) ≡ b
    or-false true = refl
    or-false false = refl

-- where the domain of the new one has fewer than 8, each domain has at most 8 after
pub few_after_push : (xs after : List Entry) (x : Entry) (b : Bool) → after ≡ cond b (xs ++ x ∷ []) xs → ((d : ℕ) → count_of xs d ≤ 8) → count_of xs x.dom.0 < 8 → (d : ℕ) → count_of after d ≤ 8
unfolding count_of
few_after_push xs after x b e few l d =
    subst (λ z. count_of z d ≤ 8) (sym e)
    (cond_both b (xs ++ x ∷ []) xs (λ z. count_of z d ≤ 8)
    (λ _.
    let p = sum_by_push (λ y. cond (eqb y.dom.0 d) 1 0) xs x in
    ⊎_elim
    (λ t.
    let q : count_of (xs ++ x ∷ []) d ≡ count_of xs d + 1 = p ∙ ap (λ c. count_of xs d + cond c 1 0) t in
    let r : count_of xs d ≡ count_of xs x.dom.0 = ap (count_of xs) (sym (eqb-true x.dom.0 d t)) in
    omega (arith, q, r, l))
    (λ t.
    let q : count_of (xs ++ x ∷ []) d ≡ count_of xs d + 0 = p ∙ ap (λ c. count_of xs d + cond c 1 0) t in
    let f = few d in
    omega (arith, q, f))
    (cases_Bool (eqb x.dom.0 d)))
    (λ _. few d))
