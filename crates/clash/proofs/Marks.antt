-- The table of shared entry paths is filled entry by entry.
use Rattle.std.proofs.Common.{◌≡◌, ℕ, ◌+◌, ◌<◌, ◌≤◌, Bool, true, false, ◌&&◌, ◌||◌, eqb, List, length, get_or, drop, set, replicate, sym, refl, ap, ◌∙◌, ⊎_elim, arith}
use Rattle.std.specs.Str.{bytes_eq}
use Rattle.std.proofs.lemmas.Slice.Eq.{bytes_eq-Decides}
use Rattle.std.proofs.lemmas.List.{at_drop_more, at_drop_all, get_or-replicate, get_or-set_same, get_or-set_other}
use Rattle.std.proofs.lemmas.Bool.{and_from, and_left, and_right, cases_eq, eq-eqb, ne_eqb, or_left, or_right}
use Rattle.label.specs.Texts.{text}
use Rattle.tables.specs.Entries.{is_for, enters}
use Rattle.tables.specs.declared.entry.Entry.{Entry}
use Rattle.clash.specs.Clashes.{shared_by, shares}
use Rattle.clash.specs.Sharing.{marked, Entered, Sharers}

or-false : (a : Bool) → (a || false) ≡ a
or-false true = refl
or-false false = refl

or_assoc : (a b c : Bool) → ((a || b) || c) ≡ (a || (b || c))
or_assoc true b c = refl
or_assoc false b c = refl

-- what is marked so far, with what the entries from the i-th on give, is what all of them give
abbrev pub Marking : List Entry → ℕ → List ℕ → ℕ → List Bool → List Bool → Type 0
Marking xs e p i before row = (f : ℕ) → e < f → f < 32 → (marked row f || enters (drop i xs) f p) ≡ (marked before f || enters xs f p)

abbrev pub Gathering : List Entry → ℕ → ℕ → List Bool → Type 0
Gathering xs e i row = (f : ℕ) → e < f → f < 32 → (marked row f || shared_by (drop i xs) xs e f) ≡ shares xs e f

module _ (xs : List Entry) (i : ℕ) (x : Entry) (l : i < length xs) (is : x ≡ get_or xs i x) where
  module _ (e : ℕ) (p : List ℕ) (before row : List Bool) (inv : Marking xs e p i before row) where
    enters_next : (f : ℕ) → enters (drop i xs) f p ≡ (is_for x f p || enters (drop (i + 1) xs) f p)
    enters_next f = at_drop_more (λ z. enters z f p) xs i x l ∙ ap (λ z. is_for z f p || enters (drop (i + 1) xs) f p) (sym is)

    pub marked_too : length row ≡ 32 → x.dom.0 < 32 → text x.path ≡ p → Marking xs e p (i + 1) before (set row x.dom.0 true)
    marked_too len lt same f a h =
        ⊎_elim
        (λ (here : f ≡ x.dom.0).
        let new : marked (set row x.dom.0 true) f ≡ true =
        ap (λ k. get_or (set row x.dom.0 true) k false) here ∙ get_or-set_same row x.dom.0 true false (omega (arith, len, lt)) in
        let for_it : is_for x f p ≡ true = and_from _ _ (eq-eqb x.dom.0 f (sym here)) ((bytes_eq-Decides (text x.path) p).1 same) in
        or_left _ _ new
        ∙ sym (or_right (marked row f) (enters (drop i xs) f p) (enters_next f ∙ or_left _ _ for_it))
        ∙ inv f a h)
        (λ (other : f ≡ x.dom.0 → ⊥).
        let old : marked (set row x.dom.0 true) f ≡ marked row f = get_or-set_other row x.dom.0 f true false other in
        let not_for : is_for x f p ≡ false = and_left _ _ (ne_eqb x.dom.0 f (λ q. other (sym q))) in
        ap (λ b. b || enters (drop (i + 1) xs) f p) old
        ∙ ap (λ b. marked row f || b) (sym (enters_next f ∙ ap (λ b. b || enters (drop (i + 1) xs) f p) not_for))
        ∙ inv f a h)
        (cases_eq f x.dom.0)

    not_marked : ((f : ℕ) → e < f → f < 32 → is_for x f p ≡ false) → Marking xs e p (i + 1) before row
    not_marked none f a h =
        ap (λ b. marked row f || b) (sym (enters_next f ∙ ap (λ b. b || enters (drop (i + 1) xs) f p) (none f a h)))
        ∙ inv f a h

    pub beyond : 32 ≤ x.dom.0 → Marking xs e p (i + 1) before row
    beyond ge = not_marked (λ f a h. and_left _ _ (ne_eqb x.dom.0 f (λ q. omega (arith, q, ge, h))))

    pub not_above : x.dom.0 ≤ e → Marking xs e p (i + 1) before row
    not_above le = not_marked (λ f a h. and_left _ _ (ne_eqb x.dom.0 f (λ q. omega (arith, q, le, a))))

    pub by_another_path : (text x.path ≡ p → ⊥) → Marking xs e p (i + 1) before row
    by_another_path differs = not_marked (λ f a h. and_right _ _ apart)
      where
        apart : bytes_eq (text x.path) p ≡ false
        apart = elim (bytes_eq (text x.path) p) as (λ b. (b ≡ true → text x.path ≡ p) → b ≡ false) [ true ↦ λ g. absurd (differs (g refl)) | false ↦ λ g. refl ] (bytes_eq-Decides (text x.path) p).0

  module _ (e : ℕ) (row : List Bool) (inv : Gathering xs e i row) where
    shared_next : (f : ℕ) → shared_by (drop i xs) xs e f ≡ ((eqb x.dom.0 e && enters xs f (text x.path)) || shared_by (drop (i + 1) xs) xs e f)
    shared_next f = at_drop_more (λ z. shared_by z xs e f) xs i x l ∙ ap (λ z. (eqb z.dom.0 e && enters xs f (text z.path)) || shared_by (drop (i + 1) xs) xs e f) (sym is)

    pub its_own : (p : List ℕ) (after : List Bool) → p ≡ text x.path → x.dom.0 ≡ e → Entered xs e p row after → Gathering xs e (i + 1) after
    its_own p after same here new f a h =
        ap (λ b. b || shared_by (drop (i + 1) xs) xs e f) (new f a h ∙ ap (λ q. marked row f || enters xs f q) same)
        ∙ or_assoc (marked row f) (enters xs f (text x.path)) _
        ∙ ap (λ b. marked row f || ((b && enters xs f (text x.path)) || shared_by (drop (i + 1) xs) xs e f)) (sym (eq-eqb x.dom.0 e here))
        ∙ ap (λ b. marked row f || b) (sym (shared_next f))
        ∙ inv f a h

    pub of_another : (x.dom.0 ≡ e → ⊥) → Gathering xs e (i + 1) row
    of_another other f a h =
        ap (λ b. marked row f || ((b && enters xs f (text x.path)) || shared_by (drop (i + 1) xs) xs e f)) (sym (ne_eqb x.dom.0 e other))
        ∙ ap (λ b. marked row f || b) (sym (shared_next f))
        ∙ inv f a h

module _ (xs : List Entry) (i : ℕ) (l : length xs ≤ i) where
  pub all_marked : (e : ℕ) (p : List ℕ) (before row : List Bool) → Marking xs e p i before row → Entered xs e p before row
  all_marked e p before row inv f a h =
      sym (or-false (marked row f)) ∙ ap (λ b. marked row f || b) (sym (at_drop_all (λ z. enters z f p) xs i l)) ∙ inv f a h

  pub all_gathered : (e : ℕ) (row : List Bool) → Gathering xs e i row → Sharers xs e row
  all_gathered e row inv = record {
    marks = λ f a h.
        sym (or-false (marked row f)) ∙ ap (λ b. marked row f || b) (sym (at_drop_all (λ z. shared_by z xs e f) xs i l)) ∙ inv f a h;
  }

pub none_gathered : (xs : List Entry) (e : ℕ) → Gathering xs e 0 (replicate 32 false)
none_gathered xs e f a h = ap (λ b. b || shared_by xs xs e f) (get_or-replicate 32 f false false h)
