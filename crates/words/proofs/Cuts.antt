-- Where the first arrow of a word stands, and what is split there.
use Rattle.std.proofs.Common.{get_or, ◌≡◌, ℕ, zero, suc, ◌+◌, ◌<◌, Bool, true, false, cond, List, [], ◌∷◌, ◌++◌, length, take, drop, Some, None, codes, Option, sym, refl, ap, ◌∙◌, arith, MatchOption}
use Rattle.std.proofs.lemmas.Slice.Eq.{bytes_eq-Decides}
use Rattle.std.proofs.lemmas.List.{length-take, length-drop, drop-drop, take_at, drop_at, take-append-drop}
use Rattle.std.specs.Option.{option_map}
use Rattle.words.specs.Arrows.{arrow, arrow_from, first_arrow, split_arrow, ArrowAt, SplitAtTheFirst}

abbrev NoArrow : List ℕ → Type 0
NoArrow w = (m : ℕ) → ArrowAt w m → ⊥

record First (w : List ℕ) (k : ℕ) : Type 0 where
  here : ArrowAt w k
  none_before : (m : ℕ) → m < k → ArrowAt w m → ⊥

-- what a search says that counts the places of w from i
abbrev Finds : ℕ → List ℕ → Option ℕ → Type 0
Finds i w o = MatchOption o (NoArrow w) (λ j. (k : ℕ) × (j ≡ i + k) × First w k)

nothing_in_nothing : NoArrow []
nothing_in_nothing m e = grind arith

module _ (b : ℕ) (bs : List ℕ) (other : arrow (b ∷ bs) ≡ false) where
  not_in_front : ArrowAt (b ∷ bs) 0 → ⊥
  not_in_front e = grind (arith, bytes_eq-Decides (take 2 (b ∷ bs)) (codes "->"))

  none_behind : NoArrow bs → NoArrow (b ∷ bs)
  none_behind h zero e = not_in_front e
  none_behind h (suc m) e = h m e

  first_behind : (k : ℕ) → First bs k → First (b ∷ bs) (suc k)
  first_behind k f = record { here = f.here; none_before = before }
    where
      before : (m : ℕ) → m < suc k → ArrowAt (b ∷ bs) m → ⊥
      before zero l e = not_in_front e
      before (suc m) l e = f.none_before m (omega arith) e

found_behind : (i b : ℕ) (bs : List ℕ) (t : Bool) → arrow (b ∷ bs) ≡ t → (o : Option ℕ) → Finds (i + 1) bs o → Finds i (b ∷ bs) (cond t (Some i) o)
found_behind i b bs true t o h = (0, omega arith, record { here = (bytes_eq-Decides _ _).0 t; none_before = λ m l. absurd (omega arith) })
found_behind i b bs false t None h = none_behind b bs t h
found_behind i b bs false t (Some j) h = (suc h.0, omega (arith, h.1), first_behind b bs t h.0 h.2)

finds : (i : ℕ) (w : List ℕ) → Finds i w (arrow_from i w)
unfolding arrow_from
finds i [] = nothing_in_nothing
finds i (b ∷ bs) = found_behind i b bs (arrow (b ∷ bs)) refl (arrow_from (i + 1) bs) (finds (i + 1) bs)

one_first : (w : List ℕ) (j k : ℕ) → First w j → First w k → j ≡ k
one_first w j k f g = grind (arith, f.none_before j, g.none_before j, f.none_before k, g.none_before k, f.here, g.here)

first_is : (w : List ℕ) (k : ℕ) → First w k → first_arrow w ≡ Some k
first_is w k f = at (first_arrow w) (finds 0 w)
  where
    at : (o : Option ℕ) → Finds 0 w o → o ≡ Some k
    at None nowhere = grind (arith, f.here)
    at (Some j) h = grind (arith, h.1, one_first w h.0 k h.2 f)

nowhere : (w : List ℕ) → NoArrow w → (o : Option ℕ) → Finds 0 w o → o ≡ None
nowhere w none None h = refl
nowhere w none (Some j) h = absurd (none h.0 h.2.here)

arrow_fits : (w : List ℕ) (k : ℕ) → ArrowAt w k → k + 1 < length w
arrow_fits w k e = omega (arith, simp (length-take, length-drop) at (ap length e))

parts_join : (w : List ℕ) (k : ℕ) → ArrowAt w k → w ≡ take k w ++ (codes "->" ++ drop (k + 2) w)
parts_join w k e = grind (arith, take-append-drop k w, take-append-drop 2 (drop k w), drop-drop 2 k w)

abbrev parts : List ℕ → ℕ → List ℕ × List ℕ
parts w i = (take i w, drop (i + 2) w)

pub split_at_the_first : SplitAtTheFirst
unfolding split_arrow
split_at_the_first =
    record {
      splits = λ w before after. (λ e. split w before after (first_arrow w) (finds 0 w) e, λ h. joined w before after h.0 h.1);
      whole = λ w. (λ e. unsplit w (first_arrow w) (finds 0 w) e, λ h. ap (option_map (parts w)) (nowhere w h (first_arrow w) (finds 0 w)));
    }
  where
    split : (w before after : List ℕ) (o : Option ℕ) → Finds 0 w o → option_map (parts w) o ≡ Some (before, after) → (w ≡ before ++ (codes "->" ++ after)) × ((i : ℕ) → i < length before → ArrowAt w i → ⊥)
    split w before after None h e = absurd (grind arith)
    split w before after (Some j) h e =
        let same : j ≡ h.0 = omega (arith, h.1) in (
          grind (arith, parts_join w h.0 h.2.here),
          λ i l. h.2.none_before i (grind (arith, length-take j w)),
        )

    joined : (w before after : List ℕ) → w ≡ before ++ (codes "->" ++ after) → ((i : ℕ) → i < length before → ArrowAt w i → ⊥) → option_map (parts w) (first_arrow w) ≡ Some (before, after)
    joined w before after e none =
        let k = length before in
        let behind : drop k w ≡ codes "->" ++ after = ap (drop k) e ∙ drop_at before (codes "->" ++ after) k refl in
        ap (option_map (parts w)) (first_is w k (record { here = ap (take 2) behind; none_before = none }))
        ∙ ap (λ x. Some (x, drop (k + 2) w)) (ap (take k) e ∙ take_at before (codes "->" ++ after) k refl)
        ∙ ap (λ y. Some (before, y)) (sym (drop-drop 2 k w) ∙ ap (drop 2) behind)

    unsplit : (w : List ℕ) (o : Option ℕ) → Finds 0 w o → option_map (parts w) o ≡ None → NoArrow w
    unsplit w None h e = h
    unsplit w (Some j) h e = absurd (grind arith)

-- the two bytes of an arrow, read one by one
abbrev ArrowRead : List ℕ → ℕ → Type 0
ArrowRead w i = (get_or w i 0 ≡ 45) × (get_or w (i + 1) 0 ≡ 62)

arrow_read : (w : List ℕ) (i : ℕ) → ArrowRead w i → ArrowAt w i
arrow_read [] i a = grind arith
arrow_read (b ∷ []) zero a = grind arith
arrow_read (b ∷ c ∷ bs) zero a = grind arith
arrow_read (b ∷ bs) (suc i) a = grind (arith, arrow_read bs i)

read_arrow : (w : List ℕ) (i : ℕ) → ArrowAt w i → ArrowRead w i
read_arrow [] i e = absurd (nothing_in_nothing i e)
read_arrow (b ∷ []) zero e = grind arith
read_arrow (b ∷ c ∷ bs) zero e = grind arith
read_arrow (b ∷ bs) (suc i) e = grind (arith, read_arrow bs i e)

-- what a search by pairs of neighbours says
abbrev pub FindsPair : List ℕ → Option ℕ → Type 0
FindsPair w o = MatchOption o ((i : ℕ) → i + 1 < length w → ArrowRead w i → ⊥) (λ k. ArrowRead w k × ((i : ℕ) → i < k → ArrowRead w i → ⊥))

pub pair_found : (w : List ℕ) (o : Option ℕ) → FindsPair w o → o ≡ first_arrow w
pair_found w None h = sym (nowhere w (λ i e. h i (arrow_fits w i e) (read_arrow w i e)) (first_arrow w) (finds 0 w))
pair_found w (Some k) h = sym (first_is w k (record { here = arrow_read w k h.0; none_before = λ i l e. h.1 i l (read_arrow w i e) }))
