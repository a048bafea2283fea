-- The rule of the highest rank is the rule that decides.
use Rattle.std.proofs.Common.{◌≡◌, ℕ, zero, suc, ◌+◌, ◌*◌, ◌<◌, ◌≤◌, Bool, true, false, cond, ◌&&◌, ◌||◌, eqb, ltb, ◌⊎◌, List, [], ◌∷◌, length, get_or, take, drop, Some, None, Decides, Option, sym, refl, ap, ◌∙◌, subst, inl, inr, ⊎_elim, arith}
use Rattle.std.proofs.lemmas.List.{at_drop_more, at_drop_all, take_all, length-take-le}
use Rattle.std.proofs.lemmas.Bool.{cases_Bool, cases_eq, and_parts, and_from, cond-true, cond-false, lt-ltb, le-ltb, ltb-true, ltb-false, eq-eqb, ne_eqb, eqb-true, or_cases}
use Rattle.std.specs.Option.{option_or}
use Rattle.std.proofs.lemmas.Slice.Eq.{bytes_eq-Decides}
use Rattle.std.proofs.lemmas.Bool.Decides.{same_from_decides, Decides-and}
use Rattle.label.specs.Paths.{ancestor}
use Rattle.label.specs.Texts.{text}
use Rattle.rules.specs.declared.rule.Flag.{Flag}
use Rattle.rules.specs.declared.rule.Flag.TheVariants.{E, U, R}
use Rattle.rules.specs.declared.rule.Rule.{Rule}
use Rattle.rules.specs.Typing.{stands_on, rule_on, above, deciding}
use Rattle.rules.specs.Ranks.{reaches, covers, strength, claim, rank, highest}
use Rattle.rules.proofs.Finds.{same_flag_decides}

or_assoc : (a b c : Option Rule) → option_or (option_or a b) c ≡ option_or a (option_or b c)
or_assoc None b c = refl
or_assoc (Some x) b c = refl

or_some : (a : Option Rule) (r : Rule) (o : Option Rule) → option_or (option_or a (Some r)) o ≡ option_or a (Some r)
or_some None r o = refl
or_some (Some x) r o = refl

-- the highest of what g has at the ranks above k and below m
abbrev top : ℕ → (ℕ → Option Rule) → ℕ → Option Rule
top k g zero = None
top k g (suc j) = option_or (cond (ltb k j) (g j) None) (top k g j)

-- the first of the rules that has the rank
abbrev ranked : List Rule → List ℕ → ℕ → Option Rule
ranked [] p j = None
ranked (r ∷ rs) p j = cond (eqb (rank r p) j) (Some r) (ranked rs p j)

top_low : (k : ℕ) (g : ℕ → Option Rule) (m : ℕ) → m ≤ suc k → top k g m ≡ None
top_low k g zero l = refl
top_low k g (suc j) l = ap (λ b. option_or (cond b (g j) None) (top k g j)) (le-ltb k j (omega arith)) ∙ top_low k g j (omega arith)

top-none : (k m : ℕ) → top k (λ j. None) m ≡ None
top-none k zero = refl
top-none k (suc j) = ap (λ o. option_or o (top k (λ j. None) j)) (nothing (ltb k j)) ∙ top-none k j
  where
    nothing : (b : Bool) → cond {A = Option Rule} b None None ≡ None
    nothing true = refl
    nothing false = refl

top_same : (k : ℕ) (g h : ℕ → Option Rule) (m : ℕ) → ((j : ℕ) → k < j → g j ≡ h j) → top k g m ≡ top k h m
top_same k g h zero e = refl
top_same k g h (suc j) e = ap (λ o. option_or o (top k g j)) (here (ltb k j) refl) ∙ ap (λ o. option_or (cond (ltb k j) (h j) None) o) (top_same k g h j e)
  where
    here : (b : Bool) → ltb k j ≡ b → cond b (g j) None ≡ cond b (h j) None
    here true t = e j (ltb-true k j t)
    here false t = refl

top_found : (k q : ℕ) (g : ℕ → Option Rule) (r : Rule) (m : ℕ) → k < q → q < m → top k (λ j. cond (eqb q j) (Some r) (g j)) m ≡ option_or (top q g m) (Some r)
top_found k q g r zero l h = absurd (omega arith)
top_found k q g r (suc j) l h =
    ⊎_elim
    (λ e.
    let t : ltb k j ≡ true = lt-ltb k j (omega (arith, e)) in
    ap (λ b. option_or (cond b (cond (eqb q j) (Some r) (g j)) None) (top k (λ i. cond (eqb q i) (Some r) (g i)) j)) t
    ∙ ap (λ b. option_or (cond b (Some r) (g j)) (top k (λ i. cond (eqb q i) (Some r) (g i)) j)) (eq-eqb q j e)
    ∙ sym (ap (λ o. option_or o (Some r)) (top_low q g (suc j) (omega (arith, e)))))
    (λ e.
    let lt : q < j = omega (arith, e) in
    let t : ltb k j ≡ true = lt-ltb k j (omega arith) in
    let u : ltb q j ≡ true = lt-ltb q j lt in
    ap (λ b. option_or (cond b (cond (eqb q j) (Some r) (g j)) None) (top k (λ i. cond (eqb q i) (Some r) (g i)) j)) t
    ∙ ap (λ b. option_or (cond b (Some r) (g j)) (top k (λ i. cond (eqb q i) (Some r) (g i)) j)) (ne_eqb q j e)
    ∙ ap (λ o. option_or (g j) o) (top_found k q g r j l lt)
    ∙ sym (or_assoc (g j) (top q g j) (Some r))
    ∙ sym (ap (λ b. option_or (option_or (cond b (g j) None) (top q g j)) (Some r)) u))
    (cases_eq q j)

highest_is : (rs : List Rule) (p : List ℕ) (k : ℕ) (o : Option Rule) (m : ℕ) → ((r : Rule) → rank r p < m) → highest rs p k o ≡ option_or (top k (ranked rs p) m) o
unfolding highest
highest_is [] p k o m low = sym (ap (λ x. option_or x o) (top-none k m))
highest_is (r ∷ rs) p k o m low =
    ⊎_elim
    (λ t.
    ap (λ b. highest rs p (cond b (rank r p) k) (cond b (Some r) o)) t
    ∙ highest_is rs p (rank r p) (Some r) m low
    ∙ sym (ap (λ x. option_or x o) (top_found k (rank r p) (ranked rs p) r m (ltb-true k (rank r p) t) (low r)) ∙ or_some (top (rank r p) (ranked rs p) m) r o))
    (λ t.
    ap (λ b. highest rs p (cond b (rank r p) k) (cond b (Some r) o)) t
    ∙ highest_is rs p k o m low
    ∙ ap (λ x. option_or x o)
    (top_same k (ranked rs p) (ranked (r ∷ rs) p) m (λ j l. sym (cond-false _ _ _ (ne_eqb (rank r p) j (let h = ltb-false k (rank r p) t in λ e. omega (arith, e)))))))
    (cases_Bool (ltb k (rank r p)))

-- two ranks for each length
abbrev twice : ℕ → ℕ
twice zero = zero
twice (suc n) = suc (suc (twice n))

twice_is : (n : ℕ) → twice n ≡ 2 * n
twice_is zero = refl
twice_is (suc n) = let h = twice_is n in omega (arith, h)

abbrev level : ℕ → Bool → ℕ
level n false = suc (twice n)
level n true = suc (suc (twice n))

-- the flag that has this rank
abbrev flag_at : Bool → Bool → Flag
flag_at whole false = R
flag_at true true = E
flag_at false true = U

strength_at : (whole : Bool) (n : ℕ) (b : Bool) → strength (flag_at whole b) whole n ≡ level n b
strength_at whole n false = let h = twice_is n in omega (arith, h)
strength_at true n true = let h = twice_is n in omega (arith, h)
strength_at false n true = let h = twice_is n in omega (arith, h)

strength_is : (f : Flag) (whole : Bool) (m n : ℕ) (b : Bool) → strength f whole m ≡ level n b → (m ≡ n) × (f ≡ flag_at whole b)
strength_is R whole m n false e = let h = twice_is n in (omega (arith, e, h), refl)
strength_is R whole m n true e = let h = twice_is n in absurd (omega (arith, e, h))
strength_is E true m n false e = let h = twice_is n in absurd (omega (arith, e, h))
strength_is E true m n true e = let h = twice_is n in (omega (arith, e, h), refl)
strength_is E false m n false e = absurd (omega (arith, e))
strength_is E false m n true e = absurd (omega (arith, e))
strength_is U true m n false e = absurd (omega (arith, e))
strength_is U true m n true e = absurd (omega (arith, e))
strength_is U false m n false e = let h = twice_is n in absurd (omega (arith, e, h))
strength_is U false m n true e = let h = twice_is n in (omega (arith, e, h), refl)

strength_low : (f : Flag) (whole : Bool) (n : ℕ) → strength f whole n ≤ 2 * n + 2
strength_low R whole n = omega arith
strength_low E true n = omega arith
strength_low E false n = omega arith
strength_low U true n = omega arith
strength_low U false n = omega arith

pub reaches_low : (p : List ℕ) (n : ℕ) → reaches p n ≡ true → n ≤ length p
reaches_low p n t =
    ⊎_elim
    (λ e. let h = eqb-true n (length p) e in omega arith)
    (λ a. let h = ltb-true n (length p) (and_parts (ltb 0 n) (ltb n (length p)) (and_parts (ltb 0 n && ltb n (length p)) _ a).0).1 in omega arith)
    (or_cases (eqb n (length p)) (ancestor p n) t)

module _ (r : Rule) (p : List ℕ) where
  abbrev own : ℕ
  own = length (text r.path)

  pub rank_low : rank r p < suc (twice (suc (length p)))
  rank_low =
      let h = twice_is (suc (length p)) in
      ⊎_elim
      (λ t.
      let c = and_parts (reaches p own) _ t in
      let l = reaches_low p own c.0 in
      let s = strength_low r.flag (eqb own (length p)) own in
      let e : rank r p ≡ strength r.flag (eqb own (length p)) own = cond-true _ _ _ t in
      omega (arith, e, s, l, h))
      (λ t. let e : rank r p ≡ 0 = cond-false _ _ _ t in omega (arith, e))
      (cases_Bool (covers r p))

  -- the rule stands at this length, with the flag that has the rank
  abbrev Stands : ℕ → Bool → Type 0
  Stands n b = (reaches p n ≡ true) × ((r.flag ≡ flag_at (eqb n (length p)) b) × (text r.path ≡ take n p))

  rank_decides : (n : ℕ) (b : Bool) → n ≤ length p → Decides (eqb (rank r p) (level n b)) (Stands n b)
  rank_decides n b l = (λ t. from (eqb-true (rank r p) (level n b) t) (cases_Bool (covers r p)), λ s. eq-eqb _ _ (to s))
    where
      positive : (c : Bool) → 0 < level n c
      positive false = omega arith
      positive true = omega arith

      from : rank r p ≡ level n b → (covers r p ≡ true) ⊎ (covers r p ≡ false) → Stands n b
      from e (inl t) =
          let c = and_parts (reaches p own) _ t in
          let s = strength_is r.flag (eqb own (length p)) own n b (sym (cond-true _ _ _ t) ∙ e) in
          let q : text r.path ≡ take own p = (bytes_eq-Decides _ _).0 c.1 in
          subst (λ m. (reaches p m ≡ true) × ((r.flag ≡ flag_at (eqb m (length p)) b) × (text r.path ≡ take m p))) s.0 (c.0, (s.1, q))
      from e (inr t) = let h = positive b in let z : 0 ≡ level n b = sym (cond-false _ _ _ t) ∙ e in absurd (omega (arith, h, z))

      to : Stands n b → rank r p ≡ level n b
      to s =
          let long : own ≡ n = ap length s.1.1 ∙ length-take-le n p l in
          let t : covers r p ≡ true = and_from _ _ (ap (reaches p) long ∙ s.0) ((bytes_eq-Decides _ _).1 (s.1.1 ∙ ap (λ m. take m p) (sym long))) in
          cond-true _ _ _ t
          ∙ ap (λ m. strength r.flag (eqb m (length p)) m) long
          ∙ ap (λ f. strength f (eqb n (length p)) n) s.1.0
          ∙ strength_at (eqb n (length p)) n b

  rank_is : (n : ℕ) (b : Bool) → n ≤ length p → eqb (rank r p) (level n b) ≡ (reaches p n && stands_on r (flag_at (eqb n (length p)) b) (take n p))
  rank_is n b l =
      same_from_decides _ _ (rank_decides n b l)
      (Decides-and _ _ ((λ t. t), (λ t. t)) (Decides-and _ _ (same_flag_decides _ _) (bytes_eq-Decides _ _)))

ranked_is : (rs : List Rule) (p : List ℕ) (n : ℕ) (b : Bool) → n ≤ length p → ranked rs p (level n b) ≡ cond (reaches p n) (rule_on rs (flag_at (eqb n (length p)) b) (take n p)) None
unfolding rule_on
ranked_is [] p n b l = nothing (reaches p n)
  where
    nothing : (c : Bool) → None ≡ cond {A = Option Rule} c None None
    nothing true = refl
    nothing false = refl
ranked_is (r ∷ rs) p n b l =
    ap (λ c. cond c (Some r) (ranked rs p (level n b))) (rank_is r p n b l)
    ∙ ap (λ o. cond (reaches p n && stands_on r (flag_at (eqb n (length p)) b) (take n p)) (Some r) o) (ranked_is rs p n b l)
    ∙ both (reaches p n) (stands_on r (flag_at (eqb n (length p)) b) (take n p)) _
  where
    both : (c d : Bool) (o : Option Rule) → cond (c && d) (Some r) (cond c o None) ≡ cond c (cond d (Some r) o) None
    both true d o = refl
    both false d o = refl

module _ (rs : List Rule) (p : List ℕ) where
  at_length : (n : ℕ) (m : ℕ) → m ≡ suc (twice n) → n ≤ length p → top 0 (ranked rs p) (suc (suc m)) ≡ option_or (ranked rs p (level n true)) (option_or (ranked rs p (level n false)) (top 0 (ranked rs p) m))
  at_length n m e l =
      ap (λ b. option_or (cond b (ranked rs p (suc m)) None) (top 0 (ranked rs p) (suc m))) (lt-ltb 0 (suc m) (omega arith))
      ∙ ap (λ b. option_or (ranked rs p (suc m)) (option_or (cond b (ranked rs p m) None) (top 0 (ranked rs p) m))) (lt-ltb 0 m (omega (arith, e)))
      ∙ ap (λ j. option_or (ranked rs p (suc j)) (option_or (ranked rs p j) (top 0 (ranked rs p) m))) e

  top_above : (n : ℕ) → n ≤ length p → top 0 (ranked rs p) (suc (twice n)) ≡ above rs p n
  unfolding above
  top_above zero l = refl
  top_above (suc n) l =
      let no : eqb n (length p) ≡ false = ne_eqb n (length p) (λ e. omega (arith, e)) in
      at_length n (suc (twice n)) refl (omega arith)
      ∙ ap (λ o. option_or o (option_or (ranked rs p (level n false)) (top 0 (ranked rs p) (suc (twice n))))) (ranked_is rs p n true (omega arith) ∙ ap (λ w. cond (w || ancestor p n) (rule_on rs (flag_at w true) (take n p)) None) no)
      ∙ ap (λ o. option_or (cond (ancestor p n) (rule_on rs U (take n p)) None) (option_or o (top 0 (ranked rs p) (suc (twice n))))) (ranked_is rs p n false (omega arith) ∙ ap (λ w. cond (w || ancestor p n) (rule_on rs (flag_at w false) (take n p)) None) no)
      ∙ ap (λ o. option_or (cond (ancestor p n) (rule_on rs U (take n p)) None) (option_or (cond (ancestor p n) (rule_on rs R (take n p)) None) o)) (top_above n (omega arith))
      ∙ gathered (ancestor p n) (rule_on rs U (take n p)) (rule_on rs R (take n p)) (above rs p n)
    where
      gathered : (a : Bool) (u r o : Option Rule) → option_or (cond a u None) (option_or (cond a r None) o) ≡ cond a (option_or (option_or u r) o) o
      gathered true u r o = sym (or_assoc u r o)
      gathered false u r o = refl

  pub highest_decides : highest rs p 0 None ≡ deciding rs p
  unfolding deciding
  highest_decides =
      let n : ℕ = length p in
      let yes' : eqb n n ≡ true = eq-eqb n n refl in
      highest_is rs p 0 None (suc (twice (suc n))) (λ r. rank_low r p)
      ∙ or_nothing (top 0 (ranked rs p) (suc (twice (suc n))))
      ∙ at_length n (suc (twice n)) refl (omega arith)
      ∙ ap (λ o. option_or o (option_or (ranked rs p (level n false)) (top 0 (ranked rs p) (suc (twice n))))) (whole true yes')
      ∙ ap (λ o. option_or (rule_on rs E p) (option_or o (top 0 (ranked rs p) (suc (twice n))))) (whole false yes')
      ∙ ap (λ o. option_or (rule_on rs E p) (option_or (rule_on rs R p) o)) (top_above n (omega arith))
    where
      or_nothing : (o : Option Rule) → option_or o None ≡ o
      or_nothing None = refl
      or_nothing (Some x) = refl

      whole : (b : Bool) → eqb (length p) (length p) ≡ true → ranked rs p (level (length p) b) ≡ rule_on rs (flag_at true b) p
      whole b t =
          ranked_is rs p (length p) b (omega arith)
          ∙ ap (λ w. cond (w || ancestor p (length p)) (rule_on rs (flag_at w b) (take (length p) p)) None) t
          ∙ ap (rule_on rs (flag_at true b)) (take_all (length p) p (omega arith))

claimed_rank : (r : Rule) (p : List ℕ) → covers r p ≡ true → claim r p ≡ rank r p
claimed_rank r p t = cond-true _ _ _ (and_parts (reaches p (own r p)) _ t).0 ∙ sym (cond-true _ _ _ t)

rank_at_most_claim : (r : Rule) (p : List ℕ) → rank r p ≤ claim r p
rank_at_most_claim r p =
    ⊎_elim
    (λ t. let e = claimed_rank r p t in omega (arith, e))
    (λ t. let e : rank r p ≡ 0 = cond-false _ _ _ t in omega (arith, e))
    (cases_Bool (covers r p))

-- one step of the search
module _ (rs : List Rule) (p : List ℕ) (i : ℕ) (r : Rule) (k : ℕ) (o : Option Rule) (l : i < length rs) (is : r ≡ get_or rs i r) (inv : highest (drop i rs) p k o ≡ highest rs p 0 None) where
  step : highest rs p 0 None ≡ highest (drop (i + 1) rs) p (cond (ltb k (rank r p)) (rank r p) k) (cond (ltb k (rank r p)) (Some r) o)
  unfolding highest
  step = sym inv ∙ at_drop_more (λ x. highest x p k o) rs i r l ∙ ap (λ x. highest (x ∷ drop (i + 1) rs) p k o) (sym is)

  pub higher : (q m : ℕ) (best : Option Rule) → q ≡ claim r p → true ≡ covers r p → m ≡ q → best ≡ Some r → k < q → highest (drop (i + 1) rs) p m best ≡ highest rs p 0 None
  higher q m best eq t em eb h =
      let e : q ≡ rank r p = eq ∙ claimed_rank r p (sym t) in
      ap (λ x. highest (drop (i + 1) rs) p x best) (em ∙ e)
      ∙ ap (highest (drop (i + 1) rs) p (rank r p)) eb
      ∙ sym (step ∙ ap (λ b. highest (drop (i + 1) rs) p (cond b (rank r p) k) (cond b (Some r) o)) (lt-ltb k (rank r p) (subst (λ x. k < x) e h)))

  lower : (m : ℕ) (best : Option Rule) → m ≡ k → best ≡ o → rank r p ≤ k → highest (drop (i + 1) rs) p m best ≡ highest rs p 0 None
  lower m best em eb h =
      ap (λ x. highest (drop (i + 1) rs) p x best) em
      ∙ ap (highest (drop (i + 1) rs) p k) eb
      ∙ sym (step ∙ ap (λ b. highest (drop (i + 1) rs) p (cond b (rank r p) k) (cond b (Some r) o)) (le-ltb k (rank r p) h))

  pub claims_no_more : (q m : ℕ) (best : Option Rule) → q ≡ claim r p → m ≡ k → best ≡ o → q ≤ k → highest (drop (i + 1) rs) p m best ≡ highest rs p 0 None
  claims_no_more q m best eq em eb h = let l = rank_at_most_claim r p in lower m best em eb (omega (arith, l, eq, h))

  pub covers-not : (m : ℕ) (best : Option Rule) → false ≡ covers r p → m ≡ k → best ≡ o → highest (drop (i + 1) rs) p m best ≡ highest rs p 0 None
  covers-not m best t em eb = let e : rank r p ≡ 0 = cond-false _ _ _ (sym t) in lower m best em eb (omega (arith, e))

pub highest_at_end : (rs : List Rule) (p : List ℕ) (i k : ℕ) (o : Option Rule) → length rs ≤ i → highest (drop i rs) p k o ≡ highest rs p 0 None → o ≡ deciding rs p
unfolding highest
highest_at_end rs p i k o l inv = sym (at_drop_all (λ x. highest x p k o) rs i l) ∙ inv ∙ highest_decides rs p
