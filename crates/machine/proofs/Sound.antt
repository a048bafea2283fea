-- Where no chain leads from one set to another, they are separated: two runs stay alike off all that the first set reaches.
use Rattle.std.proofs.Common.{◌≡◌, ℕ, ◌<◌, Bool, true, false, cond, eqb, ltb, ◌≢◌, ◌⊎◌, List, [], ◌∷◌, Some, None, Option, sym, refl, ap, ◌∙◌, subst, inl, inr}
use native.Mathlib.Decide.{ℕ_discrete}
use Rattle.std.proofs.lemmas.Bool.{eqb-true}
use Rattle.machine.specs.Policy.{Policy, reading, granted}
use Rattle.machine.specs.Answers.{Bytes, Answer, taken, refused, Refusal, no_seat}
use Rattle.machine.specs.Calls.{Call, read, write, append, create, remove, run, object}
use Rattle.machine.specs.State.{Contents, Seat, idle, seated, State, answers, note, put, loaded}
use Rattle.machine.specs.Checks.{refusal}
use Rattle.machine.specs.Effects.{change, changed, or_stay, target, reply_read, reply_run, reply, if_present, moved}
use Rattle.machine.specs.Machine.{outcome, call_at, call, fresh, start_seat}
use Rattle.machine.specs.Series.{Rule, Entry, start, turn, Series, step, after}
use Rattle.machine.specs.Flow.{Live, live_first, live_pass, Node, obj, dom, Change, by_writing, by_appending, by_making, act_of, Link, learns, passes, alters, Walk, here, on, Objects, NoChain}
use Rattle.machine.specs.Separation.{AlikeOutside, SeparatedFreely}
use Rattle.machine.proofs.Checks.{place_discrete, stable, cond_same, put_same, put_other, Admitted, admitted}

module _ (P : Policy) where
  abbrev pub LiveSeat : Seat → Type 0
  LiveSeat idle = Unit {0}
  LiveSeat (seated d l) = Live P d

  -- a call leaves the seat's domain as it is, or passes on from it
  abbrev Moves : ℕ → ℕ → Type 0
  Moves d e = (d ≡ e) ⊎ ((o : ℕ) × (P.pass d o e ≡ true))

  auto_moves : (d o : ℕ) (a : Option ℕ) → P.auto d o ≡ a → Moves d (or_stay d a)
  auto_moves d o None q = inl refl
  auto_moves d o (Some e) q = inr (o, P.auto_pass d o e q)

  present_moves : (d e : ℕ) (v : Option Bytes) → Moves d e → Moves d (if_present d e v)
  present_moves d e None h = inl refl
  present_moves d e (Some b) h = h

  moves : (d : ℕ) (v : Option Bytes) (c : Call) → Admitted P d c → Moves d (moved P d v c)
  moves d v (read o n) p = inl refl
  moves d v (write o bytes) p = inl refl
  moves d v (append o bytes) p = inl refl
  moves d v (create o) p = inl refl
  moves d v (remove o) p = inl refl
  moves d v (run o None n) p = present_moves d (or_stay d (P.auto d o)) v (auto_moves d o (P.auto d o) refl)
  moves d v (run o (Some e) n) p = present_moves d e v (inr (o, p.passage))

  live_moves : (d e : ℕ) → Live P d → Moves d e → Live P e
  live_moves d e L (inl q) = subst (Live P) q L
  live_moves d e L (inr (o, q)) = live_pass o L q

  -- a turn of a seat below 16, where x sits
  abbrev turned : State → ℕ → Rule → Seat → State
  turned st k rule x = (call_at P st k (rule (answers x)) x).1

  live_put : (seats : ℕ → Seat) (k : ℕ) (new : Seat) → LiveSeat new → ((j : ℕ) → LiveSeat (seats j)) → (j : ℕ) → LiveSeat (put seats k new j)
  live_put seats k new h all j = elim (eqb j k) as (λ b. LiveSeat (cond b new (seats j))) [ true ↦ h | false ↦ all j ]

  outcome_live : (st : State) (k d : ℕ) (l : List Answer) (c : Call) (a : Option Refusal) → refusal P d c ≡ a → Live P d →
      ((j : ℕ) → LiveSeat (st.seats j)) → (j : ℕ) → LiveSeat ((outcome P st k d l c a).1.seats j)
  outcome_live st k d l c (Some r) q L all = live_put st.seats k _ L all
  outcome_live st k d l c None q L all = live_put st.seats k _ (live_moves d _ L (moves d (st.contents (object c)) c (admitted P d c q))) all

  turn_live : (st : State) (k : ℕ) (rule : Rule) (x : Seat) → LiveSeat x → ((j : ℕ) → LiveSeat (st.seats j)) →
      (j : ℕ) → LiveSeat ((turned st k rule x).seats j)
  unfolding call_at
  turn_live st k rule idle L all = all
  turn_live st k rule (seated d l) L all = outcome_live st k d l (rule l) (refusal P d (rule l)) refl L all

  pub step_live : (st : State) (e : Entry Rule) → ((j : ℕ) → LiveSeat (st.seats j)) → (j : ℕ) → LiveSeat ((step P st e).1.seats j)
  unfolding start_seat call
  step_live st (start k) all =
      elim (ltb k 16) as (λ b. (j : ℕ) → LiveSeat ((cond {A = Answer × State} b (taken, fresh P st k) (refused no_seat, st)).1.seats j))
      [ true ↦ live_put st.seats k _ live_first all | false ↦ all ]
  step_live st (turn k rule) all =
      elim (ltb k 16) as (λ b. (j : ℕ) → LiveSeat ((cond b (call_at P st k (rule (answers (st.seats k))) (st.seats k)) (refused no_seat, st)).1.seats j))
      [ true ↦ turn_live st k rule (st.seats k) (all k) all | false ↦ all ]

  outcome_other : (st : State) (k d : ℕ) (l : List Answer) (c : Call) (a : Option Refusal) (j : ℕ) → j ≢ k → (outcome P st k d l c a).1.seats j ≡ st.seats j
  outcome_other st k d l c (Some r) j h = put_other st.seats k _ j h
  outcome_other st k d l c None j h = put_other st.seats k _ j h

  turn_other : (st : State) (k : ℕ) (rule : Rule) (x : Seat) (j : ℕ) → j ≢ k → (turned st k rule x).seats j ≡ st.seats j
  unfolding call_at
  turn_other st k rule idle j h = refl
  turn_other st k rule (seated d l) j h = outcome_other st k d l (rule l) (refusal P d (rule l)) j h

  module _ (From : Objects) where
    -- links lead to the node from an object of the set
    record Reach (x : Node) : Type 0 where
      from : ℕ
      from_is : from < P.objects
      from_in : From from ≡ true
      links : ℕ
      walk : Walk P (obj from) links x

    reach_on : {a b : Node} → Link P a b → Reach a → Reach b
    reach_on k r = record { from = r.from; from_is = r.from_is; from_in = r.from_in; links = _; walk = on r.walk k }

    -- a seat is cold where its domain is not reached
    abbrev Cold : Seat → Type 0
    Cold idle = Unit {0}
    Cold (seated d l) = ¬ Reach (dom d)

    -- contents that agree wherever the set does not reach
    abbrev Agree : Contents → Contents → Type 0
    Agree m n = (o : ℕ) → o < P.objects → ¬ Reach (obj o) → m o ≡ n o

    record Twins (s t : State) : Type 0 where
      live₁ : (k : ℕ) → LiveSeat (s.seats k)
      live₂ : (k : ℕ) → LiveSeat (t.seats k)
      agree : Agree s.contents t.contents
      cold₁ : (k : ℕ) → Cold (s.seats k) → s.seats k ≡ t.seats k
      cold₂ : (k : ℕ) → Cold (t.seats k) → s.seats k ≡ t.seats k

    cold_moves : (d e : ℕ) → Live P d → Moves d e → ¬ Reach (dom e) → ¬ Reach (dom d)
    cold_moves d e L (inl q) h r = h (subst (λ (x : ℕ). Reach (dom x)) q r)
    cold_moves d e L (inr (o, q)) h r = h (reach_on (passes o L q) r)

    -- a domain that is reached changes nothing off what is reached
    hot_misses : (m : Contents) (c : Call) (d : ℕ) (how : Change) → Live P d → ¬ ¬ Reach (dom d) → granted P (act_of how) d (object c) ≡ true →
        (o : ℕ) → o < P.objects → ¬ Reach (obj o) → (b : Bool) → eqb o (object c) ≡ b → cond b (change c (m o)) (m o) ≡ m o
    hot_misses m c d how L hot w o lt h false q = refl
    hot_misses m c d how L hot w o lt h true q =
        let e : o ≡ object c = eqb-true o (object c) q in
        absurd (hot (λ r. h (reach_on (alters how L lt (subst (λ (x : ℕ). granted P (act_of how) d x ≡ true) (sym e) w)) r)))

    hot_changed : (m : Contents) (d : ℕ) (c : Call) → Live P d → ¬ ¬ Reach (dom d) → Admitted P d c → Agree (changed m c) m
    hot_changed m d (read i n) L hot p o lt h = cond_same (eqb o i) (m o)
    hot_changed m d (write i bytes) L hot p o lt h = hot_misses m (write i bytes) d by_writing L hot p.grant o lt h (eqb o i) refl
    hot_changed m d (append i bytes) L hot p o lt h = hot_misses m (append i bytes) d by_appending L hot p.grant o lt h (eqb o i) refl
    hot_changed m d (create i) L hot p o lt h = hot_misses m (create i) d by_making L hot p.grant o lt h (eqb o i) refl
    hot_changed m d (remove i) L hot p o lt h = hot_misses m (remove i) d by_making L hot p.grant o lt h (eqb o i) refl
    hot_changed m d (run i w n) L hot p o lt h = cond_same (eqb o i) (m o)

    outcome_hot : (st : State) (k d : ℕ) (l : List Answer) (c : Call) (a : Option Refusal) → refusal P d c ≡ a → Live P d → ¬ ¬ Reach (dom d) →
        Agree (outcome P st k d l c a).1.contents st.contents
    outcome_hot st k d l c (Some r) q L hot o lt h = refl
    outcome_hot st k d l c None q L hot o lt h = hot_changed st.contents d c L hot (admitted P d c q) o lt h

    turn_hot : (st : State) (k : ℕ) (rule : Rule) (x : Seat) → LiveSeat x → ¬ Cold x → Agree (turned st k rule x).contents st.contents
    unfolding call_at
    turn_hot st k rule idle L h o lt nr = refl
    turn_hot st k rule (seated d l) L h o lt nr = outcome_hot st k d l (rule l) (refusal P d (rule l)) refl L h o lt nr

    outcome_cold : (st : State) (k d : ℕ) (l : List Answer) (c : Call) (a : Option Refusal) → refusal P d c ≡ a → Live P d →
        Cold ((outcome P st k d l c a).1.seats k) → ¬ Reach (dom d)
    outcome_cold st k d l c (Some r) q L h = subst Cold (put_same st.seats k _) h
    outcome_cold st k d l c None q L h =
        cold_moves d _ L (moves d (st.contents (object c)) c (admitted P d c q)) (subst Cold (put_same st.seats k _) h)

    -- a seat that is cold after its turn was cold before it
    turn_cold : (st : State) (k : ℕ) (rule : Rule) (x : Seat) → LiveSeat x → Cold ((turned st k rule x).seats k) → Cold x
    unfolding call_at
    turn_cold st k rule idle L h = tt
    turn_cold st k rule (seated d l) L h = outcome_cold st k d l (rule l) (refusal P d (rule l)) refl L h

    -- a cold domain sees the same in both runs
    seen : (m n : Contents) (d o : ℕ) → Agree m n → Live P d → ¬ Reach (dom d) → o < P.objects → granted P reading d o ≡ true → m o ≡ n o
    seen m n d o al L h lt q = al o lt (λ r. h (reach_on (learns L lt q) r))

    same_reply : (m n : Contents) (d : ℕ) (c : Call) → Agree m n → Live P d → ¬ Reach (dom d) → Admitted P d c →
        reply P d (m (object c)) c ≡ reply P d (n (object c)) c
    same_reply m n d (read o k) al L h p = ap reply_read (seen m n d o al L h p.below p.grant)
    same_reply m n d (write o bytes) al L h p = refl
    same_reply m n d (append o bytes) al L h p = refl
    same_reply m n d (create o) al L h p = refl
    same_reply m n d (remove o) al L h p = refl
    same_reply m n d (run o w k) al L h p = ap (reply_run (target P d o w)) (seen m n d o al L h p.below (P.run_reads d o p.grant))

    same_moved : (m n : Contents) (d : ℕ) (c : Call) → Agree m n → Live P d → ¬ Reach (dom d) → Admitted P d c →
        moved P d (m (object c)) c ≡ moved P d (n (object c)) c
    same_moved m n d (read o k) al L h p = refl
    same_moved m n d (write o bytes) al L h p = refl
    same_moved m n d (append o bytes) al L h p = refl
    same_moved m n d (create o) al L h p = refl
    same_moved m n d (remove o) al L h p = refl
    same_moved m n d (run o w k) al L h p = ap (if_present d (target P d o w)) (seen m n d o al L h p.below (P.run_reads d o p.grant))

    -- a turn of a cold seat, for both runs
    outcome_agrees : (s t : State) (k d : ℕ) (l : List Answer) (c : Call) (a : Option Refusal) → Agree s.contents t.contents →
        Agree (outcome P s k d l c a).1.contents (outcome P t k d l c a).1.contents
    outcome_agrees s t k d l c (Some r) al o lt h = al o lt h
    outcome_agrees s t k d l c None al o lt h = ap (λ (v : Option Bytes). cond (eqb o (object c)) (change c v) v) (al o lt h)

    turn_agrees : (s t : State) (k : ℕ) (rule : Rule) (x : Seat) → Agree s.contents t.contents →
        Agree (turned s k rule x).contents (turned t k rule x).contents
    unfolding call_at
    turn_agrees s t k rule idle al = al
    turn_agrees s t k rule (seated d l) al = outcome_agrees s t k d l (rule l) (refusal P d (rule l)) al

    outcome_same_seat : (s t : State) (k d : ℕ) (l : List Answer) (c : Call) (a : Option Refusal) → refusal P d c ≡ a → Live P d → ¬ Reach (dom d) →
        Agree s.contents t.contents → (outcome P s k d l c a).1.seats k ≡ (outcome P t k d l c a).1.seats k
    outcome_same_seat s t k d l c (Some r) q L h al = put_same s.seats k _ ∙ sym (put_same t.seats k _)
    outcome_same_seat s t k d l c None q L h al =
        let u = same_moved s.contents t.contents d c al L h (admitted P d c q) in
        let v = same_reply s.contents t.contents d c al L h (admitted P d c q) in
        put_same s.seats k _ ∙ (λ i. seated (u i) (note l (v i))) ∙ sym (put_same t.seats k _)

    turn_same_seat : (s t : State) (k : ℕ) (rule : Rule) (x : Seat) → LiveSeat x → Cold x → Agree s.contents t.contents →
        s.seats k ≡ t.seats k → (turned s k rule x).seats k ≡ (turned t k rule x).seats k
    unfolding call_at
    turn_same_seat s t k rule idle L h al q = q
    turn_same_seat s t k rule (seated d l) L h al q = outcome_same_seat s t k d l (rule l) (refusal P d (rule l)) refl L h al

    turn_keeps : (s t : State) (k : ℕ) (rule : Rule) → Twins s t → Twins (turned s k rule (s.seats k)) (turned t k rule (t.seats k))
    turn_keeps s t k rule r =
        record {
          live₁ = turn_live s k rule x (r.live₁ k) r.live₁;
          live₂ = turn_live t k rule y (r.live₂ k) r.live₂;
          agree = λ o lt nr. stable place_discrete (Cold x) _ _ (λ h. cold_agrees h o lt nr) (λ h. hot_agrees h o lt nr);
          cold₁ = λ j. by₁ j (ℕ_discrete j k);
          cold₂ = λ j. by₂ j (ℕ_discrete j k);
        }
      where
        x : Seat
        x = s.seats k

        y : Seat
        y = t.seats k

        s' : State
        s' = turned s k rule x

        t' : State
        t' = turned t k rule y

        cold_agrees : Cold x → Agree s'.contents t'.contents
        cold_agrees h = subst (λ (z : Seat). Agree s'.contents (turned t k rule z).contents) (r.cold₁ k h) (turn_agrees s t k rule x r.agree)

        hot_agrees : ¬ Cold x → Agree s'.contents t'.contents
        hot_agrees h o lt nr =
            turn_hot s k rule x (r.live₁ k) h o lt nr ∙ r.agree o lt nr ∙
            sym (turn_hot t k rule y (r.live₂ k) (λ c. h (subst Cold (sym (r.cold₂ k c)) c)) o lt nr)

        cold_seat : Cold x → s'.seats k ≡ t'.seats k
        cold_seat h =
            subst (λ (z : Seat). s'.seats k ≡ (turned t k rule z).seats k) (r.cold₁ k h)
            (turn_same_seat s t k rule x (r.live₁ k) h r.agree (r.cold₁ k h))

        there : (j : ℕ) → j ≢ k → s.seats j ≡ t.seats j → s'.seats j ≡ t'.seats j
        there j h q = turn_other s k rule x j h ∙ q ∙ sym (turn_other t k rule y j h)

        by₁ : (j : ℕ) → Dec (j ≡ k) → Cold (s'.seats j) → s'.seats j ≡ t'.seats j
        by₁ j (no h) c = there j h (r.cold₁ j (subst Cold (turn_other s k rule x j h) c))
        by₁ j (yes e) c =
            subst (λ (i : ℕ). s'.seats i ≡ t'.seats i) (sym e)
            (cold_seat (turn_cold s k rule x (r.live₁ k) (subst (λ (i : ℕ). Cold (s'.seats i)) e c)))

        by₂ : (j : ℕ) → Dec (j ≡ k) → Cold (t'.seats j) → s'.seats j ≡ t'.seats j
        by₂ j (no h) c = there j h (r.cold₂ j (subst Cold (turn_other t k rule y j h) c))
        by₂ j (yes e) c =
            let cold : Cold y = turn_cold t k rule y (r.live₂ k) (subst (λ (i : ℕ). Cold (t'.seats i)) e c) in
            subst (λ (i : ℕ). s'.seats i ≡ t'.seats i) (sym e) (cold_seat (subst Cold (sym (r.cold₂ k cold)) cold))

    start_keeps : (s t : State) (k : ℕ) → Twins s t → Twins (fresh P s k) (fresh P t k)
    start_keeps s t k r =
        record {
          live₁ = live_put s.seats k new live_first r.live₁;
          live₂ = live_put t.seats k new live_first r.live₂;
          agree = r.agree;
          cold₁ = λ j. by₁ j (eqb j k);
          cold₂ = λ j. by₂ j (eqb j k);
        }
      where
        new : Seat
        new = seated P.first []

        by₁ : (j : ℕ) (b : Bool) → Cold (cond b new (s.seats j)) → cond b new (s.seats j) ≡ cond b new (t.seats j)
        by₁ j true h = refl
        by₁ j false h = r.cold₁ j h

        by₂ : (j : ℕ) (b : Bool) → Cold (cond b new (t.seats j)) → cond b new (s.seats j) ≡ cond b new (t.seats j)
        by₂ j true h = refl
        by₂ j false h = r.cold₂ j h

    step_keeps : (s t : State) (e : Entry Rule) → Twins s t → Twins (step P s e).1 (step P t e).1
    unfolding start_seat call
    step_keeps s t (start k) r =
        elim (ltb k 16) as (λ b. Twins (cond {A = Answer × State} b (taken, fresh P s k) (refused no_seat, s)).1 (cond {A = Answer × State} b (taken, fresh P t k) (refused no_seat, t)).1)
        [ true ↦ start_keeps s t k r | false ↦ r ]
    step_keeps s t (turn k rule) r =
        elim (ltb k 16) as (λ b. Twins (cond b (call_at P s k (rule (answers x)) x) (refused no_seat, s)).1 (cond b (call_at P t k (rule (answers y)) y) (refused no_seat, t)).1)
        [ true ↦ turn_keeps s t k rule r | false ↦ r ]
      where
        x : Seat
        x = s.seats k

        y : Seat
        y = t.seats k

    series_keeps : (es : Series) (s t : State) → Twins s t → Twins (after P s es) (after P t es)
    series_keeps [] s t r = r
    series_keeps (e ∷ es) s t r = series_keeps es (step P s e).1 (step P t e).1 (step_keeps s t e r)

    -- an object of the set is reached
    outside : (o : ℕ) → o < P.objects → ¬ Reach (obj o) → (b : Bool) → From o ≡ b → From o ≡ false
    outside o lt nr true q = absurd (nr (record { from = o; from_is = lt; from_in = q; links = _; walk = here }))
    outside o lt nr false q = q

    loaded_twins : (m n : Contents) → AlikeOutside P From m n → Twins (loaded m) (loaded n)
    loaded_twins m n q =
        record {
          live₁ = λ k. tt;
          live₂ = λ k. tt;
          agree = λ o lt nr. q o lt (outside o lt nr (From o) refl);
          cold₁ = λ k h. refl;
          cold₂ = λ k h. refl;
        }

pub no_chain_separates : (P : Policy) (From To : Objects) → NoChain P From To → SeparatedFreely P From To
no_chain_separates P From To none_such m n q es o lt e =
    (series_keeps P From es (loaded m) (loaded n) (loaded_twins P From m n q)).agree o lt
    (λ r.
    none_such r.links
    (record {
      from = r.from;
      to = o;
      from_is = r.from_is;
      to_is = lt;
      from_in = r.from_in;
      to_in = e;
      walk = r.walk;
    }))
