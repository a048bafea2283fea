-- Every chain leaks: two runs, one link after another.
use Rattle.std.proofs.Common.{◌≡◌, ℕ, ◌<◌, Bool, true, false, cond, not, eqb, ◌≢◌, List, [], ◌∷◌, ◌++◌, Some, None, Option, sym, refl, ap, ◌∙◌, subst, true≢false, arith, lit<}
use native.Mathlib.Decide.{ℕ_discrete}
use Rattle.std.proofs.lemmas.Bool.{ne_eqb}
use Rattle.machine.specs.Policy.{Policy, reading, granted}
use Rattle.machine.specs.Answers.{Bytes, Answer, held}
use Rattle.machine.specs.Calls.{Call, read, write, append, create, remove, run, object}
use Rattle.machine.specs.State.{seated, State, note, loaded}
use Rattle.machine.specs.Checks.{refusal}
use Rattle.machine.specs.Effects.{change, reply_read, reply_run, reply, moved}
use Rattle.machine.specs.Series.{Entry, turn}
use Rattle.machine.specs.Possible.{PossiblePlace}
use Rattle.machine.specs.Flow.{Live, Node, obj, dom, Change, by_writing, by_appending, by_making, act_of, Link, learns, passes, alters, Walk, here, on, Objects, Chain}
use Rattle.machine.specs.Separation.{AlikeOutside, Separated}
use Rattle.machine.specs.Recipe.{Recipe, always, if_read_empty, reads_empty, has_read_empty, rule_of}
use Rattle.machine.specs.Leak.{drive, quiet, telling, Carried, seat_of, Reached, hand_over, forward, carried, finished, first_beginning, second_beginning, leak_lines, leak_series, Leaks, PlainCall, PlainRecipe}
use Rattle.machine.proofs.Checks.{eqb_self, admit}
use Rattle.machine.proofs.Steps.{plain_lines_possible, plain_pass, plain_read, Present, present_moves, run_is_not_empty, other_answer_changes_nothing, empty_answer_is_heard, Runs, run_join, Acted, Turned, turned, looked, may_pass, may_read, Driven, driven}

seat_is : (b : Bool) → seat_of b < 2
seat_is true = lit< tt
seat_is false = lit< tt

seats_differ : (b : Bool) → seat_of b ≢ seat_of (not b)
seats_differ true e = omega arith
seats_differ false e = omega arith

-- ── The two calls that a way to change an object gives ──

quiet_keeps_empty : (how : Change) (o : ℕ) → change (quiet how o) (Some []) ≡ Some []
quiet_keeps_empty by_writing o = refl
quiet_keeps_empty by_appending o = refl
quiet_keeps_empty by_making o = refl

appended_is_not_empty : (b : Bytes) → reads_empty (reply_read (change (append 0 (1 ∷ [])) (Some b))) ≡ false
appended_is_not_empty [] = refl
appended_is_not_empty (x ∷ b) = refl

telling_is_not_empty : (how : Change) (o : ℕ) (v : Option Bytes) → Present v → reads_empty (reply_read (change (telling how o) v)) ≡ false
telling_is_not_empty how o None p = absurd p
telling_is_not_empty by_writing o (Some b) p = refl
telling_is_not_empty by_appending o (Some b) p = appended_is_not_empty b
telling_is_not_empty by_making o (Some b) p = refl

quiet_mends : (how : Change) (o : ℕ) (v : Option Bytes) → Present v → Present (change (quiet how o) (change (telling how o) v))
quiet_mends how o None p = absurd p
quiet_mends by_writing o (Some b) p = tt
quiet_mends by_appending o (Some b) p = tt
quiet_mends by_making o (Some b) p = tt

module _ (P : Policy) where
  -- the call c is one on o that is admitted from D and leaves the seat there
  record Ink (D o : ℕ) (c : Call) : Type 0 where
    on_it : object c ≡ o
    free : refusal P D c ≡ None
    stays : (v : Option Bytes) → moved P D v c ≡ D

  quiet_ink : (D o : ℕ) (how : Change) → o < P.objects → granted P (act_of how) D o ≡ true → Ink D o (quiet how o)
  quiet_ink D o by_writing lt q = record { on_it = refl; free = admit P D (write o []) lt (omega arith) refl (omega arith) q refl; stays = λ v. refl }
  quiet_ink D o by_appending lt q = record { on_it = refl; free = admit P D (append o []) lt (omega arith) refl (omega arith) q refl; stays = λ v. refl }
  quiet_ink D o by_making lt q = record { on_it = refl; free = admit P D (create o) lt (omega arith) refl (omega arith) q refl; stays = λ v. refl }

  telling_ink : (D o : ℕ) (how : Change) → o < P.objects → granted P (act_of how) D o ≡ true → Ink D o (telling how o)
  telling_ink D o by_writing lt q = record { on_it = refl; free = admit P D (write o (1 ∷ [])) lt (omega arith) refl (omega arith) q refl; stays = λ v. refl }
  telling_ink D o by_appending lt q = record { on_it = refl; free = admit P D (append o (1 ∷ [])) lt (omega arith) refl (omega arith) q refl; stays = λ v. refl }
  telling_ink D o by_making lt q = record { on_it = refl; free = admit P D (remove o) lt (omega arith) refl (omega arith) q refl; stays = λ v. refl }

  quiet_plain : (how : Change) (o : ℕ) → o < P.objects → PlainCall P (quiet how o)
  quiet_plain by_writing o lt = record { hands_bytes = tt; names_object = lt; wishes_domain = refl; has_room = refl }
  quiet_plain by_appending o lt = record { hands_bytes = tt; names_object = lt; wishes_domain = refl; has_room = refl }
  quiet_plain by_making o lt = record { hands_bytes = tt; names_object = lt; wishes_domain = refl; has_room = refl }

  telling_plain : (how : Change) (o : ℕ) → o < P.objects → PlainCall P (telling how o)
  telling_plain by_writing o lt = record { hands_bytes = (lit< tt, tt); names_object = lt; wishes_domain = refl; has_room = refl }
  telling_plain by_appending o lt = record { hands_bytes = (lit< tt, tt); names_object = lt; wishes_domain = refl; has_room = refl }
  telling_plain by_making o lt = record { hands_bytes = tt; names_object = lt; wishes_domain = refl; has_room = refl }

  -- Acted, with the object named
  acted_at : (s t : State) (k d : ℕ) (l : List Answer) (c : Call) (o : ℕ) → object c ≡ o → Acted P s t k d l c → t.contents o ≡ change c (s.contents o)
  acted_at s t k d l c o e a = subst (λ (x : ℕ). t.contents x ≡ change c (s.contents x)) e a.at

  acted_off : (s t : State) (k d : ℕ) (l : List Answer) (c : Call) (o : ℕ) → object c ≡ o → Acted P s t k d l c →
      (i : ℕ) → i ≢ o → t.contents i ≡ s.contents i
  acted_off s t k d l c o e a i h = a.off i (λ z. h (z ∙ e))

  -- one run: the seat k comes to the call x on o, the seat j reads o, and k makes the call y on it
  record Relayed (s : State) (lines : List (Entry Recipe)) (j E o : ℕ) (a : List Answer) (x y : Call) : Type 0 where
    end : State
    runs : Runs P s lines end
    at : end.contents o ≡ change y (change x (s.contents o))
    off : (i : ℕ) → i ≢ o → end.contents i ≡ s.contents i
    seat : end.seats j ≡ seated E (note a (reply_read (change x (s.contents o))))

  relayed : (s : State) (k j D E o : ℕ) (l a : List Answer) (recipe : Recipe) (x y : Call) →
      k < 2 → j < 2 → k ≢ j → s.seats k ≡ seated D l → s.seats j ≡ seated E a → rule_of recipe l ≡ x →
      PlainRecipe P recipe → PlainCall P y → o < P.objects → Ink D o x → Ink D o y → refusal P E (read o 64) ≡ None →
      Relayed s (turn k recipe ∷ turn j (always (read o 64)) ∷ turn k (always y) ∷ []) j E o a x y
  relayed s k j D E o l a recipe x y kl jl ne sk sj r px py lt ix iy pr =
      record {
        end = t₃.end;
        runs =
            run_join P (turn k recipe ∷ []) _ s t₁.end t₃.end t₁.runs
            (run_join P (turn j (always (read o 64)) ∷ []) _ t₁.end t₂.end t₃.end t₂.runs t₃.runs);
        at = acted_at t₂.end t₃.end k D l' y o iy.on_it t₃.acted ∙ ap (change y) (look o ∙ v₁);
        off = λ i h.
            acted_off t₂.end t₃.end k D l' y o iy.on_it t₃.acted i h ∙ look i ∙
            acted_off s t₁.end k D l x o ix.on_it t₁.acted i h;
        seat = t₃.acted.rest j (λ z. ne (sym z)) ∙ t₂.acted.seat ∙ ap (λ (w : Option Bytes). seated E (note a (reply_read w))) v₁;
      }
    where
      t₁ : Turned P s k D l recipe x
      t₁ = turned P s k D l recipe x kl sk r px ix.free

      v₁ : t₁.end.contents o ≡ change x (s.contents o)
      v₁ = acted_at s t₁.end k D l x o ix.on_it t₁.acted

      t₂ : Turned P t₁.end j E a (always (read o 64)) (read o 64)
      t₂ = turned P t₁.end j E a (always (read o 64)) (read o 64) jl (t₁.acted.rest j (λ z. ne (sym z)) ∙ sj) refl (plain_read P o lt) pr

      look : (i : ℕ) → t₂.end.contents i ≡ t₁.end.contents i
      look = looked P t₁.end t₂.end j E a (read o 64) (λ w. refl) t₂.acted

      l' : List Answer
      l' = note l (reply P D (s.contents (object x)) x)

      k₂ : t₂.end.seats k ≡ seated D l'
      k₂ = t₂.acted.rest k ne ∙ t₁.acted.seat ∙ ap (λ (d : ℕ). seated d l') (ix.stays (s.contents (object x)))

      t₃ : Turned P t₂.end k D l' (always y) y
      t₃ = turned P t₂.end k D l' (always y) y kl k₂ refl py iy.free

  -- the seat k is in D in both runs and knows which run it is in; every object is empty in the first, and present in the second
  record Knows (s t : State) (D k : ℕ) : Type 0 where
    empty₁ : (o : ℕ) → o < P.objects → s.contents o ≡ Some []
    there₂ : (o : ℕ) → o < P.objects → Present (t.contents o)
    list₁ : List Answer
    list₂ : List Answer
    seat₁ : s.seats k ≡ seated D list₁
    seat₂ : t.seats k ≡ seated D list₂
    heard₁ : has_read_empty list₁ ≡ true
    heard₂ : has_read_empty list₂ ≡ false

  present_if_empty : (v : Option Bytes) → v ≡ Some [] → Present v
  present_if_empty v e = subst Present (sym e) tt

  module _ (from : ℕ) (from_is : from < P.objects) where
    abbrev s₀ : State
    s₀ = loaded first_beginning

    abbrev t₀ : State
    t₀ = loaded (second_beginning from)

    record Known (c : Carried) (D : ℕ) : Type 0 where
      end₁ : State
      end₂ : State
      runs₁ : Runs P s₀ c.lines end₁
      runs₂ : Runs P t₀ c.lines end₂
      knows : Knows end₁ end₂ D (seat_of c.second)

    record Ready (c : Carried) (how : Change) (o : ℕ) : Type 0 where
      holder : ℕ
      known : Known c holder
      below : o < P.objects
      may : granted P (act_of how) holder o ≡ true

    abbrev Holds : (b : Node) → Reached b → Type 0
    Holds (dom D) c = Known c D
    Holds (obj o) None = o ≡ from
    Holds (obj o) (Some r) = Ready r.0 r.1 o

    first_read : (E o : ℕ) (L : Live P E) → o < P.objects → granted P reading E o ≡ true → o ≡ from →
        Known (record { lines = drive L 0 ++ (turn 0 (always (read o 64)) ∷ []); second = false }) E
    first_read E o L lt q e =
        record {
          end₁ = r₁.end;
          end₂ = r₂.end;
          runs₁ = run_join P (drive L 0) _ s₀ x.end r₁.end x.runs r₁.runs;
          runs₂ = run_join P (drive L 0) _ t₀ y.end r₂.end y.runs r₂.runs;
          knows =
              record {
                empty₁ = λ i h. looked P x.end r₁.end 0 E x.list (read o 64) (λ w. refl) r₁.acted i ∙ x.same i;
                there₂ = λ i h.
                    subst Present (sym (looked P y.end r₂.end 0 E y.list (read o 64) (λ w. refl) r₂.acted i ∙ y.same i)) tt;
                list₁ = note x.list (reply_read (x.end.contents o));
                list₂ = note y.list (reply_read (y.end.contents o));
                seat₁ = r₁.acted.seat;
                seat₂ = r₂.acted.seat;
                heard₁ = empty_answer_is_heard x.list _ (ap (λ (v : Option Bytes). reads_empty (reply_read v)) (x.same o));
                heard₂ =
                    other_answer_changes_nothing y.list _
                    (ap (λ (v : Option Bytes). reads_empty (reply_read v)) (y.same o) ∙
                    ap (λ (b : Bool). reads_empty (held (cond b (1 ∷ []) []))) (ap (λ (i : ℕ). eqb i from) e ∙ eqb_self from)) ∙
                    y.news;
              };
        }
      where
        x : Driven P s₀ (drive L 0) 0 E
        x = driven P L 0 (lit< tt) s₀ (λ i h. tt)

        y : Driven P t₀ (drive L 0) 0 E
        y = driven P L 0 (lit< tt) t₀ (λ i h. tt)

        r₁ : Turned P x.end 0 E x.list (always (read o 64)) (read o 64)
        r₁ = turned P x.end 0 E x.list (always (read o 64)) (read o 64) (lit< tt) x.seat refl (plain_read P o lt) (may_read P E o lt q)

        r₂ : Turned P y.end 0 E y.list (always (read o 64)) (read o 64)
        r₂ = turned P y.end 0 E y.list (always (read o 64)) (read o 64) (lit< tt) y.seat refl (plain_read P o lt) (may_read P E o lt q)

    handed_over : (E o : ℕ) (L : Live P E) (c : Carried) (how : Change) → granted P reading E o ≡ true → Ready c how o →
        Known (record { lines = c.lines ++ hand_over L c how o; second = not c.second }) E
    handed_over E o L c how q r =
        record {
          end₁ = u.end;
          end₂ = v.end;
          runs₁ = run_join P c.lines _ s₀ s u.end r.known.runs₁ (run_join P (drive L j) _ s x.end u.end x.runs u.runs);
          runs₂ = run_join P c.lines _ t₀ t v.end r.known.runs₂ (run_join P (drive L j) _ t y.end v.end y.runs v.runs);
          knows =
              record {
                empty₁ = λ i h. empties i h (ℕ_discrete i o);
                there₂ = λ i h. stands i h (ℕ_discrete i o);
                list₁ = note x.list (reply_read (change (quiet how o) (x.end.contents o)));
                list₂ = note y.list (reply_read (change (telling how o) (y.end.contents o)));
                seat₁ = u.seat;
                seat₂ = v.seat;
                heard₁ =
                    empty_answer_is_heard x.list _
                    (ap (λ (w : Option Bytes). reads_empty (reply_read w)) (ap (change (quiet how o)) (still o r.below) ∙ quiet_keeps_empty how o));
                heard₂ =
                    other_answer_changes_nothing y.list _ (telling_is_not_empty how o (y.end.contents o) (there o r.below)) ∙ y.news;
              };
        }
      where
        D : ℕ
        D = r.holder

        b : Bool
        b = c.second

        k : ℕ
        k = seat_of b

        j : ℕ
        j = seat_of (not b)

        s : State
        s = r.known.end₁

        t : State
        t = r.known.end₂

        g : Knows s t D k
        g = r.known.knows

        x : Driven P s (drive L j) j E
        x = driven P L j (seat_is (not b)) s (λ i h. present_if_empty (s.contents i) (g.empty₁ i h))

        y : Driven P t (drive L j) j E
        y = driven P L j (seat_is (not b)) t g.there₂

        still : (i : ℕ) → i < P.objects → x.end.contents i ≡ Some []
        still i h = x.same i ∙ g.empty₁ i h

        there : (i : ℕ) → i < P.objects → Present (y.end.contents i)
        there i h = subst Present (sym (y.same i)) (g.there₂ i h)

        recipe : Recipe
        recipe = if_read_empty (quiet how o) (telling how o)

        u : Relayed x.end (turn k recipe ∷ turn j (always (read o 64)) ∷ turn k (always (quiet how o)) ∷ []) j E o x.list (quiet how o) (quiet how o)
        u =
            relayed x.end k j D E o g.list₁ x.list recipe (quiet how o) (quiet how o) (seat_is b) (seat_is (not b)) (seats_differ b)
            (x.rest k (seats_differ b) ∙ g.seat₁) x.seat (ap (λ (z : Bool). cond z (quiet how o) (telling how o)) g.heard₁)
            (quiet_plain how o r.below, telling_plain how o r.below) (quiet_plain how o r.below) r.below (quiet_ink D o how r.below r.may) (quiet_ink D o how r.below r.may)
            (may_read P E o r.below q)

        v : Relayed y.end (turn k recipe ∷ turn j (always (read o 64)) ∷ turn k (always (quiet how o)) ∷ []) j E o y.list (telling how o) (quiet how o)
        v =
            relayed y.end k j D E o g.list₂ y.list recipe (telling how o) (quiet how o) (seat_is b) (seat_is (not b)) (seats_differ b)
            (y.rest k (seats_differ b) ∙ g.seat₂) y.seat (ap (λ (z : Bool). cond z (quiet how o) (telling how o)) g.heard₂)
            (quiet_plain how o r.below, telling_plain how o r.below) (quiet_plain how o r.below) r.below (telling_ink D o how r.below r.may) (quiet_ink D o how r.below r.may)
            (may_read P E o r.below q)

        empties : (i : ℕ) → i < P.objects → Dec (i ≡ o) → u.end.contents i ≡ Some []
        empties i h (no n) = u.off i n ∙ still i h
        empties i h (yes e) =
            ap u.end.contents e ∙ u.at ∙
            ap (λ (w : Option Bytes). change (quiet how o) (change (quiet how o) w)) (still o r.below) ∙
            ap (change (quiet how o)) (quiet_keeps_empty how o) ∙ quiet_keeps_empty how o

        stands : (i : ℕ) → i < P.objects → Dec (i ≡ o) → Present (v.end.contents i)
        stands i h (no n) = subst Present (sym (v.off i n)) (there i h)
        stands i h (yes e) =
            subst Present (sym (ap v.end.contents e ∙ v.at)) (quiet_mends how o (y.end.contents o) (there o r.below))

    passed_on : (D E o : ℕ) (c : Carried) → P.pass D o E ≡ true → Known c D →
        Known (record { lines = c.lines ++ (turn (seat_of c.second) (always (run o (Some E) 64)) ∷ []); second = c.second }) E
    passed_on D E o c q r =
        record {
          end₁ = x.end;
          end₂ = y.end;
          runs₁ = run_join P c.lines _ s₀ s x.end r.runs₁ x.runs;
          runs₂ = run_join P c.lines _ t₀ t y.end r.runs₂ y.runs;
          knows =
              record {
                empty₁ = λ i h. looked P s x.end k D g.list₁ (run o (Some E) 64) (λ w. refl) x.acted i ∙ g.empty₁ i h;
                there₂ = λ i h. subst Present (sym (looked P t y.end k D g.list₂ (run o (Some E) 64) (λ w. refl) y.acted i)) (g.there₂ i h);
                list₁ = note g.list₁ (reply_run E (s.contents o));
                list₂ = note g.list₂ (reply_run E (t.contents o));
                seat₁ =
                    x.acted.seat ∙
                    ap (λ (d : ℕ). seated d (note g.list₁ (reply_run E (s.contents o))))
                    (present_moves D E (s.contents o) (present_if_empty (s.contents o) (g.empty₁ o lt)));
                seat₂ =
                    y.acted.seat ∙
                    ap (λ (d : ℕ). seated d (note g.list₂ (reply_run E (t.contents o)))) (present_moves D E (t.contents o) (g.there₂ o lt));
                heard₁ = other_answer_changes_nothing g.list₁ _ (run_is_not_empty E (s.contents o)) ∙ g.heard₁;
                heard₂ = other_answer_changes_nothing g.list₂ _ (run_is_not_empty E (t.contents o)) ∙ g.heard₂;
              };
        }
      where
        s : State
        s = r.end₁

        t : State
        t = r.end₂

        k : ℕ
        k = seat_of c.second

        g : Knows s t D k
        g = r.knows

        lt : o < P.objects
        lt = P.pass_object D o E q

        x : Turned P s k D g.list₁ (always (run o (Some E) 64)) (run o (Some E) 64)
        x = turned P s k D g.list₁ (always (run o (Some E) 64)) (run o (Some E) 64) (seat_is c.second) g.seat₁ refl (plain_pass P D o E q) (may_pass P D o E q)

        y : Turned P t k D g.list₂ (always (run o (Some E) 64)) (run o (Some E) 64)
        y = turned P t k D g.list₂ (always (run o (Some E) 64)) (run o (Some E) 64) (seat_is c.second) g.seat₂ refl (plain_pass P D o E q) (may_pass P D o E q)

    link_holds : {a b : Node} (k : Link P a b) (r : Reached a) → Holds a r → Holds b (forward k r)
    link_holds (learns {d = E} {o = o} L lt q) None h = first_read E o L lt q h
    link_holds (learns {d = E} {o = o} L lt q) (Some r) h = handed_over E o L r.0 r.1 q h
    link_holds (passes {d = D} {e = E} o L q) c h = passed_on D E o c q h
    link_holds (alters {d = D} {o = o} how L lt q) c h = record { holder = D; known = h; below = lt; may = q }

    walk_holds : {n : ℕ} {b : Node} (w : Walk P (obj from) n b) → Holds b (carried w)
    unfolding carried
    walk_holds here = refl
    walk_holds (on w k) = link_holds k (carried w) (walk_holds w)

    -- the lines are carried out on both beginnings, and the object then differs
    record Unlike (lines : List (Entry Recipe)) (o : ℕ) : Type 0 where
      end₁ : State
      end₂ : State
      runs₁ : Runs P s₀ lines end₁
      runs₂ : Runs P t₀ lines end₂
      differ : end₁.contents o ≢ end₂.contents o

    nothing_yet : (s : State) → Runs P s [] s
    nothing_yet s = record { ends = refl; fair = tt; plain = tt }

    unlike : (o : ℕ) (r : Option (Carried × Change)) → Holds (obj o) r → Unlike (finished o r) o
    unlike o None e =
        record {
          end₁ = s₀;
          end₂ = t₀;
          runs₁ = nothing_yet s₀;
          runs₂ = nothing_yet t₀;
          differ = λ z.
              let p : eqb o from ≡ true = ap (λ (i : ℕ). eqb i from) e ∙ eqb_self from in
              let w : ◌≡◌ {A = Option Bytes} (Some []) (Some (1 ∷ [])) = z ∙ ap (λ (b : Bool). Some (cond b (1 ∷ []) [])) p in
              cc;
        }
    unlike o (Some r) h =
        record {
          end₁ = x.end;
          end₂ = y.end;
          runs₁ = run_join P c.lines _ s₀ s x.end h.known.runs₁ x.runs;
          runs₂ = run_join P c.lines _ t₀ t y.end h.known.runs₂ y.runs;
          differ = λ z.
              true≢false
              (ap (λ (w : Option Bytes). reads_empty (reply_read w))
              (sym (acted_at s x.end k D g.list₁ (quiet how o) o ix.on_it x.acted ∙ ap (change (quiet how o)) (g.empty₁ o h.below) ∙ quiet_keeps_empty how o) ∙
              z ∙ acted_at t y.end k D g.list₂ (telling how o) o iy.on_it y.acted) ∙
              telling_is_not_empty how o (t.contents o) (g.there₂ o h.below));
        }
      where
        c : Carried
        c = r.0

        how : Change
        how = r.1

        D : ℕ
        D = h.holder

        s : State
        s = h.known.end₁

        t : State
        t = h.known.end₂

        k : ℕ
        k = seat_of c.second

        g : Knows s t D k
        g = h.known.knows

        recipe : Recipe
        recipe = if_read_empty (quiet how o) (telling how o)

        ix : Ink D o (quiet how o)
        ix = quiet_ink D o how h.below h.may

        iy : Ink D o (telling how o)
        iy = telling_ink D o how h.below h.may

        x : Turned P s k D g.list₁ recipe (quiet how o)
        x =
            turned P s k D g.list₁ recipe (quiet how o) (seat_is c.second) g.seat₁
            (ap (λ (z : Bool). cond z (quiet how o) (telling how o)) g.heard₁) (quiet_plain how o h.below, telling_plain how o h.below) ix.free

        y : Turned P t k D g.list₂ recipe (telling how o)
        y =
            turned P t k D g.list₂ recipe (telling how o) (seat_is c.second) g.seat₂
            (ap (λ (z : Bool). cond z (quiet how o) (telling how o)) g.heard₂) (quiet_plain how o h.below, telling_plain how o h.below) iy.free

    second_place : (b : Bool) → PossiblePlace (Some (cond b (1 ∷ []) []))
    second_place true = (omega arith, (lit< tt, tt))
    second_place false = (omega arith, tt)

    second_off : (From : Objects) → From from ≡ true → AlikeOutside P From first_beginning (second_beginning from)
    second_off From q o lt out =
        let f : eqb o from ≡ false = ne_eqb o from (λ e. true≢false (sym q ∙ ap From (sym e) ∙ out)) in
        ap (λ (b : Bool). Some (cond b (1 ∷ []) [])) (sym f)

pub chain_leaks : (P : Policy) (From To : Objects) (n : ℕ) (c : Chain P From To n) → Leaks P From To n c
chain_leaks P From To n c =
    record {
      possible_first = λ o lt. (omega arith, tt);
      possible_second = λ o lt. second_place P f h (eqb o f);
      alike_outside = second_off P f h From c.from_in;
      plain_lines = r.runs₁.plain;
      possible_series = plain_lines_possible P (leak_lines c) r.runs₁.plain;
      permitted_first = r.runs₁.fair;
      permitted_second = r.runs₂.fair;
      unlike = λ e. r.differ (ap (λ (s : State). s.contents c.to) (sym r.runs₁.ends) ∙ e ∙ ap (λ (s : State). s.contents c.to) r.runs₂.ends);
    }
  where
    f : ℕ
    f = c.from

    h : f < P.objects
    h = c.from_is

    r : Unlike P f h (leak_lines c) c.to
    r = unlike P f h c.to (carried c.walk) (walk_holds P f h c.walk)

pub separated_has_no_chain : (P : Policy) (From To : Objects) → Separated P From To → (n : ℕ) → Chain P From To n → ⊥
separated_has_no_chain P From To sep n c =
    let l = chain_leaks P From To n c in
    l.unlike
    (sep first_beginning (second_beginning c.from) l.possible_first l.possible_second l.alike_outside (leak_series c) l.possible_series
    c.to c.to_is c.to_in)
