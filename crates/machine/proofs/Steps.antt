-- One run of written-down lines: an admitted call of a seat, and a seat that is brought into a live domain.
use Rattle.std.proofs.Common.{◌≡◌, ℕ, ◌<◌, Bool, true, false, cond, ◌≢◌, List, [], ◌∷◌, ◌++◌, Some, None, Option, sym, refl, ap, ◌∙◌, subst, arith}
use native.Mathlib.Decide.{ℕ_discrete}
use Rattle.std.specs.List.{AllByRecursion}
use Rattle.std.proofs.lemmas.Bool.{lt-ltb, ne_eqb}
use Rattle.machine.specs.Policy.{Policy, reading, granted}
use Rattle.machine.specs.Answers.{Bytes, Answer, taken, refused, Refusal, no_seat}
use Rattle.machine.specs.Calls.{Call, read, write, append, create, remove, run, object}
use Rattle.machine.specs.State.{Seat, seated, State, answers, note}
use Rattle.machine.specs.Checks.{refusal}
use Rattle.machine.specs.Effects.{change, target, reply_read, reply_run, reply, if_present, moved}
use Rattle.machine.specs.Machine.{outcome, call_at, call, fresh, start_seat}
use Rattle.machine.specs.Series.{Rule, Entry, start, turn, step, after, told}
use Rattle.machine.specs.Possible.{PossibleCall, PossibleSeries}
use Rattle.machine.specs.Flow.{Live, live_first, live_pass}
use Rattle.machine.specs.Recipe.{Recipe, always, if_read_empty, reads_empty, has_read_empty, rule_of, entry_of, series_of}
use Rattle.machine.specs.Leak.{drive, PlainCall, PlainRecipe, PlainLine, Permitted}
use Rattle.machine.proofs.Checks.{eqb_self, put_same, put_other, admit}

abbrev pub Present : Option Bytes → Type 0
Present None = ⊥
Present (Some b) = Unit {0}

pub present_moves : (d e : ℕ) (v : Option Bytes) → Present v → if_present d e v ≡ e
present_moves d e None p = absurd p
present_moves d e (Some b) p = refl

pub run_is_not_empty : (e : ℕ) (v : Option Bytes) → reads_empty (reply_run e v) ≡ false
run_is_not_empty e None = refl
run_is_not_empty e (Some b) = refl

pub other_answer_changes_nothing : (l : List Answer) (a : Answer) → reads_empty a ≡ false → has_read_empty (note l a) ≡ has_read_empty l
unfolding note
other_answer_changes_nothing [] a e = ap (λ (b : Bool). cond b true false) e
other_answer_changes_nothing (x ∷ l) a e = ap (λ (b : Bool). cond (reads_empty x) true b) (other_answer_changes_nothing l a e)

true_either_way : (b c : Bool) → c ≡ true → cond b true c ≡ true
true_either_way true c e = refl
true_either_way false c e = e

pub empty_answer_is_heard : (l : List Answer) (a : Answer) → reads_empty a ≡ true → has_read_empty (note l a) ≡ true
unfolding note
empty_answer_is_heard [] a e = ap (λ (b : Bool). cond b true false) e
empty_answer_is_heard (x ∷ l) a e = true_either_way (reads_empty x) _ (empty_answer_is_heard l a e)

module _ (P : Policy) where
  -- the lines lead from s to t, are plain, and are permitted
  pub record Runs (s : State) (lines : List (Entry Recipe)) (t : State) : Type 0 where
    pub ends : after P s (series_of lines) ≡ t
    pub fair : AllByRecursion Permitted (told P s (series_of lines))
    pub plain : AllByRecursion (PlainLine P) lines

  pub plain_recipe_possible : (recipe : Recipe) → PlainRecipe P recipe → (l : List Answer) → PossibleCall (rule_of recipe l)
  plain_recipe_possible (always c) p l = p.hands_bytes
  plain_recipe_possible (if_read_empty c e) p l =
      elim (has_read_empty l) as (λ b. PossibleCall (cond b c e)) [ true ↦ p.0.hands_bytes | false ↦ p.1.hands_bytes ]

  pub plain_lines_possible : (lines : List (Entry Recipe)) → AllByRecursion (PlainLine P) lines → PossibleSeries (series_of lines)
  plain_lines_possible [] h = tt
  plain_lines_possible (start s ∷ lines) h = (tt, plain_lines_possible lines h.1)
  plain_lines_possible (turn s recipe ∷ lines) h = (plain_recipe_possible recipe h.0.1, plain_lines_possible lines h.1)

  pub run_join : (xs ys : List (Entry Recipe)) (s t u : State) → Runs s xs t → Runs t ys u → Runs s (xs ++ ys) u
  run_join [] ys s t u x y = subst (λ (z : State). Runs z ys u) (sym x.ends) y
  run_join (e ∷ xs) ys s t u x y =
      let r = run_join xs ys (step P s (entry_of e)).1 t u (record { ends = x.ends; fair = x.fair.1; plain = x.plain.1 }) y in
      record { ends = r.ends; fair = (x.fair.0, r.fair); plain = (x.plain.0, r.plain) }

  -- t is s after the admitted call c of the seat k, which was in d with the answers l
  pub record Acted (s t : State) (k d : ℕ) (l : List Answer) (c : Call) : Type 0 where
    pub at : t.contents (object c) ≡ change c (s.contents (object c))
    pub off : (o : ℕ) → o ≢ object c → t.contents o ≡ s.contents o
    pub seat : t.seats k ≡ seated (moved P d (s.contents (object c)) c) (note l (reply P d (s.contents (object c)) c))
    pub rest : (j : ℕ) → j ≢ k → t.seats j ≡ s.seats j

  outcome_acted : (s : State) (k d : ℕ) (l : List Answer) (c : Call) → Acted s (outcome P s k d l c None).1 k d l c
  outcome_acted s k d l c =
      record {
        at = ap (λ (b : Bool). cond b (change c (s.contents (object c))) (s.contents (object c))) (eqb_self (object c));
        off = λ o h. ap (λ (b : Bool). cond b (change c (s.contents o)) (s.contents o)) (ne_eqb o (object c) h);
        seat = put_same s.seats k _;
        rest = λ j h. put_other s.seats k _ j h;
      }

  turn_is : (s : State) (k d : ℕ) (l : List Answer) (rule : Rule) → k < 16 → s.seats k ≡ seated d l → refusal P d (rule l) ≡ None →
      step P s (turn k rule) ≡ outcome P s k d l (rule l) None
  unfolding call call_at
  turn_is s k d l rule lt q e =
      ap (λ (b : Bool). cond b (call_at P s k (rule (answers (s.seats k))) (s.seats k)) (refused no_seat, s)) (lt-ltb k 16 lt) ∙
      ap (λ (x : Seat). call_at P s k (rule (answers x)) x) q ∙
      ap (λ (a : Option Refusal). outcome P s k d l (rule l) a) e

  read_permitted : (v : Option Bytes) → Permitted (reply_read v)
  read_permitted None = refl
  read_permitted (Some b) = tt

  run_permitted : (e : ℕ) (v : Option Bytes) → Permitted (reply_run e v)
  run_permitted e None = refl
  run_permitted e (Some b) = tt

  reply_permitted : (d : ℕ) (v : Option Bytes) (c : Call) → Permitted (reply P d v c)
  reply_permitted d v (read o n) = read_permitted v
  reply_permitted d v (write o bytes) = tt
  reply_permitted d v (append o bytes) = tt
  reply_permitted d v (create o) = tt
  reply_permitted d v (remove o) = tt
  reply_permitted d v (run o w n) = run_permitted (target P d o w) v

  -- a turn by a recipe that comes to the call c
  pub record Turned (s : State) (k d : ℕ) (l : List Answer) (recipe : Recipe) (c : Call) : Type 0 where
    pub end : State
    pub runs : Runs s (turn k recipe ∷ []) end
    pub acted : Acted s end k d l c

  pub turned : (s : State) (k d : ℕ) (l : List Answer) (recipe : Recipe) (c : Call) → k < 2 → s.seats k ≡ seated d l →
      rule_of recipe l ≡ c → PlainRecipe P recipe → refusal P d c ≡ None → Turned s k d l recipe c
  turned s k d l recipe c lt q r p e =
      subst (λ (x : Call). Turned s k d l recipe x) r
      (record {
        end = (outcome P s k d l (rule_of recipe l) None).1;
        runs =
            record {
              ends = ap (λ (x : Answer × State). x.1) is;
              fair = (subst Permitted (sym (ap (λ (x : Answer × State). x.0) is)) (reply_permitted d (s.contents (object (rule_of recipe l))) (rule_of recipe l)), tt);
              plain = ((lt, p), tt);
            };
        acted = outcome_acted s k d l (rule_of recipe l);
      })
    where
      is : step P s (turn k (rule_of recipe)) ≡ outcome P s k d l (rule_of recipe l) None
      is = turn_is s k d l (rule_of recipe) (omega arith) q (subst (λ (x : Call). refusal P d x ≡ None) (sym r) e)

  -- a call that only looks leaves every object as it was
  pub looked : (s t : State) (k d : ℕ) (l : List Answer) (c : Call) → ((v : Option Bytes) → change c v ≡ v) → Acted s t k d l c →
      (o : ℕ) → t.contents o ≡ s.contents o
  looked s t k d l c h a o = go (ℕ_discrete o (object c))
    where
      go : Dec (o ≡ object c) → t.contents o ≡ s.contents o
      go (no n) = a.off o n
      go (yes e) = subst (λ (x : ℕ). t.contents x ≡ s.contents x) (sym e) (a.at ∙ h _)

  pub may_pass : (d o e : ℕ) → P.pass d o e ≡ true → refusal P d (run o (Some e) 64) ≡ None
  may_pass d o e q =
      admit P d (run o (Some e) 64) (P.pass_object d o e q) (omega arith) (lt-ltb e P.domains (P.pass_domain d o e q)) (omega arith)
      (P.pass_runs d o e q) q

  pub plain_pass : (d o e : ℕ) → P.pass d o e ≡ true → PlainCall P (run o (Some e) 64)
  plain_pass d o e q =
      record {
        hands_bytes = tt;
        names_object = P.pass_object d o e q;
        wishes_domain = lt-ltb e P.domains (P.pass_domain d o e q);
        has_room = refl;
      }

  pub plain_read : (o : ℕ) → o < P.objects → PlainCall P (read o 64)
  plain_read o lt = record { hands_bytes = tt; names_object = lt; wishes_domain = refl; has_room = refl }

  pub may_read : (d o : ℕ) → o < P.objects → granted P reading d o ≡ true → refusal P d (read o 64) ≡ None
  may_read d o lt q = admit P d (read o 64) lt (omega arith) refl (omega arith) q refl

  -- the seat k is in the domain d, and has read nothing empty; all else is as it was
  pub record Driven (s : State) (lines : List (Entry Recipe)) (k d : ℕ) : Type 0 where
    pub end : State
    pub runs : Runs s lines end
    pub list : List Answer
    pub seat : end.seats k ≡ seated d list
    pub news : has_read_empty list ≡ false
    pub rest : (j : ℕ) → j ≢ k → end.seats j ≡ s.seats j
    pub same : (o : ℕ) → end.contents o ≡ s.contents o

  start_is : (s : State) (k : ℕ) → k < 16 → step P s (start k) ≡ (taken, fresh P s k)
  unfolding start_seat
  start_is s k lt = ap (λ (b : Bool). cond {A = Answer × State} b (taken, fresh P s k) (refused no_seat, s)) (lt-ltb k 16 lt)

  pub driven : {d : ℕ} (L : Live P d) (k : ℕ) → k < 2 → (s : State) → ((o : ℕ) → o < P.objects → Present (s.contents o)) → Driven s (drive L k) k d
  unfolding drive
  driven live_first k lt s p =
      record {
        end = fresh P s k;
        runs =
            record {
              ends = ap (λ (x : Answer × State). x.1) (start_is s k (omega arith));
              fair = (subst Permitted (sym (ap (λ (x : Answer × State). x.0) (start_is s k (omega arith)))) tt, tt);
              plain = (lt, tt);
            };
        list = [];
        seat = put_same s.seats k _;
        news = refl;
        rest = λ j h. put_other s.seats k _ j h;
        same = λ o. refl;
      }
  driven (live_pass {d = d} {e = e} o L q) k lt s p = further (driven L k lt s p)
    where
      c : Call
      c = run o (Some e) 64

      further : Driven s (drive L k) k d → Driven s (drive L k ++ (turn k (always (run o (Some e) 64)) ∷ [])) k e
      further r =
          let t = turned r.end k d r.list (always (run o (Some e) 64)) (run o (Some e) 64) lt r.seat refl (plain_pass d o e q) (may_pass d o e q) in
          record {
            end = t.end;
            runs = run_join (drive L k) (turn k (always (run o (Some e) 64)) ∷ []) s r.end t.end r.runs t.runs;
            list = note r.list (reply_run e (r.end.contents o));
            seat =
                t.acted.seat ∙
                ap (λ (x : ℕ). seated x (note r.list (reply_run e (r.end.contents o))))
                (present_moves d e (r.end.contents o) (subst Present (sym (r.same o)) (p o (P.pass_object d o e q))));
            news = other_answer_changes_nothing r.list (reply_run e (r.end.contents o)) (run_is_not_empty e (r.end.contents o)) ∙ r.news;
            rest = λ j h. t.acted.rest j h ∙ r.rest j h;
            same = λ x. looked r.end t.end k d r.list (run o (Some e) 64) (λ v. refl) t.acted x ∙ r.same x;
          }
