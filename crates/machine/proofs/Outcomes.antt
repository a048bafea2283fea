-- What a call may change: the three ways that a call can go, and the laws that follow.
use Rattle.std.proofs.Common.{◌≡◌, ℕ, ◌<◌, ◌≤◌, Bool, true, false, cond, eqb, ltb, List, [], ◌∷◌, Some, None, Option, sym, refl, ap, ◌∙◌, subst, arith}
use Rattle.std.specs.List.{AllByRecursion}
use Rattle.std.proofs.lemmas.Bool.{lt-ltb, le-ltb, ne_eqb, ltb-true, ltb-false}
use Rattle.machine.specs.Policy.{Policy}
use Rattle.machine.specs.Answers.{Bytes, Answer, taken, refused, Refusal, no_seat, seat_idle, few_places}
use Rattle.machine.specs.Calls.{Call, read, write, append, create, remove, run, object}
use Rattle.machine.specs.State.{Contents, Seat, idle, seated, State, note}
use Rattle.machine.specs.Checks.{refusal}
use Rattle.machine.specs.Effects.{change, changed, target, reply_run, reply, if_present, moved}
use Rattle.machine.specs.Machine.{outcome, call_at, call, fresh, start_seat}
use Rattle.machine.specs.Series.{Rule, Entry, Series, step}
use Rattle.machine.specs.Places.{step_on, after_on, told_on, Served, Unserved}
use Rattle.machine.specs.Laws.{noted, OnlyNoted, TouchesOnly, StartsOne}
use Rattle.machine.proofs.Checks.{cond_same, put_same, put_other}

-- a call is of no seat, of an idle one, or of one in a domain
pub call_cases : (P : Policy) (st : State) (s : ℕ) (c : Call) (Q : Answer × State → Type 0) →
    (16 ≤ s → Q (refused no_seat, st)) →
    (s < 16 → st.seats s ≡ idle → Q (refused seat_idle, st)) →
    ((d : ℕ) (l : List Answer) → s < 16 → st.seats s ≡ seated d l → Q (outcome P st s d l c (refusal P d c))) →
    Q (call P st s c)
unfolding call call_at
call_cases P st s c Q none still acts = by_seat (ltb s 16) refl
  where
    by_what : s < 16 → (x : Seat) → st.seats s ≡ x → Q (call_at P st s c x)
    by_what lt idle q = still lt q
    by_what lt (seated d l) q = acts d l lt q

    by_seat : (b : Bool) → ltb s 16 ≡ b → Q (cond b (call_at P st s c (st.seats s)) (refused no_seat, st))
    by_seat true e = by_what (ltb-true s 16 e) (st.seats s) refl
    by_seat false e = none (ltb-false s 16 e)

-- ── Touching ──

outcome_touches : (P : Policy) (st : State) (s d : ℕ) (l : List Answer) (c : Call) (a : Option Refusal) → TouchesOnly (object c) s st (outcome P st s d l c a).1
outcome_touches P st s d l c (Some r) = record { other_objects_stay = λ j h. refl; other_seats_stay = λ k h. put_other st.seats s _ k h }
outcome_touches P st s d l c None =
    record {
      other_objects_stay = λ j h. ap (λ (b : Bool). cond b (change c (st.contents j)) (st.contents j)) (ne_eqb j (object c) h);
      other_seats_stay = λ k h. put_other st.seats s _ k h;
    }

pub call_touches : (P : Policy) (st : State) (s : ℕ) (c : Call) → TouchesOnly (object c) s st (call P st s c).1
call_touches P st s c =
    call_cases P st s c (λ x. TouchesOnly (object c) s st x.1) (λ h. same) (λ h q. same)
    (λ d l h q. outcome_touches P st s d l c (refusal P d c))
  where
    same : TouchesOnly (object c) s st st
    same = record { other_objects_stay = λ j h. refl; other_seats_stay = λ k h. refl }

pub start_touches : (P : Policy) (st : State) (s : ℕ) → StartsOne P s st (start_seat P st s).1
unfolding start_seat
start_touches P st s = by (ltb s 16) refl
  where
    by : (b : Bool) → ltb s 16 ≡ b → StartsOne P s st (cond {A = Answer × State} b (taken, fresh P st s) (refused no_seat, st)).1
    by true e =
        record {
          objects_stay = λ o. refl;
          other_seats_stay = λ k h. put_other st.seats s _ k h;
          begins_anew = λ h. put_same st.seats s _;
        }
    by false e =
        let high : 16 ≤ s = ltb-false s 16 e in
        record { objects_stay = λ o. refl; other_seats_stay = λ k h. refl; begins_anew = λ h. absurd (omega arith) }

-- ── Refusals ──

-- an admitted call that is refused found its object absent: it was a read or a run
absent_keeps : (P : Policy) (m : Contents) (d : ℕ) (v : Option Bytes) (c : Call) (r : Refusal) → reply P d v c ≡ refused r → (o : ℕ) → changed m c o ≡ m o
absent_keeps P m d v (read i n) r e o = cond_same (eqb o i) (m o)
absent_keeps P m d v (write i bytes) r e o = cc
absent_keeps P m d v (append i bytes) r e o = cc
absent_keeps P m d v (create i) r e o = cc
absent_keeps P m d v (remove i) r e o = cc
absent_keeps P m d v (run i w n) r e o = cond_same (eqb o i) (m o)

absent_stays : (d t : ℕ) (v : Option Bytes) (r : Refusal) → reply_run t v ≡ refused r → if_present d t v ≡ d
absent_stays d t None r e = refl
absent_stays d t (Some b) r e = cc

refused_stays : (P : Policy) (d : ℕ) (v : Option Bytes) (c : Call) (r : Refusal) → reply P d v c ≡ refused r → moved P d v c ≡ d
refused_stays P d v (read i n) r e = refl
refused_stays P d v (write i bytes) r e = refl
refused_stays P d v (append i bytes) r e = refl
refused_stays P d v (create i) r e = refl
refused_stays P d v (remove i) r e = refl
refused_stays P d v (run i w n) r e = absent_stays d (target P d i w) v r e

outcome_refused : (P : Policy) (st : State) (s d : ℕ) (l : List Answer) (c : Call) (a : Option Refusal) (r : Refusal) → st.seats s ≡ seated d l →
    (outcome P st s d l c a).0 ≡ refused r → OnlyNoted st s (refused r) (outcome P st s d l c a).1
outcome_refused P st s d l c (Some r') r q e =
    record {
      contents_stay = λ o. refl;
      others_stay = λ k h. put_other st.seats s _ k h;
      seat_notes = λ h. put_same st.seats s _ ∙ ap (λ (a : Answer). seated d (note l a)) e ∙ ap (λ (x : Seat). noted x (refused r)) (sym q);
    }
outcome_refused P st s d l c None r q e =
    record {
      contents_stay = absent_keeps P st.contents d (st.contents (object c)) c r e;
      others_stay = λ k h. put_other st.seats s _ k h;
      seat_notes = λ h.
          put_same st.seats s _ ∙ ap (λ (x : ℕ). seated x (note l (reply P d (st.contents (object c)) c))) (refused_stays P d (st.contents (object c)) c r e) ∙
          ap (λ (a : Answer). seated d (note l a)) e ∙ ap (λ (x : Seat). noted x (refused r)) (sym q);
    }

pub refusal_notes : (P : Policy) (st : State) (s : ℕ) (c : Call) (r : Refusal) → (call P st s c).0 ≡ refused r → OnlyNoted st s (refused r) (call P st s c).1
refusal_notes P st s c r =
    call_cases P st s c (λ x. x.0 ≡ refused r → OnlyNoted st s (refused r) x.1)
    (λ h e. record { contents_stay = λ o. refl; others_stay = λ k n. refl; seat_notes = λ lt. absurd (omega arith) })
    (λ h q e. record { contents_stay = λ o. refl; others_stay = λ k n. refl; seat_notes = λ lt. q ∙ ap (λ (x : Seat). noted x (refused r)) (sym q) })
    (λ d l h q e. outcome_refused P st s d l c (refusal P d c) r q e)

-- ── Places ──

placed : (P : Policy) (places : ℕ) (st : State) (e : Entry Rule) → P.objects ≤ places → step_on P places st e ≡ step P st e
placed P places st e enough =
    ap (λ (b : Bool). cond {A = Answer × State} b (refused few_places, st) (step P st e)) (le-ltb places P.objects enough)

pub enough_serve_all : (P : Policy) (places : ℕ) (st : State) (es : Series) → P.objects ≤ places → Served P places st es
enough_serve_all P places st [] enough = record { same_answers = refl; same_state = refl }
enough_serve_all P places st (e ∷ es) enough =
    let q = placed P places st e enough in
    let r = enough_serve_all P places (step P st e).1 es enough in
    record {
      same_answers = ap (λ (x : Answer × State). x.0 ∷ told_on P places x.1 es) q ∙ ap (λ (l : List Answer). (step P st e).0 ∷ l) r.same_answers;
      same_state = ap (λ (x : Answer × State). after_on P places x.1 es) q ∙ r.same_state;
    }

unplaced : (P : Policy) (places : ℕ) (st : State) (e : Entry Rule) → places < P.objects → step_on P places st e ≡ (refused few_places, st)
unplaced P places st e lt =
    ap (λ (b : Bool). cond {A = Answer × State} b (refused few_places, st) (step P st e)) (lt-ltb places P.objects lt)

pub few_serve_nobody : (P : Policy) (places : ℕ) (st : State) (es : Series) → places < P.objects → Unserved st (told_on P places st es) (after_on P places st es)
few_serve_nobody P places st [] lt = record { nothing_changes = refl; all_refused = tt }
few_serve_nobody P places st (e ∷ es) lt =
    let r = few_serve_nobody P places st es lt in
    let q = unplaced P places st e lt in
    record {
      nothing_changes = ap (λ (x : Answer × State). after_on P places x.1 es) q ∙ r.nothing_changes;
      all_refused = (
        ap (λ (x : Answer × State). x.0) q,
        subst (λ (z : State). AllByRecursion (λ a. a ≡ refused few_places) (told_on P places z es)) (sym (ap (λ (x : Answer × State). x.1) q)) r.all_refused,
      );
    }
