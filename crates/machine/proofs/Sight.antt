-- What an answer may depend on: the seat's domain and what the call's object holds.
use Rattle.std.proofs.Common.{◌≡◌, ℕ, Bool, true, false, cond, eqb, ltb, ◌≢◌, List, Some, None, Option, sym, refl, ap, ◌∙◌, subst}
use Rattle.machine.specs.Policy.{Policy}
use Rattle.machine.specs.Answers.{Bytes, Answer, refused, Refusal, no_seat, seat_idle, absent}
use Rattle.machine.specs.Calls.{Call, read, write, append, create, remove, run, object}
use Rattle.machine.specs.State.{Contents, Seat, idle, seated, State, domain, note, put}
use Rattle.machine.specs.Checks.{refusal}
use Rattle.machine.specs.Effects.{change, target, reply_read, reply_run, reply, moved}
use Rattle.machine.specs.Machine.{outcome, call_at, call}
use Rattle.machine.specs.Laws.{changing, with_contents, SameButLists, ListsUnseen}

-- the answer without the state: from the seat's domain, if it runs, and what the object holds
abbrev by_refusal : Policy → ℕ → Option Bytes → Call → Option Refusal → Answer
by_refusal P d v c (Some r) = refused r
by_refusal P d v c None = reply P d v c

abbrev by_domain : Policy → Option ℕ → Option Bytes → Call → Answer
by_domain P None v c = refused seat_idle
by_domain P (Some d) v c = by_refusal P d v c (refusal P d c)

outcome_answers : (P : Policy) (st : State) (s d : ℕ) (l : List Answer) (c : Call) (a : Option Refusal) → (outcome P st s d l c a).0 ≡ by_refusal P d (st.contents (object c)) c a
outcome_answers P st s d l c (Some r) = refl
outcome_answers P st s d l c None = refl

call_at_answers : (P : Policy) (st : State) (s : ℕ) (c : Call) (x : Seat) → (call_at P st s c x).0 ≡ by_domain P (domain x) (st.contents (object c)) c
unfolding call_at
call_at_answers P st s c idle = refl
call_at_answers P st s c (seated d l) = outcome_answers P st s d l c (refusal P d c)

pub call_answers : (P : Policy) (st : State) (s : ℕ) (c : Call) →
    (call P st s c).0 ≡ cond (ltb s 16) (by_domain P (domain (st.seats s)) (st.contents (object c)) c) (refused no_seat)
unfolding call
call_answers P st s c =
    elim (ltb s 16) as (λ b. (cond b (call_at P st s c (st.seats s)) (refused no_seat, st)).0 ≡ cond b (by_domain P (domain (st.seats s)) (st.contents (object c)) c) (refused no_seat))
    [ true ↦ call_at_answers P st s c (st.seats s) | false ↦ refl ]

pub answer_depends : (P : Policy) (st st' : State) (s : ℕ) (c : Call) → domain (st.seats s) ≡ domain (st'.seats s) →
    st.contents (object c) ≡ st'.contents (object c) → (call P st s c).0 ≡ (call P st' s c).0
answer_depends P st st' s c p q =
    call_answers P st s c ∙ (λ i. cond (ltb s 16) (by_domain P (p i) (q i) c) (refused no_seat)) ∙ sym (call_answers P st' s c)

-- ── Calls that tell nothing ──

reply_tells_nothing : (P : Policy) (d : ℕ) (v w : Option Bytes) (c : Call) → changing c ≡ true → reply P d v c ≡ reply P d w c
reply_tells_nothing P d v w (read o n) e = cc
reply_tells_nothing P d v w (write o bytes) e = refl
reply_tells_nothing P d v w (append o bytes) e = refl
reply_tells_nothing P d v w (create o) e = refl
reply_tells_nothing P d v w (remove o) e = refl
reply_tells_nothing P d v w (run o wish n) e = cc

refusal_tells_nothing : (P : Policy) (d : ℕ) (v w : Option Bytes) (c : Call) (a : Option Refusal) → changing c ≡ true → by_refusal P d v c a ≡ by_refusal P d w c a
refusal_tells_nothing P d v w c (Some r) e = refl
refusal_tells_nothing P d v w c None e = reply_tells_nothing P d v w c e

domain_tells_nothing : (P : Policy) (d : Option ℕ) (v w : Option Bytes) (c : Call) → changing c ≡ true → by_domain P d v c ≡ by_domain P d w c
domain_tells_nothing P None v w c e = refl
domain_tells_nothing P (Some d) v w c e = refusal_tells_nothing P d v w c (refusal P d c) e

pub changing_tells_nothing : (P : Policy) (st : State) (m : Contents) (s : ℕ) (c : Call) → changing c ≡ true →
    (call P (with_contents st m) s c).0 ≡ (call P st s c).0
changing_tells_nothing P st m s c e =
    call_answers P (with_contents st m) s c ∙
    ap (λ (a : Answer). cond (ltb s 16) a (refused no_seat)) (domain_tells_nothing P (domain (st.seats s)) (m (object c)) (st.contents (object c)) c e) ∙
    sym (call_answers P st s c)

-- ── Refusals that do not look ──

read_refuses_absent : (v : Option Bytes) (r : Refusal) → reply_read v ≡ refused r → r ≡ absent
read_refuses_absent None r e = cc
read_refuses_absent (Some b) r e = cc

run_refuses_absent : (d : ℕ) (v : Option Bytes) (r : Refusal) → reply_run d v ≡ refused r → r ≡ absent
run_refuses_absent d None r e = cc
run_refuses_absent d (Some b) r e = cc

reply_refuses_absent : (P : Policy) (d : ℕ) (v : Option Bytes) (c : Call) (r : Refusal) → reply P d v c ≡ refused r → r ≡ absent
reply_refuses_absent P d v (read o n) r e = read_refuses_absent v r e
reply_refuses_absent P d v (write o bytes) r e = cc
reply_refuses_absent P d v (append o bytes) r e = cc
reply_refuses_absent P d v (create o) r e = cc
reply_refuses_absent P d v (remove o) r e = cc
reply_refuses_absent P d v (run o w n) r e = run_refuses_absent (target P d o w) v r e

refusal_unlooked : (P : Policy) (d : ℕ) (v w : Option Bytes) (c : Call) (a : Option Refusal) (r : Refusal) → r ≢ absent → by_refusal P d v c a ≡ refused r → by_refusal P d w c a ≡ refused r
refusal_unlooked P d v w c (Some x) r h e = e
refusal_unlooked P d v w c None r h e = absurd (h (reply_refuses_absent P d v c r e))

domain_unlooked : (P : Policy) (d : Option ℕ) (v w : Option Bytes) (c : Call) (r : Refusal) → r ≢ absent → by_domain P d v c ≡ refused r → by_domain P d w c ≡ refused r
domain_unlooked P None v w c r h e = e
domain_unlooked P (Some d) v w c r h e = refusal_unlooked P d v w c (refusal P d c) r h e

seat_unlooked : (P : Policy) (b : Bool) (d : Option ℕ) (v w : Option Bytes) (c : Call) (r : Refusal) → r ≢ absent →
    cond b (by_domain P d v c) (refused no_seat) ≡ refused r → cond b (by_domain P d w c) (refused no_seat) ≡ refused r
seat_unlooked P true d v w c r h e = domain_unlooked P d v w c r h e
seat_unlooked P false d v w c r h e = e

pub only_absence_looks : (P : Policy) (st : State) (m : Contents) (s : ℕ) (c : Call) (r : Refusal) → r ≢ absent → (call P st s c).0 ≡ refused r →
    (call P (with_contents st m) s c).0 ≡ refused r
only_absence_looks P st m s c r h e =
    call_answers P (with_contents st m) s c ∙
    seat_unlooked P (ltb s 16) (domain (st.seats s)) (st.contents (object c)) (m (object c)) c r h (sym (call_answers P st s c) ∙ e)

-- ── Lists ──

-- after a call of two seats in one domain, whatever their lists
same_put : (f g : ℕ → Seat) (s d : ℕ) (l m : List Answer) → ((k : ℕ) → domain (f k) ≡ domain (g k)) →
    (k : ℕ) → domain (put f s (seated d l) k) ≡ domain (put g s (seated d m) k)
same_put f g s d l m h k =
    elim (eqb k s) as (λ b. domain (cond b (seated d l) (f k)) ≡ domain (cond b (seated d m) (g k))) [ true ↦ refl | false ↦ h k ]

same_outcome : (P : Policy) (st st' : State) (s d : ℕ) (l m : List Answer) (c : Call) (a : Option Refusal) → SameButLists st st' →
    SameButLists (outcome P st s d l c a).1 (outcome P st' s d m c a).1
same_outcome P st st' s d l m c (Some r) h =
    record { same_contents = h.same_contents; same_domains = same_put st.seats st'.seats s d _ _ h.same_domains }
same_outcome P st st' s d l m c None h =
    record {
      same_contents = λ o. ap (λ (v : Option Bytes). cond (eqb o (object c)) (change c v) v) (h.same_contents o);
      same_domains = λ k.
          ap (λ (v : Option Bytes). domain (put st.seats s (seated (moved P d v c) (note l (reply P d v c))) k)) (h.same_contents (object c)) ∙
          same_put st.seats st'.seats s (moved P d (st'.contents (object c)) c) _ _ h.same_domains k;
    }

same_call_at : (P : Policy) (st st' : State) (s : ℕ) (c : Call) (x y : Seat) → domain x ≡ domain y → SameButLists st st' →
    SameButLists (call_at P st s c x).1 (call_at P st' s c y).1
unfolding call_at
same_call_at P st st' s c idle idle q h = h
same_call_at P st st' s c idle (seated d l) q h = cc
same_call_at P st st' s c (seated d l) idle q h = cc
same_call_at P st st' s c (seated d l) (seated e m) q h =
    let p : d ≡ e = cc in
    subst (λ (x : ℕ). SameButLists (outcome P st s d l c (refusal P d c)).1 (outcome P st' s x m c (refusal P x c)).1) p
    (same_outcome P st st' s d l m c (refusal P d c) h)

same_call : (P : Policy) (st st' : State) (s : ℕ) (c : Call) → SameButLists st st' → SameButLists (call P st s c).1 (call P st' s c).1
unfolding call
same_call P st st' s c h =
    elim (ltb s 16) as (λ b. SameButLists (cond b (call_at P st s c (st.seats s)) (refused no_seat, st)).1 (cond b (call_at P st' s c (st'.seats s)) (refused no_seat, st')).1)
    [ true ↦ same_call_at P st st' s c (st.seats s) (st'.seats s) (h.same_domains s) h | false ↦ h ]

pub lists_play_no_part : (P : Policy) (st st' : State) (s : ℕ) (c : Call) → SameButLists st st' → ListsUnseen (call P st s c) (call P st' s c)
lists_play_no_part P st st' s c h =
    record {
      same_answer = answer_depends P st st' s c (h.same_domains s) (h.same_contents (object c));
      same_state = same_call P st st' s c h;
    }
