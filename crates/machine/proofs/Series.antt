-- What holds after every series: seats in live domains, and possible contents.
use Rattle.std.proofs.Common.{◌≡◌, ℕ, ◌≤◌, true, false, cond, eqb, ltb, List, [], ◌∷◌, ◌++◌, length, Some, None, Option, refl, subst, arith, length-take}
use Rattle.std.proofs.lemmas.Bool.{leb-true}
use Rattle.std.proofs.ByRecursion.{All-take, All-append}
use Rattle.machine.specs.Policy.{Policy}
use Rattle.machine.specs.Answers.{Bytes, Answer, taken, refused, Refusal, no_seat}
use Rattle.machine.specs.Calls.{Call, read, write, append, create, remove, run, object, handed}
use Rattle.machine.specs.State.{Contents, Seat, idle, seated, State, domain, answers, loaded}
use Rattle.machine.specs.Checks.{refusal}
use Rattle.machine.specs.Effects.{change}
use Rattle.machine.specs.Machine.{outcome, fresh, start_seat}
use Rattle.machine.specs.Series.{Rule, Entry, start, turn, Series, step, after}
use Rattle.machine.specs.Possible.{Byte, PossiblePlace, Possible, PossibleCall, PossibleEntry, PossibleSeries}
use Rattle.machine.specs.Flow.{Live}
use Rattle.machine.proofs.Checks.{admitted}
use Rattle.machine.proofs.Sound.{LiveSeat, step_live}
use Rattle.machine.proofs.Outcomes.{call_cases}

series_live : (P : Policy) (es : Series) (st : State) → ((k : ℕ) → LiveSeat P (st.seats k)) → (k : ℕ) → LiveSeat P ((after P st es).seats k)
series_live P [] st all = all
series_live P (e ∷ es) st all = series_live P es (step P st e).1 (step_live P st e all)

live_domain : (P : Policy) (x : Seat) (d : ℕ) → domain x ≡ Some d → LiveSeat P x → Live P d
live_domain P idle d q L = cc
live_domain P (seated e l) d q L = let p : e ≡ d = cc in subst (Live P) p L

pub seats_stay_live : (P : Policy) (m : Contents) (es : Series) (k d : ℕ) → domain ((after P (loaded m) es).seats k) ≡ Some d → Live P d
seats_stay_live P m es k d q = live_domain P ((after P (loaded m) es).seats k) d q (series_live P es (loaded m) (λ j. tt) k)

change_possible : (c : Call) (v : Option Bytes) → length (handed c) ≤ 64 → PossibleCall c → PossiblePlace v → PossiblePlace (change c v)
change_possible (read o n) v h p q = q
change_possible (write o bytes) None h p q = tt
change_possible (write o bytes) (Some old) h p q = (h, p)
change_possible (append o bytes) None h p q = tt
change_possible (append o bytes) (Some old) h p q =
    (simp length-take (omega arith), All-take Byte 64 (old ++ bytes) (All-append Byte old bytes q.1 p))
change_possible (create o) None h p q = (omega arith, tt)
change_possible (create o) (Some old) h p q = q
change_possible (remove o) v h p q = tt
change_possible (run o w n) v h p q = q

outcome_possible : (P : Policy) (st : State) (s d : ℕ) (l : List Answer) (c : Call) (a : Option Refusal) → refusal P d c ≡ a → PossibleCall c →
    Possible P st.contents → Possible P (outcome P st s d l c a).1.contents
outcome_possible P st s d l c (Some r) e p h o lt = h o lt
outcome_possible P st s d l c None e p h o lt =
    elim (eqb o (object c)) as (λ b. PossiblePlace (cond b (change c (st.contents o)) (st.contents o)))
    [ true ↦ change_possible c (st.contents o) (leb-true (length (handed c)) 64 (admitted P d c e).short) p (h o lt) | false ↦ h o lt ]

step_possible : (P : Policy) (st : State) (e : Entry Rule) → PossibleEntry e → Possible P st.contents → Possible P (step P st e).1.contents
unfolding start_seat
step_possible P st (start s) p h =
    elim (ltb s 16) as (λ b. Possible P (cond {A = Answer × State} b (taken, fresh P st s) (refused no_seat, st)).1.contents) [ true ↦ h | false ↦ h ]
step_possible P st (turn s rule) p h =
    let c : Call = rule (answers (st.seats s)) in
    call_cases P st s c (λ x. Possible P x.1.contents) (λ _. h) (λ _ _. h)
    (λ d l _ _. outcome_possible P st s d l c (refusal P d c) refl (p (answers (st.seats s))) h)

series_possible : (P : Policy) (es : Series) (st : State) → PossibleSeries es → Possible P st.contents → Possible P (after P st es).contents
series_possible P [] st p h = h
series_possible P (e ∷ es) st p h = series_possible P es (step P st e).1 p.1 (step_possible P st e p.0 h)

pub contents_stay_possible : (P : Policy) (m : Contents) (es : Series) → Possible P m → PossibleSeries es → Possible P (after P (loaded m) es).contents
contents_stay_possible P m es h p = series_possible P es (loaded m) p h
