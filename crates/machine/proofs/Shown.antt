-- A call and a start as a controller carries them out: each way that its checks can go.
use Rattle.std.proofs.Common.{◌≡◌, ℕ, ◌<◌, ◌≤◌, Bool, true, false, cond, eqb, ◌≢◌, List, [], Some, None, Option, sym, refl, ap, ◌∙◌, subst, arith}
use Rattle.std.proofs.lemmas.Bool.{lt-ltb, le-ltb, eqb-true, eqb-false}
use Rattle.std.proofs.lemmas.Option.{none-some}
use Rattle.machine.specs.Policy.{Policy}
use Rattle.machine.specs.Answers.{Bytes, Answer, taken, refused, Refusal, no_seat, seat_idle, few_places}
use Rattle.machine.specs.Calls.{Call, object}
use Rattle.machine.specs.State.{Contents, Seat, seated, State, domain, put}
use Rattle.machine.specs.Checks.{refusal}
use Rattle.machine.specs.Effects.{change, changed, reply, moved}
use Rattle.machine.specs.Machine.{outcome, call, fresh, start_seat}
use Rattle.machine.specs.Places.{call_on}
use Rattle.machine.specs.Shown.{Shows, ComesTo, CallsAs, StartsAs}
use Rattle.machine.proofs.Outcomes.{call_cases}

-- the seat s is in the domain e, and every other seat as before
pub record MovesOne (ds ds' : ℕ → Option ℕ) (s e : ℕ) : Type 0 where
  pub at : ds' s ≡ Some e
  pub off : (k : ℕ) → k ≢ s → ds' k ≡ ds k

put_shows : (seats : ℕ → Seat) (ds ds' : ℕ → Option ℕ) (s e : ℕ) (l : List Answer) → ((k : ℕ) → domain (seats k) ≡ ds k) → MovesOne ds ds' s e →
    (k : ℕ) → domain (put seats s (seated e l) k) ≡ ds' k
put_shows seats ds ds' s e l h m k = by (eqb k s) refl
  where
    by : (b : Bool) → eqb k s ≡ b → domain (cond b (seated e l) (seats k)) ≡ ds' k
    by true q = sym (ap ds' (eqb-true k s q) ∙ m.at)
    by false q = h k ∙ sym (m.off k (eqb-false k s q))

stays : (ds : ℕ → Option ℕ) (s d : ℕ) → ds s ≡ Some d → MovesOne ds ds s d
stays ds s d q = record { at = q; off = λ k h. refl }

module _ (P : Policy) (places : ℕ) (m : Contents) (ds : ℕ → Option ℕ) (s : ℕ) where
  pub calls_unplaced : (c : Call) → places < P.objects → CallsAs P places m ds s c (refused few_places) m ds
  calls_unplaced c few st h =
      subst (λ (b : Bool). ComesTo (cond b (refused few_places, st) (call P st s c)) (refused few_places) m ds)
      (sym (lt-ltb places P.objects few)) (record { answer_is = refl; shows = h })

  pub starts_unplaced : places < P.objects → StartsAs P places m ds s (refused few_places) m ds
  starts_unplaced few st h =
      subst (λ (b : Bool). ComesTo (cond b (refused few_places, st) (start_seat P st s)) (refused few_places) m ds)
      (sym (lt-ltb places P.objects few)) (record { answer_is = refl; shows = h })

  module _ (enough : P.objects ≤ places) where
    placed : (c : Call) (a : Answer) (m' : Contents) (ds' : ℕ → Option ℕ) (st : State) → ComesTo (call P st s c) a m' ds' → ComesTo (call_on P places st s c) a m' ds'
    placed c a m' ds' st r =
        subst (λ (b : Bool). ComesTo (cond b (refused few_places, st) (call P st s c)) a m' ds') (sym (le-ltb places P.objects enough)) r

    pub calls_no_seat : (c : Call) → 16 ≤ s → CallsAs P places m ds s c (refused no_seat) m ds
    calls_no_seat c high st h =
        placed c (refused no_seat) m ds st
        (call_cases P st s c (λ x. ComesTo x (refused no_seat) m ds) (λ _. record { answer_is = refl; shows = h }) (λ lt q. absurd (omega arith))
        (λ d l lt q. absurd (omega arith)))

    module _ (low : s < 16) where
      pub calls_idle : (c : Call) → ds s ≡ None → CallsAs P places m ds s c (refused seat_idle) m ds
      calls_idle c none st h =
          placed c (refused seat_idle) m ds st
          (call_cases P st s c (λ x. ComesTo x (refused seat_idle) m ds) (λ high. absurd (omega arith)) (λ lt q. record { answer_is = refl; shows = h })
          (λ d l lt q. absurd (none-some d (sym none ∙ sym (h.domains_are s) ∙ ap domain q))))

      -- the seat is in d: what holds of every list holds of the call
      seated_call : (c : Call) (d : ℕ) (a : Answer) (m' : Contents) (ds' : ℕ → Option ℕ) (st : State) → Shows st m ds → ds s ≡ Some d →
          ((l : List Answer) → ComesTo (outcome P st s d l c (refusal P d c)) a m' ds') → ComesTo (call P st s c) a m' ds'
      seated_call c d a m' ds' st h at f =
          call_cases P st s c (λ x. ComesTo x a m' ds') (λ high. absurd (omega arith))
          (λ lt q. absurd (none-some d (sym (ap domain q) ∙ h.domains_are s ∙ at)))
          (λ e l lt q.
          let p : Some e ≡ Some d = sym (ap domain q) ∙ h.domains_are s ∙ at in
          let z : d ≡ e = cc in
          subst (λ (x : ℕ). ComesTo (outcome P st s x l c (refusal P x c)) a m' ds') z (f l))

      pub calls_refused : (c : Call) (d : ℕ) (r : Refusal) → ds s ≡ Some d → refusal P d c ≡ Some r → CallsAs P places m ds s c (refused r) m ds
      calls_refused c d r at e st h =
          placed c (refused r) m ds st
          (seated_call c d (refused r) m ds st h at
          (λ l.
          subst (λ (x : Option Refusal). ComesTo (outcome P st s d l c x) (refused r) m ds) (sym e)
          (record {
            answer_is = refl;
            shows = record { contents_are = h.contents_are; domains_are = put_shows st.seats ds ds s d _ h.domains_are (stays ds s d at) };
          })))

      pub calls_admitted : (c : Call) (d : ℕ) (m' : Contents) (ds' : ℕ → Option ℕ) → ds s ≡ Some d → refusal P d c ≡ None →
          ((o : ℕ) → changed m c o ≡ m' o) → MovesOne ds ds' s (moved P d (m (object c)) c) →
          CallsAs P places m ds s c (reply P d (m (object c)) c) m' ds'
      calls_admitted c d m' ds' at e now_is then st h =
          placed c (reply P d (m (object c)) c) m' ds' st
          (seated_call c d (reply P d (m (object c)) c) m' ds' st h at
          (λ l.
          subst (λ (x : Option Refusal). ComesTo (outcome P st s d l c x) (reply P d (m (object c)) c) m' ds') (sym e)
          (record {
            answer_is = ap (λ (v : Option Bytes). reply P d v c) (h.contents_are (object c));
            shows =
                record {
                  contents_are = λ o. ap (λ (v : Option Bytes). cond (eqb o (object c)) (change c v) v) (h.contents_are o) ∙ now_is o;
                  domains_are =
                      put_shows st.seats ds ds' s _ _ h.domains_are
                      (subst (λ (v : Option Bytes). MovesOne ds ds' s (moved P d v c)) (sym (h.contents_are (object c))) then);
                };
          })))

    pub starts_no_seat : 16 ≤ s → StartsAs P places m ds s (refused no_seat) m ds
    unfolding start_seat
    starts_no_seat high st h =
        subst (λ (b : Bool). ComesTo (cond b (refused few_places, st) (start_seat P st s)) (refused no_seat) m ds) (sym (le-ltb places P.objects enough))
        (subst (λ (b : Bool). ComesTo (cond b (taken, fresh P st s) (refused no_seat, st)) (refused no_seat) m ds) (sym (le-ltb s 16 high))
        (record { answer_is = refl; shows = h }))

    pub starts_taken : (ds' : ℕ → Option ℕ) → s < 16 → MovesOne ds ds' s P.first → StartsAs P places m ds s taken m ds'
    unfolding start_seat
    starts_taken ds' low then st h =
        subst (λ (b : Bool). ComesTo (cond b (refused few_places, st) (start_seat P st s)) taken m ds') (sym (le-ltb places P.objects enough))
        (subst (λ (b : Bool). ComesTo (cond b (taken, fresh P st s) (refused no_seat, st)) taken m ds') (sym (lt-ltb s 16 low))
        (record {
          answer_is = refl;
          shows = record { contents_are = h.contents_are; domains_are = put_shows st.seats ds ds' s P.first [] h.domains_are then };
        }))
