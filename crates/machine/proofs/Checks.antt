-- The checks of a call, read in both directions, and the small facts that the proofs share.
use Rattle.std.proofs.Common.{◌≡◌, ℕ, ◌<◌, ◌≤◌, Bool, true, false, cond, eqb, ltb, leb, ◌≢◌, List, ◌∷◌, length, is_ok, Some, None, Ok, Err, Option, Result, refl, ap, ◌∙◌}
use mathlib.Core.List.{List-discrete}
use native.Mathlib.Decide.{ℕ_discrete}
use Rattle.std.proofs.lemmas.Bool.{ltb-true, lt-ltb, le-ltb, le-leb, lt-leb, eq-eqb, ne_eqb}
use Rattle.machine.specs.Policy.{Policy, granted}
use Rattle.machine.specs.Answers.{Bytes, Refusal, no_object, too_long, no_domain, short_buffer, denied, no_passage}
use Rattle.machine.specs.Calls.{Call, object, act, handed, room, wish}
use Rattle.machine.specs.State.{Seat, put}
use Rattle.machine.specs.Checks.{unless, denial, first_of, wish_is_domain, wish_may_pass, refusal}

pub eqb_self : (n : ℕ) → eqb n n ≡ true
eqb_self n = eq-eqb n n refl

pub cond_same : {A : Type 0} (b : Bool) (x : A) → cond b x x ≡ x
cond_same true x = refl
cond_same false x = refl

-- whether two places hold the same is decided
pub place_discrete : Discrete (Option Bytes)
place_discrete None None = yes refl
place_discrete None (Some y) = no (λ e. cc)
place_discrete (Some x) None = no (λ e. cc)
place_discrete (Some x) (Some y) =
    elim (List-discrete ℕ_discrete x y) [ yes e ↦ yes (ap Some e) | no h ↦ no (λ e. h (cc)) ]

-- where equality is decided, an equation may be shown as if every question had an answer
pub stable : {A : Type 0} → Discrete A → (Q : Type 0) (x y : A) → (Q → x ≡ y) → (¬ Q → x ≡ y) → x ≡ y
stable {A} d Q x y f g = go (d x y)
  where
    go : Dec (x ≡ y) → x ≡ y
    go (yes e) = e
    go (no h) = absurd (h (g (λ q. h (f q))))

pub put_same : (seats : ℕ → Seat) (s : ℕ) (new : Seat) → put seats s new s ≡ new
put_same seats s new = ap (λ (b : Bool). cond b new (seats s)) (eqb_self s)

pub put_other : (seats : ℕ → Seat) (s : ℕ) (new : Seat) (k : ℕ) → k ≢ s → put seats s new k ≡ seats k
put_other seats s new k h = ap (λ (b : Bool). cond b new (seats k)) (ne_eqb k s h)

-- ── Lists of checks ──

first_passed : (b : Bool) (r : Refusal) (checks : List (Option Refusal)) → first_of (unless b r ∷ checks) ≡ None →
    (b ≡ true) × (first_of checks ≡ None)
first_passed true r checks e = (refl, e)
first_passed false r checks e = cc

first_granted : (v : Result (Unit {0}) (ℕ × ℕ)) (checks : List (Option Refusal)) → first_of (denial v ∷ checks) ≡ None →
    (is_ok v ≡ true) × (first_of checks ≡ None)
first_granted (Ok x) checks e = (refl, e)
first_granted (Err x) checks e = cc

pass_first : (b : Bool) (r : Refusal) (checks : List (Option Refusal)) → b ≡ true → first_of (unless b r ∷ checks) ≡ first_of checks
pass_first true r checks e = refl
pass_first false r checks e = cc

grant_first : (v : Result (Unit {0}) (ℕ × ℕ)) (checks : List (Option Refusal)) → is_ok v ≡ true → first_of (denial v ∷ checks) ≡ first_of checks
grant_first (Ok x) checks e = refl
grant_first (Err x) checks e = cc

-- what a call that is admitted has passed
pub record Admitted (P : Policy) (d : ℕ) (c : Call) : Type 0 where
  pub below : object c < P.objects
  pub short : leb (length (handed c)) 64 ≡ true
  pub grant : granted P (act c) d (object c) ≡ true
  pub passage : wish_may_pass P d (object c) (wish c) ≡ true

pub admitted : (P : Policy) (d : ℕ) (c : Call) → refusal P d c ≡ None → Admitted P d c
unfolding refusal
admitted P d c e =
    let a = first_passed (ltb (object c) P.objects) _ _ e in
    let b = first_passed (leb (length (handed c)) 64) _ _ a.1 in
    let w = first_passed (wish_is_domain P (wish c)) _ _ b.1 in
    let f = first_passed (leb 64 (room c)) _ _ w.1 in
    let g = first_granted (P.verdict (act c) d (object c)) _ f.1 in
    let h = first_passed (wish_may_pass P d (object c) (wish c)) _ _ g.1 in
    record { below = ltb-true (object c) P.objects a.0; short = b.0; grant = g.0; passage = h.0 }

pub admit : (P : Policy) (d : ℕ) (c : Call) → object c < P.objects → length (handed c) ≤ 64 → wish_is_domain P (wish c) ≡ true →
    64 ≤ room c → granted P (act c) d (object c) ≡ true → wish_may_pass P d (object c) (wish c) ≡ true → refusal P d c ≡ None
unfolding refusal
admit P d c a b w f g h =
    pass_first (ltb (object c) P.objects) _ _ (lt-ltb _ _ a) ∙
    pass_first (leb (length (handed c)) 64) _ _ (le-leb _ _ b) ∙
    pass_first (wish_is_domain P (wish c)) _ _ w ∙
    pass_first (leb 64 (room c)) _ _ (le-leb _ _ f) ∙
    grant_first (P.verdict (act c) d (object c)) _ g ∙
    pass_first (wish_may_pass P d (object c) (wish c)) _ _ h

-- ── The first check that fails, for whoever makes them one by one ──

fail_first : (b : Bool) (r : Refusal) (checks : List (Option Refusal)) → b ≡ false → first_of (unless b r ∷ checks) ≡ Some r
fail_first true r checks e = cc
fail_first false r checks e = refl

deny_first : (v : Result (Unit {0}) (ℕ × ℕ)) (pair : ℕ × ℕ) (checks : List (Option Refusal)) → v ≡ Err pair →
    first_of (denial v ∷ checks) ≡ Some (denied pair.0 pair.1)
deny_first v pair checks e = ap (λ (x : Result (Unit {0}) (ℕ × ℕ)). first_of (denial x ∷ checks)) e

module _ (P : Policy) (d : ℕ) (c : Call) where
  pub refused_for_object : P.objects ≤ object c → refusal P d c ≡ Some no_object
  unfolding refusal
  refused_for_object a = fail_first (ltb (object c) P.objects) _ _ (le-ltb _ _ a)

  module _ (below : object c < P.objects) where
    pub refused_for_length : 64 < length (handed c) → refusal P d c ≡ Some too_long
    unfolding refusal
    refused_for_length a =
        pass_first (ltb (object c) P.objects) _ _ (lt-ltb _ _ below) ∙
        fail_first (leb (length (handed c)) 64) _ _ (lt-leb _ _ a)

    module _ (short : length (handed c) ≤ 64) where
      pub refused_for_wish : wish_is_domain P (wish c) ≡ false → refusal P d c ≡ Some no_domain
      unfolding refusal
      refused_for_wish a =
          pass_first (ltb (object c) P.objects) _ _ (lt-ltb _ _ below) ∙
          pass_first (leb (length (handed c)) 64) _ _ (le-leb _ _ short) ∙
          fail_first (wish_is_domain P (wish c)) _ _ a

      module _ (known : wish_is_domain P (wish c) ≡ true) where
        pub refused_for_buffer : room c < 64 → refusal P d c ≡ Some short_buffer
        unfolding refusal
        refused_for_buffer a =
            pass_first (ltb (object c) P.objects) _ _ (lt-ltb _ _ below) ∙
            pass_first (leb (length (handed c)) 64) _ _ (le-leb _ _ short) ∙
            pass_first (wish_is_domain P (wish c)) _ _ known ∙
            fail_first (leb 64 (room c)) _ _ (lt-leb _ _ a)

        module _ (roomy : 64 ≤ room c) where
          pub refused_for_denial : (pair : ℕ × ℕ) → P.verdict (act c) d (object c) ≡ Err pair →
              refusal P d c ≡ Some (denied pair.0 pair.1)
          unfolding refusal
          refused_for_denial pair a =
              pass_first (ltb (object c) P.objects) _ _ (lt-ltb _ _ below) ∙
              pass_first (leb (length (handed c)) 64) _ _ (le-leb _ _ short) ∙
              pass_first (wish_is_domain P (wish c)) _ _ known ∙
              pass_first (leb 64 (room c)) _ _ (le-leb _ _ roomy) ∙
              deny_first (P.verdict (act c) d (object c)) pair _ a

          pub refused_for_passage : granted P (act c) d (object c) ≡ true → wish_may_pass P d (object c) (wish c) ≡ false →
              refusal P d c ≡ Some no_passage
          unfolding refusal
          refused_for_passage g a =
              pass_first (ltb (object c) P.objects) _ _ (lt-ltb _ _ below) ∙
              pass_first (leb (length (handed c)) 64) _ _ (le-leb _ _ short) ∙
              pass_first (wish_is_domain P (wish c)) _ _ known ∙
              pass_first (leb 64 (room c)) _ _ (le-leb _ _ roomy) ∙
              grant_first (P.verdict (act c) d (object c)) _ g ∙
              fail_first (wish_may_pass P d (object c) (wish c)) _ _ a
