-- The number of a refusal and its values give the refusal back.
use Rattle.std.proofs.Common.{◌≡◌, ℕ, cond, eqb, Some, None, Option, sym, refl, ap, ◌∙◌}
use Rattle.machine.specs.Answers.{Refusal, no_seat, seat_idle, no_object, too_long, no_domain, few_places, short_buffer, denied, no_passage, absent, numbered}

by_number : ℕ → Option (ℕ × ℕ) → Refusal
by_number n (Some pair) = denied pair.0 pair.1
by_number n None =
    cond (eqb n 20) no_seat
    (cond (eqb n 21) seat_idle
    (cond (eqb n 22) no_object
    (cond (eqb n 23) too_long
    (cond (eqb n 24) no_domain
    (cond (eqb n 25) few_places
    (cond (eqb n 26) short_buffer
    (cond (eqb n 31) no_passage absent)))))))

given_back : (r : Refusal) → by_number (numbered r).0 (numbered r).1 ≡ r
unfolding by_number
given_back no_seat = refl
given_back seat_idle = refl
given_back no_object = refl
given_back too_long = refl
given_back no_domain = refl
given_back few_places = refl
given_back short_buffer = refl
given_back (denied length letter) = refl
given_back no_passage = refl
given_back absent = refl

pub numbers_tell : (r s : Refusal) → numbered r ≡ numbered s → r ≡ s
numbers_tell r s e = sym (given_back r) ∙ ap (λ (x : ℕ × Option (ℕ × ℕ)). by_number x.0 x.1) e ∙ given_back s
