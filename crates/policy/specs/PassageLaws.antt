-- What a grant and a passage rest on.
use Rattle.std.proofs.lemmas.Option.{none-some}
use Rattle.std.specs.Prelude.{◌≡◌, ℕ, ◌<◌, Bool, true, false, not, ◌&&◌, ◌||◌, length, is_ok, Some, None, Option, refl}
use Rattle.std.proofs.Common.{sym, ap, ◌∙◌, ⊎_elim}
use Rattle.std.proofs.lemmas.Bool.{true≢false, and_parts, and_from, not-true, not_from_false, or_parts, or_from, or_left, or_right, leb-false, lt-leb, cases_Bool, cond-true, cond-false}
use Rattle.std.specs.Option.{option_map}
use Rattle.label.specs.Letters.{letter_r, letter_x}
use Rattle.label.specs.declared.numbers.Dom.{Dom}
use Rattle.tables.specs.Entries.{enters}
use Rattle.tables.specs.Holdings.{listed}
use Rattle.tables.specs.Model.{Model, holding_of, no_domain}
use Rattle.tables.specs.declared.holding.Passage.TheVariants.{Auto}
use Rattle.policy.specs.LowestLaws.{Lowest, is_lowest}
use Rattle.policy.specs.Grants.{no_object, path_of, holds, barrier, verdict, grant_on, read_on, object_type}
use Rattle.policy.specs.Passages.{passage_to, runs, entered, pass, leads, target, auto}

pub verdict-ok : (b : Option ℕ) (held : Bool) (n l : ℕ) → is_ok (verdict b held n l) ≡ true → (b ≡ None) × (held ≡ true)
verdict-ok (Some k) held n l e = absurd (true≢false (sym e))
verdict-ok None true n l e = (refl, refl)
verdict-ok None false n l e = absurd (true≢false (sym e))

pub verdict_granted : (b : Option ℕ) (held : Bool) (n l : ℕ) → b ≡ None → held ≡ true → is_ok (verdict b held n l) ≡ true
verdict_granted b held n l e h = ap (λ x. is_ok (verdict x held n l)) e ∙ ap (λ x. is_ok (verdict None x n l)) h

pub run_reads : (m : Model) (d o : ℕ) → is_ok (grant_on m d o letter_x) ≡ true → is_ok (read_on m d o) ≡ true
unfolding grant_on read_on
run_reads m d o e =
    let g = verdict-ok (barrier m d (path_of m o)) (holds m d (object_type m o) letter_x) _ _ e in
    verdict_granted _ _ _ _ g.0 (or_right (holds m d (object_type m o) letter_r) _ g.1)

pub r_reads : (m : Model) (d o : ℕ) → is_ok (grant_on m d o letter_r) ≡ true → is_ok (read_on m d o) ≡ true
unfolding grant_on read_on
r_reads m d o e =
    let g = verdict-ok (barrier m d (path_of m o)) (holds m d (object_type m o) letter_r) _ _ e in
    verdict_granted _ _ _ _ g.0 (or_left _ _ g.1)

known : (a b c : Bool) → (not (a || b) && c) ≡ true → (a ≡ false) × (b ≡ false)
known a b c e = or_parts a b (not-true (a || b) (and_parts (not (a || b)) c e).0)

pub pass_parts : (m : Model) (d o e : ℕ) → pass m d o e ≡ true → (runs m d o ≡ true) × ((entered m o e ≡ true) × (passage_to m d e ≡ true))
unfolding pass
pass_parts m d o e h =
    let p = and_parts (runs m d o) _ h in
    let q = and_parts (entered m o e) (passage_to m d e) p.1 in
    (p.0, (q.0, q.1))

pub pass_runs : (m : Model) (d o e : ℕ) → pass m d o e ≡ true → is_ok (grant_on m d o letter_x) ≡ true
pass_runs m d o e h = (and_parts (not (no_object m o || no_domain m d)) _ (pass_parts m d o e h).0).1

pub pass_object : (m : Model) (d o e : ℕ) → pass m d o e ≡ true → o < length m.objects
pass_object m d o e h = leb-false (length m.objects) o (known (no_object m o) (no_domain m d) _ (pass_parts m d o e h).0).0

pub pass_from : (m : Model) (d o e : ℕ) → pass m d o e ≡ true → d < length m.domains
pass_from m d o e h = leb-false (length m.domains) d (known (no_object m o) (no_domain m d) _ (pass_parts m d o e h).0).1

pub pass_to : (m : Model) (d o e : ℕ) → pass m d o e ≡ true → e < length m.domains
pass_to m d o e h = leb-false (length m.domains) e (known (no_object m o) (no_domain m e) _ (pass_parts m d o e h).1.0).1

some_dom : (o : Option ℕ) (e : ℕ) → option_map (λ d. d.0) (option_map {U = Dom} (λ n. record { 0 = n }) o) ≡ Some e → o ≡ Some e
some_dom None e h = absurd (none-some _ h)
some_dom (Some n) e h = h

-- where an auto passage leads is the lowest domain to which one does
pub auto_is : (m : Model) (d o e : ℕ) → option_map (λ x. x.0) (auto m d o) ≡ Some e → (runs m d o ≡ true) × Lowest (leads m d (path_of m o)) (length m.domains) e
unfolding auto
auto_is m d o e h =
    ⊎_elim
    (λ t. (t, is_lowest (leads m d (path_of m o)) (length m.domains) e (some_dom _ e (sym (ap (option_map (λ x. x.0)) (cond-true (runs m d o) (target m d (path_of m o)) None t)) ∙ h))))
    (λ t. absurd (none-some _ (sym (ap (option_map (λ x. x.0)) (cond-false (runs m d o) (target m d (path_of m o)) None t)) ∙ h)))
    (cases_Bool (runs m d o))

-- and it is a passage
pub auto_passes : (m : Model) (d o e : ℕ) → option_map (λ x. x.0) (auto m d o) ≡ Some e → pass m d o e ≡ true
unfolding pass
auto_passes m d o e h =
    let r = auto_is m d o e h in
    let f = and_parts (listed (holding_of m d) Auto e) (enters m.entries e (path_of m o)) r.1.passes in
    let there = (known (no_object m o) (no_domain m d) _ r.0).0 in
    let e_is : no_domain m e ≡ false = lt-leb (length m.domains) e r.1.below in
    and_from _ _ r.0
    (and_from _ _ (and_from _ _ (not_from_false _ (or_from (no_object m o) (no_domain m e) there e_is)) f.1) (or_left _ _ f.0))
