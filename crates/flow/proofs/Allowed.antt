-- What a look-up in a sealed policy answers, in the machine's words.
use Rattle.std.proofs.Common.{◌≡◌, ℕ, Bool, true, false, not, ◌&&◌, ◌||◌, eqb, ltb, leb, length, is_ok, Some, Option, Result, sym, ap, ◌∙◌, arith}
use Rattle.std.proofs.lemmas.Bool.{lt-ltb, le-ltb, leb-true, leb-false}
use Rattle.std.proofs.lemmas.Bool.Decides.{nat_tests}
use Rattle.label.specs.Letters.{letter_w, letter_a, letter_c}
use Rattle.label.specs.declared.numbers.Dom.{Dom}
use Rattle.machine.specs.Flow.{of_type}
use Rattle.machine.specs.Policy.{Act, writing, appending, making}
use Rattle.policy.specs.Abstract.{asked}
use Rattle.policy.specs.Grants.{no_object}
use Rattle.policy.specs.Holds.{model_of, answer, decision}
use Rattle.policy.specs.Sheets.{type_number}
use Rattle.policy.specs.declared.complete.Policy.{Policy}
use Rattle.policy.proofs.Answers.{answer-granted}
use Rattle.policy.proofs.Asks.{asks}
use Rattle.flow.specs.Allows.{allowed, changed}
use Rattle.flow.specs.Sets.{within}

-- there are such an object and such a domain
there : (objects domains d o : ℕ) (g : Bool) → (not (leb objects o || leb domains d) && g) ≡ (ltb o objects && (ltb d domains && g))
there objects domains d o g = grind (arith, nat_tests)

pub answer-allowed : (p : Policy) (act : Act) (d o : ℕ) (g : Result (Unit {0}) (ℕ × ℕ)) → (asked p).verdict act d o ≡ g → is_ok (answer (model_of p) d o g) ≡ allowed (asked p) act d o
answer-allowed p act d o g e =
    answer-granted (model_of p) d o g
    ∙ there (length (model_of p).objects) (length (model_of p).domains) d o (is_ok g)
    ∙ ap (λ n. ltb o n && (ltb d (length (model_of p).domains) && is_ok g)) (sym (asks.objects p))
    ∙ ap (λ n. ltb o (asked p).objects && (ltb d n && is_ok g)) (sym (asks.domains p))
    ∙ ap (λ x. ltb o (asked p).objects && (ltb d (asked p).domains && is_ok x)) (sym e)

-- one of the letters w, a and c changes an object
pub answers_changed : (p : Policy) (d o : ℕ) →
    (is_ok (decision (model_of p) d o letter_w) || (is_ok (decision (model_of p) d o letter_a) || is_ok (decision (model_of p) d o letter_c))) ≡ changed (asked p) d o
answers_changed p d o =
    ap (λ b. b || (is_ok (decision (model_of p) d o letter_a) || is_ok (decision (model_of p) d o letter_c))) (answer-allowed p writing d o _ (asks.writes p d o))
    ∙ ap (λ b. allowed (asked p) writing d o || (b || is_ok (decision (model_of p) d o letter_c))) (answer-allowed p appending d o _ (asks.appends p d o))
    ∙ ap (λ b. allowed (asked p) writing d o || (allowed (asked p) appending d o || b)) (answer-allowed p making d o _ (asks.makes p d o))

-- the type of an object
pub type_told : (p : Policy) (o A : ℕ) → (no_object (model_of p) o ≡ false) → eqb (type_number (model_of p) o) A ≡ within (asked p) (of_type (asked p) A) o
type_told p o A h =
    ap (λ n. eqb n A) (sym (asks.typ p o))
    ∙ ap (λ b. b && eqb ((asked p).typ o) A) (sym (lt-ltb o (asked p).objects (rw (asks.objects p) (leb-false _ o h))))

pub no_type_told : (p : Policy) (o A : ℕ) → (no_object (model_of p) o ≡ true) → false ≡ within (asked p) (of_type (asked p) A) o
no_type_told p o A h = ap (λ b. b && eqb ((asked p).typ o) A) (sym (le-ltb o (asked p).objects (rw (asks.objects p) (leb-true _ o h))))

some_is : (d : Dom) (n : ℕ) → ◌≡◌ {A = Option Dom} (Some d) (Some (record { 0 = n })) → d.0 ≡ n
some_is d n e = cc

-- the default domain
pub first_told : (p : Policy) (first : Dom) → Some first ≡ (model_of p).first → first.0 ≡ (asked p).first
first_told p first e = some_is first (asked p).first (e ∙ sym (asks.first p))
