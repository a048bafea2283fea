-- What a look-up answers.
use Rattle.std.proofs.Common.{◌≡◌, ℕ, Bool, true, false, cond, not, ◌&&◌, ◌||◌, is_ok, Some, None, Ok, Err, Option, Result, MatchResult, refl, sym, ap, ◌∙◌, subst}
use Rattle.std.proofs.lemmas.Bool.{true≢false, cond-false}
use Rattle.label.specs.declared.refusal.Refusal.{Refusal}
use Rattle.label.specs.declared.refusal.Refusal.TheVariants.{NoObject, NoDomain}
use Rattle.std.specs.Option.{option_and}
use Rattle.std.specs.Result.{result_ok}
use Rattle.label.specs.declared.numbers.Dom.{Dom}
use Rattle.label.specs.Letters.{has, letter_x}
use Rattle.tables.specs.Entries.{enters}
use Rattle.tables.specs.Model.{Model, no_domain}
use Rattle.policy.specs.declared.cell.Cell.{Cell}
use Rattle.policy.specs.Cells.{cell_of, known}
use Rattle.policy.specs.Grants.{path_of, object_type, no_object, verdict, grant_on}
use Rattle.policy.specs.Holds.{answer, refusal}
use Rattle.policy.specs.Passages.{entered, target, auto}

refusal-ok : (g : Result (Unit {0}) (ℕ × ℕ)) → is_ok (refusal g) ≡ is_ok g
refusal-ok (Ok u) = refl
refusal-ok (Err e) = refl

pub answer-granted : (m : Model) (d o : ℕ) (g : Result (Unit {0}) (ℕ × ℕ)) → is_ok (answer m d o g) ≡ (not (no_object m o || no_domain m d) && is_ok g)
answer-granted m d o g = by (no_object m o) (no_domain m d)
  where
    by : (x y : Bool) → is_ok {T = Unit {0}} {E = Refusal} (cond x (Err NoObject) (cond y (Err NoDomain) (refusal g))) ≡ (not (x || y) && is_ok g)
    by true y = refl
    by false true = refl
    by false false = refusal-ok g

-- of an object and a domain that are there, the cell is what is known
pub known_cell : (m : Model) (d o : ℕ) (c : Cell) → Ok c ≡ known m d o → (no_object m o ≡ false) × (no_domain m d ≡ false) × (c ≡ cell_of m d (path_of m o) (object_type m o))
known_cell m d o c = by (no_object m o) (no_domain m d)
  where
    by : (x y : Bool) → Ok c ≡ cond {A = Result Cell Refusal} x (Err NoObject) (cond y (Err NoDomain) (Ok (cell_of m d (path_of m o) (object_type m o)))) → (x ≡ false) × (y ≡ false) × (c ≡ cell_of m d (path_of m o) (object_type m o))
    by true y h = absurd (true≢false (ap is_ok h))
    by false true h = absurd (true≢false (ap is_ok h))
    by false false h = (refl, refl, cc)

-- and the answer is what the cell says
pub answer-known : (m : Model) (d o : ℕ) (c : Cell) (g : Cell → Result (Unit {0}) (ℕ × ℕ)) → Ok c ≡ known m d o → refusal (g c) ≡ answer m d o (g (cell_of m d (path_of m o) (object_type m o)))
answer-known m d o c g h =
    let k = known_cell m d o c h in
    ap (λ x. refusal (g x)) k.2 ∙ sym (cond-false _ _ _ k.0 ∙ cond-false _ _ _ k.1)

pub entered-known : (m : Model) (d o : ℕ) (r : Result Cell Refusal) (b : Bool) (Says : Cell → Type 0) → r ≡ known m d o → ((x : Cell) → Says x → b ≡ x.enters) → MatchResult r Says (λ _. b ≡ false) → b ≡ entered m o d
unfolding cell_of
entered-known m d o r b Says e tells = by (no_object m o) (no_domain m d) e
  where
    by : (x y : Bool) → r ≡ cond {A = Result Cell Refusal} x (Err NoObject) (cond y (Err NoDomain) (Ok (cell_of m d (path_of m o) (object_type m o)))) → MatchResult r Says (λ _. b ≡ false) → b ≡ (not (x || y) && enters m.entries d (path_of m o))
    by true y h k = subst (λ z. MatchResult z Says (λ _. b ≡ false)) h k
    by false true h k = subst (λ z. MatchResult z Says (λ _. b ≡ false)) h k
    by false false h k = tells _ (subst (λ z. MatchResult z Says (λ _. b ≡ false)) h k)

and-ok : {X : Type 0} (g : Result (Unit {0}) (ℕ × ℕ)) (t : Option X) → option_and (result_ok g) t ≡ cond (is_ok g) t None
and-ok (Ok u) t = refl
and-ok (Err e) t = refl

abbrev pub auto_by : Option Cell → Option Dom
auto_by None = None
auto_by (Some c) = option_and (result_ok (verdict c.barrier (has c.letters letter_x) c.long letter_x)) c.target

-- a run passes where the cell says, if one is known
pub auto-known : (m : Model) (d o : ℕ) (c : Option Cell) → c ≡ result_ok (known m d o) → auto_by c ≡ auto m d o
unfolding auto cell_of grant_on
auto-known m d o c h = ap auto_by h ∙ by (no_object m o) (no_domain m d)
  where
    by : (x y : Bool) → auto_by (result_ok (cond {A = Result Cell Refusal} x (Err NoObject) (cond y (Err NoDomain) (Ok (cell_of m d (path_of m o) (object_type m o)))))) ≡ cond (not (x || y) && is_ok (grant_on m d o letter_x)) (target m d (path_of m o)) None
    by true y = refl
    by false true = refl
    by false false = and-ok (grant_on m d o letter_x) (target m d (path_of m o))
