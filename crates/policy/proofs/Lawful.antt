-- The laws of grants and passages.
use Rattle.std.proofs.Common.{◌≡◌, ℕ, zero, suc, ◌<◌, Bool, true, false, not, ◌&&◌, ◌||◌, ◌⊎◌, List, [], ◌∷◌, map, length, get_or, take, is_some, is_ok, Some, None, Ok, Err, Option, Result, sym, refl, ap, ◌∙◌, subst, inl, inr, ⊎_elim, arith}
use Rattle.std.proofs.lemmas.Bool.{true≢false, cases_Bool, and_parts, and_cases, and_right, not-true, not-false, not_from_true, or_cases, cond-true, leb-false}
use Rattle.std.specs.Option.{option_map}
use Rattle.label.specs.Letters.{letter_r, letter_x, letter_d}
use Rattle.label.specs.Paths.{ancestor}
use Rattle.label.specs.Texts.{text}
use Rattle.label.specs.declared.path.Path.{Path}
use Rattle.label.specs.declared.numbers.Dom.{Dom}
use Rattle.label.specs.declared.numbers.Typ.{Typ}
use Rattle.rules.proofs.Lawful.{path_typed}
use Rattle.tables.specs.Model.{Model}
use Rattle.policy.specs.declared.complete.Policy.{Policy}
use Rattle.policy.specs.Grants.{type_at, object_type, no_object, path_of, holds, barred, barrier, verdict, grant, grant_on, read_on}
use Rattle.policy.specs.Holds.{model_of}
use Rattle.policy.specs.Laws.{Reached, Denied, Only, Laws}
use Rattle.policy.specs.Lowest.{lowest}
use Rattle.policy.specs.LowestLaws.{none_passes, none-lowest, is_lowest}
use Rattle.policy.specs.PassageLaws.{verdict-ok, verdict_granted, run_reads, r_reads, pass_parts, pass_runs, pass_object, pass_from, pass_to, auto_passes}
use Rattle.policy.specs.Passages.{runs, pass, leads, target, auto}
use Rattle.policy.specs.Sheets.{number_of, type_number}

module _ (m : Model) (d : ℕ) (p : List ℕ) where
  reached_from : (n : ℕ) → ((k : ℕ) → k < n → barred m d p k ≡ false) → Reached m d p n
  reached_from n h k l a =
      ⊎_elim (λ x. absurd (true≢false (sym a ∙ x))) (λ x. not-false _ x) (and_cases (ancestor p k) _ (h k l))

  free_from : (n : ℕ) → Reached m d p n → (k : ℕ) → k < n → barred m d p k ≡ false
  free_from n h k l =
      ⊎_elim
      (λ a. and_right (ancestor p k) _ (not_from_true _ (h k l a)))
      (λ a. ap (λ b. b && not (holds m d (type_at m (take k p)) letter_d)) a)
      (cases_Bool (ancestor p k))

abbrev err_of : Result (Unit {0}) (ℕ × ℕ) → ℕ × ℕ
err_of (Ok u) = (0, 0)
err_of (Err e) = e

verdict-err : (b : Option ℕ) (held : Bool) (long l n k : ℕ) → verdict b held long l ≡ Err (n, k) → ((b ≡ Some n) × (k ≡ letter_d)) ⊎ ((b ≡ None) × (held ≡ false) × (n ≡ long) × (k ≡ l))
verdict-err (Some j) held long l n k e = inl (ap (λ r. Some (err_of r).0) e, ap (λ r. (err_of r).1) (sym e))
verdict-err None true long l n k e = absurd (true≢false (ap is_ok e))
verdict-err None false long l n k e = inr (refl, refl, ap (λ r. (err_of r).0) (sym e), ap (λ r. (err_of r).1) (sym e))

denied : (m : Model) (d : ℕ) (p : List ℕ) (t : Option Typ) (l n k : ℕ) → grant m d p t l ≡ Err (n, k) → Denied m d p t l n k
denied m d p t l n k e =
    ⊎_elim
    (λ h.
    let s = is_lowest (barred m d p) (length p) n h.0 in
    let a = and_parts (ancestor p n) _ s.passes in
    record { reached = reached_from m d p n s.others; lacks = inl (a.0, (h.1, not-true _ a.1)) })
    (λ h.
    record {
      reached = subst (Reached m d p) (sym h.2) (reached_from m d p (length p) (none_passes (barred m d p) (length p) h.0));
      lacks = inr (h.2, (h.3, h.1));
    })
    (verdict-err (barrier m d p) _ _ _ n k e)

read_by : (b : Option ℕ) (r x : Bool) (n : ℕ) → is_ok (verdict b (r || x) n letter_r) ≡ true → (is_ok (verdict b r n letter_r) ≡ true) ⊎ (is_ok (verdict b x n letter_x) ≡ true)
read_by b r x n e =
    let g = verdict-ok b (r || x) n letter_r e in
    ⊎_elim (λ h. inl (verdict_granted b r n letter_r g.0 h)) (λ h. inr (verdict_granted b x n letter_x g.0 h)) (or_cases r x g.1)

unread_by : (b : Option ℕ) (r x : Bool) (n j k : ℕ) → verdict b (r || x) n letter_r ≡ Err (j, k) → verdict b r n letter_r ≡ Err (j, k)
unread_by (Some i) r x n j k e = e
unread_by None false x n j k e = go x e
  where
    go : (x : Bool) → verdict None x n letter_r ≡ Err (j, k) → ◌≡◌ {A = Result (Unit {0}) (ℕ × ℕ)} (Err (n, letter_r)) (Err (j, k))
    go true q = absurd (true≢false (ap is_ok q))
    go false q = q
unread_by None true x n j k e = absurd (true≢false (ap is_ok e))

typed_number : (o : Option Typ) → is_some o ≡ true → o ≡ Some (record { 0 = number_of o })
typed_number None e = absurd (true≢false (sym e))
typed_number (Some t) e = refl

object_typed : (p : Policy) (o : ℕ) → no_object (model_of p) o ≡ false → object_type (model_of p) o ≡ Some (record { 0 = type_number (model_of p) o })
object_typed p o e =
    let os = (model_of p).objects in
    let l = leb-false (length os) o e in
    typed_number (object_type (model_of p) o) (held os o l)
  where
    held : (os : List Path) (k : ℕ) → k < length os → is_some (type_at (model_of p) (get_or (map text os) k [])) ≡ true
    held [] k l = absurd (omega arith)
    held (q ∷ os) zero l = path_typed (model_of p).rules p.rooted (text q) q.ok
    held (q ∷ os) (suc k) l = held os k (omega arith)

auto_only : (m : Model) (d o e : ℕ) → Only m d (path_of m o) → pass m d o e ≡ true → leads m d (path_of m o) e ≡ true → option_map (λ x. x.0) (auto m d o) ≡ Some e
unfolding auto
auto_only m d o e only h t =
    let f : ℕ → Bool = leads m d (path_of m o) in
    ap (option_map (λ x. x.0)) (cond-true (runs m d o) (target m d (path_of m o)) None (pass_parts m d o e h).0)
    ∙ found (lowest f (length m.domains)) refl
  where
    found : (x : Option ℕ) → lowest (leads m d (path_of m o)) (length m.domains) ≡ x → option_map {T = Dom} (λ y. y.0) (option_map (λ n. record { 0 = n }) x) ≡ Some e
    found None q = absurd (true≢false (sym t ∙ none_passes (leads m d (path_of m o)) (length m.domains) q e (pass_to m d o e h)))
    found (Some n) q = ap (λ k. Some k) (only n e (is_lowest (leads m d (path_of m o)) (length m.domains) n q).passes t)

pub laws : Laws
unfolding grant_on read_on
laws =
    record {
      path_typed = λ p s h. path_typed (model_of p).rules p.rooted s h;
      object_typed = object_typed;
      granted = λ m d p t l. (
        λ e.
            let g = verdict-ok (barrier m d p) (holds m d t l) (length p) l e in
            (reached_from m d p (length p) (none_passes (barred m d p) (length p) g.0), g.1),
        λ h. verdict_granted (barrier m d p) (holds m d t l) (length p) l (none-lowest (barred m d p) (length p) (free_from m d p (length p) h.0)) h.1,
      );
      denied = denied;
      read = λ m d o. (
        λ e. read_by (barrier m d (path_of m o)) (holds m d (object_type m o) letter_r) (holds m d (object_type m o) letter_x) (length (path_of m o)) e,
        λ h. ⊎_elim (r_reads m d o) (run_reads m d o) h,
      );
      unread = λ m d o n k e. unread_by (barrier m d (path_of m o)) (holds m d (object_type m o) letter_r) (holds m d (object_type m o) letter_x) (length (path_of m o)) n k e;
      pass_runs = pass_runs;
      pass_object = pass_object;
      pass_from = pass_from;
      pass_to = pass_to;
      auto_passes = auto_passes;
      auto_only = auto_only;
    }
