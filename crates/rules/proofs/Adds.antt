-- Rules stay distinct when one is added that none was like.
use Rattle.std.proofs.Common.{◌≡◌, ℕ, ◌<◌, Bool, true, false, cond, not, ◌&&◌, leb, List, [], ◌∷◌, ◌++◌, is_some, Some, None, Option, sym, refl, ap, ◌∙◌, arith}
use Rattle.std.proofs.lemmas.Slice.Eq.{bytes_eq-Decides}
use Rattle.std.proofs.lemmas.Bool.{cond-false, cond_both, and_parts, and_from, not-true, true≢false, leb-false}
use Rattle.std.proofs.lemmas.Bool.Decides.{same_from_decides, Decides-like}
use Rattle.std.proofs.lemmas.List.Folds.{find-append}
use Rattle.std.specs.Option.{option_or}
use Rattle.std.specs.Str.{bytes_eq}
use Rattle.label.specs.Refusals.{refuses_more}
use Rattle.label.specs.Texts.{text}
use Rattle.label.specs.declared.refusal.Refusal.TheVariants.{Full}
use Rattle.rules.specs.declared.rule.Flag.{Flag}
use Rattle.rules.specs.declared.rule.Rule.{Rule}
use Rattle.rules.specs.Typing.{same_flag, stands_on, rule_on, distinct}
use Rattle.rules.proofs.Finds.{same_flag_decides}

stands_sym : (x r : Rule) → stands_on x r.flag (text r.path) ≡ stands_on r x.flag (text x.path)
stands_sym x r =
    ap (λ b. b && bytes_eq (text x.path) (text r.path))
    (same_from_decides _ _ (same_flag_decides x.flag r.flag) (Decides-like _ sym sym (same_flag_decides r.flag x.flag)))
    ∙ ap (λ b. same_flag r.flag x.flag && b)
    (same_from_decides _ _ (bytes_eq-Decides (text x.path) (text r.path)) (Decides-like _ sym sym (bytes_eq-Decides (text r.path) (text x.path))))

-- where none is found, neither the first nor a later one stands there
none_first : (b : Bool) (r : Rule) (o : Option Rule) → is_some (cond b (Some r) o) ≡ false → (b ≡ false) × (is_some o ≡ false)
none_first true r o e = absurd (true≢false e)
none_first false r o e = (refl, e)

none_push : (rs : List Rule) (r : Rule) (f : Flag) (p : List ℕ) → is_some (rule_on rs f p) ≡ false → stands_on r f p ≡ false → is_some (rule_on (rs ++ r ∷ []) f p) ≡ false
unfolding rule_on
none_push rs r f p e n = ap is_some (find-append (λ x. stands_on x f p) rs (r ∷ [])) ∙ neither (rule_on rs f p) (stands_on r f p) e n
  where
    neither : (o : Option Rule) (b : Bool) → is_some o ≡ false → b ≡ false → is_some (option_or o (cond b (Some r) None)) ≡ false
    neither None b e n = ap is_some (cond-false b (Some r) None n)
    neither (Some x) b e n = e

distinct_push : (rs : List Rule) (r : Rule) → distinct rs ≡ true → is_some (rule_on rs r.flag (text r.path)) ≡ false → distinct (rs ++ r ∷ []) ≡ true
unfolding rule_on
distinct_push [] r a e = refl
distinct_push (x ∷ rs) r a e =
    let h = none_first (stands_on x r.flag (text r.path)) x (rule_on rs r.flag (text r.path)) e in
    let b = and_parts (not (is_some (rule_on rs x.flag (text x.path)))) (distinct rs) a in
    and_from _ _
    (ap not (none_push rs r x.flag (text x.path) (not-true _ b.0) (sym (stands_sym x r) ∙ h.0)))
    (distinct_push rs r b.1 h.1)

pub distinct_after_push : (rs after : List Rule) (r : Rule) (b : Bool) → after ≡ cond b (rs ++ r ∷ []) rs → distinct rs ≡ true → is_some (rule_on rs r.flag (text r.path)) ≡ false → distinct after ≡ true
distinct_after_push rs after r b e a n = ap distinct e ∙ cond_both b (rs ++ r ∷ []) rs (λ x. distinct x ≡ true) (λ _. distinct_push rs r a n) (λ _. a)

-- one more that is not refused was not there, and there is room
pub not_refused : (there : Bool) (count limit : ℕ) → None ≡ refuses_more there count limit → (there ≡ false) × (count < limit)
not_refused true count limit e = absurd (let z : ◌≡◌ {A = ℕ} 0 1 = cc in omega arith)
not_refused false count limit e = (refl, below (leb limit count) refl e)
  where
    below : (b : Bool) → leb limit count ≡ b → None ≡ cond b (Some Full) None → count < limit
    below true t e = absurd (let z : ◌≡◌ {A = ℕ} 0 1 = cc in omega arith)
    below false t e = leb-false limit count t
