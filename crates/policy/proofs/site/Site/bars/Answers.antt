use Rattle.std.proofs.Common.{◌≡◌, ℕ, ◌<◌, true, not, ◌&&◌, List, length, take, sym, ap, ◌∙◌, rules}
use Rattle.std.proofs.lemmas.Bool.{and_parts, ltb-true}
use Rattle.label.specs.Letters.{has, letter_d}
use Rattle.label.specs.Paths.{ancestor}
use Rattle.policy.specs.Grants.{type_at, letters_on, holds}
use Rattle.policy.specs.Holds.{model_of}
use Rattle.policy.proofs.site.Site.bars.Goals as goal

within : (p : List ℕ) (n : ℕ) → ancestor p n ≡ true → n < length p
within p n a = ltb-true n (length p) (and_parts _ _ (and_parts _ _ a).0).1

pub returns-then-is_ancestor : goal.returns-then-is_ancestor
returns-then-is_ancestor c =
    let s = c.args.self.now in
    let m = model_of s.policy.now in
    let p = s.path.now in
    let n = c.args.n in
    let d = c.args.dom.0 in
    let above : ancestor p n ≡ true = search rules in
    ap not (c.has.ensures ∙ ap (λ r. has r letter_d) (c.letters_on.ensures ∙ ap (letters_on m d) (s.ancestors n (within p n above) above)))
    ∙ sym (ap (λ b. b && not (holds m d (type_at m (take n p)) letter_d)) above)
