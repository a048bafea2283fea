-- A look-up among rules.
use Rattle.std.proofs.Common.{◌≡◌, true, Decides, sym, refl, ap, ◌∙◌}
use Rattle.std.proofs.lemmas.Bool.{true≢false, and_parts, and_from}
use Rattle.std.specs.Str.{bytes_eq}
use Rattle.std.proofs.lemmas.Slice.Eq.{bytes_eq-Decides}
use Rattle.label.specs.Texts.{text}
use Rattle.rules.specs.declared.rule.Flag.{Flag}
use Rattle.rules.specs.declared.rule.Flag.TheVariants.{E, U, R}
use Rattle.rules.specs.declared.rule.Rule.{Rule}
use Rattle.rules.specs.Typing.{same_flag, stands_on}

pub flag_itself : (f : Flag) → same_flag f f ≡ true
flag_itself E = refl
flag_itself U = refl
flag_itself R = refl

pub flag_is : (f g : Flag) → same_flag f g ≡ true → f ≡ g
flag_is E E e = refl
flag_is U U e = refl
flag_is R R e = refl
flag_is E U e = absurd (true≢false (sym e))
flag_is E R e = absurd (true≢false (sym e))
flag_is U E e = absurd (true≢false (sym e))
flag_is U R e = absurd (true≢false (sym e))
flag_is R E e = absurd (true≢false (sym e))
flag_is R U e = absurd (true≢false (sym e))

pub same_flag_decides : (f g : Flag) → Decides (same_flag f g) (f ≡ g)
same_flag_decides f g = (flag_is f g, λ e. ap (λ x. same_flag f x) (sym e) ∙ flag_itself f)

pub stands_on_its_own : (r : Rule) → stands_on r r.flag (text r.path) ≡ true
stands_on_its_own r = and_from _ _ (flag_itself r.flag) ((bytes_eq-Decides (text r.path) (text r.path)).1 refl)

pub stands_where_another : (x r : Rule) → stands_on x r.flag (text r.path) ≡ true → (x.flag ≡ r.flag) × (text x.path ≡ text r.path)
stands_where_another x r e =
    let h = and_parts (same_flag x.flag r.flag) (bytes_eq (text x.path) (text r.path)) e in
    (flag_is x.flag r.flag h.0, (bytes_eq-Decides (text x.path) (text r.path)).0 h.1)
