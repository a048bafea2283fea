-- Comparing the bytes of a rule's path tells whether it covers, once its length is known to reach.
use Rattle.std.proofs.Common.{◌≡◌, ℕ, ◌-◌, Bool, true, ◌&&◌, List, length, take, sym, ap, ◌∙◌, arith}
use Rattle.std.specs.Str.{bytes_eq}
use Rattle.label.specs.Texts.{text}
use Rattle.rules.specs.declared.rule.Rule.{Rule}
use Rattle.rules.specs.Ranks.{reaches, covers}

pub covers_by : (r : Rule) (p own : List ℕ) (b : Bool) → own ≡ text r.path → reaches p (length own) ≡ true → b ≡ bytes_eq own (take (length own - 0) p) → b ≡ covers r p
covers_by r p own b e t d =
    let z : length own - 0 ≡ length own = omega arith in
    d
    ∙ ap (λ m. bytes_eq own (take m p)) z
    ∙ ap (λ x. x && bytes_eq own (take (length own) p)) (sym t)
    ∙ ap (λ x. reaches p (length x) && bytes_eq x (take (length x) p)) e
