-- What is written of a set of letters, letter by letter.
use Rattle.std.proofs.Common.{◌≡◌, ℕ, ◌+◌, ◌<◌, true, false, List, [], ◌∷◌, ◌++◌, get_or, take, codes, sym, ap, ◌∙◌, lit<}
use lib.Utf8.{encode}
use Rattle.std.proofs.ByRecursion.{All-get_or}
use Rattle.std.proofs.lemmas.List.{append-nil, take_more}
use Rattle.std.proofs.lemmas.List.Elements.{filter-append}
use Rattle.std.proofs.lemmas.Str.{encode_ascii}
use Rattle.std.proofs.lemmas.Bool.{cond-true, cond-false}
use Rattle.std.proofs.Output.{has_written_append, has_written_of_eq, has_written_to_eq}
use Rattle.std.specs.Fmt.{HasWritten}
use Rattle.std.specs.declared.fmt.Formatter.{Formatter}
use Rattle.label.specs.declared.rights.Rights.{Rights}
use Rattle.label.specs.Letters.{has}
use Rattle.label.specs.Shown.{those}

abbrev order : List ℕ
order = codes "rwaxcd"

those_more : (s : Rights) (i : ℕ) → i < 6 → those s (take (i + 1) order) ≡ those s (take i order) ++ those s (get_or order i 0 ∷ [])
those_more s i l = ap (those s) (take_more order i 0 l) ∙ filter-append (has s) (take i order) (get_or order i 0 ∷ [])

letter_is_ascii : (i : ℕ) → i < 6 → get_or order i 0 < 128
letter_is_ascii i l = All-get_or (λ c. c < 128) order i 0 l (lit< tt, (lit< tt, (lit< tt, (lit< tt, (lit< tt, (lit< tt, tt))))))

module _ {W : Type 0} (took : W → List ℕ → W → Type 0) (s : Rights) where
  pub letter_put : (i : ℕ) (f g h h' : Formatter W) → i < 6 → has s (get_or order i 0) ≡ true → h' ≡ h → HasWritten took f (those s (take i order)) g → HasWritten took g (encode (get_or order i 0)) h → HasWritten took f (those s (take (i + 1) order)) h'
  letter_put i f g h h' l e z p q =
      has_written_to_eq took f _ h h' z
      (has_written_of_eq took f _ _ h
      (ap (λ x. those s (take i order) ++ x) (encode_ascii _ (letter_is_ascii i l) ∙ sym (cond-true _ _ _ e)) ∙ sym (those_more s i l))
      (has_written_append took f _ g _ h p q))

  pub letter_passed : (i : ℕ) (f g g' : Formatter W) → i < 6 → has s (get_or order i 0) ≡ false → g' ≡ g → HasWritten took f (those s (take i order)) g → HasWritten took f (those s (take (i + 1) order)) g'
  letter_passed i f g g' l e z p =
      has_written_to_eq took f _ g g' z
      (has_written_of_eq took f _ _ g (sym (those_more s i l ∙ ap (λ x. those s (take i order) ++ x) (cond-false _ _ _ e) ∙ append-nil (those s (take i order)))) p)
