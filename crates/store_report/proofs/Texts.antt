-- Pairs of digits, byte by byte.
use Rattle.std.proofs.Common.{◌≡◌, ℕ, nat_lt, zero, suc, ◌+◌, ◌*◌, ◌/◌, ◌%◌, ◌<◌, ◌≤◌, false, List, [], ◌∷◌, ◌++◌, length, get_or, take, set, sym, refl, ap, ◌∙◌, arith, length-set}
use Rattle.std.proofs.lemmas.Bool.{cond_both, ltb-true}
use Rattle.std.proofs.lemmas.List.{append_assoc, take_more, take_more_set}
use Rattle.std.specs.Fmt.{digit_glyph}
use Rattle.std.specs.Prelude.{Result, Ok, Err, IsOk, MatchResult}
use Rattle.std.specs.Str.{IsAscii}
use Rattle.store.specs.Meaning.{Octets}
use Rattle.store_report.specs.Listing.{pairs}

pairs-append : (xs ys : List ℕ) → pairs (xs ++ ys) ≡ pairs xs ++ pairs ys
pairs-append [] ys = refl
pairs-append (x ∷ xs) ys = ap (λ u. digit_glyph false (x / 16) ∷ digit_glyph false (x % 16) ∷ u) (pairs-append xs ys)

next_pair : (xs : List ℕ) (i : ℕ) → i < length xs → pairs (take i xs) ++ pairs (get_or xs i 0 ∷ []) ≡ pairs (take (i + 1) xs)
next_pair xs i lt = sym (ap pairs (take_more xs i 0 lt) ∙ pairs-append (take i xs) (get_or xs i 0 ∷ []))

pub pair_laid : (ds xs : List ℕ) (i j k a b : ℕ) → i < length xs → 2 * i + 2 ≤ length ds → take (2 * i) ds ≡ pairs (take i xs) → j ≡ 2 * i → k ≡ 2 * i + 1 → a ≡ digit_glyph false (get_or xs i 0 / 16) → b ≡ digit_glyph false (get_or xs i 0 % 16) → take (2 * (i + 1)) (set (set ds j a) k b) ≡ pairs (take (i + 1) xs)
pair_laid ds xs i j k a b lt fits before ej ek ea eb =
    let two : 2 * (i + 1) ≡ 2 * i + 1 + 1 = omega arith in
    rw (ej, ek, two)
    (take_more_set (set ds (2 * i) a) (2 * i + 1) b (simp length-set (omega arith))
    ∙ ap (λ u. u ++ b ∷ []) (take_more_set ds (2 * i) a (omega arith))
    ∙ append_assoc (take (2 * i) ds) (a ∷ []) (b ∷ [])
    ∙ rw (before, ea, eb) (next_pair xs i lt))

digit_is_ascii : (d : ℕ) → d < 16 → digit_glyph false d < 128
digit_is_ascii d lt =
    cond_both (nat_lt d 10) _ _ (λ n. n < 128) (λ t. omega (arith, ltb-true _ _ t)) (λ _. omega arith)

pub pairs_are_ascii : (xs : List ℕ) → Octets xs → IsAscii (pairs xs)
pairs_are_ascii [] all i = omega arith
pairs_are_ascii (x ∷ xs) all zero = digit_is_ascii (x / 16) (let lt = all 0 in omega arith)
pairs_are_ascii (x ∷ xs) all (suc zero) = digit_is_ascii (x % 16) (omega arith)
pairs_are_ascii (x ∷ xs) all (suc (suc i)) = pairs_are_ascii xs (λ j. all (suc j)) i

pub ok_of_cases : {X E : Type 0} (r : Result X E) (P : X → Type 0) (Q : E → Type 0) → MatchResult r P Q → ((e : E) → Q e → ⊥) → IsOk r
ok_of_cases (Ok x) P Q h never = refl
ok_of_cases (Err e) P Q h never = absurd (never e h)
