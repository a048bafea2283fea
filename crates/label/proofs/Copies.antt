-- A copy byte by byte, with zeros behind it.
use Rattle.std.proofs.Common.{◌≡◌, ℕ, suc, ◌+◌, ◌-◌, ◌<◌, ◌≤◌, List, [], ◌∷◌, ◌++◌, length, get_or, take, set, replicate, sym, ap, ◌∙◌, arith}
use Rattle.std.proofs.lemmas.List.{append_assoc, length-take-le, set_at, take_more, take_all}
use Rattle.label.specs.Shorts.{padded}

-- the first i bytes, with zeros behind them
abbrev pub copied : ℕ → List ℕ → ℕ → List ℕ
copied n s i = take i s ++ replicate (n - i) 0

pub copied_more : (n : ℕ) (s : List ℕ) (i : ℕ) → i < length s → length s ≤ n → set (copied n s i) i (get_or s i 0) ≡ copied n s (i + 1)
copied_more n s i l m =
    let z : n - i ≡ suc (n - (i + 1)) = omega arith in
    let t : length (take i s) ≡ i = length-take-le i s (omega arith) in
    ap (λ k. set (take i s ++ replicate k 0) i (get_or s i 0)) z
    ∙ set_at (take i s) 0 (replicate (n - (i + 1)) 0) (get_or s i 0) i t
    ∙ sym (append_assoc (take i s) (get_or s i 0 ∷ []) (replicate (n - (i + 1)) 0))
    ∙ ap (λ x. x ++ replicate (n - (i + 1)) 0) (sym (take_more s i 0 l))

pub copied_all : (n : ℕ) (s : List ℕ) (i : ℕ) → length s ≤ i → i ≤ length s → copied n s i ≡ padded n s
copied_all n s i l m =
    let z : i ≡ length s = omega arith in
    ap (λ x. x ++ replicate (n - i) 0) (take_all i s l) ∙ ap (λ k. s ++ replicate (n - k) 0) z
