-- Facts of components and of paths, for the proofs of the functions.
use Rattle.std.proofs.Common.{◌≡◌, ℕ, suc, ◌-◌, ◌<◌, ◌≤◌, Bool, false, eqb, List, [], ◌∷◌, ◌++◌, length, get_or, take, drop, codes, sym, refl, ap, ◌∙◌, subst, arith}
use Rattle.std.proofs.lemmas.List.{append-nil, drop_more, take_rest}
use Rattle.std.proofs.lemmas.List.Elements.{All-from_recursion}
use Rattle.std.proofs.lemmas.List.Splits.{slice_split_none, slice_split_at, length-slice_split, join_with_byte-slice_split}
use Rattle.std.proofs.lemmas.Bool.{ne_eqb}
use Rattle.std.proofs.lemmas.Slice.Eq.{text_from_reads}
use Rattle.std.specs.List.{All, AllByRecursion, slice_split, join_with_byte}
use Rattle.label.specs.Paths.{PathByte, Component, IsRest, IsPath, slashed, written}

abbrev pub is_slash : ℕ → Bool
is_slash b = eqb b 47

-- the parts between the slashes
abbrev pub parts : List ℕ → List (List ℕ)
parts s = slice_split is_slash s

slashed_joined : (c : List ℕ) (cs : List (List ℕ)) → slashed (c ∷ cs) ≡ 47 ∷ join_with_byte 47 (c ∷ cs)
slashed_joined c [] = ap (λ x. 47 ∷ x) (append-nil c)
slashed_joined c (d ∷ ds) = ap (λ x. 47 ∷ (c ++ x)) (slashed_joined d ds)

pub rest_from_parts : (s : List ℕ) → AllByRecursion Component (parts s) → IsRest s
rest_from_parts s a = go (parts s) (omega (arith, length-slice_split is_slash s)) (join_with_byte-slice_split 47 s) a
  where
    go : (cs : List (List ℕ)) → 0 < length cs → join_with_byte 47 cs ≡ s → AllByRecursion Component cs → IsRest s
    go [] l e a = absurd (omega (arith, l))
    go (c ∷ cs) l e a = record { first = c; others = cs; components = a; whole = ap (λ x. 47 ∷ x) (sym e) ∙ sym (slashed_joined c cs) }

no_slash : (c : List ℕ) → AllByRecursion PathByte c → All (λ b. is_slash b ≡ false) c
no_slash c a k d l = ne_eqb _ 47 (All-from_recursion PathByte c a k d l).slash

-- components with a slash between them are the parts
parts_are : (c : List ℕ) (cs : List (List ℕ)) → AllByRecursion Component (c ∷ cs) → parts (c ++ slashed cs) ≡ c ∷ cs
parts_are c [] a = ap parts (append-nil c) ∙ slice_split_none is_slash c (no_slash c a.0.bytes)
parts_are c (d ∷ ds) a = slice_split_at is_slash c 47 (d ++ slashed ds) (no_slash c a.0.bytes) refl ∙ ap (λ x. c ∷ x) (parts_are d ds a.1)

abbrev tail : List ℕ → List ℕ
tail [] = []
tail (x ∷ xs) = xs

pub parts_from_rest : (s : List ℕ) → IsRest s → AllByRecursion Component (parts s)
parts_from_rest s m = subst (AllByRecursion Component) (sym (ap (λ x. parts (tail x)) m.whole ∙ parts_are m.first m.others m.components)) m.components

pub path_root : (s : List ℕ) → length s ≡ 1 → get_or s 0 0 ≡ 47 → IsPath s
path_root s l e = record { parts = []; components = tt; whole = text_from_reads s (codes "/") l (e, tt); short = omega arith }

pub path_components : (s : List ℕ) → 1 ≤ length s → length s ≤ 64 → get_or s 0 0 ≡ 47 → IsRest (take (length s - 1) (drop 1 s)) → IsPath s
path_components s o l e m' =
    let m : IsRest (drop 1 s) = subst IsRest (take_rest s 1) m' in
    record {
      parts = m.first ∷ m.others;
      components = m.components;
      whole = drop_more s 0 0 (omega arith) ∙ ap (λ x. x ∷ drop 1 s) e ∙ m.whole;
      short = l;
    }

pub path_starts : (s : List ℕ) → IsPath s → (1 ≤ length s) × (get_or s 0 0 ≡ 47)
path_starts s p = go p.parts p.whole
  where
    go : (cs : List (List ℕ)) → s ≡ written cs → (1 ≤ length s) × (get_or s 0 0 ≡ 47)
    go [] e = (let z : length s ≡ 1 = ap length e in omega arith, ap (λ x. get_or x 0 0) e)
    go (c ∷ cs) e = (let z : length s ≡ suc (length (c ++ slashed cs)) = ap length e in omega arith, ap (λ x. get_or x 0 0) e)

pub path_back : (s : List ℕ) → (length s ≡ 1 → ⊥) → IsPath s → IsRest (take (length s - 1) (drop 1 s))
path_back s l p = subst IsRest (sym (take_rest s 1)) (go p.parts p.components p.whole)
  where
    go : (cs : List (List ℕ)) → AllByRecursion Component cs → s ≡ written cs → IsRest (drop 1 s)
    go [] a e = absurd (l (ap length e))
    go (c ∷ cs) a e = record { first = c; others = cs; components = a; whole = ap (λ x. 47 ∷ drop 1 x) e }
