-- Sheets are made cell by cell, and read back.
use Rattle.std.proofs.lemmas.Option.{none-some}
use Rattle.std.proofs.Common.{◌≡◌, ℕ, ◌<◌, Bool, true, false, cond, List, [], map, length, get_or, Some, None, Option, Bor, IfSome, IsSome, MatchOption, sym, refl, ap, ◌∙◌, subst, arith}
use Rattle.std.proofs.lemmas.List.{get_or-map}
use Rattle.std.proofs.lemmas.Bool.{true≢false}
use Rattle.label.specs.Texts.{text}
use Rattle.label.specs.declared.path.Path.{Path}
use Rattle.tables.specs.Model.{Model}
use Rattle.label.specs.declared.numbers.Dom.{Dom}
use Rattle.policy.specs.declared.cell.Cell.{Cell}
use Rattle.policy.specs.declared.cell.Sheet.{Sheet}
use Rattle.policy.specs.Grants.{path_of}
use Rattle.policy.specs.Sheets.{SheetFor, code, number, written}

-- what is written tells the cell
code_tells : (x y : Option ℕ) → code x ≡ code y → x ≡ y
code_tells None None e = refl
code_tells None (Some n) e = absurd (omega (arith, e))
code_tells (Some m) None e = absurd (omega (arith, e))
code_tells (Some m) (Some n) e = let h : m ≡ n = omega (arith, e) in ap (λ k. Some k) h

bit_tells : (x y : Bool) → cond {A = ℕ} x 1 0 ≡ cond y 1 0 → x ≡ y
bit_tells true true e = refl
bit_tells false false e = refl
bit_tells true false e = absurd (omega (arith, e))
bit_tells false true e = absurd (omega (arith, e))

number_tells : (x y : Option Dom) → number x ≡ number y → x ≡ y
number_tells None None e = refl
number_tells None (Some d) e = absurd (none-some _ e)
number_tells (Some d) None e = absurd (none-some _ (sym e))
number_tells (Some d) (Some f) e = let h : d.0 ≡ f.0 = cc in ap (λ k. Some (record { 0 = k })) h

pub written_tells : (x y : Cell) → written x ≡ written y → x ≡ y
written_tells x y e =
    let b = code_tells x.barrier y.barrier (ap (λ l. get_or l 0 0) e) in
    let n : x.long ≡ y.long = ap (λ l. get_or l 1 0) e in
    let r : x.letters.bits ≡ y.letters.bits = ap (λ l. get_or l 2 0) e in
    let i = bit_tells x.enters y.enters (ap (λ l. get_or l 3 0) e) in
    let t = number_tells x.target y.target (code_tells _ _ (ap (λ l. get_or l 4 0) e)) in
    λ j. record { barrier = b j; long = n j; letters = record { bits = r j }; enters = i j; target = t j }

-- a sheet that is made where a look-up finds an object is the sheet of the object with the number
pub sheet_made : (m : Model) (os : List Path) (o : ℕ) (s : Sheet) (found : Option (Bor Path)) (Blank : Type 0) (Made : Bor Path → Type 0)
    → os ≡ m.objects → IfSome found (λ x. x.now ≡ get_or os o x.now) → (o < length os → IsSome found)
    → ((x : Bor Path) → Made x → SheetFor m (text x.now) s) → MatchOption found Blank Made → o < length m.objects → SheetFor m (path_of m o) s
sheet_made m os o s None Blank Made e at there tells h l = absurd (true≢false (sym (there (omega (arith, l, ap length e)))))
sheet_made m os o s (Some x) Blank Made e at there tells h l =
    let path : path_of m o ≡ text x.now =
    ap (λ z. get_or (map text z) o []) (sym e) ∙ get_or-map text os o x.now [] (omega (arith, l, ap length e)) ∙ ap text (sym at) in
    subst (λ p. SheetFor m p s) (sym path) (tells x h)
