-- In a comment is where the scanner is in the mode Comment, and joined is the line feed that it comes to in the mode Continued.
use Rattle.std.proofs.Common.{◌≡◌, ℕ, ◌+◌, Bool, true, false, cond, eqb, List, ◌∷◌, drop, sym, refl, ◌∙◌, subst, ⊎_elim, arith}
use Rattle.std.proofs.lemmas.List.Sums.{fold_more}
use Rattle.std.proofs.lemmas.Bool.{both_ways, cases_Bool, cond-false, eqb-true}
use Rattle.scan.specs.declared.step.Class.{Class}
use Rattle.scan.specs.declared.step.Class.TheVariants as class
use Rattle.scan.specs.declared.step.Mode.{Mode}
use Rattle.scan.specs.declared.step.Mode.TheVariants as mode
use Rattle.scan.specs.Bytes.{class_of, class_at, feeds}
use Rattle.scan.specs.Steps.{Deed, deed, is_feed}
use Rattle.scan.specs.Steps.Deed.{pass, begin, give}
use Rattle.scan.specs.Kept.{hidden_behind, commented, Unjoined}
use Rattle.scan.proofs.ByteLaws.{classed_byte, continued_feeds, only_joins_continue}
use Rattle.scan.proofs.FromPlace.{byte_at, within_text}

abbrev pub hides : Mode → Bool
hides mode.Blank = false
hides mode.Word = false
hides mode.Comment = true
hides mode.Continued = false

abbrev pub mode_behind : Deed → Mode
mode_behind (pass n) = n
mode_behind begin = mode.Word
mode_behind (give g) = mode.Blank

abbrev is_hash : Class → Bool
is_hash class.Space = false
is_hash class.Feed = false
is_hash class.Hash = true
is_hash class.Join = false
is_hash class.Open = false
is_hash class.Close = false
is_hash class.Plain = false
is_hash class.Stray = false

-- the table of the deeds is finite, so by cases
hiding_stays : (m : Mode) (k : Class) → is_feed k ≡ false → is_hash k ≡ false → hides m ≡ hides (mode_behind (deed m k))
hiding_stays m k f h = grind arith

continues_openly : (m : Mode) (k : Class) → deed m k ≡ pass mode.Continued → hides m ≡ false
continues_openly m k e = grind arith

no_feed : (b : ℕ) (joins : Bool) → eqb b 10 ≡ false → is_feed (class_of b joins) ≡ false
no_feed b joins e = grind arith

no_hash : (b : ℕ) (joins : Bool) → eqb b 35 ≡ false → is_hash (class_of b joins) ≡ false
no_hash b joins e = grind arith

feed_shows : (m : Mode) (joins : Bool) → hidden_behind (hides m) 10 ≡ hides (mode_behind (deed m (class_of 10 joins)))
feed_shows m joins = grind arith

hash_hides : (m : Mode) (joins : Bool) → (m ≡ mode.Continued → ⊥) → hidden_behind (hides m) 35 ≡ hides (mode_behind (deed m (class_of 35 joins)))
hash_hides m joins c = grind arith

hidden_by_mode : (m : Mode) (b : ℕ) (joins : Bool) → (m ≡ mode.Continued → eqb b 10 ≡ true) → hidden_behind (hides m) b ≡ hides (mode_behind (deed m (class_of b joins)))
hidden_by_mode m b joins c =
    let Hidden : ℕ → Type 0 = λ n. hidden_behind (hides m) n ≡ hides (mode_behind (deed m (class_of n joins))) in
    ⊎_elim
    (λ f. subst Hidden (sym (eqb-true b 10 f)) (feed_shows m joins))
    (λ f.
    ⊎_elim
    (λ h. subst Hidden (sym (eqb-true b 35 h)) (hash_hides m joins (λ is. both_ways (eqb b 10) f (c is))))
    (λ h. cond-false (eqb b 10) false (cond (eqb b 35) true (hides m)) f ∙ cond-false (eqb b 35) true (hides m) h ∙ hiding_stays m (class_of b joins) (no_feed b joins f) (no_hash b joins h))
    (cases_Bool (eqb b 35)))
    (cases_Bool (eqb b 10))

-- what a mode says of the place that the scanner is at
pub record Tells (text : List ℕ) (m : Mode) (p : ℕ) (bs : List ℕ) : Type 0 where
  pub hidden : commented text p ≡ hides m
  pub unjoined : (m ≡ mode.Continued → ⊥) → feeds bs ≡ true → Unjoined text p
  pub feed : m ≡ mode.Continued → feeds bs ≡ true
  pub joined : m ≡ mode.Continued → Unjoined text p → ⊥

back_continues : (m : Mode) (b : ℕ) (bs : List ℕ) → b ≡ 92 → feeds bs ≡ true → hides m ≡ false → (m ≡ mode.Continued → ⊥) → deed m (class_at b bs) ≡ pass mode.Continued
back_continues m b bs e f h c = grind arith

module _ (text : List ℕ) (m : Mode) (p b : ℕ) (bs : List ℕ) (left : drop p text ≡ b ∷ bs) (now' : Tells text m p (b ∷ bs)) where
  hidden_next : commented text (p + 1) ≡ hides (mode_behind (deed m (class_at b bs)))
  hidden_next = grind (arith, fold_more hidden_behind false text p 0 (within_text text p b bs left), byte_at text p b bs left, now'.hidden, hidden_by_mode m b (feeds bs) now'.feed)

  unjoined_next : (mode_behind (deed m (class_at b bs)) ≡ mode.Continued → ⊥) → feeds bs ≡ true → Unjoined text (p + 1)
  unjoined_next out f q e back = grind (arith, byte_at text p b bs left, now'.hidden, now'.feed, back_continues m b bs)

  continued_by : (d : Deed) → deed m (class_at b bs) ≡ d → mode_behind d ≡ mode.Continued → deed m (class_at b bs) ≡ pass mode.Continued
  continued_by d e is = grind arith

  joined_next : mode_behind (deed m (class_at b bs)) ≡ mode.Continued → Unjoined text (p + 1) → ⊥
  joined_next is free = grind (arith, continued_by (deed m (class_at b bs)) refl is, byte_at text p b bs left, classed_byte b (feeds bs) class.Join, only_joins_continue m (class_at b bs), now'.hidden, continues_openly m (class_at b bs), free p refl)

  pub tells_next : (d : Deed) → deed m (class_at b bs) ≡ d → Tells text (mode_behind d) (p + 1) bs
  tells_next d e =
      let Told : Deed → Type 0 = λ d. Tells text (mode_behind d) (p + 1) bs in
      subst Told e record {
        hidden = hidden_next;
        unjoined = unjoined_next;
        feed = λ is. continued_feeds m b bs (continued_by (deed m (class_at b bs)) refl is);
        joined = joined_next;
      }
