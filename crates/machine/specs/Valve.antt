-- A small policy that lets knowledge through one way: object 0, of type 0, may be read, and object 1, of type 1, may be written.
use Rattle.std.specs.Prelude.{◌≡◌, ℕ, Bool, true, false, [], ◌∷◌, Some, None, Ok, Err, Option, Result, ◌==◌, refl}
use Rattle.std.proofs.Common.{sym, true≢false, arith, lit<}
use Rattle.machine.specs.Policy.{Policy, Act, reading, writing, appending, making, running}
use Rattle.machine.specs.Calls.{read, write}
use Rattle.machine.specs.Series.{start, turn}
use Rattle.machine.specs.Flow.{live_first, by_writing, learns, alters, here, on, Chain, of_type}
use Rattle.machine.specs.Separation.{TypesSeparated}
use Rattle.machine.specs.Recipe.{always, if_read_empty}
use Rattle.machine.specs.Leak.{leak_lines}

-- granted, or denied at a path of two bytes for want of the letter
abbrev pub only_if : Bool → ℕ → Result (Unit {0}) (ℕ × ℕ)
only_if true letter = Ok tt
only_if false letter = Err (2, letter)

-- 114, 119, 97, 99 and 120 are the letters r, w, a, c and x
abbrev pub says : Act → ℕ → ℕ → Result (Unit {0}) (ℕ × ℕ)
says reading d o = only_if (o == 0) 114
says writing d o = only_if (o == 1) 119
says appending d o = only_if false 97
says making d o = only_if false 99
says running d o = only_if false 120

pub nothing_is_something : {e : ℕ} → ◌≡◌ {A = Option ℕ} None (Some e) → ⊥
nothing_is_something q = let z : ◌≡◌ {A = ℕ} 0 1 = cc in omega arith

abbrev pub valve : Policy
valve =
    record {
      objects = 2;
      domains = 1;
      first = 0;
      first_is = lit< tt;
      typ = λ o. o;
      verdict = says;
      pass = λ d o e. false;
      auto = λ d o. None;
      run_reads = λ d o q. absurd (true≢false (sym q));
      pass_runs = λ d o e q. q;
      pass_object = λ d o e q. absurd (true≢false (sym q));
      pass_domain = λ d o e q. absurd (true≢false (sym q));
      auto_pass = λ d o e q. absurd (nothing_is_something q);
    }

-- the chain from object 0 by the only domain to object 1
abbrev pub through : Chain valve (of_type valve 0) (of_type valve 1) 2
through =
    record {
      from = 0;
      to = 1;
      from_is = lit< tt;
      to_is = lit< tt;
      from_in = refl;
      to_in = refl;
      walk = on (on here (learns live_first (lit< tt) refl)) (alters by_writing live_first (lit< tt) refl);
    }

-- what type 1 holds cannot be told from type 0; what type 0 holds can be told from type 1, and here is how
pub record OneWay : Type 0 where
  pub shut : TypesSeparated valve 1 0
  pub leaks : ¬ TypesSeparated valve 0 1
  pub leak_is :
      leak_lines through ≡
      (start 0 ∷ turn 0 (always (read 0 64)) ∷ turn 0 (if_read_empty (write 1 []) (write 1 (1 ∷ []))) ∷ [])
