-- A policy, as far as the machine asks it. Domains, objects and types go by their numbers, from 0.
use Rattle.std.specs.Prelude.{◌≡◌, ℕ, ◌<◌, Bool, true, is_ok, Some, Option, Result}

-- what a call asks leave for. The letters that grant it: reading r or x; writing w; appending a; making (create, remove) c; running x
pub data Act : Type 0 where
  reading writing appending making running : Act

pub record Policy : Type 0 where
  pub objects : ℕ
  pub domains : ℕ
  -- the default domain, in which every start begins
  pub first : ℕ
  pub first_is : first < domains
  -- the type of an object
  pub typ : ℕ → ℕ
  -- for a domain and an object: granted, or the denial, a pair of the length of the first path that failed
  -- and the letter lacking there (as the code of its character)
  pub verdict : Act → ℕ → ℕ → Result (Unit {0}) (ℕ × ℕ)
  -- `pass d o e`: the domain d may pass to the domain e by the object o
  pub pass : ℕ → ℕ → ℕ → Bool
  -- the only auto passage of a domain by an object, if there is one
  pub auto : ℕ → ℕ → Option ℕ
  -- who may run an object may read it
  pub run_reads : (d o : ℕ) → is_ok (verdict running d o) ≡ true → is_ok (verdict reading d o) ≡ true
  -- a passage is by an object that may be run, and to a domain
  pub pass_runs : (d o e : ℕ) → pass d o e ≡ true → is_ok (verdict running d o) ≡ true
  pub pass_object : (d o e : ℕ) → pass d o e ≡ true → o < objects
  pub pass_domain : (d o e : ℕ) → pass d o e ≡ true → e < domains
  pub auto_pass : (d o e : ℕ) → auto d o ≡ Some e → pass d o e ≡ true

abbrev pub granted : Policy → Act → ℕ → ℕ → Bool
granted P act d o = is_ok (P.verdict act d o)
