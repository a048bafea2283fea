-- What a policy allows a domain to do with an object.
use Rattle.std.specs.Prelude.{ℕ, Bool, ◌&&◌, ◌||◌, nat_lt}
use Rattle.machine.specs.Policy.{Act, writing, appending, making, granted, Policy as Asked}

-- there are such an object and such a domain, and the act is granted
abbrev pub allowed : Asked → Act → ℕ → ℕ → Bool
allowed P act d o = nat_lt o P.objects && (nat_lt d P.domains && granted P act d o)

-- one of the ways to change an object is
abbrev pub changed : Asked → ℕ → ℕ → Bool
changed P d o = allowed P writing d o || (allowed P appending d o || allowed P making d o)
