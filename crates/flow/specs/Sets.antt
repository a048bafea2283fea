-- Sets of objects.
use Rattle.std.specs.Prelude.{ℕ, false, ◌&&◌, ◌||◌, ◌==◌, nat_lt, slice_index_or}
use Rattle.machine.specs.Flow.{Objects as Set}
use Rattle.machine.specs.Policy.{Policy as Asked}
use Rattle.flow.specs.declared.objects.Objects.{Objects}

-- the numbers that are in the set
abbrev pub among : Objects → Set
among s o = slice_index_or s.members o false

-- the set with one object more; only objects 0 to 127 can be in it
abbrev pub joined : Set → ℕ → Set
joined set new o = set o || (o == new && nat_lt new 128)

-- what of the set are objects of the policy
abbrev pub within : Asked → Set → Set
within P set o = nat_lt o P.objects && set o
