-- What a domain holds.
use Rattle.std.specs.Prelude.{ℕ, Bool, true, false, replicate, slice_index_or, slice_set}
use Rattle.label.specs.Letters.{none, union}
use Rattle.label.specs.declared.rights.Rights.{Rights}
use Rattle.tables.specs.declared.holding.Holding.{Holding}
use Rattle.tables.specs.declared.holding.Ways.{Ways}
use Rattle.tables.specs.declared.holding.Passage.{Passage}
use Rattle.tables.specs.declared.holding.Passage.TheVariants.{Auto, Exec}

abbrev pub no_way : Ways
no_way = record { auto = false; exec = false }

-- a passage is listed in this way
abbrev pub has_way : Ways → Passage → Bool
has_way w Auto = w.auto
has_way w Exec = w.exec

-- a way that is listed twice counts once
abbrev pub with_way : Ways → Passage → Ways
with_way w Auto = record { auto = true; exec = w.exec }
with_way w Exec = record { auto = w.auto; exec = true }

abbrev pub nothing : Holding
nothing = record { rights = replicate 64 none; passages = replicate 32 no_way }

-- the ways to the domain of number e
abbrev pub ways_to : Holding → ℕ → Ways
ways_to h e = slice_index_or h.passages e no_way

-- the rights on the type of number t
abbrev pub rights_on : Holding → ℕ → Rights
rights_on h t = slice_index_or h.rights t none

-- a passage to the domain of number e is listed
abbrev pub listed : Holding → Passage → ℕ → Bool
listed h how e = has_way (ways_to h e) how

-- rights for one type add up
abbrev pub with_rights : Holding → ℕ → Rights → Holding
with_rights h t r = record { rights = slice_set h.rights t (union (rights_on h t) r); passages = h.passages }

-- a passage that is listed twice counts once
abbrev pub with_passage : Holding → Passage → ℕ → Holding
with_passage h how e = record { rights = h.rights; passages = slice_set h.passages e (with_way (ways_to h e) how) }
