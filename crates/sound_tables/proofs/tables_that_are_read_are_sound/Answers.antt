use Rattle.sound_tables.proofs.Adds.{nothing_is_sound, read_keeps_sound}
use Rattle.sound_tables.proofs.tables_that_are_read_are_sound.Goals as goal

pub returns : goal.returns
returns c = record { at_first = nothing_is_sound; after_each = read_keeps_sound }
