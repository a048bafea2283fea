use Rattle.sound_tables.proofs.Extends.{read_extends, read_keeps_complete}
use Rattle.sound_tables.proofs.modules_only_add.Goals as goal

pub returns : goal.returns
returns c = record { extends = read_extends; complete = read_keeps_complete }
