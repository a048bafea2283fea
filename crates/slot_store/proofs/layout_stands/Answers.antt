use Rattle.slot_store.specs.LayoutLaws.{contents_are_laid}
use Rattle.slot_store.proofs.Writes.{laid_is_marked, laid_is_read}
use Rattle.slot_store.proofs.layout_stands.Goals as goal

pub returns : goal.returns
returns c = record { marked = record { laid = contents_are_laid; marked = laid_is_marked }; reading = laid_is_read }
