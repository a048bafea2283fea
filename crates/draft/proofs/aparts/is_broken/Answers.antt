use Rattle.draft.proofs.Breaking.{chained_by_links}
use Rattle.draft.proofs.aparts.is_broken.Goals as goal

pub returns : goal.returns
returns c =
    chained_by_links _ c.args.apart _ _ c.of_type-from.ensures c.of_type-to.ensures _
    (c.links_to.ensures _ _ (c.spread.ensures _ c.requires)) _ c.is_some.ensures
