use Rattle.std.proofs.Common.{◌≡◌, map, ◌∙◌, rules}
use Rattle.std.specs.Str.{bytes_eq}
use Rattle.std.proofs.lemmas.Iterator.{YieldsList-from_slice}
use Rattle.std.proofs.lemmas.Iterator.Search.{position_from_yields_List}
use Rattle.lists.specs.Places.{place_of}
use Rattle.lists.proofs.Finds.{position_is}
use Rattle.lists.proofs.distinct.Distinct.find.Goals as goal

pub returns-clause-place : goal.returns-clause-place
returns-clause-place g c =
    let found : c.position.result ≡ place_of (map g.T.AsSlice.items c.args.self.now.list.items) c.args.text.now =
    position_from_yields_List (λ x. bytes_eq (g.T.AsSlice.items x) c.args.text.now) _ _ _ c.position.ensures.ran
    (YieldsList-from_slice _ (c.iter.ensures.rest ∙ c.deref.ensures.value))
    (λ x b q k. search rules)
    ∙ position_is g.T.AsSlice.items c.args.text.now c.args.self.now.list.items in
    search rules
