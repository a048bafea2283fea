use Rattle.std.proofs.Common.{◌*◌, length, take}
use Rattle.std.proofs.lemmas.Str.{IsUtf8-from_ascii}
use Rattle.std.specs.Str.{IsUtf8}
use Rattle.store_report.proofs.Texts.{ok_of_cases}
use Rattle.store_report.proofs.listing.HexDisplay.fmt.Goals as goal

pub unwrap-requires : goal.unwrap-requires
unwrap-requires g c =
    let l = c.lay_pairs.ensures in
    let utf8 : IsUtf8 (take (2 * length c.args.self.now.bytes.now) c.lay_pairs.new.digits) = rw l.pairs (IsUtf8-from_ascii _ l.ascii) in
    ok_of_cases c.from_utf8.result _ _ c.from_utf8.ensures.cases (λ e not_utf8. not_utf8.0 utf8)
