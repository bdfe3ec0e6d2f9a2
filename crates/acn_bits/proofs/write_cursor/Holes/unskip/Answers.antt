use Rattle.std.proofs.Common.{remove, map, sym, ap, ◌∙◌}
use Rattle.acn_bits.specs.Kept.{kept_gap}
use Rattle.acn_bits.proofs.Kept.{gaps-remove}
use Rattle.acn_bits.proofs.write_cursor.Holes.unskip.Goals as goal

pub returns : goal.returns
returns g c =
    ap (map kept_gap) c.remove-none.ensures.items ∙ (gaps-remove c.self.inside.kept.items c.args.at ∙ sym (ap (λ z. remove z c.args.at) (sym c.self.view_is)))
