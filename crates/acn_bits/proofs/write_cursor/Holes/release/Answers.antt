use Rattle.std.proofs.Common.{remove, map, sym, ap, ◌∙◌}
use Rattle.acn_bits.specs.Kept.{kept_gap}
use Rattle.acn_bits.proofs.Kept.{gaps-remove}
use Rattle.acn_bits.proofs.write_cursor.Holes.release.Goals as goal

pub returns-clause-rest : goal.returns-clause-rest
returns-clause-rest g c =
    ap (map kept_gap) c.remove-kept.ensures.items ∙ (gaps-remove c.self.inside.kept.items c.args.at ∙ sym (ap (λ z. remove z c.args.at) (sym c.self.view_is)))
