use Rattle.std.proofs.Common.{sym, arith}
use Rattle.std.specs.Str.{bytes_eq}
use Rattle.acn_asn_syntax.specs.Mirror.{AsnModule}
use Rattle.acn_index.specs.Views.{index_view}
use Rattle.acn_index.specs.Lookup.{module_named}
use Rattle.acn_index.proofs.KeyedLaws.{place_within}
use Rattle.acn_index.proofs.lookup.module_named.Goals as goal

pub overflow_cast-result : goal.overflow_cast-result
unfolding module_named
overflow_cast-result c =
    let h = place_within (λ (m : AsnModule). bytes_eq m.name c.args.name.now) (index_view c.args.index.now).modules c.in_ok-k.k (sym (c.in_ok-k.ensures {u = tt})) in
    let small = c.args.index.now.small in
    omega (arith, h, small)
