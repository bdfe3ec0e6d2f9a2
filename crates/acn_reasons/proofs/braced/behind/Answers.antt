use Rattle.std.proofs.Common.{ap, sym, drop_of_length-le}
use Rattle.acn_reasons.specs.Braced as spec
use Rattle.acn_reasons.specs.Named.{names_view}
use Rattle.acn_reasons.proofs.braced.behind.Goals as goal

pub returns-in-None : goal.returns-in-None
returns-in-None c = ap (λ ns. spec.behind (names_view ns) c.args.name.now) (sym (drop_of_length-le c.args.names.now (c.in-None.ensures {u = tt}).lookup.3))
