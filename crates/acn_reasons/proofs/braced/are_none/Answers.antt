use Rattle.std.proofs.Common.{ap, sym, drop_of_length-le}
use Rattle.acn_reasons.specs.Braced as spec
use Rattle.acn_reasons.specs.Named.{names_view}
use Rattle.acn_reasons.proofs.braced.are_none.Goals as goal

pub returns-in-None : goal.returns-in-None
returns-in-None c = ap (λ ns. spec.are_none (names_view ns)) (sym (drop_of_length-le c.args.names.now (c.in-None.ensures {u = tt}).lookup.3))
