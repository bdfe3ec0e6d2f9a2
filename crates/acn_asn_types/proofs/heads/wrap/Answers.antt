use Rattle.std.proofs.Common.{◌≡◌, ◌++◌, ◌∷◌, [], sym, ◌∙◌, ap, rules}
use Rattle.acn_asn_types.specs.Types as spec
use Rattle.acn_asn_types.proofs.Chains.{wrap_more}
use Rattle.acn_asn_types.proofs.heads.wrap.Goals as goal

pub loop-head-preserved : goal.loop-head-preserved
loop-head-preserved c =
    let a : c.loop-head.heads.items ≡ c.pop.new.self.items ++ c.in-Some.head ∷ [] = search rules in
    let b : c.in_ok-of.of ≡ spec.list_type c.in-Some.head c.loop-head.of = search rules in
    ap (spec.wrap c.pop.new.self.items) b ∙ (sym (wrap_more c.pop.new.self.items c.in-Some.head c.loop-head.of) ∙ (ap (λ hs. spec.wrap hs c.loop-head.of) (sym a) ∙ c.loop-head.invariant))
