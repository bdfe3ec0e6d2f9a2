use Rattle.std.proofs.Common.{◌∷◌, [], sym, ap, ◌∙◌}
use Rattle.acn_events.specs.Event.{puts}
use Rattle.acn_events.specs.Events.{index_events}
use Rattle.acn_pack.proofs.Ways.{nothing, one, packs_as}
use Rattle.acn_pack.proofs.leaves.put_index.Goals as goal

pub returns-in-Index : goal.returns-in-Index
returns-in-Index g c = λ path.
    packs_as (puts c.in-Index.width c.from-index.result ∷ []) (index_events c.args.rule.now c.args.i) c.args.w.now c.put.new.self path c.put.new.why c.put.result (ap (λ n. puts c.in-Index.width n ∷ []) c.from-index.ensures ∙ sym (ap (λ r. index_events r c.args.i) c.in-Index.is))
    (one (λ p. puts c.in-Index.width c.from-index.result) c.args.w.now c.put.new.self path c.put.new.why c.put.result c.put.ensures.ran c.put.ensures.halted)

pub returns-in-Tests : goal.returns-in-Tests
returns-in-Tests g c = λ path. nothing (index_events c.args.rule.now c.args.i) c.args.w.now (ap (λ r. index_events r c.args.i) c.in-Tests.is)

pub returns-in-Item : goal.returns-in-Item
returns-in-Item g c = λ path. nothing (index_events c.args.rule.now c.args.i) c.args.w.now (ap (λ r. index_events r c.args.i) c.in-Item.is)
