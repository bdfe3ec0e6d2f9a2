use Rattle.std.proofs.Common.{sym, ap}
use Rattle.acn_grammar.specs.Grammar.{text, characters}
use Rattle.acn_grammar.specs.View.{data_of}
use Rattle.acn_events.specs.Events.{form_events}
use Rattle.acn_pack.proofs.Ways.{nothing, packs_as}
use Rattle.acn_pack.proofs.leaves.put_text.Goals as goal

pub returns-in-Some : goal.returns-in-Some
returns-in-Some g c = λ root path.
    packs_as (form_events root (text c.args.leaf.now) path (characters c.in-Some.text.now)) (form_events root (text c.args.leaf.now) path (data_of c.args.v.now)) c.args.w.now c.copy_text.new.w path c.copy_text.new.why c.copy_text.result (ap (form_events root (text c.args.leaf.now) path) (sym c.in-Some.ensures.some)) (c.copy_text.ensures root path)

pub returns-in-None : goal.returns-in-None
returns-in-None g c = λ root path. nothing (form_events root (text c.args.leaf.now) path (data_of c.args.v.now)) c.args.w.now (c.in-None.ensures.none root c.args.leaf.now path)
