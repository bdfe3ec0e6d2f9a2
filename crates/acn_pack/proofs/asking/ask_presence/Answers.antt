use Rattle.std.proofs.Common.{map, sym, ap, ◌∙◌}
use Rattle.acn_events.specs.Events.{test_event, presence_events}
use Rattle.acn_pack.proofs.Ways.{nothing, packs_as}
use Rattle.acn_pack.proofs.asking.ask_presence.Goals as goal

pub returns-in-Always : goal.returns-in-Always
returns-in-Always g c = λ path. nothing (presence_events path c.args.there c.args.presence.now) c.args.w.now (ap (presence_events path c.args.there) c.in-Always.is)

pub returns-in-Bit : goal.returns-in-Bit
returns-in-Bit g c = λ path. nothing (presence_events path c.args.there c.args.presence.now) c.args.w.now (ap (presence_events path c.args.there) c.in-Bit.is)

pub returns-in-When : goal.returns-in-When
returns-in-When g c = λ path.
    packs_as (map (test_event path c.args.there) c.items.result.now) (presence_events path c.args.there c.args.presence.now) c.args.w.now c.ask_tests.new.w path c.ask_tests.new.why c.ask_tests.result (ap (map (test_event path c.args.there)) c.items.ensures ∙ sym (ap (presence_events path c.args.there) c.in-When.is)) (c.ask_tests.ensures path)
