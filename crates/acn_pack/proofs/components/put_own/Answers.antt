use Rattle.std.proofs.Common.{true, ◌++◌}
use Rattle.std.specs.Prelude.{Some}
use Rattle.acn_grammar.specs.Grammar.{node, num}
use Rattle.acn_grammar.specs.View.{data_of}
use Rattle.acn_events.specs.Events.{events, own_events, presence_events}
use Rattle.acn_pack.specs.Parts.{place_events}
use Rattle.acn_pack.proofs.Ways.{begin, failed_some, last, then_some}
use Rattle.acn_pack.proofs.components.put_own.Goals as goal

pub returns-in_err-note_own : goal.returns-in_err-note_own
returns-in_err-note_own g c = λ root path.
    let n = node c.args.align (num c.args.leaf.now) in
    let d = data_of c.args.v.now in
    let whole = place_events root n c.args.component.presence.now c.args.component.slot path (Some d) in
    failed_some whole (own_events path c.args.component.slot n d) (presence_events path true c.args.component.presence.now ++ events root n path d) path c.args.w.now c.args.w.now c.note_own.new.w c.note_own.new.why c.in_err-note_own.field-0.0 c.from_residual.result c.from_residual.ensures.1 (begin whole c.args.w.now) (c.in_err-note_own.ensures c.args.align path)

pub returns-in_err-ask_presence : goal.returns-in_err-ask_presence
returns-in_err-ask_presence g c = λ root path.
    let n = node c.args.align (num c.args.leaf.now) in
    let d = data_of c.args.v.now in
    let asked = presence_events path true c.args.component.presence.now in
    let whole = place_events root n c.args.component.presence.now c.args.component.slot path (Some d) in
    failed_some whole asked (events root n path d) path c.args.w.now c.note_own.new.w c.ask_presence.new.w c.ask_presence.new.why c.in_err-ask_presence.field-0.0 c.from_residual-in_err-ask_presence.result c.from_residual-in_err-ask_presence.ensures.1
    (then_some whole (own_events path c.args.component.slot n d) (asked ++ events root n path d) c.args.w.now c.args.w.now c.note_own.new.w (begin whole c.args.w.now) (c.in_ok-note_own.ensures c.args.align path)) (c.in_err-ask_presence.ensures path)

pub returns : goal.returns
returns g c = λ root path.
    let n = node c.args.align (num c.args.leaf.now) in
    let d = data_of c.args.v.now in
    let asked = presence_events path true c.args.component.presence.now in
    let whole = place_events root n c.args.component.presence.now c.args.component.slot path (Some d) in
    last whole (events root n path d) c.args.w.now c.ask_presence.new.w c.put_aligned.new.w path c.put_aligned.new.why c.put_aligned.result
    (then_some whole asked (events root n path d) c.args.w.now c.note_own.new.w c.ask_presence.new.w (then_some whole (own_events path c.args.component.slot n d) (asked ++ events root n path d) c.args.w.now c.args.w.now c.note_own.new.w (begin whole c.args.w.now) (c.in_ok-note_own.ensures c.args.align path)) (c.in_ok-ask_presence.ensures path))
    (c.put_aligned.ensures path)
