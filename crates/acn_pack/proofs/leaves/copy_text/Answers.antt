use Rattle.std.proofs.Common.{◌∷◌, [], length}
use Rattle.acn_grammar.specs.Grammar.{text, characters}
use Rattle.acn_events.specs.Event.{texts}
use Rattle.acn_events.specs.Events.{form_events, size_wants}
use Rattle.acn_pack.proofs.Ways.{begin, failed_some, last_one, then_some}
use Rattle.acn_pack.proofs.leaves.copy_text.Goals as goal

pub returns-in_err-ask_size : goal.returns-in_err-ask_size
returns-in_err-ask_size g c = λ root path.
    let leaf = c.args.leaf.now in
    let whole = form_events root (text leaf) path (characters c.args.text.now) in
    failed_some whole (size_wants path (length c.args.text.now) leaf.sized.rule) (texts leaf c.args.text.now ∷ []) path c.args.w.now c.args.w.now c.ask_size.new.w c.ask_size.new.why c.in_err-ask_size.field-0.0 c.from_residual.result c.from_residual.ensures.1 (begin whole c.args.w.now) (c.in_err-ask_size.ensures path)

pub returns : goal.returns
returns g c = λ root path.
    let leaf = c.args.leaf.now in
    let asked = size_wants path (length c.args.text.now) leaf.sized.rule in
    let whole = form_events root (text leaf) path (characters c.args.text.now) in
    last_one whole (λ p. texts leaf c.args.text.now) c.args.w.now c.ask_size.new.w c.text.new.self path c.text.new.why c.text.result (then_some whole asked (texts leaf c.args.text.now ∷ []) c.args.w.now c.args.w.now c.ask_size.new.w (begin whole c.args.w.now) (c.in_ok-ask_size.ensures path)) c.text.ensures.ran c.text.ensures.halted
