use Rattle.std.proofs.Common.{◌∷◌, [], ◌++◌, length}
use Rattle.acn_grammar.specs.Grammar.{bits, bit_string}
use Rattle.acn_events.specs.Event.{copies, sizes}
use Rattle.acn_events.specs.Events.{form_events, size_wants}
use Rattle.acn_pack.proofs.Ways.{begin, failed_one, failed_some, last_one, then_one, then_some}
use Rattle.acn_pack.proofs.leaves.copy_bits.Goals as goal

pub returns-in_err-size : goal.returns-in_err-size
returns-in_err-size g c = λ root path.
    let n = length c.args.bits.now in
    let whole = form_events root (bits c.args.sizing.now) path (bit_string c.args.bits.now) in
    failed_one whole (size_wants path n c.args.sizing.now.rule ++ copies c.args.bits.now ∷ []) (λ p. sizes c.args.sizing.now n) path c.args.w.now c.args.w.now c.size.new.self c.size.new.why c.in_err-size.field-0.0 c.from_residual.result c.from_residual.ensures.1 (begin whole c.args.w.now) c.in_err-size.ensures.halted

pub returns-in_err-ask_size : goal.returns-in_err-ask_size
returns-in_err-ask_size g c = λ root path.
    let n = length c.args.bits.now in
    let asked = size_wants path n c.args.sizing.now.rule in
    let whole = form_events root (bits c.args.sizing.now) path (bit_string c.args.bits.now) in
    failed_some whole asked (copies c.args.bits.now ∷ []) path c.args.w.now c.size.new.self c.ask_size.new.w c.ask_size.new.why c.in_err-ask_size.field-0.0 c.from_residual-in_err-ask_size.result c.from_residual-in_err-ask_size.ensures.1
    (then_one whole (asked ++ copies c.args.bits.now ∷ []) (λ p. sizes c.args.sizing.now n) path c.args.w.now c.args.w.now c.size.new.self (begin whole c.args.w.now) c.in_ok-size.ensures.ran) (c.in_err-ask_size.ensures path)

pub returns : goal.returns
returns g c = λ root path.
    let n = length c.args.bits.now in
    let asked = size_wants path n c.args.sizing.now.rule in
    let whole = form_events root (bits c.args.sizing.now) path (bit_string c.args.bits.now) in
    last_one whole (λ p. copies c.args.bits.now) c.args.w.now c.ask_size.new.w c.copy_bits.new.self path c.copy_bits.new.why c.copy_bits.result
    (then_some whole asked (copies c.args.bits.now ∷ []) c.args.w.now c.size.new.self c.ask_size.new.w (then_one whole (asked ++ copies c.args.bits.now ∷ []) (λ p. sizes c.args.sizing.now n) path c.args.w.now c.args.w.now c.size.new.self (begin whole c.args.w.now) c.in_ok-size.ensures.ran) (c.in_ok-ask_size.ensures path))
    c.copy_bits.ensures.ran c.copy_bits.ensures.halted
