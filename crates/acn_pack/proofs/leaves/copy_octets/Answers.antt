use Rattle.std.proofs.Common.{◌∷◌, [], ◌++◌, length}
use Rattle.acn_num.specs.Bits.{bits as bits_of}
use Rattle.acn_grammar.specs.Grammar.{octets, octet_string}
use Rattle.acn_events.specs.Event.{copies, sizes}
use Rattle.acn_events.specs.Events.{form_events, size_wants}
use Rattle.acn_pack.proofs.Ways.{begin, failed_one, failed_some, last_one, then_one, then_some}
use Rattle.acn_pack.proofs.leaves.copy_octets.Goals as goal

pub returns-in_err-size : goal.returns-in_err-size
returns-in_err-size g c = λ root path.
    let n = length c.args.octets.now in
    let whole = form_events root (octets c.args.sizing.now) path (octet_string c.args.octets.now) in
    failed_one whole (size_wants path n c.args.sizing.now.rule ++ copies (bits_of c.args.octets.now) ∷ []) (λ p. sizes c.args.sizing.now n) path c.args.w.now c.args.w.now c.size.new.self c.size.new.why c.in_err-size.field-0.0 c.from_residual.result c.from_residual.ensures.1 (begin whole c.args.w.now) c.in_err-size.ensures.halted

pub returns-in_err-ask_size : goal.returns-in_err-ask_size
returns-in_err-ask_size g c = λ root path.
    let n = length c.args.octets.now in
    let asked = size_wants path n c.args.sizing.now.rule in
    let whole = form_events root (octets c.args.sizing.now) path (octet_string c.args.octets.now) in
    failed_some whole asked (copies (bits_of c.args.octets.now) ∷ []) path c.args.w.now c.size.new.self c.ask_size.new.w c.ask_size.new.why c.in_err-ask_size.field-0.0 c.from_residual-in_err-ask_size.result c.from_residual-in_err-ask_size.ensures.1
    (then_one whole (asked ++ copies (bits_of c.args.octets.now) ∷ []) (λ p. sizes c.args.sizing.now n) path c.args.w.now c.args.w.now c.size.new.self (begin whole c.args.w.now) c.in_ok-size.ensures.ran) (c.in_err-ask_size.ensures path)

pub returns : goal.returns
returns g c = λ root path.
    let n = length c.args.octets.now in
    let asked = size_wants path n c.args.sizing.now.rule in
    let whole = form_events root (octets c.args.sizing.now) path (octet_string c.args.octets.now) in
    last_one whole (λ p. copies (bits_of c.args.octets.now)) c.args.w.now c.ask_size.new.w c.copy_octets.new.self path c.copy_octets.new.why c.copy_octets.result
    (then_some whole asked (copies (bits_of c.args.octets.now) ∷ []) c.args.w.now c.size.new.self c.ask_size.new.w (then_one whole (asked ++ copies (bits_of c.args.octets.now) ∷ []) (λ p. sizes c.args.sizing.now n) path c.args.w.now c.args.w.now c.size.new.self (begin whole c.args.w.now) c.in_ok-size.ensures.ran) (c.in_ok-ask_size.ensures path))
    c.copy_octets.ensures.ran c.copy_octets.ensures.halted
