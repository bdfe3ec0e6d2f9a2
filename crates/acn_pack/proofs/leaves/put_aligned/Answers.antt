use Rattle.std.proofs.Common.{◌∷◌, []}
use Rattle.acn_grammar.specs.Length.{number_of}
use Rattle.acn_grammar.specs.View.{data_of}
use Rattle.acn_events.specs.Event.{aligns, codes}
use Rattle.acn_pack.proofs.Ways.{begin, then_one, last, failed_one}
use Rattle.acn_pack.proofs.leaves.put_aligned.Goals as goal

pub returns-in_err-align : goal.returns-in_err-align
returns-in_err-align g c = λ path.
    let code = codes c.args.leaf.now (number_of (data_of c.args.v.now)) in
    let whole = aligns c.args.align ∷ code ∷ [] in
    failed_one whole (code ∷ []) (λ p. aligns c.args.align) path c.args.w.now c.args.w.now c.align.new.self c.align.new.why c.in_err-align.field-0.0 c.from_residual.result c.from_residual.ensures.1 (begin whole c.args.w.now) c.in_err-align.ensures.halted

pub returns : goal.returns
returns g c = λ path.
    let code = codes c.args.leaf.now (number_of (data_of c.args.v.now)) in
    let whole = aligns c.args.align ∷ code ∷ [] in
    last whole (code ∷ []) c.args.w.now c.align.new.self c.put_number.new.w path c.put_number.new.why c.put_number.result
    (then_one whole (code ∷ []) (λ p. aligns c.args.align) path c.args.w.now c.args.w.now c.align.new.self (begin whole c.args.w.now) c.in_ok-align.ensures.ran) (c.put_number.ensures path)
