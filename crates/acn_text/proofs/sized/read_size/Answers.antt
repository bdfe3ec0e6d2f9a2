use Rattle.std.proofs.Common.{◌≡◌, ◌∙◌, sym, pos, false}
use Rattle.acn_num.specs.Ranges.{has}
use Rattle.acn_text.proofs.SizedReads.{size_stays, size_refused, size_missing}
use Rattle.acn_text.proofs.sized.read_size.Goals as goal

pub returns-else-is_in-clause-stays : goal.returns-else-is_in-clause-stays
returns-else-is_in-clause-stays c = size_stays c.args.sizing.now c.args.given c.args.cur.now c.said_size.new.cur c.in-Ok.n c.in-Ok.ensures.taken

pub returns-else-is_in-clause-wrong : goal.returns-else-is_in-clause-wrong
returns-else-is_in-clause-wrong c =
    let out : has c.args.sizing.now.sizes (pos c.in-Ok.n) ≡ false = sym c.is_in.ensures ∙ c.if-is_in.false in
    size_refused c.args.sizing.now c.args.given c.args.cur.now c.said_size.new.cur c.in-Ok.n (λ p. let z = sym p ∙ out in cc) c.in-Ok.ensures.taken

pub returns-in-Err-clause-wrong : goal.returns-in-Err-clause-wrong
returns-in-Err-clause-wrong c = let m = c.in-Err.ensures.missing in rw m.0 (size_missing c.args.sizing.now c.args.given c.args.cur.now m.1)
