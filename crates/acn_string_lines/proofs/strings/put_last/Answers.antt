use Rattle.std.proofs.Common.{◌≡◌, ℕ, sym, subst, arith}
use Rattle.std.proofs.lemmas.Bool.Decides.{nat_tests}
use Rattle.std.specs.Result.{OnOk}
use Rattle.acn_string_lines.proofs.HexTexts.{PutsOctets, none_put}
use Rattle.acn_string_lines.proofs.strings.put_last.Goals as goal

pub returns-then-n-eq1 : goal.returns-then-n-eq1
returns-then-n-eq1 c =
    let test = c.if-n-eq1.true in
    let one : c.args.n ≡ 1 = grind (arith, nat_tests) in
    subst (λ (k : ℕ). OnOk c.put_pair.result (PutsOctets k c.args.text.now.items c.put_pair.new.text.items c.args.cur.now c.put_pair.new.cur)) (sym one) c.put_pair.ensures

pub returns-else-n-eq1 : goal.returns-else-n-eq1
returns-else-n-eq1 c =
    let test = c.if-n-eq1.false in
    let few = c.requires.few in
    let zero : c.args.n ≡ 0 = grind (arith, nat_tests) in
    subst (λ (k : ℕ). PutsOctets k c.args.text.now.items c.args.text.now.items c.args.cur.now c.args.cur.now) (sym zero) (none_put c.args.text.now.items c.args.cur.now)
