use Rattle.std.proofs.Common.{◌≡◌, ◌++◌, ◌≤◌, sym, ap, ◌∙◌, arith}
use Rattle.std.proofs.lemmas.Bool.Decides.{nat_tests}
use Rattle.std.proofs.lemmas.Result.{on_ok_weaker}
use Rattle.json.proofs.Printed.Strings.{escape_byte_plain}
use Rattle.acn_string_lines.proofs.letters.put_character.Goals as goal

pub returns-then-octet-ne92 : goal.returns-then-octet-ne92
returns-then-octet-ne92 c =
    let x = c.args.octet in
    let a = c.if-octet-gt31.true in
    let b = c.if-octet-ne34.true in
    let d = c.if-octet-ne92.true in
    let above : 32 ≤ x = grind (arith, nat_tests) in
    let one : x ≡ 34 → ⊥ = (λ e. grind (arith, nat_tests)) in
    let two : x ≡ 92 → ⊥ = (λ e. grind (arith, nat_tests)) in
    on_ok_weaker c.put_octet.result (λ e. e ∙ ap (λ t. c.args.text.now.items ++ t) (sym (escape_byte_plain x one two above))) c.put_octet.ensures.added
