use Rattle.std.proofs.Common.{◌≡◌, ◌+◌, ◌<◌, ◌++◌, ◌∷◌, [], length, drop, ap, subst, sym, ◌∙◌, arith}
use Rattle.std.proofs.lemmas.Grind.{common_steps}
use Rattle.hex.specs.Hex.{encode_lower}
use Rattle.json.specs.Print.{escape}
use Rattle.acn_printed.proofs.Digits.{no-digits, pair-next}
use Rattle.acn_printed.proofs.texts.octets_of.Goals as goal

pub loop-at-init : goal.loop-at-init
loop-at-init c =
    let none : c.clear.new.self.items ≡ [] = grind (arith, common_steps) in
    record {
      within = omega arith;
      same = ap (λ t. t ++ c.args.rest.now.text.now) (sym (ap (λ os. escape (encode_lower os)) none ∙ no-digits));
    }

pub loop-at-preserved : goal.loop-at-preserved
loop-at-preserved c =
    let l = c.loop-at in
    let i = l.invariant in
    let b = c.in-Some.octet in
    let pair = c.in-Some.ensures in
    let small : b < 256 = grind (arith, common_steps) in
    let put : c.push.new.self.items ≡ l.octets.items ++ b ∷ [] = grind (arith, common_steps) in
    let more : l.at + 1 < length c.args.rest.now.text.now = grind (arith, common_steps) in
    record {
      within = omega arith;
      same = subst (λ os. c.args.rest.now.text.now ≡ escape (encode_lower os) ++ drop (l.at + 2) c.args.rest.now.text.now) (sym put) (pair-next c.args.rest.now.text.now l.octets.items l.at b more small pair.0 pair.1 i.same);
    }
