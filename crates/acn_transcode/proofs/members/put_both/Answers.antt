use Rattle.std.proofs.Common.{◌≡◌, ◌++◌, ◌+◌, ◌-◌, ◌≤◌, length, take, drop, ap, ◌∙◌, rules, arith}
use Rattle.std.proofs.lemmas.Grind.{common_steps}
use Rattle.std.proofs.lemmas.List.{take_at}
use Rattle.acn_lines.specs.declared.keys.TheConstants.{KEY_ROOM}
use Rattle.acn_transcode.proofs.BothTexts.{both_put, long_still}
use Rattle.acn_transcode.proofs.members.put_both.Goals as goal

pub returns-clause-added : goal.returns-clause-added
returns-clause-added c =
    let old = c.args.text.now.items in
    let key = c.args.key.now in
    let value = c.args.value.now in
    let mid = c.put.new.out.items in
    let at = c.len.result - (KEY_ROOM - key.count) in
    let added : mid ≡ old ++ key.octets = search rules in
    let place : at ≡ length old + key.count = grind (arith, common_steps) in
    let kept : key.count ≤ length key.octets = grind (arith, common_steps) in
    let count : value.count ≤ length value.octets = grind (arith, common_steps) in
    let over = c.put_over.new.text in
    let put : over ≡ take at mid ++ value.octets ++ drop (at + length value.octets) mid = search rules in
    let room : at + length value.octets ≤ length mid = grind (arith, common_steps) in
    let same : length mid ≡ c.put.new.out.len = search rules in
    let long : length over ≡ c.put.new.out.len = long_still mid value.octets over at room put ∙ same in
    both_put old key.octets value.octets mid over c.truncate.new.self.items at key.count value.count added place kept count put (c.truncate.ensures.items ∙ ap (λ t. take (at + value.count) t) (take_at over _ c.put.new.out.len long))
