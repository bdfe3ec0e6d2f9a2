use Rattle.std.proofs.Common.{ap, ◌∙◌, unwrap_or}
use Rattle.acn_homes.proofs.Noted.{noted}
use Rattle.acn_homes.proofs.homes.note.Goals as goal

pub returns : goal.returns
returns c =
    noted c.args.numbers.now c.remove.new.self c.insert.new.self c.args.home.now c.unwrap_or-here.result c.push.new.self c.new.result c.args.number c.remove.ensures.updates c.in_ok-insert.ensures.updates
    (c.unwrap_or-here.ensures ∙ ap (λ o. unwrap_or o c.new.result) c.remove.ensures.value) c.new.ensures.items c.in_ok-push.ensures.items
