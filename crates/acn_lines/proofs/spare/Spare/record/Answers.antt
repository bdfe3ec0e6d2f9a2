use Rattle.std.proofs.Common.{◌≡◌, length, ◌∙◌, rules}
use Rattle.acn_grammar.specs.View.{fields_view}
use Rattle.acn_lines.proofs.CountLaw.{turns-count}
use Rattle.acn_lines.proofs.spare.Spare.record.Goals as goal

pub returns-then-len-turns : goal.returns-then-len-turns
returns-then-len-turns c =
    let count = turns-count (fields_view c.args.fields.now) c.args.turns.now c.requires in
    let same : length c.places-places.result.items ≡ length c.args.turns.now = search (rules) in
    same ∙ count
