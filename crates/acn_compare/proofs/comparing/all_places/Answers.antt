use Rattle.acn_grammar.specs.View.{grammar_of}
use Rattle.acn_report.proofs.Rooms.{walkable}
use Rattle.acn_compare.proofs.comparing.all_places.Goals as goal

pub list_places-requires : goal.list_places-requires
list_places-requires c = rw c.new-path.ensures (walkable (grammar_of c.args.old.now) c.requires)
