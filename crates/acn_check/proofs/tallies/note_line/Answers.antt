use Rattle.std.proofs.Common.{map}
use Rattle.acn_grammar.specs.Walk.{condition, form_uses}
use Rattle.acn_check.specs.Facts.{facts_of}
use Rattle.acn_check.specs.Program.{use_of, tally_of}
use Rattle.acn_check.proofs.Tallying.{tallied_form}
use Rattle.acn_check.proofs.tallies.note_line.Goals as goal

pub returns-in-Some : goal.returns-in-Some
returns-in-Some c =
    let f = facts_of c.args.line.now in
    tallied_form (map tally_of c.args.tallies.now.items) (map tally_of c.note_tests.new.tallies.items) (map tally_of c.note.new.tallies.items) (map condition f.tag.tests) (form_uses f.form) (use_of c.in-Some.named) c.note_tests.ensures c.in-Some.ensures c.note.ensures
