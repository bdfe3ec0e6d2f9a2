use Rattle.std.proofs.Common.{sym, subst, ℕ, Option}
use Rattle.std.specs.Prelude.{IfOk, IfErr}
use Rattle.std.specs.List.{FoldsTo}
use Rattle.acn_grammar.specs.ReadFaults.{reason_of}
use Rattle.acn_text.specs.Texts.{PassedText, NoTextAt}
use Rattle.acn_text.proofs.Fine.{fine_end, none_given, rule_fits}
use Rattle.acn_text.proofs.SizedReads.{size_read, size_stays, size_wrong, characters_wrong, text_read}
use Rattle.acn_text.proofs.reader.read_text.Goals as goal
use Rattle.acn_grammar.proofs.TextRules.{text_rules, size_few}
use Rattle.acn_bits.proofs.Readings.{stays_twice}

pub read_size-requires-clause-fits : goal.read_size-requires-clause-fits
read_size-requires-clause-fits g c = rule_fits c.args.leaf.now (text_rules c.args.leaf.now c.requires.fine) c.in-None.is

pub read_characters-requires-clause-few : goal.read_characters-requires-clause-few
read_characters-requires-clause-few g c = size_few c.args.leaf.now.sized.sizes c.in-Ok.n (text_rules c.args.leaf.now c.requires.fine).sizes c.in-Ok.ensures.permitted

pub returns-in-Ok-read_characters-clause-read : goal.returns-in-Ok-read_characters-clause-read
returns-in-Ok-read_characters-clause-read g c =
    text_read c.args.leaf.now c.args.count (λ cs. FoldsTo (λ p x q. goal.F-step g p x tt q) c.args.each.now cs c.read_characters.new.each) c.args.cur.now c.read_size.new.cur c.read_characters.new.cur c.in-Ok.n c.in-None.is
    (size_read c.args.leaf.now.sized c.args.count c.args.cur.now c.read_size.new.cur c.in-Ok.n c.in-Ok.ensures.permitted c.in-Ok.ensures.taken) c.in-Ok-read_characters.ensures.read

pub returns-in-Err-read_characters-clause-fails : goal.returns-in-Err-read_characters-clause-fails
returns-in-Err-read_characters-clause-fails g c =
    characters_wrong c.args.leaf.now c.args.count c.args.cur.now c.read_size.new.cur c.in-Ok.n (reason_of c.in-Err-read_characters.fault) c.in-None.is
    (size_read c.args.leaf.now.sized c.args.count c.args.cur.now c.read_size.new.cur c.in-Ok.n c.in-Ok.ensures.permitted c.in-Ok.ensures.taken) c.in-Err-read_characters.ensures.wrong

pub returns-in-Err-read_characters-clause-stays : goal.returns-in-Err-read_characters-clause-stays
returns-in-Err-read_characters-clause-stays g c =
    stays_twice c.args.cur.now c.read_size.new.cur c.read_characters.new.cur (size_stays c.args.leaf.now.sized c.args.count c.args.cur.now c.read_size.new.cur c.in-Ok.n c.in-Ok.ensures.taken) c.in-Err-read_characters.ensures.stays

pub returns-in-Some-clause-read : goal.returns-in-Some-clause-read
returns-in-Some-clause-read g c =
    let f = text_rules c.args.leaf.now c.requires.fine in
    let none = none_given c.args.leaf.now c.args.count (fine_end c.args.leaf.now c.in-Some.end f c.in-Some.is).rule c.requires.given in
    subst (λ (o : Option ℕ). IfOk c.read_ended.result (PassedText c.args.leaf.now o (λ cs. FoldsTo (λ p x q. goal.F-step g p x tt q) c.args.each.now cs c.read_ended.new.each) c.args.cur.now c.read_ended.new.cur)) (sym none) c.read_ended.ensures.read

pub returns-in-Some-clause-fails : goal.returns-in-Some-clause-fails
returns-in-Some-clause-fails g c =
    let f = text_rules c.args.leaf.now c.requires.fine in
    let none = none_given c.args.leaf.now c.args.count (fine_end c.args.leaf.now c.in-Some.end f c.in-Some.is).rule c.requires.given in
    subst (λ (o : Option ℕ). IfErr c.read_ended.result (λ e. NoTextAt c.args.leaf.now o c.args.cur.now.rest (reason_of e))) (sym none) c.read_ended.ensures.wrong

pub returns-in-Err-clause-fails : goal.returns-in-Err-clause-fails
returns-in-Err-clause-fails g c = size_wrong c.args.leaf.now c.args.count c.args.cur.now.rest (reason_of c.in-Err.fault) c.in-None.is c.in-Err.ensures.wrong
