use Rattle.std.proofs.Common.{refl}
use Rattle.acn_grammar.specs.Grammar.{characters}
use Rattle.acn_grammar.specs.ReadFaults.{reason_of}
use Rattle.acn_reads.proofs.TextReads.{text_passed, text_fails, text_sizes, text_not_given}
use Rattle.acn_unpack.proofs.nothing.NothingKeep.text.Goals as goal

pub returns-in-Ok-read_characters-clause-read : goal.returns-in-Ok-read_characters-clause-read
returns-in-Ok-read_characters-clause-read c =
    let g = c.in-Ok-read_characters.ensures.read in
    (characters g.text, tt, λ root. text_passed root c.args.leaf.now c.in-Ok.given g.text c.args.slots.now c.args.cur.now c.read_text.new.cur c.in-Ok.ensures.says g.read)

pub given_size-requires-clause-fine : goal.given_size-requires-clause-fine
given_size-requires-clause-fine c = text_sizes c.args.leaf.now c.requires.fine

pub returns-in-Err-read_characters-clause-fails : goal.returns-in-Err-read_characters-clause-fails
returns-in-Err-read_characters-clause-fails c = (refl, (reason_of c.in-Err-read_characters.fault, c.named.ensures, text_fails c.args.leaf.now c.in-Ok.given c.args.slots.now c.args.cur.now (reason_of c.in-Err-read_characters.fault) c.in-Ok.ensures.says c.in-Err-read_characters.ensures.fails))

pub returns-in-Err-clause-fails : goal.returns-in-Err-clause-fails
returns-in-Err-clause-fails c = (refl, (reason_of c.in-Err.fault, c.named-in-Err.ensures, text_not_given c.args.leaf.now c.args.slots.now c.args.cur.now (reason_of c.in-Err.fault) c.requires.fine c.in-Err.ensures.fails))
