use Rattle.std.proofs.Common.{rules, ◌≡◌, ℤ, sym, subst}
use Rattle.std.proofs.lemmas.Int.{to_z-of_z}
use Rattle.std.specs.Int.{w128}
use Rattle.acn_num.specs.Ranges.{In}
use Rattle.acn_bits.specs.Reading.{Reads}
use Rattle.acn_grammar.specs.Code.{Any, Code, NumberOf}
use Rattle.acn_grammar.specs.Grammar.{Data}
use Rattle.acn_reads.specs.Steps.{noted_by}
use Rattle.acn_transcode.proofs.NumberTexts.{value_there}
use Rattle.acn_transcode.proofs.leaves.note_number.Goals as goal

pub returns-then-note : goal.returns-then-note
returns-then-note c =
    let l = c.args.leaf.now in
    let x = c.in-Some.x in
    let plain = to_z-of_z w128 x (record { sfits = search rules }) in
    let permitted : In l.set x = search rules in
    let v = value_there l x c.requires.fine c.requires.named permitted in
    let noted = subst (λ (y : ℤ). c.note.new.slots.items ≡ noted_by c.args.slot y c.args.slots.now.items) plain (c.note.ensures c.if-note.true) in
    record {
      read = subst (λ (y : ℤ). (d : Data) × NumberOf l.kind d y × In l.set y × Reads (Code Any l y) c.args.cur.now c.number.new.cur × (c.note.new.slots.items ≡ noted_by c.args.slot y c.args.slots.now.items)) (sym plain)
          (v.0, v.1, permitted, c.in-Some.ensures.read, noted);
    }
