use Rattle.std.proofs.Common.{rules, ◌≡◌, length}
use Rattle.acn_num.specs.Bits.{bits}
use Rattle.acn_grammar.specs.View.{grammar_of}
use Rattle.acn_reads.proofs.Tops.{begins_at, root_front}
use Rattle.acn_transcode.proofs.Walks.{front_left}
use Rattle.acn_transcode.proofs.front.put_front.Goals as goal

pub returns-clause-put : goal.returns-clause-put
returns-clause-put c =
    let g = grammar_of c.args.root.now in
    let p = c.put_line.ensures.put c.if-not-put_line.false in
    let front = root_front g (bits c.args.bytes.now) p.0 c.clear.new.self.slots.items c.put_line.new.draft.slots.items c.new-cur.result c.put_line.new.cur c.at.result (c.accepted_is_sound.ensures g c.requires.accepted) c.clear.ensures.slots (begins_at c.args.bytes.now c.new-cur.result c.new-cur.ensures) c.at.ensures p.1 in
    (p.0, front, p.2)

pub returns-then-not-put_line-clause-kept : goal.returns-then-not-put_line-clause-kept
returns-then-not-put_line-clause-kept c e =
    let k = c.put_line.ensures.kept c.if-not-put_line.true in
    let mark : c.len-mark.result ≡ length c.args.text.now.items = search rules in
    front_left c.args.text.now.items k.behind c.put_line.new.text.items c.truncate.new.self.items c.len-mark.result mark k.same c.truncate.ensures.items
