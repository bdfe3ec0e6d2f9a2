use Rattle.std.proofs.lemmas.Int.{to_z-of_z}
use Rattle.std.specs.Int.{w128}
use Rattle.std.proofs.Common.{◌∙◌, rules, ℕ, ℤ, List, sym, ap, subst}
use Rattle.acn_grammar.specs.Code.{NumberOf}
use Rattle.acn_grammar.specs.Grammar.{node, num}
use Rattle.acn_reads.specs.Decoded.{NodeStops}
use Rattle.acn_reads.specs.Steps.{noted_by}
use Rattle.acn_reads.proofs.Nodes.{number_read}
use Rattle.acn_reads.proofs.Small.{number_is}
use Rattle.acn_unpack.proofs.Halting.{fault_map, full_lacks}
use Rattle.acn_unpack.proofs.leaves.read_number.Goals as goal

pub returns-in-Ok-note-clause-read : goal.returns-in-Ok-note-clause-read
returns-in-Ok-note-clause-read types c =
    let k = c.number.ensures in
    let same = to_z-of_z w128 c.in-Ok.x (record { sfits = search rules }) in
    let is : NumberOf c.args.leaf.now.kind k.0 c.in-Ok.x = subst (λ (x : ℤ). NumberOf c.args.leaf.now.kind k.0 x) same k.2 in
    (k.0, k.1, c.in-Ok-note.ensures.noted ∙ ap (λ (x : ℤ). noted_by c.args.slot x (types.T.SlotTable.env c.args.slots.now)) (same ∙ sym (number_is c.args.leaf.now.kind k.0 c.in-Ok.x is)), λ root t m. number_read root c.args.align c.args.leaf.now k.0 c.in-Ok.x t c.args.cur.now c.read_code.new.cur m is c.in-Ok.ensures.read)

pub returns-in-Err-note-clause-fails : goal.returns-in-Err-note-clause-fails
returns-in-Err-note-clause-fails types c = full_lacks c.in-Err-note.stop types.K.Keep.takes types.T.SlotTable.places _ c.in-Err-note.ensures.lack

pub returns-in-Err-clause-fails : goal.returns-in-Err-clause-fails
returns-in-Err-clause-fails types c =
    fault_map c.in-Err.stop _ _ _ c.in-Err.ensures.fault (λ q at s root t m. subst (λ (p : List ℕ). NodeStops root (node c.args.align (num c.args.leaf.now)) c.args.inside p t c.args.cur.now c.push.new.self q at) c.push.ensures (s root c.push.new.self t m)) c.in-Err.ensures.fails
