use Rattle.std.proofs.Common.{◌≡◌, ◌∙◌, sym, ap, subst, refl, List, ℕ, [], length}
use Rattle.acn_num.specs.Bits.{bits}
use Rattle.acn_grammar.specs.View.{grammar_of, data_of}
use Rattle.acn_reads.specs.Decoded.{NodeStands, Fine}
use Rattle.acn_reads.proofs.Nodes.{tells_map}
use Rattle.acn_reads.proofs.Tops.{begins_at, root_stands, root_front, root_fails}
use Rattle.acn_plain_read.proofs.decode.read_root.Goals as goal

pub read_node-requires : goal.read_node-requires
read_node-requires c = record {
  ready = ([], subst (λ (p : List ℕ). NodeStands (grammar_of c.args.root.now) (length p) (grammar_of c.args.root.now) c.new-slots.result []) (sym c.new-path.ensures) (subst (λ (t : List (ℕ × Rattle.std.proofs.Common.ℤ)). NodeStands (grammar_of c.args.root.now) 0 (grammar_of c.args.root.now) t []) (sym c.new-slots.ensures) (root_stands (grammar_of c.args.root.now) c.requires.sound)));
  named = c.requires.named;
  fine = subst (Fine (grammar_of c.args.root.now)) (sym c.new-slots.ensures) tt;
}

pub returns-in-Ok-clause-front : goal.returns-in-Ok-clause-front
returns-in-Ok-clause-front c = root_front (grammar_of c.args.root.now) (bits c.args.bytes.now) (data_of c.in-Ok.value) c.new-slots.result c.read_node.new.slots c.new-cur.result c.read_node.new.cur c.at-used.result c.requires.sound c.new-slots.ensures (begins_at c.args.bytes.now c.new-cur.result c.new-cur.ensures) c.at-used.ensures c.in-Ok.ensures.read

pub returns-clause-fault : goal.returns-clause-fault
returns-clause-fault c = c.refusal.ensures.told (grammar_of c.args.root.now) (bits c.args.bytes.now) (tells_map c.in-Err.stop _ _ (λ q at s. root_fails (grammar_of c.args.root.now) (bits c.args.bytes.now) c.new-slots.result c.new-path.result c.new-cur.result _ q at c.requires.sound c.new-slots.ensures c.new-path.ensures (begins_at c.args.bytes.now c.new-cur.result c.new-cur.ensures) s) c.in-Err.ensures.fails)
