use Rattle.std.proofs.Common.{ℕ, List, [], length, sym, subst}
use Rattle.acn_num.specs.Bits.{bits}
use Rattle.acn_grammar.specs.Env.{Env}
use Rattle.acn_plan.specs.Back.{root_of}
use Rattle.acn_reads.specs.Decoded.{NodeStands, Fine}
use Rattle.acn_reads.proofs.Tops.{begins_at, root_stands, root_front, root_fails}
use Rattle.acn_unpack.proofs.Halting.{halts_map}
use Rattle.acn_unpack.proofs.Roots.{some_step}
use Rattle.acn_unpack.proofs.packet.read_root.Goals as goal

pub read_node-requires : goal.read_node-requires
read_node-requires types c =
    let root = root_of c.args.steps.now in
    let sound = c.accepted_is_sound.ensures (root_of c.args.steps.now) c.requires.made.accepted in
    record {
      made = c.requires.made;
      there = some_step c.args.steps.now c.requires.made;
      ready = ([], subst (λ (p : List ℕ). NodeStands (root_of c.args.steps.now) (length p) (root_of c.args.steps.now) (types.T.SlotTable.env c.args.slots.now) []) (sym c.requires.top) (subst (λ (t : Env). NodeStands (root_of c.args.steps.now) 0 (root_of c.args.steps.now) t []) (sym c.requires.none) (root_stands (root_of c.args.steps.now) sound)));
      named = c.requires.made.named;
      fine = subst (Fine (root_of c.args.steps.now)) (sym c.requires.none) tt;
    }

pub returns-in-Ok-clause-front : goal.returns-in-Ok-clause-front
returns-in-Ok-clause-front types c =
    let k = c.in-Ok.ensures.read in
    (k.0, k.1, root_front (root_of c.args.steps.now) (bits c.args.bytes.now) k.0 (types.T.SlotTable.env c.args.slots.now) (types.T.SlotTable.env c.read_node.new.slots) c.new-cur.result c.read_node.new.cur c.at-used.result (c.accepted_is_sound.ensures (root_of c.args.steps.now) c.requires.made.accepted) c.requires.none (begins_at c.args.bytes.now c.new-cur.result c.new-cur.ensures) c.at-used.ensures k.2)

pub returns-in-Err-clause-fails : goal.returns-in-Err-clause-fails
returns-in-Err-clause-fails types c =
    halts_map c.in-Err.stop _ _ _ _ (λ x. x) (λ q at s. root_fails (root_of c.args.steps.now) (bits c.args.bytes.now) (types.T.SlotTable.env c.args.slots.now) c.args.path.now c.new-cur.result _ q at (c.accepted_is_sound.ensures (root_of c.args.steps.now) c.requires.made.accepted) c.requires.none c.requires.top (begins_at c.args.bytes.now c.new-cur.result c.new-cur.ensures) s) c.in-Err.ensures.fails
