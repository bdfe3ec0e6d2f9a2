use Rattle.std.proofs.Common.{rules}
use Rattle.acn_grammar.specs.View.{data_of}
use Rattle.acn_step_breach.proofs.Levels.{some_step}
use Rattle.acn_writer.specs.Halts.{halt_of}
use Rattle.acn_packing.proofs.Wholes.{sound_root, whole_halts, whole_packs}
use Rattle.acn_packing.proofs.tries.pack_whole.Goals as goal

pub pack_node-requires : goal.pack_node-requires
pack_node-requires g c =
    let steps = c.with_runs-steps.result.now in
    let made = c.with_runs-steps.ensures.made in
    let there = some_step steps made in
    let sound = sound_root c.accepted_is_sound.ensures steps c.args.trace.now.path made.accepted c.requires.root in
    search (rules, made, there, sound)

pub returns-in-Ok-clause-packs : goal.returns-in-Ok-clause-packs
returns-in-Ok-clause-packs g c =
    whole_packs c.with_runs-steps.result.now c.args.plan.now.steps c.args.trace.now.path (data_of c.args.v.now) c.args.writer.now c.pack_node.new.w c.with_runs-steps.ensures.same c.requires.root c.args.plan.now.made.accepted c.requires.shaped c.requires.fresh
    c.runs_are_writable.ensures c.events_write_the_packet.ensures c.at-at.ensures.paired c.in-Ok.ensures.packs

pub returns-in-Ok-clause-same_buffer : goal.returns-in-Ok-clause-same_buffer
returns-in-Ok-clause-same_buffer g c = c.in-Ok.ensures.packs.same_buffer

pub returns-in-Err-clause-halts : goal.returns-in-Err-clause-halts
returns-in-Err-clause-halts g c =
    whole_halts c.with_runs-steps.result.now c.args.plan.now.steps c.args.trace.now.path (data_of c.args.v.now) c.args.writer.now c.pack_node.new.w c.with_runs-steps.ensures.same c.requires.root c.args.plan.now.made.accepted c.requires.shaped c.requires.fresh
    c.stops_pass_their_holes.ensures c.stops_keep_what_is_later.ensures (halt_of c.pack_node.new.trace.path c.pack_node.new.trace.why) c.in-Err.ensures.packs

pub returns-in-Err-clause-same_buffer : goal.returns-in-Err-clause-same_buffer
returns-in-Err-clause-same_buffer g c = c.in-Err.ensures.packs.same_buffer
