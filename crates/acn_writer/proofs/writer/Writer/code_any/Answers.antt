use Rattle.std.proofs.Common.{rules, refl, sym, ◌∙◌}
use Rattle.std.specs.Int.{w128}
use Rattle.std.proofs.lemmas.Int.{to_z-of_z}
use Rattle.acn_grammar.specs.Length.{num_length}
use Rattle.acn_events.specs.Event.{codes}
use Rattle.acn_writer.specs.declared.halt.Halt.TheVariants.{Breaks, Lost}
use Rattle.acn_writer.proofs.States.{halts_still, number_coded, room_lost}
use Rattle.acn_writer.proofs.writer.Writer.code_any.Goals as goal

pub returns-then-not-holds-clause-halted : goal.returns-then-not-holds-clause-halted
returns-then-not-holds-clause-halted g c =
    let plain = to_z-of_z w128 c.args.x c.ranges.x in
    let holds = rw plain at c.holds.ensures in
    halts_still (λ path. codes c.args.leaf.now c.args.x) c.args.self.now _ Breaks c.tell.ensures (λ path. sym holds ∙ c.if-not-holds.true)

pub returns-then-not-has_room_for_code-clause-halted : goal.returns-then-not-has_room_for_code-clause-halted
returns-then-not-has_room_for_code-clause-halted g c =
    let plain = to_z-of_z w128 c.args.x c.ranges.x in
    let late = rw plain at c.has_room_for_code.ensures.none c.if-not-has_room_for_code.true in
    halts_still (λ path. codes c.args.leaf.now c.args.x) c.args.self.now _ Lost c.tell-then-not-has_room_for_code.ensures (λ path room. room_lost c.args.self.now (num_length c.args.leaf.now c.args.x) late room)

pub returns-clause-ran : goal.returns-clause-ran
returns-clause-ran g c =
    let plain = to_z-of_z w128 c.args.x c.ranges.x in
    let code = rw plain at c.put_num.ensures.code in
    number_coded c.args.self.now _ refl refl c.args.leaf.now c.args.x c.requires code

pub put_num-requires : goal.put_num-requires
put_num-requires g c = (search rules, (c.requires, (sym c.holds.ensures ∙ c.if-not-holds.false, c.has_room_for_code.ensures.room c.if-not-has_room_for_code.false)))
