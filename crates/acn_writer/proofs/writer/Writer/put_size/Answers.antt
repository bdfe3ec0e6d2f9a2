use Rattle.std.proofs.Common.{rules, ◌+◌, ◌*◌, ◌<◌, ◌≤◌, ℕ, refl, subst, arith}
use Rattle.acn_bits.specs.Writing.{place_of}
use Rattle.acn_grammar.specs.Length.{rule_width}
use Rattle.acn_grammar.specs.declared.node.SizeRule.{SizeRule}
use Rattle.acn_grammar.specs.declared.node.SizeRule.TheVariants.{Prefix}
use Rattle.acn_events.specs.Event.{sizes}
use Rattle.acn_events.specs.Steps.{Room, SizeFits}
use Rattle.acn_writer.specs.Answers.{state_of}
use Rattle.acn_writer.specs.declared.halt.Halt.TheVariants.{Lost}
use Rattle.acn_writer.proofs.States.{halts_still, room_lost, size_put}
use Rattle.acn_writer.proofs.writer.Writer.put_size.Goals as goal

pub returns-clause-ran : goal.returns-clause-ran
returns-clause-ran g c sizing is permitted =
    let fits = c.fits.ensures.yes c.if-not-fits.false in
    let low : c.args.low ≤ c.args.n = omega (arith, c.if-n-low.false) in
    size_put c.args.self.now _ refl refl sizing (Prefix c.args.low c.args.width) c.args.n is permitted (low, fits.0, fits.1) c.put.ensures

pub returns-then-not-fits-clause-halted : goal.returns-then-not-fits-clause-halted
returns-then-not-fits-clause-halted g c sizing is permitted =
    halts_still (λ path. sizes sizing c.args.n) c.args.self.now _ Lost c.tell-then-not-fits.ensures (λ path can. (
    let s = subst (λ (r : SizeRule). SizeFits r c.args.n) is (can.0 permitted) in
    let over = c.fits.ensures.no c.if-not-fits.true s.1 in
    let small = s.2 in
    omega (arith, over, small)
    ))

pub returns-then-not-has_room-clause-halted : goal.returns-then-not-has_room-clause-halted
returns-then-not-has_room-clause-halted g c sizing is permitted =
    halts_still (λ path. sizes sizing c.args.n) c.args.self.now _ Lost c.tell-then-not-has_room.ensures (λ path can. room_lost c.args.self.now c.args.width (subst (λ (k : ℕ). 8 * g.row.N < place_of c.args.self.now.cursor + k) c.from.ensures (c.has_room.ensures.none c.if-not-has_room.true)) (subst (λ (r : SizeRule). Room (rule_width r) (state_of c.args.self.now)) is can.1))

pub put-requires : goal.put-requires
put-requires g c = let f = c.fits.ensures.yes c.if-not-fits.false in (search rules, (f.0, (f.1, subst (λ (k : ℕ). place_of c.args.self.now.cursor + k ≤ 8 * g.row.N) c.from.ensures (c.has_room.ensures.room c.if-not-has_room.false))))
