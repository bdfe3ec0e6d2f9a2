use Rattle.std.proofs.Common.{rules, ◌+◌, ◌*◌, ◌<◌, ◌≤◌, ℕ, refl, subst, arith}
use Rattle.acn_bits.specs.Writing.{place_of}
use Rattle.acn_events.specs.Event.{puts}
use Rattle.acn_writer.specs.declared.halt.Halt.TheVariants.{Lost}
use Rattle.acn_writer.proofs.States.{halts_still, number_put, room_lost}
use Rattle.acn_writer.proofs.writer.Writer.put.Goals as goal

pub returns-clause-ran : goal.returns-clause-ran
returns-clause-ran g c =
    let f = c.fits.ensures.yes c.if-not-fits.false in
    number_put c.args.self.now _ refl refl c.args.width c.args.n f.0 f.1 c.put.ensures

pub returns-then-not-fits-clause-halted : goal.returns-then-not-fits-clause-halted
returns-then-not-fits-clause-halted g c =
    halts_still (λ path. puts c.args.width c.args.n) c.args.self.now _ Lost c.tell.ensures (λ path can. (let over = c.fits.ensures.no c.if-not-fits.true can.0 in let small = can.1 in omega (arith, over, small)))

pub returns-then-not-has_room-clause-halted : goal.returns-then-not-has_room-clause-halted
returns-then-not-has_room-clause-halted g c = halts_still (λ path. puts c.args.width c.args.n) c.args.self.now _ Lost c.tell-then-not-has_room.ensures (λ path can. room_lost c.args.self.now c.args.width (subst (λ (k : ℕ). 8 * g.row.N < place_of c.args.self.now.cursor + k) c.from.ensures (c.has_room.ensures.none c.if-not-has_room.true)) can.2)

pub put-requires : goal.put-requires
put-requires g c = let f = c.fits.ensures.yes c.if-not-fits.false in (search rules, (f.0, (f.1, subst (λ (k : ℕ). place_of c.args.self.now.cursor + k ≤ 8 * g.row.N) c.from.ensures (c.has_room.ensures.room c.if-not-has_room.false))))
