use Rattle.std.proofs.Common.{rules, ◌<◌, ℕ, length, Some, refl, sym, ap, ◌∙◌, subst, arith}
use Rattle.acn_fill.specs.Table.{begun}
use Rattle.acn_writer.specs.Slots.{OpenSlots}
use Rattle.acn_writer.proofs.Tables.{tied_opened, leaves_room}
use Rattle.acn_writer.proofs.slots.Slots.open.Goals as goal
use Rattle.acn_writer.proofs.Numbers.{some_number}

pub insert-requires : goal.insert-requires
insert-requires g c =
    let same = ap (λ (z : OpenSlots). length z.table.spots) c.self.view_is in
    (search rules, (omega arith, leaves_room c.self.inside.fills c.self.inside.leaves.items g.row.S c.self.invariant (subst (λ (k : ℕ). k < g.row.S) (sym same) c.requires.room)))

pub begin-requires : goal.begin-requires
begin-requires g c =
    let same = ap (λ (z : OpenSlots). length z.table.spots) c.self.view_is in
    (search rules, (subst (λ (k : ℕ). k < g.row.S) (sym same) c.requires.room, (ap (λ (z : OpenSlots). begun z.table c.args.slot) c.self.view_is ∙ c.requires.fresh, some_number c.args.leaf.now c.requires.fine)))

pub invariant_of-self : goal.invariant_of-self
invariant_of-self g c =
    let e = c.begin.ensures in
    tied_opened c.args.slot c.args.leaf c.args.hole c.self.inside.fills c.begin.new.self c.self.inside.leaves.items c.insert.new.self.items (record { slot = c.args.slot; leaf = Some c.args.leaf; end = c.args.end })
    c.insert.ensures.items refl refl c.requires.ends c.requires.fine c.requires.width e.kept (record { others = e.others; holes = e.holes; is_begun = e.own.0; own = e.own.1; rest = e.rest }) e.slots c.self.invariant
