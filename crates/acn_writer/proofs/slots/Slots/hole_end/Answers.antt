use Rattle.std.proofs.Common.{◌≡◌, ℕ, List, get_or, true, sym, ap, ◌∙◌}
use Rattle.acn_fill.specs.Table.{begun, gap_at}
use Rattle.acn_writer.specs.Leaves.{has_leaf, leaf_place}
use Rattle.acn_writer.specs.Slots.{OpenSlots}
use Rattle.acn_writer.specs.declared.leaf.SlotLeaf.{SlotLeaf}
use Rattle.acn_writer.proofs.LeafLists.{end_at}
use Rattle.acn_writer.proofs.Tables.{hole_leaf}
use Rattle.acn_writer.proofs.slots.Slots.hole_end.Goals as goal

pub place_of-at-requires : goal.place_of-at-requires
place_of-at-requires g c =
    let hole = c.has_hole.ensures.hole c.if-not-has_hole.false in
    let b : begun c.self.inside.fills c.args.slot ≡ true = ap (λ (z : OpenSlots). begun z.table c.args.slot) c.self.view_is ∙ c.requires.begun in
    ap (has_leaf c.args.slot) c.as_slice-leaves.ensures.value ∙ hole_leaf c.args.slot hole.0 c.self.inside.fills c.self.inside.leaves.items b hole.1 c.self.invariant

pub returns : goal.returns
returns g c =
    let s = c.args.slot in
    let items = c.self.inside.leaves.items in
    let d = c.index-leaves-at.result in
    let hole = c.has_hole.ensures.hole c.if-not-has_hole.false in
    let b : begun c.self.inside.fills s ≡ true = ap (λ (z : OpenSlots). begun z.table s) c.self.view_is ∙ c.requires.begun in
    let has = hole_leaf s hole.0 c.self.inside.fills items b hole.1 c.self.invariant in
    let w = c.self.invariant.have s hole.0 b hole.1 in
    let xs = c.as_slice-leaves.result.now in (
      hole.0,
      ap (λ (z : OpenSlots). gap_at z.table s) (sym c.self.view_is) ∙ hole.1,
      ap (λ (k : ℕ). (get_or xs k d).end) c.place_of-at.ensures.found ∙ (ap (λ (z : List SlotLeaf). (get_or z (leaf_place s z) d).end) c.as_slice-leaves.ensures.value ∙ (sym (end_at s items d has) ∙ w.ends)),
    )
