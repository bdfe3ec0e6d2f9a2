use Rattle.std.proofs.Common.{rules, ℤ, ◌+◌, ◌≤◌, refl, sym, subst, ◌∙◌, arith}
use Rattle.std.specs.Int.{w128}
use Rattle.std.proofs.lemmas.Int.{to_z-of_z}
use Rattle.acn_num.specs.Ranges.{In}
use Rattle.acn_bits.specs.Writing.{Fills}
use Rattle.acn_grammar.specs.Code.{Code, Written}
use Rattle.acn_fill.specs.Table.{gap_at}
use Rattle.acn_writer.proofs.Endings.{same_end, slot_ended, slot_filled}
use Rattle.acn_writer.proofs.writer.Writer.fill.Goals as goal

pub fill_num-requires : goal.fill_num-requires
fill_num-requires g c =
    let e = c.end_opened-hole.ensures in
    let hole = c.end_opened-hole.result.hole in
    let told = c.in-Some.ensures in
    let end = same_end (gap_at c.args.self.now.slots.table c.args.slot) told.0 hole c.in-Some.end told.1 told.2 e.hole in
    let at = c.at.ensures in
    let passed : hole.place + hole.width ≤ c.args.self.now.cursor.at = omega (arith, end, at, c.if-end-at.false) in
    let permitted : In c.end_opened-hole.result.leaf.now.set c.end_opened-hole.result.number = (e.least c.end_opened-hole.result.leaf.now.set e.some.0 e.some.1).answers.permitted in
    let plain = to_z-of_z w128 c.end_opened-hole.result.number (record { sfits = search rules }) in
    (search rules, (e.fine, (subst (λ (z : ℤ). In c.end_opened-hole.result.leaf.now.set z) (sym plain) permitted, (e.width, passed))))

pub returns-else-end-at-clause-ran : goal.returns-else-end-at-clause-ran
returns-else-end-at-clause-ran g c =
    let e = c.end_opened-hole.ensures in
    let hole = c.end_opened-hole.result.hole in
    let told = c.in-Some.ensures in
    let end = same_end (gap_at c.args.self.now.slots.table c.args.slot) told.0 hole c.in-Some.end told.1 told.2 e.hole in
    let at = c.at.ensures in
    let passed : hole.place + hole.width ≤ c.args.self.now.cursor.at = omega (arith, end, at, c.if-end-at.false) in
    let b = sym c.is_begun.ensures ∙ c.if-not-is_begun.false in
    let leaf = c.end_opened-hole.result.leaf.now in
    let plain = to_z-of_z w128 c.end_opened-hole.result.number (record { sfits = search rules }) in
    let f = subst (λ (z : ℤ). Fills (Code Written leaf z) hole.place c.args.self.now.cursor c.fill_num.new.cur) plain c.fill_num.ensures in
    slot_filled c.args.self.now _ c.args.slot hole leaf c.end_opened-hole.result.number e.some.0 b e.hole e.leaf e.width passed e.some.1 e.least e.fine f e.ended e.leaves refl

pub returns-in-None-clause-ran : goal.returns-in-None-clause-ran
returns-in-None-clause-ran g c = slot_ended c.args.self.now _ c.args.slot (sym c.is_begun.ensures ∙ c.if-not-is_begun.false) c.in-None.ensures c.end_noted.ensures.ended c.end_noted.ensures.leaves refl refl
