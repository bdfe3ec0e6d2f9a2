use Rattle.std.proofs.Common.{rules, ◌-◌, length, Some, sym, ap, ◌∙◌, arith}
use Rattle.acn_events.specs.Steps.{gap_of}
use Rattle.acn_writer.specs.Contents.{are_sized, frames_of}
use Rattle.acn_writer.proofs.FrameLists.{at_end, no_opening, with_gap, without_gap}
use Rattle.acn_writer.proofs.LeafLists.{same_some}
use Rattle.acn_writer.proofs.contents.Contents.hole.Goals as goal

pub shown-requires : goal.shown-requires
shown-requires g c =
    let xs = c.as_slice-openings.result.now in
    let gs = c.self.inside.holes in
    let same = c.as_slice-openings.ensures.value in
    let e = at_end xs gs (length xs - 1) no_opening (omega (arith, c.if-count-eq0.false)) (c.self.invariant ∙ ap are_sized (sym same)) in
    let g = with_gap e.0.gap (e.0.sized ∙ c.if-openings-count.true) in
    (search rules, (g.0, e.0.hole ∙ ap Some g.1))

pub returns-then-openings-count : goal.returns-then-openings-count
returns-then-openings-count g c =
    let xs = c.as_slice-openings.result.now in
    let gs = c.self.inside.holes in
    let same = c.as_slice-openings.ensures.value in
    let e = at_end xs gs (length xs - 1) no_opening (omega (arith, c.if-count-eq0.false)) (c.self.invariant ∙ ap are_sized (sym same)) in
    ap gap_of (sym c.self.view_is) ∙ (ap (λ z. gap_of (frames_of z gs)) (sym same) ∙ (ap gap_of e.1 ∙ same_some (sym e.0.hole ∙ c.shown.ensures)))

pub returns : goal.returns
returns g c =
    let xs = c.as_slice-openings.result.now in
    let gs = c.self.inside.holes in
    let same = c.as_slice-openings.ensures.value in
    let e = at_end xs gs (length xs - 1) no_opening (omega (arith, c.if-count-eq0.false)) (c.self.invariant ∙ ap are_sized (sym same)) in
    ap gap_of (sym c.self.view_is) ∙ (ap (λ z. gap_of (frames_of z gs)) (sym same) ∙ (ap gap_of e.1 ∙ without_gap e.0.gap (e.0.sized ∙ c.if-openings-count.false)))
