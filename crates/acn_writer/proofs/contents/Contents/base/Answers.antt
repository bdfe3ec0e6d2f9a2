use Rattle.std.proofs.Common.{◌-◌, length, sym, ap, ◌∙◌, arith}
use Rattle.acn_events.specs.Event.{base_of}
use Rattle.acn_writer.specs.Contents.{are_sized, frames_of}
use Rattle.acn_writer.proofs.FrameLists.{at_end, no_opening}
use Rattle.acn_writer.proofs.contents.Contents.base.Goals as goal

pub returns : goal.returns
returns g c =
    let xs = c.as_slice-openings.result.now in
    let gs = c.self.inside.holes in
    let same = c.as_slice-openings.ensures.value in
    let e = at_end xs gs (length xs - 1) no_opening (omega (arith, c.if-count-eq0.false)) (c.self.invariant ∙ ap are_sized (sym same)) in
    sym (ap base_of e.1) ∙ (ap (λ z. base_of (frames_of z gs)) same ∙ ap base_of c.self.view_is)
