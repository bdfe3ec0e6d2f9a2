-- Contents that aren't ended, as they are kept: their starts and the holes for their sizes, the
-- outermost first.
use Rattle.std.specs.Prelude.{ℕ, Bool, List, [], ◌∷◌, Option}
use Rattle.acn_bits.specs.Overwrite.{Gap}
use Rattle.acn_events.specs.Event.{Frame}
use Rattle.acn_writer.specs.declared.frame.Opening.{Opening}

-- a hole by the number of its first bit and its width
abbrev pub gap_shown : ℕ × ℕ → Gap
gap_shown g = record { place = g.0; width = g.1 }

-- the frames, the innermost first, before others
abbrev pub frames_before : List Frame → List Opening → List (Option Gap) → List Frame
frames_before done [] gaps = done
frames_before done (o ∷ os) [] = done
frames_before done (o ∷ os) (g ∷ gs) = frames_before (record { base = o.base; gap = g } ∷ done) os gs

abbrev pub frames_of : List Opening → List (Option Gap) → List Frame
frames_of os gaps = frames_before [] os gaps

-- which of them have a hole
abbrev pub are_sized : List Opening → List Bool
are_sized [] = []
are_sized (o ∷ os) = o.sized ∷ are_sized os
