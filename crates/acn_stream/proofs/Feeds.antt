-- Lines that are in hand.
use Rattle.std.proofs.Common.{◌≡◌, ℕ, ◌+◌, ◌≤◌, List, [], ◌∷◌, length, take, drop, Option, Some, None, Err, subst, sym, ap, ◌∙◌, arith, length-append, append-nil}
use Rattle.std.specs.Prelude.{IfSome}
use Rattle.memchr.specs.Find.{IsFirstByte, is_byte}
use Rattle.acn_stream.specs.Passing.{IsFeed, fault_at, told}
use Rattle.acn_stream.specs.declared.encode.Way.{Way}
use Rattle.acn_stream.specs.declared.encode.Way.TheVariants as way
use Rattle.acn_stream.specs.declared.lines.LineFault.{LineFault}
use Rattle.acn_stream.specs.declared.lines.LineFault.TheVariants.{Bad, Unfit, NoMemory}
use Rattle.acn_stream.specs.declared.stream_fault.StreamFault.{StreamFault}
use Rattle.acn_stream.specs.declared.stream_fault.StreamFault.TheVariants as stream
use Rattle.acn_supply.specs.Cutting.{IsEnded}
use Rattle.acn_supply.specs.Reading.{Supplied}
use Rattle.acn_supply.specs.declared.window.TheConstants.{MOST_IN_HAND}
use Rattle.acn_supply.proofs.Moving.{takes_nothing}
use Rattle.acn_supply.proofs.Pieces.{one_below, cut_there}

-- the first line feed
pub feed_found : (bytes : List ℕ) (r : Option ℕ) → IsFirstByte (is_byte 10) bytes r → IfSome r (IsFeed bytes)
feed_found bytes None h = tt
feed_found bytes (Some at) h = record { inside = h.0.high; one = one_below bytes at (λ j less. h.0.before j (omega arith) less); cut = cut_there bytes at h.0.high h.1 }

-- the line in front of it
pub ended_here : (before after : Supplied) (i : Option (List ℕ)) (at : ℕ) → IsFeed before.hand at → length before.hand ≤ MOST_IN_HAND → after ≡ record { hand = drop (at + 1) before.hand; left = before.left } → IsEnded before after i i (take at before.hand)
ended_here before after i at feed near same =
    let line = take at before.hand in
    let behind = drop (at + 1) before.hand in
    let long = ap length feed.cut ∙ length-append line (10 ∷ behind) in
    subst (λ s. IsEnded before s i i line) (sym same) (record {
      given = [];
      gets = record { taken = takes_nothing i; counted = omega arith };
      cut = append-nil before.hand ∙ feed.cut;
      one = feed.one;
      few = omega (arith, long, near);
      near = omega (arith, long, near);
    })

-- its fault isn't one of the input
at_line : (number : ℕ) (why : LineFault) → fault_at number why ≡ stream.InputFault → ⊥
at_line number (Bad bad) e = cc
at_line number (Unfit unfit) e = cc
at_line number NoMemory e = cc

failed_with : (fault : StreamFault) → told way.Failed fault ≡ Some (Err stream.InputFault) → fault ≡ stream.InputFault
failed_with fault h = cc

pub no_input_fault : (w : Way) (fault : StreamFault) (number : ℕ) (why : LineFault) → w ≡ way.Failed → fault ≡ fault_at number why → told w fault ≡ Some (Err stream.InputFault) → ⊥
no_input_fault w fault number why e is h = at_line number why (sym is ∙ failed_with fault (subst (λ x. told x fault ≡ Some (Err stream.InputFault)) e h))
