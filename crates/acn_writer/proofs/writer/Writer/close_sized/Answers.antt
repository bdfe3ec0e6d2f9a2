use Rattle.std.proofs.Common.{rules, ◌≡◌, ◌+◌, ◌-◌, ◌^◌, ◌<◌, ◌≤◌, ℕ, refl, sym, ap, ◌∙◌, subst, arith}
use Rattle.std.specs.Prelude.{option_map}
use Rattle.acn_bits.specs.Overwrite.{Gap}
use Rattle.acn_writer.specs.Contents.{gap_shown}
use Rattle.acn_writer.proofs.LeafLists.{same_some}
use Rattle.acn_writer.proofs.Frames.{closed_sized, sized_lost}
use Rattle.acn_writer.proofs.writer.Writer.close_sized.Goals as goal

pub returns-then-not-fits-clause-halted : goal.returns-then-not-fits-clause-halted
returns-then-not-fits-clause-halted g c sizing n is permitted =
    sized_lost c.args.self.now sizing c.args.low c.args.width c.args.octets n is c.requires _ c.tell-then-not-fits.ensures (λ s. (let f = s.fits permitted in let over = c.fits.ensures.no c.if-not-fits.true f.1 in let small = f.2 in omega (arith, over, small)))

pub returns-then-hole-width-clause-halted : goal.returns-then-hole-width-clause-halted
returns-then-hole-width-clause-halted g c sizing n is permitted =
    let shown = c.hole.ensures ∙ ap (option_map gap_shown) c.in-Some.is in
    sized_lost c.args.self.now sizing c.args.low c.args.width c.args.octets n is c.requires _ c.tell-then-hole-width.ensures (λ s. (let same = ap (λ (z : Gap). z.width) (same_some (sym s.is ∙ shown)) in let wide = s.wide in omega (arith, same, wide, c.if-hole-width.true)))

pub returns-then-not-is_passed-clause-halted : goal.returns-then-not-is_passed-clause-halted
returns-then-not-is_passed-clause-halted g c sizing n is permitted =
    let shown = c.hole.ensures ∙ ap (option_map gap_shown) c.in-Some.is in
    let late = c.is_passed.ensures.no c.if-not-is_passed.true in
    sized_lost c.args.self.now sizing c.args.low c.args.width c.args.octets n is c.requires _ c.tell-then-not-is_passed.ensures (λ s. (let same = ap (λ (z : Gap). z.place + z.width) (same_some (sym s.is ∙ shown)) in let passed = s.passed in omega (arith, same, passed, late)))

pub fill-requires : goal.fill-requires
fill-requires g c =
    let hole = c.leave-hole.result in
    let same = same_some (sym c.leave-hole.ensures.hole ∙ (c.hole.ensures ∙ ap (option_map gap_shown) c.in-Some.is)) in
    let end = ap (λ (z : Gap). z.place + z.width) same in
    let wide = ap (λ (z : Gap). z.width) same in
    let late = c.is_passed.ensures.yes c.if-not-is_passed.false in
    let width : c.args.width ≡ hole.width = omega (arith, wide, c.if-hole-width.false) in
    let fits = (c.fits.ensures.yes c.if-not-fits.false).1 in
    (search rules, (omega (arith, end, late), subst (λ (k : ℕ). c.args.octets - c.args.low < 2 ^ k) width fits))

pub returns-else-not-is_passed-clause-ran : goal.returns-else-not-is_passed-clause-ran
returns-else-not-is_passed-clause-ran g c sizing n is permitted =
    let hole = c.leave-hole.result in
    let same = same_some (sym c.leave-hole.ensures.hole ∙ (c.hole.ensures ∙ ap (option_map gap_shown) c.in-Some.is)) in
    let end = ap (λ (z : Gap). z.place + z.width) same in
    let wide = ap (λ (z : Gap). z.width) same in
    let late = c.is_passed.ensures.yes c.if-not-is_passed.false in
    let width : hole.width ≡ c.args.width = omega (arith, wide, c.if-hole-width.false) in
    let low : c.args.low ≤ c.args.octets = omega (arith, c.if-octets-low.false) in
    let fits = c.fits.ensures.yes c.if-not-fits.false in
    closed_sized c.args.self.now sizing c.args.low c.args.width c.args.octets n is c.requires _ hole permitted c.leave-hole.ensures.hole width (omega (arith, end, late)) (low, fits.0, fits.1) c.fill.ensures refl c.leave-hole.ensures.rest
