-- What stands behind a writer, where what is begun is ended behind a halt.
use Rattle.std.proofs.Common.{◌≡◌, ℕ, zero, suc, ◌+◌, ◌-◌, ◌≤◌, Bool, true, false, List, [], ◌∷◌, ◌++◌, length, take, drop, Some, nat_eq, refl, sym, ap, ◌∙◌, arith}
use Rattle.std.proofs.lemmas.Bool.{eqb-true}
use Rattle.std.proofs.Math.Seq.{drop-append-add}
use Rattle.acn_num.specs.Bits.{bits, low_bits}
use Rattle.acn_num.proofs.BitLists.{length-low_bits}
use Rattle.acn_bits.specs.Overwrite.{Gap, overwritten}
use Rattle.acn_bits.specs.Writing.{Writes, place_of}
use Rattle.acn_bits.specs.declared.write_cursor.WriteCursor.{WriteCursor}
use Rattle.acn_fill.specs.Table.{Table, begun}
use Rattle.acn_events.specs.Event.{Frame}
use Rattle.acn_events.specs.Laws.{AllPassed}
use Rattle.acn_events.specs.Steps.{Ends, gap_of}
use Rattle.acn_writer.specs.Ending.{KeepsBehind, SlotsPassed}
use Rattle.acn_writer.proofs.LeafLists.{truth}
use Rattle.acn_writer.proofs.Puts.{take_long}

-- What stands behind the writer.

pub behind_still : {N : ℕ} (w : WriteCursor N) → KeepsBehind w w
behind_still w = record { behind = refl; place = refl; same_buffer = refl }

pub behind_then : {N : ℕ} (a b c : WriteCursor N) → KeepsBehind a b → KeepsBehind b c → KeepsBehind a c
behind_then a b c x y = record { behind = y.behind ∙ x.behind; place = y.place ∙ x.place; same_buffer = y.same_buffer ∙ x.same_buffer }

drop_none : (n : ℕ) (xs : List Bool) → xs ≡ [] → drop n xs ≡ []
drop_none zero xs e = e
drop_none (suc n) [] e = refl
drop_none (suc n) (x ∷ xs) e = cc

drop_more : (r k : ℕ) (xs : List Bool) → drop r (drop k xs) ≡ drop (k + r) xs
drop_more r zero xs = (let e : r ≡ 0 + r = omega arith in ap (λ (j : ℕ). drop j xs) e)
drop_more r (suc k) [] = drop_none r [] refl ∙ sym (drop_none (suc k + r) [] refl)
drop_more r (suc k) (x ∷ xs) = (let e : suc (k + r) ≡ suc k + r = omega arith in drop_more r k xs ∙ ap (λ (j : ℕ). drop j (x ∷ xs)) e)

drop_over : (all piece : List Bool) (at p : ℕ) → at + length piece ≤ length all → at + length piece ≤ p → drop p (overwritten all at piece) ≡ drop p all
drop_over all piece at p inside passed =
    let j = at + length piece in
    let r = p - j in
    let front = take_long at all (omega (arith, inside)) in
    let here : p ≡ length (take at all) + (length piece + r) = omega (arith, front, passed) in
    let there : j + r ≡ p = omega (arith, passed) in
    ap (λ (k : ℕ). drop k (overwritten all at piece)) here
    ∙ (drop-append-add (take at all) (piece ++ drop j all) (length piece + r) ∙ (drop-append-add piece (drop j all) r ∙ (drop_more r j all ∙ ap (λ (k : ℕ). drop k all) there)))

pub behind_filled : {N : ℕ} (old new : WriteCursor N) (at w v : ℕ) → Writes old new at (low_bits w v) (place_of old) → at + w ≤ place_of old → KeepsBehind old new
behind_filled old new at w v x passed =
    let long = length-low_bits w v in
    record {
      behind = ap (λ (k : ℕ). drop k (bits new.buf.now)) x.moved ∙ (ap (drop (place_of old)) x.changed ∙ drop_over (bits old.buf.now) (low_bits w v) at (place_of old) x.within (omega (arith, long, passed)));
      place = x.moved;
      same_buffer = x.same_buffer;
    }

-- Slots that are ended.

pub slots_passed : (s : ℕ) (old new : Table) (p : ℕ) → Ends s old new → SlotsPassed old p → SlotsPassed new p
slots_passed s old new p e passed t g b is = truth {F = g.place + g.width ≤ p} (nat_eq t s)
    (λ y. never (sym b ∙ (ap (begun new) (eqb-true t s y) ∙ e.ended)))
    (λ y. let r = e.rest t y in let was = sym r.begun_as ∙ b in passed t g was (sym (r.gap_as was) ∙ is))
  where
    never : {F : Type 0} → true ≡ false → F
    never e = cc

-- Contents that are ended.

pub gap_passed : (fs : List Frame) (p : ℕ) (g : Gap) → AllPassed fs p → gap_of fs ≡ Some g → g.place + g.width ≤ p
gap_passed [] p g all e = cc
gap_passed (f ∷ fs) p g all e = all.0 g e
