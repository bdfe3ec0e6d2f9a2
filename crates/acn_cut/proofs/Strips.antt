-- Bits that were taken at once.
use Rattle.std.proofs.Common.{◌≡◌, ℕ, ◌+◌, ◌*◌, ◌-◌, ◌/◌, ◌%◌, ◌^◌, ◌<◌, ◌≤◌, List, Bool, length, take, drop, arith, sym, ap, ◌∙◌}
use Rattle.std.proofs.Math.Nat.{pow-le-pow_right}
use Rattle.std.proofs.lemmas.List.{length-drop, length-take-le, take-take}
use Rattle.acn_num.specs.Bits.{number}
use Rattle.acn_num.proofs.BitLists.{number-take, number-drop, take-drop}
use Rattle.acn_bits.specs.Reading.{Reading, passed}
use Rattle.acn_cut.specs.Stretches.{IsStrip}
use Rattle.acn_cut.specs.declared.strip.Strip.{Strip}

-- what a set bit is worth
unit : (n : ℕ) → n < 64 → 1 * 2 ^ n % 18446744073709551616 ≡ 2 ^ n
unit n few =
    let room = pow-le-pow_right {n = 2} (omega arith) {i = n} {j = 63} (omega arith) in
    omega (arith, room)

behind : (w n left : ℕ) → w ≤ n → left ≡ n - w → w + left ≡ n
behind w n left h e = omega (arith, h, e)

next_bits : (w n left : ℕ) (xs : List Bool) → w ≤ n → left ≡ n - w → take left (drop w xs) ≡ drop w (take n xs)
next_bits w n left xs h e = take-drop w left xs ∙ ap (λ k. drop w (take k xs)) (behind w n left h e)

-- what is left of a strip
pub strip_left : (old new : Strip) (w : ℕ) (at : Reading) → 0 < w → w ≤ old.left → old.left ≤ 64 → new.left ≡ old.left - w → new.word ≡ old.word % (1 * 2 ^ (old.left - w) % 18446744073709551616) → IsStrip old at → IsStrip new (passed w at)
strip_left old new w at some h few left word s =
    let within = s.within in
    let l = length-drop w at.rest in
    let room : new.left ≤ length (drop w at.rest) = omega (arith, within, l, left, h) in
    record {
      within = room;
      spells = record {
        width = length-take-le new.left (drop w at.rest) room;
        value =
            ap number (next_bits w old.left new.left at.rest h left)
            ∙ (number-drop w (take old.left at.rest)
            ∙ (ap (λ k. number (take old.left at.rest) % 2 ^ (k - w)) s.spells.width
            ∙ (ap (λ k. k % 2 ^ (old.left - w)) s.spells.value
            ∙ (ap (λ k. old.word % k) (sym (unit (old.left - w) (omega (arith, some, few, h)))) ∙ sym word))));
      };
    }

-- the code that stands next
pub code_next : (old : Strip) (w : ℕ) (at : Reading) → 0 < w → w ≤ old.left → old.left ≤ 64 → IsStrip old at → old.word / (1 * 2 ^ (old.left - w) % 18446744073709551616) ≡ number (take w at.rest)
code_next old w at some h few s =
    let within = s.within in
    let long = s.spells.width in
    ap (λ k. old.word / k) (unit (old.left - w) (omega (arith, some, few, h)))
    ∙ (ap (λ k. k / 2 ^ (old.left - w)) (sym s.spells.value)
    ∙ (ap (λ k. number (take old.left at.rest) / 2 ^ (k - w)) (sym long)
    ∙ (sym (number-take w (take old.left at.rest) (omega (arith, long, h))) ∙ ap number (take-take w old.left at.rest h))))
