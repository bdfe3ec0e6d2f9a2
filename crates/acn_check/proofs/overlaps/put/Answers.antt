use mir.Syntax.{w128}
use mir.Val.{to_z, of_z}
use Rattle.std.proofs.lemmas.Int.{ints}
use Rattle.std.proofs.Common.{arith, ◌≡◌, List, ℕ, ℤ, Bool, Option, Some, None, sym, ap, ◌∙◌}
use Rattle.std.specs.Prelude.{option_map}
use Rattle.std.specs.Ordering.{int_eq}
use Rattle.std.specs.List.{insert}
use Rattle.acn_check.specs.First.{number_at, place_of}
use Rattle.acn_check.proofs.Puts.{put_agrees, put_fresh}
use Rattle.acn_check.proofs.overlaps.put.Goals as goal

at_place : (s : ℕ) (x : ℤ) (es l l' : List (ℕ × ℤ)) (place : ℕ) (o : Option Bool) → l ≡ es → l' ≡ es → place ≡ place_of s l → o ≡ option_map (int_eq x) (number_at s place l') → option_map (int_eq x) (number_at s (place_of s es) es) ≡ o
at_place s x es l l' place o e e' p h = (let q : place ≡ place_of s es = p ∙ ap (place_of s) e in sym (h ∙ (ap (λ k. option_map (int_eq x) (number_at s k l')) q ∙ ap (λ k. option_map (int_eq x) (number_at s (place_of s es) k)) e')))

pub returns-in-Some : goal.returns-in-Some
returns-in-Some c =
    put_agrees c.args.asked.now.slot c.args.asked.now.number c.args.values.now.items c.in-Some.agrees
    (at_place c.args.asked.now.slot c.args.asked.now.number c.args.values.now.items c.deref.result.now c.deref-2.result.now c.place_of-place.result (Some c.in-Some.agrees) c.deref.ensures.value c.deref-2.ensures.value c.place_of-place.ensures.value c.in-Some.ensures)

pub returns-in_ok-insert-in-None : goal.returns-in_ok-insert-in-None
returns-in_ok-insert-in-None c =
    let s = c.args.asked.now.slot in
    let x = c.args.asked.now.number in
    let es = c.args.values.now.items in
    let place : c.place_of-place.result ≡ place_of s es = c.place_of-place.ensures.value ∙ ap (place_of s) c.deref.ensures.value in
    let plain : to_z w128 (of_z w128 x) ≡ x = omega (arith, ints) in
    put_fresh s x es (at_place s x es c.deref.result.now c.deref-2.result.now c.place_of-place.result None c.deref.ensures.value c.deref-2.ensures.value c.place_of-place.ensures.value c.in-None.ensures)
    ∙ ap Some (sym (c.in_ok-insert-in-None.ensures.items ∙ (ap (λ k. insert es k (s, to_z w128 (of_z w128 x))) place ∙ ap (λ n. insert es (place_of s es) (s, n)) plain)))
