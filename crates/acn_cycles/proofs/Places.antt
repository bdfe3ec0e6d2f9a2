-- The numbers of assignments count the places.
use Rattle.std.proofs.Common.{◌≡◌, ℕ, zero, suc, ◌+◌, ◌<◌, ◌≤◌, List, [], ◌∷◌, length, get_or, map, refl, sym, ap, subst, ◌∙◌, arith, inl, inr, length-append}
use Rattle.std.specs.Prelude.{Option, Some, None, slice_get, flat_map, option_and_then}
use Rattle.std.proofs.lemmas.Option.{slice_get_within}
use Rattle.std.specs.List.{enumerate_from}
use Rattle.acn_asn_syntax.specs.Mirror.{AsnModule, Assign}
use Rattle.acn_index.specs.World.{World, place, assignment, module_places, places, count, IsSmall}
use Rattle.acn_index.specs.declared.sources.TypeId.{TypeId}
use Rattle.acn_cycles.specs.Numbers.{starts_from, starts, number_in, AreSmall}
use Rattle.acn_cycles.proofs.Lists.{got_left, got_right, got_either}

abbrev items_from : ℕ → ℕ → List Assign → List TypeId
items_from j i items = map (λ (a : ℕ × Assign). place j a.0) (enumerate_from i items)

abbrev places_from : ℕ → List AsnModule → List TypeId
places_from j ms = flat_map module_places (enumerate_from j ms)

item_got : (j i : ℕ) (items : List Assign) (n : ℕ) (p : TypeId) → slice_get (items_from j i items) n ≡ Some p → p ≡ place j (i + n)
item_got j i [] n p e = absurd (cc e)
item_got j i (a ∷ items) zero p e = let here : place j i ≡ p = cc e in let same : i ≡ i + zero = omega arith in sym here ∙ ap (place j) same
item_got j i (a ∷ items) (suc n) p e = let same : (i + 1) + n ≡ i + suc n = omega arith in item_got j (i + 1) items n p e ∙ ap (place j) same

item_has : (j i : ℕ) (items : List Assign) (n : ℕ) → n < length items → slice_get (items_from j i items) n ≡ Some (place j (i + n))
item_has j i [] n lt = absurd (omega arith)
item_has j i (a ∷ items) zero lt = let same : i ≡ i + zero = omega arith in ap (λ (k : ℕ). Some (place j k)) same
item_has j i (a ∷ items) (suc n) lt = let same : (i + 1) + n ≡ i + suc n = omega arith in item_has j (i + 1) items n (omega arith) ∙ ap (λ (k : ℕ). Some (place j k)) same

item_count : (j i : ℕ) (items : List Assign) → length (items_from j i items) ≡ length items
item_count j i [] = refl
item_count j i (a ∷ items) = ap suc (item_count j (i + 1) items)

-- the assignment that stands at a place has its number
back : (ms : List AsnModule) (j s n : ℕ) (p : TypeId) → slice_get (places_from j ms) n ≡ Some p
    → (k : ℕ) × (p.module ≡ j + k) × (get_or (starts_from s ms) k 0 + p.item ≡ s + n)
back [] j s n p e = absurd (cc e)
back (m ∷ ms) j s n p e = elim (got_either (module_places (j, m)) (places_from (j + 1) ms) n p e) [
  | inl h ↦
      let is = item_got j 0 m.items n p h in
      let of : p.module ≡ j = ap (λ (q : TypeId). q.module) is in
      let nth : p.item ≡ 0 + n = ap (λ (q : TypeId). q.item) is in
      (zero, (let a = of in omega arith), (let b = nth in omega arith))
  | inr h ↦
      let rest = back ms (j + 1) (s + length m.items) h.0 p h.2 in
      let size = item_count j 0 m.items in
      (suc rest.0, (let a = rest.1 in omega arith), (let b = rest.2 in let c = h.1 in omega arith))
]

-- each assignment stands at a place
located : (ms : List AsnModule) (j k i : ℕ) (m : AsnModule) → slice_get ms k ≡ Some m → i < length m.items
    → (n : ℕ) × (slice_get (places_from j ms) n ≡ Some (place (j + k) i))
located [] j k i m e lt = absurd (cc e)
located (x ∷ ms) j zero i m e lt =
    let same : x ≡ m = cc e in
    let lt_x : i < length x.items = subst (λ (y : AsnModule). i < length y.items) (sym same) lt in
    let at_j : j ≡ j + zero = omega arith in
    let at_i : 0 + i ≡ i = omega arith in
    (i, got_left (module_places (j, x)) (places_from (j + 1) ms) i (place j (0 + i)) (item_has j 0 x.items i lt_x) ∙ (ap (λ (y : ℕ). Some (place j y)) at_i ∙ ap (λ (y : ℕ). Some (place y i)) at_j))
located (x ∷ ms) j (suc k) i m e lt =
    let rest = located ms (j + 1) k i m e lt in
    let size = item_count j 0 x.items in
    let on : (j + 1) + k ≡ j + suc k = omega arith in
    (length x.items + rest.0, got_right (module_places (j, x)) (places_from (j + 1) ms) rest.0 (length x.items + rest.0) (omega arith) ∙ (rest.1 ∙ ap (λ (y : ℕ). Some (place y i)) on))

pub number_of_place : (w : World) (n : ℕ) (p : TypeId) → slice_get (places w) n ≡ Some p → number_in (starts w) p ≡ n
unfolding places starts
number_of_place w n p e =
    let h = back w.modules 0 0 n p e in
    let k : p.module ≡ h.0 = (let a = h.1 in omega arith) in
    let at_k : get_or (starts_from 0 w.modules) p.module 0 ≡ get_or (starts_from 0 w.modules) h.0 0 = ap (λ (y : ℕ). get_or (starts_from 0 w.modules) y 0) k in
    let b = h.2 in omega arith

module_of : (w : World) (p : TypeId) (a : Assign) (o : Option AsnModule) → slice_get w.modules p.module ≡ o → option_and_then (λ (m : AsnModule). slice_get m.items p.item) o ≡ Some a
    → (m : AsnModule) × (slice_get w.modules p.module ≡ Some m) × (p.item < length m.items)
module_of w p a None e f = absurd (cc f)
module_of w p a (Some m) e f = (m, e, slice_get_within m.items p.item a f)

pub place_of_number : (w : World) (p : TypeId) (a : Assign) → assignment w p ≡ Some a → slice_get (places w) (number_in (starts w) p) ≡ Some p
unfolding assignment places
place_of_number w p a e =
    let m = module_of w p a (slice_get w.modules p.module) refl e in
    let at_n = located w.modules 0 p.module p.item m.0 m.1 m.2 in
    let zero_on : 0 + p.module ≡ p.module = omega arith in
    let there : slice_get (places w) at_n.0 ≡ Some p = at_n.1 ∙ ap (λ (y : ℕ). Some (place y p.item)) zero_on in
    let number = number_of_place w at_n.0 p there in
    ap (slice_get (places w)) number ∙ there

-- ---- numbers of 32 bits

start_bounded : (ms : List AsnModule) (s k : ℕ) → get_or (starts_from s ms) k 0 ≤ s + length (flat_map (λ (m : AsnModule). m.items) ms)
start_bounded [] s k = omega arith
start_bounded (m ∷ ms) s zero = omega arith
start_bounded (m ∷ ms) s (suc k) = let h = start_bounded ms (s + length m.items) k in let a = length-append m.items (flat_map (λ (m : AsnModule). m.items) ms) in omega arith

pub small_starts : (w : World) → IsSmall w → AreSmall (starts w)
unfolding count starts
small_starts w small = λ k. let h = start_bounded w.modules 0 k in omega arith

pub small_items : (w : World) → IsSmall w → length (flat_map (λ (m : AsnModule). m.items) w.modules) < 4294967296
unfolding count
small_items w small = omega arith
