-- The names of items, by the place of each.
use Rattle.std.proofs.Common.{◌≡◌, ℕ, ℤ, Bool, true, false, ◌||◌, List, [], ◌∷◌, map, cond, Some, refl, sym, ap, ◌∙◌}
use Rattle.std.specs.Prelude.{is_some}
use Rattle.std.specs.Cmp.{both_ways}
use Rattle.std.specs.Str.{bytes_eq}
use Rattle.std.proofs.lemmas.Slice.Eq.{bytes_eq-Decides}
use Rattle.acn_firsts.specs.Placed.{place_of}
use Rattle.acn_grammar.specs.Asks.{same_name}
use Rattle.acn_well_formed.proofs.Listed.{same_refl}
use Rattle.acn_check.specs.First.{is_item}
use Rattle.acn_grammar.proofs.Characters.{same_name-is}

same_bytes : (a b : List ℕ) → bytes_eq a b ≡ same_name a b
same_bytes a b = both_ways (bytes_eq a b) (same_name a b)
    (λ h. ap (same_name a) (sym ((bytes_eq-Decides a b).0 h)) ∙ same_refl a)
    (λ h. (bytes_eq-Decides a b).1 (same_name-is a b h))

pub placed : (name : List ℕ) (items : List (List ℕ × ℤ)) → is_some (place_of name (map (λ (item : List ℕ × ℤ). (item.0, 0)) items)) ≡ is_item items name
unfolding place_of
placed name [] = refl
placed name (item ∷ items) = placed_case (bytes_eq name item.0) refl (placed name items)
  where
    placed_case : (b : Bool) → bytes_eq name item.0 ≡ b → is_some (place_of name (map (λ (i : List ℕ × ℤ). (i.0, 0)) items)) ≡ is_item items name
        → is_some (cond b (Some 0) (place_of name (map (λ (i : List ℕ × ℤ). (i.0, 0)) items))) ≡ (same_name name item.0 || is_item items name)
    placed_case true e h = rw (sym (same_bytes name item.0) ∙ e) refl
    placed_case false e h = rw (sym (same_bytes name item.0) ∙ e) h
