-- Names that were seen in turn, and the map that looks them up.
use Rattle.std.proofs.Common.{◌≡◌, ℕ, List, [], ◌∷◌, ◌++◌, is_some, true, false, refl, ap, ◌∙◌, cond, Bool, Option, Some, None}
use Rattle.std.specs.Prelude.{map, ◌||◌}
use Rattle.std.specs.Str.{bytes_eq}
use Rattle.acn_firsts.specs.Placed.{place_of, noted, noted_all, noted_at}
use Rattle.acn_num.specs.Names.{Name}
use Rattle.acn_world.specs.Repeated.{is_among}

-- one name more
pub noted_more : (es : List (Name × ℕ)) (names : List Name) (name : Name) → noted_at es (names ++ name ∷ []) 0 ≡ noted (noted_at es names 0) name 0
unfolding noted_all
noted_more es [] name = refl
noted_more es (n ∷ names) name = noted_more (noted es n 0) names name

there : (b : Bool) (x : Option ℕ) → is_some (cond b (Some 0) x) ≡ (b || is_some x)
there true x = refl
there false x = refl

pub found : (q : Name) (names : List Name) → is_some (place_of q (map (λ (n : Name). (n, 0)) names)) ≡ is_among q names
unfolding place_of
found q [] = refl
found q (n ∷ names) = there (bytes_eq q n) (place_of q (map (λ (n : Name). (n, 0)) names)) ∙ ap (λ b. bytes_eq q n || b) (found q names)
