-- An item is among those that were noted.
use Rattle.std.proofs.Common.{◌≡◌, ℕ, Bool, true, false, List, [], ◌∷◌, Option, Some, refl, ap, ◌∙◌}
use Rattle.std.specs.Prelude.{is_some, cond, ◌||◌}
use Rattle.std.specs.Str.{bytes_eq}
use Rattle.acn_num.specs.Names.{Name}
use Rattle.acn_asn_syntax.specs.declared.types.Item.{Item}
use Rattle.acn_firsts.specs.Placed.{place_of}
use Rattle.acn_reasons.specs.Braced.{is_item}
use Rattle.acn_reasons.specs.Named.{noted_items}

first : (b : Bool) (o : Option ℕ) → is_some (cond b (Some 0) o) ≡ (b || is_some o)
first true o = refl
first false o = refl

pub noted_is_item : (items : List Item) (name : Name) → is_some (place_of name (noted_items items)) ≡ is_item items name
unfolding place_of
noted_is_item [] name = refl
noted_is_item (i ∷ items) name = first (bytes_eq name i.name) (place_of name (noted_items items)) ∙ ap (λ b. bytes_eq name i.name || b) (noted_is_item items name)

pub item_is_noted : (items : List Item) (name : Name) (o : Option ℕ) → o ≡ place_of name (noted_items items) → is_some o ≡ is_item items name
item_is_noted items name o e = ap is_some e ∙ noted_is_item items name
