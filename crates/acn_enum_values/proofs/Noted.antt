-- What a map of names answers, which were noted with their places in the list.
use Rattle.std.proofs.Common.{◌≡◌, ℕ, ◌+◌, Bool, true, false, List, [], ◌∷◌, Option, Some, refl, ap, ◌∙◌}
use Rattle.std.specs.Prelude.{is_some, cond, ◌||◌}
use Rattle.std.specs.Str.{bytes_eq}
use Rattle.acn_num.specs.Names.{Name}
use Rattle.acn_firsts.specs.Placed.{place_of}
use Rattle.acn_written.specs.Items.{Numbered}
use Rattle.acn_written.specs.View.{placed}
use Rattle.acn_enum_values.specs.EnumValues.{has_number}

first : (b : Bool) (i : ℕ) (o : Option ℕ) → is_some (cond b (Some i) o) ≡ (b || is_some o)
first true i o = refl
first false i o = refl

noted : (i : ℕ) (given : List Numbered) (name : Name) → is_some (place_of name (placed i given)) ≡ has_number given name
unfolding place_of
noted i [] name = refl
noted i (g ∷ given) name = first (bytes_eq name g.0) i (place_of name (placed (i + 1) given)) ∙ ap (λ b. bytes_eq name g.0 || b) (noted (i + 1) given name)

pub name_noted : (given : List Numbered) (name : Name) (o : Option ℕ) → o ≡ place_of name (placed 0 given) → is_some o ≡ has_number given name
name_noted given name o e = ap is_some e ∙ noted 0 given name
