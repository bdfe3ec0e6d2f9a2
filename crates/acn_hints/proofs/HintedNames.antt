-- A name that stands at a place is among the names.
use Rattle.std.proofs.Common.{◌≡◌, ℕ, true, List, Option, Some, sym, ◌∙◌}
use Rattle.std.specs.Prelude.{map, option_map, slice_get}
use Rattle.std.specs.Str.{bytes_eq}
use Rattle.std.proofs.lemmas.Option.{slice_get-map}
use Rattle.std.proofs.lemmas.Map.Keys.{any_passes_from_place}
use Rattle.acn_num.specs.Names.{Name}
use Rattle.acn_hints.specs.Among.{is_named}

pub among_at : {T : Type 0} (name_of : T → Name) (name own : Name) (all : List T) (at : ℕ) → Some own ≡ option_map name_of (slice_get all at) → bytes_eq name own ≡ true → is_named name_of name all ≡ true
among_at name_of name own all at e h = any_passes_from_place (bytes_eq name) (map name_of all) at own (slice_get-map name_of all at ∙ sym e) h
