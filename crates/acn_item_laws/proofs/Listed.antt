-- The enumerations at the sites of a sound world have items that they can have.
use Rattle.std.proofs.Common.{◌≡◌, ℕ, List, [], ◌∷◌, sym, ap, ◌∙◌}
use Rattle.std.specs.List.{AllByRecursion}
use Rattle.acn_asn_syntax.specs.Mirror.{AsnType, AsnBase, boolean, null, integer, enumerated, octet_string, bit_string, ia5_string, sequence, sequence_of, sequence_size, choice, reference}
use Rattle.acn_index.specs.Chains.{base_part}
use Rattle.acn_index.specs.World.{World}
use Rattle.acn_leaf_laws.specs.Laws.{HasItems}
use Rattle.acn_leaf_laws.proofs.Repeats.{names_differ}
use Rattle.acn_names.specs.Standing.{Stands}
use Rattle.acn_sites.specs.Sites.{Placed, base_of}
use Rattle.acn_world.specs.Faults.{IsSound}
use Rattle.acn_world.specs.Repeated.{twice_base}
use Rattle.acn_item_laws.specs.Laws.{BaseStands, in_text, own, EnumerationsAreListed}
use Rattle.acn_item_laws.proofs.Once.{stands_once, base_repeats_none}

module _ (w : World) (sound : IsSound w) (listed : EnumerationsAreListed w) where
  items_stand : (k : ℕ) (t : AsnType) → Stands w k t → (b : AsnBase) → base_part t ≡ b → HasItems b
  items_stand k t s boolean e = tt
  items_stand k t s null e = tt
  items_stand k t s (integer ns) e = tt
  items_stand k t s (enumerated items) e =
      let l = listed k t items s e in
      record { some = l.0; few = l.1; differ = names_differ items (ap twice_base (sym e) ∙ base_repeats_none t (stands_once w k sound s)) }
  items_stand k t s octet_string e = tt
  items_stand k t s bit_string e = tt
  items_stand k t s ia5_string e = tt
  items_stand k t s (sequence cs) e = tt
  items_stand k t s (sequence_of u) e = tt
  items_stand k t s (sequence_size c u) e = tt
  items_stand k t s (choice more) e = tt
  items_stand k t s (reference from name) e = tt

  own_items : (b : AsnBase) → BaseStands w b → HasItems b
  own_items b (in_text k t s e) = items_stand k t s b e
  own_items boolean (own h) = tt
  own_items null (own h) = tt
  own_items (integer ns) (own h) = tt
  own_items (enumerated items) (own h) = cc
  own_items octet_string (own h) = tt
  own_items bit_string (own h) = tt
  own_items ia5_string (own h) = tt
  own_items (sequence cs) (own h) = tt
  own_items (sequence_of u) (own h) = tt
  own_items (sequence_size c u) (own h) = tt
  own_items (choice more) (own h) = tt
  own_items (reference from name) (own h) = tt

  pub all_have_items : (ps : List Placed) → AllByRecursion (λ (p : Placed). BaseStands w (base_of p.site)) ps → AllByRecursion (λ (p : Placed). HasItems (base_of p.site)) ps
  all_have_items [] h = tt
  all_have_items (p ∷ ps) h = (own_items (base_of p.site) h.0, all_have_items ps h.1)
