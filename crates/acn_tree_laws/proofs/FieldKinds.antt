-- The chain of an inserted field ends at a type that may stand there, where the name that it has as its type fits.
use Rattle.std.proofs.Common.{◌≡◌, ℕ, true, Option, Some, None, refl}
use Rattle.std.specs.Prelude.{option_map, option_and_then}
use Rattle.std.specs.List.{AllByRecursion}
use Rattle.acn_acn_syntax.specs.declared.modules.FieldKind.{FieldKind}
use Rattle.acn_acn_syntax.specs.declared.modules.FieldKind.TheVariants as kind
use Rattle.acn_index.specs.Chains.{base_part, Link, assigned_link, links_within, links, base_link, base_of, next_link, ChainOf, chain_of}
use Rattle.acn_index.specs.Lookup.{type_named}
use Rattle.acn_index.specs.World.{World}
use Rattle.acn_mentions.specs.Mentions.{kind_mentions}
use Rattle.acn_slots.specs.Slots.{default_of, kind_chain}
use Rattle.acn_world.specs.Cycles.{fits_field, base_fits}
use Rattle.acn_tree_laws.proofs.Braces.{MentionFits}

module _ (w : World) where
  named_fits : (o : Option Link) (d : ChainOf) → base_fits w fits_field o ≡ true → fits_field (base_part (default_of (option_map (chain_of w) o) d).base) ≡ true
  unfolding base_of base_link chain_of
  named_fits None d h = cc
  named_fits (Some l) d h = h

  pub kind_fits : (k : ℕ) (x : FieldKind) → AllByRecursion (MentionFits w k) (kind_mentions x) → fits_field (base_part (kind_chain w k x).base) ≡ true
  unfolding chain_of links links_within next_link
  kind_fits k kind.Integer h = refl
  kind_fits k kind.Boolean h = refl
  kind_fits k kind.Null h = refl
  kind_fits k (kind.Ref name) h = named_fits (option_and_then (assigned_link w) (type_named w k None name)) _ h.0
