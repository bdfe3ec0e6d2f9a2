-- Mentions in the program's trees as plain data.
use Rattle.std.specs.Prelude.{Bool, List, map, Option, option_map}
use Rattle.std.specs.Borrow.{Bor}
use Rattle.acn_asn_syntax.specs.Mirror as plain
use Rattle.acn_asn_syntax.specs.View.{type_view, meet_view, part_view}
use Rattle.acn_asn_syntax.specs.declared.sets.Meet.{Meet}
use Rattle.acn_asn_syntax.specs.declared.sets.Part.{Part}
use Rattle.acn_asn_syntax.specs.declared.types.AsnType.{AsnType}
use Rattle.acn_mentions.specs.Mentions as spec
use Rattle.acn_mentions.specs.declared.mention.Mention.{Mention}
use Rattle.acn_mentions.specs.declared.mention.Mention.TheVariants as mention

abbrev pub governor_view : Option (Bor AsnType) → Option plain.AsnType
governor_view g = option_map (λ (t : Bor AsnType). type_view t.now) g

abbrev pub mention_view : Mention → spec.Mention
mention_view (mention.Type from name) = spec.to_type from.now name.now
mention_view (mention.Constraint g role name) = spec.in_constraint (governor_view g) role name.now
mention_view (mention.Default t name) = spec.in_default (type_view t.now) name.now
mention_view (mention.Assignment name) = spec.in_assignment name.now

abbrev pub mentions_view : List Mention → List spec.Mention
mentions_view ms = map mention_view ms
