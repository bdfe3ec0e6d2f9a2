-- What the program's own types stand for.
use Rattle.std.specs.Prelude.{ℕ, List, map}
use Rattle.acn_asn_syntax.specs.Mirror as plain
use Rattle.acn_asn_syntax.specs.View.{type_view, component_view, alternative_view}
use Rattle.acn_world.specs.Chained.{chain_view}
use Rattle.acn_slots.specs.View.{braces_view, use_view, scope_view, origin_view}
use Rattle.acn_sites.specs.declared.site.Position.{Position}
use Rattle.acn_sites.specs.declared.site.Position.TheVariants as position
use Rattle.acn_sites.specs.declared.site.Site.{Site}
use Rattle.acn_sites.specs.declared.attributes.Given.{Given}
use Rattle.acn_sites.specs.declared.below.Below.{Below}
use Rattle.acn_sites.specs.declared.below.Inside.{Inside}
use Rattle.acn_sites.specs.declared.below.Inside.TheVariants as inside
use Rattle.acn_sites.specs.declared.below.Typed.{Typed}
use Rattle.acn_sites.specs.Attributes as attributes
use Rattle.acn_sites.specs.Sites as sites

abbrev pub position_view : Position → sites.Position
position_view (position.Root owner name) = sites.root owner.now name.now
position_view (position.Component name rest) = sites.part name.now rest.now
position_view (position.Inserted name kind) = sites.inserted name.now kind.now
position_view (position.Alternative name) = sites.alternative name.now
position_view position.Element = sites.element
position_view position.Content = sites.content

abbrev pub site_view : Site → sites.Site
site_view s = record { position = position_view s.position; chain = chain_view s.chain; used = use_view s.used; at = s.at; reader = s.reader; scope = scope_view s.scope; path = s.path }

abbrev pub sites_view : List Site → List sites.Site
sites_view ss = map site_view ss

abbrev pub given_view : Given → attributes.Given
given_view g = record { from = origin_view g.from; number = g.number; attr = g.attr.now }

abbrev pub below_view : Below → sites.Below
below_view b = record { owner = b.owner; braces = braces_view b.braces; at = b.at; reader = b.reader; scope = scope_view b.scope; path = b.path }

abbrev pub inside_view : Inside → sites.Inside
inside_view (inside.Components cs) = sites.components (map component_view cs.now)
inside_view (inside.Alternatives more) = sites.alternatives (map alternative_view more.now)
inside_view (inside.Element of) = sites.an_element (type_view of.now)
inside_view inside.Octets = sites.octets
inside_view inside.Nothing = sites.nothing

abbrev pub typed_view : Typed → ℕ × plain.AsnType
typed_view t = (t.owner, type_view t.of.now)
