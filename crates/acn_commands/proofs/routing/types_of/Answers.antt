use Rattle.std.proofs.Common.{map, string_bytes, refl}
use Rattle.acn_words.specs.Routes.{route_of}
use Rattle.acn_words.specs.View.{route_view, type_view}
use Rattle.acn_commands.proofs.Listing.{types_more}
use Rattle.acn_commands.proofs.routing.types_of.Goals as goal

pub loop-i-preserved : goal.loop-i-preserved
loop-i-preserved c =
    types_more type_view (map route_of (map string_bytes c.args.words.now.words.now)) c.loop-i.i c.loop-i.names.items c.push.new.self.items c.route_at.result.of (route_view c.route_at.result) c.in_ok-push.ensures.items c.loop-i.invariant refl c.route_at.ensures
