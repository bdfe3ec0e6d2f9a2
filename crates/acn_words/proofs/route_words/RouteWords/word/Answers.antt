use Rattle.std.proofs.Common.{rules, string_bytes}
use Rattle.acn_words.proofs.Routed.{route_there}
use Rattle.acn_words.proofs.route_words.RouteWords.word.Goals as goal

pub returns-clause-route : goal.returns-clause-route
returns-clause-route c = route_there string_bytes c.args.self.now.words.now c.args.i c.index-self-i.result c.requires c.args.self.now.are_routes
