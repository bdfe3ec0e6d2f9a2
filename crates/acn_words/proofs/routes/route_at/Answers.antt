use Rattle.std.proofs.Common.{rules, ◌≡◌, List, ℕ, string_bytes, subst}
use Rattle.std.specs.Prelude.{MatchOption}
use Rattle.acn_words.specs.Routes.{route_of}
use Rattle.acn_words.specs.View.{route_view}
use Rattle.acn_words.proofs.Routed.{route_here}
use Rattle.acn_words.proofs.routes.route_at.Goals as goal

pub returns : goal.returns
returns c =
    let same : c.as_bytes.result.now ≡ string_bytes c.word.result.now = search rules in
    let named : route_view c.unwrap.result ≡ route_of c.as_bytes.result.now = search rules in
    route_here string_bytes c.args.routes.now.words.now c.args.i c.word.result.now (route_view c.unwrap.result) c.word.ensures.word (subst (λ (b : List ℕ). route_view c.unwrap.result ≡ route_of b) same named)
