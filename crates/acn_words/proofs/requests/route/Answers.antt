use Rattle.std.proofs.Common.{rules, ◌-◌, length, take, drop, refl, string_bytes, ◌∙◌}
use Rattle.acn_words.proofs.Routed.{whole, parted}
use Rattle.acn_words.proofs.requests.route.Goals as goal

pub returns-clause-request : goal.returns-clause-request
returns-clause-request c = c.routed.ensures.request ∙ parted string_bytes c.args.rest.now (take c.count_routes-count.result c.args.rest.now) (take (length c.args.rest.now - c.count_routes-count.result) (drop c.count_routes-count.result c.args.rest.now)) c.count_routes-count.result c.count_routes-count.ensures.value refl
    (whole string_bytes c.count_routes-count.result c.args.rest.now)
