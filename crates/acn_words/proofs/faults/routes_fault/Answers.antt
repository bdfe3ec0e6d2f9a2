use Rattle.std.proofs.Common.{rules, ◌-◌, length, take, drop, refl, ◌≡◌, true, List, ℕ, string_bytes, subst, sym, ◌∙◌}
use Rattle.acn_words.specs.Routes.{is_route}
use Rattle.acn_words.proofs.Routed.{whole, fault_behind}
use Rattle.acn_words.proofs.faults.routes_fault.Goals as goal

pub returns-then-is_route : goal.returns-then-is_route
returns-then-is_route c =
    let same : c.as_bytes.result.now ≡ string_bytes c.first-item.result = search rules in
    let route : is_route (string_bytes c.first-item.result) ≡ true = subst (λ (b : List ℕ). is_route b ≡ true) same (sym c.is_route.ensures ∙ c.if-is_route.true) in
    c.routed_fault.ensures ∙ fault_behind string_bytes c.args.rest.now (take c.count_routes-count.result c.args.rest.now) (take (length c.args.rest.now - c.count_routes-count.result) (drop c.count_routes-count.result c.args.rest.now)) c.count_routes-count.result c.count_routes-count.ensures.value refl
    (whole string_bytes c.count_routes-count.result c.args.rest.now) c.first-item.result c.in-len1-up.len_at_least c.first-item.is route
