use Rattle.std.proofs.Common.{◌∙◌, ap, arith, ℕ, nat_eq}
use Rattle.std.specs.List.{list_any}
use Rattle.acn_homes.specs.Homes.{at_home}
use Rattle.acn_homes.proofs.AtHome.{once}
use Rattle.acn_homes.proofs.laws.each_is_at_home_once.Goals as goal

pub returns : goal.returns
returns c = λ all k d l path. ap (λ (m : ℕ). list_any (nat_eq m) (at_home all path)) (omega arith) ∙ once path 0 all k d l
