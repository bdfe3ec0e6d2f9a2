-- Places that are noted are the right ones, and none are right too.
use Rattle.std.proofs.Common.{◌≡◌, List, Some, None, subst}
use Rattle.acn_asn_syntax.specs.Mirror.{Component}
use Rattle.acn_acn_syntax.specs.Mirror as acn
use Rattle.acn_slots.specs.Listed.{ArePlaces, AreNoted}
use Rattle.acn_slots.specs.declared.places.Places.{Places}

module _ (cs : List Component) (fs : List acn.Field) where
  pub none_noted : AreNoted cs fs None
  none_noted p e = absurd (cc e)

  pub these_noted : (p : Places) → ArePlaces cs fs p → AreNoted cs fs (Some p)
  these_noted p a q e = let same : p ≡ q = cc e in subst (ArePlaces cs fs) same a
