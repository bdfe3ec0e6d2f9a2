-- The laws of slots and homes on which those of this crate stand.
use Rattle.acn_homes.specs.Laws.{NumbersFollowPreorder, NamedFieldsAreNumbered, NumbersTellSlots, HomesAreSmallest, HomesListTheirSlots, EachIsAtHomeOnce}

pub record HomeLaws : Type 0 where
  pub numbers_follow : NumbersFollowPreorder
  pub are_numbered : NamedFieldsAreNumbered
  pub tell_slots : NumbersTellSlots
  pub are_smallest : HomesAreSmallest
  pub list_slots : HomesListTheirSlots
  pub at_home_once : EachIsAtHomeOnce
