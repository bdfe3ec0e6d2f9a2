mod CanGatherLaw
