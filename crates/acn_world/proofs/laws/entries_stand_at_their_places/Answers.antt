use Rattle.acn_world.proofs.EntryPlaces.{at_its_place}
use Rattle.acn_world.proofs.laws.entries_stand_at_their_places.Goals as goal

pub returns : goal.returns
returns c = at_its_place
