-- What the program's own types stand for.
use Rattle.acn_index.specs.World.{World, world_from}
use Rattle.acn_index.specs.declared.index.Index.{Index}

abbrev pub index_view : Index → World
index_view i = world_from i.modules i.acn i.tables
