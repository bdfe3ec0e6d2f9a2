-- What the program's readings of a set stand for.
use Rattle.acn_constraint.specs.Sets.{Reading, numbers, sizes, characters}
use Rattle.acn_constraint.specs.declared.evaluate.Reading as code
use Rattle.acn_constraint.specs.declared.evaluate.Reading.TheVariants as reading

abbrev pub reading_of : code.Reading → Reading
reading_of (reading.Numbers ns) = numbers ns.now
reading_of reading.Sizes = sizes
reading_of reading.Characters = characters
