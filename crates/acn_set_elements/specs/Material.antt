-- What the program's materials of a set stand for.
use Rattle.std.specs.Prelude.{[]}
use Rattle.acn_set_elements.specs.Stands.{Built, of_numbers, of_texts, of_sizes}
use Rattle.acn_set_elements.specs.declared.stand.Material as material_code
use Rattle.acn_set_elements.specs.declared.stand.Material.TheVariants as material

abbrev pub built_of : material_code.Material → Built
built_of (material.Numbers ns) = of_numbers ns.now
built_of material.Plain = of_numbers []
built_of material.Texts = of_texts
built_of material.Sizes = of_sizes
