-- The parts of a chain as plain data.
use Rattle.std.specs.Prelude.{Option}
use Rattle.acn_asn_syntax.specs.View.{type_view}
use Rattle.acn_num.specs.Names.{Name}
use Rattle.acn_index.specs.Chains as spec
use Rattle.acn_index.specs.declared.chain.Reference.{Reference}
use Rattle.acn_index.specs.declared.chain.Link.{Link}

abbrev pub written_view : Reference → Option Name × Name
written_view r = (r.from.now, r.name.now)

abbrev pub link_view : Link → spec.Link
link_view l = record { owner = l.owner; of = type_view l.of.now; assigned = l.assigned }
