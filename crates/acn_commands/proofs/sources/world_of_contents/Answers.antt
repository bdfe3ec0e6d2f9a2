use Rattle.std.proofs.Common.{List, length, map, string_bytes, ap, ◌∙◌, subst, sym}
use Rattle.acn_sources.specs.Files.{AreShort}
use Rattle.acn_sources.specs.declared.sources.File.{File}
use Rattle.acn_commands.proofs.Refusing.{memory_ends}
use Rattle.acn_commands.proofs.Sorted.{files_short, map_count, same_count, whole_count}
use Rattle.acn_commands.proofs.sources.world_of_contents.Goals as goal

pub files_of-requires-clause-same : goal.files_of-requires-clause-same
files_of-requires-clause-same g c =
    sym (map_count string_bytes c.args.names.now) ∙ (whole_count c.requires.read.0 (map string_bytes c.args.names.now) (map (λ v. v.items) c.args.contents.now) c.requires.read.1 ∙ map_count (λ v. v.items) c.args.contents.now)

pub world_of-requires-clause-short : goal.world_of-requires-clause-short
world_of-requires-clause-short g c =
    subst AreShort (sym c.deref.ensures.value) (files_short c.requires.read.0 (map string_bytes c.args.names.now) (map (λ v. v.items) c.args.contents.now) c.in-Ok.files.items c.requires.read.1 c.in-Ok.ensures)

pub world_of-requires-clause-same : goal.world_of-requires-clause-same
world_of-requires-clause-same g c =
    ap (λ (fs : List File). length fs) c.deref.ensures.value ∙ (same_count (map string_bytes c.args.names.now) (map (λ v. v.items) c.args.contents.now) c.in-Ok.files.items c.in-Ok.ensures ∙ map_count string_bytes c.args.names.now)

pub returns-in-Err-clause-fails : goal.returns-in-Err-clause-fails
returns-in-Err-clause-fails g c = λ told faults faults' request whole is. memory_ends told faults faults' request _ _ _ c.no_memory.ensures.status c.no_memory.ensures.says
