use Rattle.std.proofs.Common.{map, string_bytes, subst}
use Rattle.acn_front.specs.Loaded.{IsLoadFault}
use Rattle.acn_commands.proofs.Refusing.{file_ends, memory_ends, name_ends}
use Rattle.acn_commands.proofs.sources.load_refused.Goals as goal

pub returns-in-File : goal.returns-in-File
returns-in-File g c = λ contents.
    file_ends (map string_bytes c.args.names.now) contents c.args.files.now _ _ _ c.in-File.fault c.file_refused.ensures.status (subst (IsLoadFault c.args.files.now) c.in-File.is c.requires.told) c.file_refused.ensures.says

pub returns-in-Name : goal.returns-in-Name
returns-in-Name g c = λ contents.
    name_ends (map string_bytes c.args.names.now) contents c.args.files.now _ _ _ c.in-Name.fault c.name_refused.ensures.status (subst (IsLoadFault c.args.files.now) c.in-Name.is c.requires.told) c.name_refused.ensures.says

pub returns-in-NoMemory : goal.returns-in-NoMemory
returns-in-NoMemory g c = λ contents told faults faults' request read is. memory_ends told faults faults' request _ _ _ c.no_memory.ensures.status c.no_memory.ensures.says
