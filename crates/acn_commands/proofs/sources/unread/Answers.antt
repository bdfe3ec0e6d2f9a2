use Rattle.std.proofs.Common.{Some, string_bytes, ap, ◌∙◌, sym}
use Rattle.acn_commands.proofs.Sorted.{name_there}
use Rattle.acn_commands.proofs.sources.unread.Goals as goal

pub returns-in-Failed : goal.returns-in-Failed
returns-in-Failed g c =
    let value = c.as_bytes.ensures.value ∙ c.as_str.ensures.value in
    let inside = c.requires.within (λ e. cc) in (
      c.in-Failed.is,
      record {
        name = c.as_bytes.result.now;
        named = name_there string_bytes c.args.names.now c.args.fault.file c.index-names-fault.result inside c.index-names-fault.is ∙ ap Some (sym value);
        says = record { result = c.put_unreadable.result; prints = c.put_unreadable.ensures };
      },
    )

pub returns-in-TooLong : goal.returns-in-TooLong
returns-in-TooLong g c =
    let value = c.as_bytes-in-TooLong.ensures.value ∙ c.as_str-in-TooLong.ensures.value in
    let inside = c.requires.within (λ e. cc) in (
      c.in-TooLong.is,
      record {
        name = c.as_bytes-in-TooLong.result.now;
        named = name_there string_bytes c.args.names.now c.args.fault.file c.index-names-fault-in-TooLong.result inside c.index-names-fault-in-TooLong.is ∙ ap Some (sym value);
        says = record { result = c.put_file_too_long.result; prints = c.put_file_too_long.ensures };
      },
    )

pub returns-in-NoMemory : goal.returns-in-NoMemory
returns-in-NoMemory g c = rw c.no_memory.ensures.status (c.in-NoMemory.is, c.no_memory.ensures.says)
