use Rattle.std.proofs.Common.{Some, string_bytes, get_or, ap, ◌∙◌, sym}
use Rattle.acn_commands.proofs.Sorted.{item_at, name_there}
use Rattle.acn_commands.proofs.sources.file_refused.Goals as goal

pub returns-clause-says : goal.returns-clause-says
returns-clause-says g c =
    let x = c.index-names-fault.result in
    let value = c.as_bytes-name.ensures.value ∙ c.as_str.ensures.value in
    record {
      name = c.as_bytes-name.result.now;
      file = get_or c.args.files.now c.args.fault.now.file _;
      named = name_there string_bytes c.args.names.now c.args.fault.now.file x c.requires.named c.index-names-fault.is ∙ ap Some (sym value);
      stands = item_at c.args.files.now c.args.fault.now.file _ c.requires.within;
      says = record { result = c.put_file_fault.result; prints = c.put_file_fault.ensures };
    }
