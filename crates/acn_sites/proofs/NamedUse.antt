-- The use of an alternative, where no braces are as good as empty ones.
use Rattle.std.proofs.Common.{◌≡◌, List, Option, Some, None, refl}
use Rattle.std.specs.Prelude.{find, option_and_then}
use Rattle.std.specs.Str.{bytes_eq}
use Rattle.acn_num.specs.Names.{Name}
use Rattle.acn_acn_syntax.specs.Mirror.{Field}
use Rattle.acn_slots.specs.Slots.{default_of, no_use, use_of, name_in_text}
use Rattle.acn_slots.specs.Listed.{texts}
use Rattle.acn_sites.specs.Sites.{use_named}

pub among_texts : (braces : Option (List Field)) (name : Name) → default_of (option_and_then use_of (find (λ (f : Field). bytes_eq (name_in_text f) name) (texts braces))) no_use ≡ use_named braces name
among_texts None name = refl
among_texts (Some fs) name = refl
