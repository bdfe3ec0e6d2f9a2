use Rattle.std.proofs.Common.{◌≡◌, Option, Some, None, option_map, is_some, map, string_bytes, refl, sym, ap, ◌∙◌}
use Rattle.acn_words.specs.View.{fault_view}
use Rattle.acn_words.proofs.Told.{told}
use Rattle.acn_words.proofs.faults.words_fault.Goals as goal

kept : {A B : Type 0} (f : A → B) (o : Option A) → is_some (option_map f o) ≡ is_some o
kept f (Some x) = refl
kept f None = refl

pub returns-clause-none : goal.returns-clause-none
returns-clause-none c = sym (kept fault_view c.fault_of.result) ∙ (ap is_some c.fault_of.ensures ∙ told (map string_bytes c.args.words.now))
