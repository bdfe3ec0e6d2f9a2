use Rattle.std.proofs.Common.{map, ap, ◌∙◌, None}
use Rattle.std.specs.Prelude.{unwrap_or, slice_get}
use Rattle.acn_grammar.specs.View.{grammar_of}
use Rattle.acn_compare.specs.Judging.{place_of}
use Rattle.acn_compare.proofs.Finding.{found_first}
use Rattle.acn_compare.proofs.comparing.find_first.Goals as goal

pub returns : goal.returns
returns c =
    found_first (grammar_of c.args.old.now) (grammar_of c.args.new.now) c.as_slice-rows.result.now c.as_slice-table.result.now c.first_found.result c.requires
    (ap (map place_of) c.as_slice-rows.ensures.value ∙ c.in_ok-places.ensures)
    (λ s. ap (λ z. unwrap_or (slice_get z s) None) c.as_slice-table.ensures.value ∙ c.in_ok-slots.ensures s)
    c.first_found.ensures
