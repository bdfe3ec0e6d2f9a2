-- A reserved word is one of three lists.
use Rattle.std.proofs.Common.{◌≡◌, ℕ, Bool, ◌||◌, List, ◌++◌, ap, ◌∙◌}
use Rattle.std.proofs.lemmas.List.Folds.{list_any-append}
use Rattle.std.specs.List.{list_any}
use Rattle.std.specs.Str.{bytes_eq}
use Rattle.acn_lex.specs.Words.{asn_words, asn_left_out_words, acn_left_out_words, reserved, is_reserved}

any_of_three : (test : List ℕ → Bool) (a b c : List (List ℕ)) → list_any test (a ++ b ++ c) ≡ (list_any test a || list_any test b || list_any test c)
any_of_three test a b c = list_any-append test (a ++ b) c ∙ ap (λ x. x || list_any test c) (list_any-append test a b)

pub in_three : (text : List ℕ) → is_reserved text ≡ (list_any (bytes_eq text) asn_words || list_any (bytes_eq text) asn_left_out_words || list_any (bytes_eq text) acn_left_out_words)
unfolding reserved
in_three text = any_of_three (bytes_eq text) asn_words asn_left_out_words acn_left_out_words
