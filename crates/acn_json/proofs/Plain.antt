-- JSON with whole numbers and ascending members is read back from its compact text.
use Rattle.std.proofs.Common.{◌≡◌, ℕ, suc, ◌≤◌, pos, negsuc, List, [], Option, Some, option_map, option_and_then, Ordering, Less, Greater, nat_cmp, refl, sym, ap, subst, ◌∙◌, arith, append-nil}
use Rattle.std.specs.Ordering.{ordering_reverse, match_ordering}
use Rattle.std.specs.Cmp.Lexicographic.{slice_cmp}
use Rattle.std.proofs.lemmas.Cmp.{nat_list_cmp_total}
use Rattle.json.specs.Token.{Token}
use Rattle.json.specs.Lex.{tokens}
use Rattle.json.specs.Print.{IsNumber}
use Rattle.json.specs.Json as tree
use Rattle.json.specs.Tree.{json_tokens, HasNumbers, ItemsHaveNumbers, MembersHaveNumbers}
use Rattle.json.specs.Tree as trees
use Rattle.json.proofs.Printed.Decimals.{IsNumber-decimal, IsNumber-signed_decimal}
use Rattle.json.proofs.Printed.Tokens.{tokens-print}
use Rattle.json.proofs.Printed.Trees.{value-json_tokens, ArePrintable-json_tokens}
use Rattle.serde_json.specs.Data.{Num, unsigned, negative, float, Data, null, boolean, number, string, array, object, Items, no_items, item, Members, no_members, member, put, depth, items_depth, members_depth}
use Rattle.serde_json.specs.Read.{read, of_json, of_items, of_members, max_depth, number_of}
use Rattle.serde_json.specs.Written.{number_text, compact_text, outline, items_outline, members_outline}
use Rattle.serde_json.proofs.Numbers.{number_of-decimal, number_of-negative}
use Rattle.serde_json.proofs.Texts.{print-outline}
use Rattle.acn_json.proofs.Ascending.{AllAbove, IsAscending}
use Rattle.acn_json.specs.RoundTrip.{NumberIsWhole}

abbrev mutual
  pub IsPlain : Data → Type 0
  IsPlain (number n) = NumberIsWhole n
  IsPlain (array ds) = ItemsArePlain ds
  IsPlain (object ms) = IsAscending ms × MembersArePlain ms
  IsPlain d = Unit {0}

  pub ItemsArePlain : Items → Type 0
  ItemsArePlain no_items = Unit {0}
  ItemsArePlain (item d ds) = IsPlain d × ItemsArePlain ds

  pub MembersArePlain : Members → Type 0
  MembersArePlain no_members = Unit {0}
  MembersArePlain (member k d ms) = IsPlain d × MembersArePlain ms

-- Members that ascend, put in one after another.

abbrev join : Members → Members → Members
join no_members ms = ms
join (member k d found) ms = member k d (join found ms)

join_none : (ms : Members) → join ms no_members ≡ ms
join_none no_members = refl
join_none (member k d ms) = ap (member k d) (join_none ms)

join_join : (as' bs cs : Members) → join (join as' bs) cs ≡ join as' (join bs cs)
join_join no_members bs cs = refl
join_join (member k d as') bs cs = ap (member k d) (join_join as' bs cs)

above_inside : (l : List ℕ) (found : Members) (k : List ℕ) (d : Data) (ms : Members) → AllAbove l (join found (member k d ms)) → slice_cmp nat_cmp l k ≡ Less
above_inside l no_members k d ms a = a.0
above_inside l (member j e found) k d ms a = above_inside l found k d ms a.1

put_last_at : (o : Ordering) (k l : List ℕ) (d e : Data) (found rest : Members) → o ≡ Greater → put k d found ≡ rest → match_ordering o (member k d (member l e found)) (member l d found) (member l e (put k d found)) ≡ member l e rest
put_last_at o k l d e found rest is h = ap (λ x. match_ordering x (member k d (member l e found)) (member l d found) (member l e (put k d found))) is ∙ ap (member l e) h

put_last : (found : Members) (k : List ℕ) (d : Data) (ms : Members) → IsAscending (join found (member k d ms)) → put k d found ≡ join found (member k d no_members)
put_last no_members k d ms a = refl
put_last (member l e found) k d ms a =
    let greater : slice_cmp nat_cmp k l ≡ Greater = nat_list_cmp_total.antisymm k l ∙ ap ordering_reverse (above_inside l found k d ms a.0) in
    put_last_at (slice_cmp nat_cmp k l) k l d e found (join found (member k d no_members)) greater (put_last found k d ms a.1)

abbrev refilled : Members → Members → Members
refilled found no_members = found
refilled found (member k d ms) = refilled (put k d found) ms

refill : (found ms : Members) → IsAscending (join found ms) → refilled found ms ≡ join found ms
refill found no_members a = sym (join_none found)
refill found (member k d ms) a =
    let same = join_join found (member k d no_members) ms in
    ap (λ x. refilled x ms) (put_last found k d ms a) ∙ (refill (join found (member k d no_members)) ms (subst IsAscending (sym same) a) ∙ same)

-- What is printed has numbers, and is read as what it was.

numbers_back : (n : Num) → NumberIsWhole n → number_of (number_text n) ≡ Some n
numbers_back (unsigned n) h = number_of-decimal n h
numbers_back (negative (negsuc n)) h = number_of-negative n h
numbers_back (negative (pos n)) h = absurd h
numbers_back (float x) h = absurd h

are_numbers : (n : Num) → NumberIsWhole n → IsNumber (number_text n)
are_numbers (unsigned n) h = IsNumber-decimal n h
are_numbers (negative (negsuc n)) h = IsNumber-signed_decimal (negsuc n) (omega arith)
are_numbers (negative (pos n)) h = absurd h
are_numbers (float x) h = absurd h

mutual
  has_numbers : (d : Data) → IsPlain d → HasNumbers (outline d)
  has_numbers null h = tt
  has_numbers (boolean b) h = tt
  has_numbers (number n) h = are_numbers n h
  has_numbers (string s) h = tt
  has_numbers (array ds) h = items_have_numbers ds h
  has_numbers (object ms) h = members_have_numbers ms h.1

  items_have_numbers : (ds : Items) → ItemsArePlain ds → ItemsHaveNumbers (items_outline ds)
  items_have_numbers no_items h = tt
  items_have_numbers (item d ds) h = (has_numbers d h.0, items_have_numbers ds h.1)

  members_have_numbers : (ms : Members) → MembersArePlain ms → MembersHaveNumbers (members_outline ms)
  members_have_numbers no_members h = tt
  members_have_numbers (member k d ms) h = (has_numbers d h.0, members_have_numbers ms h.1)

mutual
  json_back : (d : Data) → IsPlain d → of_json (outline d) ≡ Some d
  json_back null h = refl
  json_back (boolean b) h = refl
  json_back (number n) h = ap (option_map number) (numbers_back n h)
  json_back (string s) h = refl
  json_back (array ds) h = ap (option_map array) (items_back ds h)
  json_back (object ms) h = ap (option_map object) (members_back no_members ms h.1 ∙ ap Some (refill no_members ms h.0))

  items_back : (ds : Items) → ItemsArePlain ds → of_items (items_outline ds) ≡ Some ds
  items_back no_items h = refl
  items_back (item d ds) h = ap (option_and_then (λ x. option_map (item x) (of_items (items_outline ds)))) (json_back d h.0) ∙ ap (option_map (item d)) (items_back ds h.1)

  members_back : (found ms : Members) → MembersArePlain ms → of_members (members_outline ms) found ≡ Some (refilled found ms)
  members_back found no_members h = refl
  members_back found (member k d ms) h = ap (option_and_then (λ x. of_members (members_outline ms) (put k x found))) (json_back d h.0) ∙ members_back (put k d found) ms h.1

mutual
  same_depth : (d : Data) → trees.depth (outline d) ≡ depth d
  same_depth null = refl
  same_depth (boolean b) = refl
  same_depth (number n) = refl
  same_depth (string s) = refl
  same_depth (array ds) = ap suc (same_items_depth ds)
  same_depth (object ms) = ap suc (same_members_depth ms)

  same_items_depth : (ds : Items) → trees.items_depth (items_outline ds) ≡ items_depth ds
  same_items_depth no_items = refl
  same_items_depth (item d ds) = rw (same_depth d, same_items_depth ds) refl

  same_members_depth : (ms : Members) → trees.members_depth (members_outline ms) ≡ members_depth ms
  same_members_depth no_members = refl
  same_members_depth (member k d ms) = rw (same_depth d, same_members_depth ms) refl

abbrev whole : Option (tree.Json × List Token) → Option Data
whole o = option_and_then of_json (option_and_then (λ p. tree.if_last p.0 p.1) o)

pub plain-read : (d : Data) → IsPlain d → depth d ≤ max_depth → read (compact_text d) ≡ Some d
plain-read d h shallow =
    let ts = json_tokens (outline d) in
    let text : tokens (compact_text d) ≡ ts = ap tokens (sym (print-outline d)) ∙ tokens-print ts (ArePrintable-json_tokens (outline d) (has_numbers d h)) in
    let same = same_depth d in
    ap whole (ap (tree.value max_depth) (text ∙ sym (append-nil ts)) ∙ value-json_tokens (outline d) max_depth [] (omega arith)) ∙ json_back d h
