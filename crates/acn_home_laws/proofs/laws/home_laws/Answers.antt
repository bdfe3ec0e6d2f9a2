use Rattle.acn_home_laws.proofs.laws.home_laws.Goals as goal

pub returns : goal.returns
returns c = record {
  numbers_follow = c.numbers_follow_preorder.ensures;
  are_numbered = c.named_fields_are_numbered.ensures;
  tell_slots = c.numbers_tell_slots.ensures;
  are_smallest = c.homes_are_smallest.ensures;
  list_slots = c.homes_list_their_slots.ensures;
  at_home_once = c.each_is_at_home_once.ensures;
}
