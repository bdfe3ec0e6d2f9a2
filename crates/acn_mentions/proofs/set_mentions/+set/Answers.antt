use Rattle.std.proofs.Common.{◌≡◌, ◌++◌, Some, ◌∙◌, ap}
use Rattle.std.specs.Prelude.{map}
use Rattle.acn_asn_syntax.specs.Mirror as plain
use Rattle.acn_asn_syntax.specs.View.{seen_meet, seen_part, element_view, set_view, meet_view, part_view, meets_of, parts_of}
use Rattle.acn_mentions.specs.Mentioned.{governor_view, mentions_view}
use Rattle.acn_mentions.specs.Mentions.{in_set, in_meet, in_part}
use Rattle.acn_mentions.proofs.Joined.{joined}
use Rattle.acn_asn_syntax.proofs.Views.{view_Union, open_meet, part_with}
use Rattle.acn_mentions.proofs.set_mentions.+set.Goals as goal

pub push_meet-returns : goal.push_meet-returns
unfolding in_meet
push_meet-returns t c =
    joined _ _ _ _ _ _ (c.in_ok-push_part.ensures {u = tt}) (rw c.items.ensures at (c.in_ok-push_parts.ensures {u = tt})) (ap (in_meet (governor_view c.args.place.governor) c.args.place.role) (open_meet c.args.meet.now))

pub push_part-returns-in_ok-push_element-in-Some : goal.push_part-returns-in_ok-push_element-in-Some
unfolding in_part
push_part-returns-in_ok-push_element-in-Some t c =
    joined _ _ _ _ _ _ (c.in_ok-push_element.ensures {u = tt}) (c.in_ok-push_element-in-Some.ensures {u = tt}) (ap (in_part (governor_view c.args.place.governor) c.args.place.role) (part_with c.args.part.now c.in-Some.but c.in-Some.is))

pub push_set-returns-in_ok-push_meets-in-Union : goal.push_set-returns-in_ok-push_meets-in-Union
unfolding in_set
push_set-returns-in_ok-push_meets-in-Union t c =
    joined _ _ _ _ _ _ (c.in_ok-push_meet-in-Union.ensures {u = tt}) (rw c.items.ensures at (c.in_ok-push_meets-in-Union.ensures {u = tt})) (ap (in_set (governor_view c.args.place.governor) c.args.place.role) (ap set_view c.in-Union.is ∙ view_Union c.in-Union.first c.in-Union.more))
