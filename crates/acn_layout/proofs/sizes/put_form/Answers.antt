use Rattle.acn_layout.proofs.Forms.{moved, num_shown, octets_shown, bits_shown, text_shown, seq_shown, list_shown, choice_shown, contained_shown}
use Rattle.acn_layout.proofs.sizes.put_form.Goals as goal

pub returns-in-Num : goal.returns-in-Num
returns-in-Num g c = moved _ _ _ _ _ (num_shown c.args.tree.now c.args.body.now _ c.in-Num.is) c.put_leaf.ensures

pub returns-in-Octets : goal.returns-in-Octets
returns-in-Octets g c = moved _ _ _ _ _ (octets_shown c.args.tree.now c.args.body.now _ c.in-Octets.is) c.put_sizing.ensures

pub returns-in-Bits : goal.returns-in-Bits
returns-in-Bits g c = moved _ _ _ _ _ (bits_shown c.args.tree.now c.args.body.now _ c.in-Bits.is) c.put_sizing-in-Bits.ensures

pub returns-in-Text : goal.returns-in-Text
returns-in-Text g c = moved _ _ _ _ _ (text_shown c.args.tree.now c.args.body.now _ c.in-Text.is) c.put_characters.ensures

pub returns-in-List : goal.returns-in-List
returns-in-List g c = moved _ _ _ _ _ (list_shown c.args.tree.now c.args.body.now _ _ c.in-List.is) c.put_sizing-in-List.ensures

pub returns-in-Choice : goal.returns-in-Choice
returns-in-Choice g c = moved _ _ _ _ _ (choice_shown c.args.tree.now c.args.body.now _ c.in-Choice.is) c.put_choice.ensures

pub returns-in-Contained : goal.returns-in-Contained
returns-in-Contained g c = moved _ _ _ _ _ (contained_shown c.args.tree.now c.args.body.now _ _ c.in-Contained.is) c.put_sizing-in-Contained.ensures

pub returns-in-Seq : goal.returns-in-Seq
returns-in-Seq g c = moved _ _ _ _ _ (seq_shown c.args.tree.now c.args.body.now _ c.items.result.now c.in-Seq.is c.items.ensures) c.put_fields.ensures
