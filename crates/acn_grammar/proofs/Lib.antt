mod Back
-- for acn_packet_laws, acn_asks, acn_piece_laws, acn_text, acn_reads, acn_events, acn_extreme_laws, acn_check, acn_plan, acn_pack, acn_unpack, acn_json, acn_printed, acn_lines, acn_string_lines and acn_leaf_laws
pub mod Characters
-- for acn_packet_laws and acn_leads
pub mod Codings
-- for acn_packet_laws, acn_ints, acn_text, acn_writer, acn_extreme_numbers and acn_plain_write
pub mod Counts
-- for acn_packet_laws, acn_leaf, acn_tree, acn_ints, acn_pieces, acn_piece_laws, acn_reads, acn_events, acn_writer, acn_extreme_laws, acn_leads, acn_extreme_numbers, acn_unpack, acn_lengths, acn_json, acn_transcode and acn_leaf_laws
pub mod FineLeaves
-- for acn_packet_laws, acn_text and acn_extreme_laws
pub mod FirstPlaces
-- for acn_packet_laws, acn_leaf, acn_ints, acn_pieces, acn_piece_laws, acn_events, acn_writer, acn_extreme_laws, acn_leads, acn_extreme_numbers, acn_lengths and acn_leaf_laws
pub mod HasImage
mod ImagesOne
-- for acn_leaf, acn_tree, acn_lengths, acn_moments and acn_plain_write
pub mod Intervals
-- for acn_packet_laws, acn_ints, acn_piece_laws, acn_events, acn_writer, acn_extreme_laws, acn_extreme_numbers and acn_pack
pub mod LeafLengths
-- for acn_packet_laws, acn_extreme_laws and acn_extreme_numbers
pub mod Monotone
mod NodesBack
-- for acn_packet_laws, acn_ints and acn_leads
pub mod Numbers
-- for acn_packet_laws, acn_text, acn_extreme_laws and acn_packing
pub mod Octets
-- for acn_packet_laws and acn_text
pub mod Prefix
-- for acn_tree, acn_pieces, acn_text, acn_reads, acn_single, acn_extreme_numbers, acn_extremes, acn_step_breach, acn_lengths and acn_leaf_laws
pub mod RangeEnds
-- for acn_packet_laws, acn_event_limits, acn_extreme_laws, acn_check, acn_plain_write and acn_commands
pub mod SlotLists
-- for acn_packet_laws, acn_tree, acn_extreme_laws, acn_leads, acn_check and acn_extreme_numbers
pub mod SpanLaw
-- for acn_packet_laws
pub mod Spans
-- for acn_packet_laws, acn_piece_laws, acn_events, acn_extreme_laws and acn_plain_write
pub mod SpellLength
-- for acn_packet_laws, acn_pieces, acn_text, acn_reads, acn_events, acn_writer, acn_extreme_laws, acn_check, acn_single, acn_extremes, acn_pack, acn_gather_laws, acn_plain_write and acn_string_lines
pub mod TextRules
-- for acn_packet_laws
pub mod Texts
-- for acn_packet_laws, acn_well_formed, acn_tree, acn_extreme_laws, acn_check, acn_report, acn_json and acn_lines
pub mod TreeRules
-- for acn_determinants, acn_tree, acn_reads, acn_single, acn_extremes, acn_layout, acn_plan, acn_unpack, acn_lengths, acn_plain_read, acn_moments, acn_plain_write, acn_json, acn_lines, acn_transcode, acn_compare and acn_leaf_cases
pub mod Views
-- for acn_packet_laws, acn_leaf, acn_asks, acn_tree, acn_fill, acn_ints, acn_text, acn_reads, acn_events, acn_writer, acn_event_limits, acn_extreme_laws, acn_leads, acn_check, acn_single, acn_extreme_numbers, acn_extremes, acn_unpack, acn_compare, acn_codings, acn_fold_laws and acn_leaf_laws
pub mod WholeTests
-- for acn_packet_laws, acn_ints and acn_events
pub mod WidthLaw
-- for acn_packet_laws, acn_ints, acn_reads, acn_writer, acn_extreme_laws, acn_leads, acn_extreme_numbers and acn_leaf_laws
pub mod Within
