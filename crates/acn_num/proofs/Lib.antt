-- for acn_grammar, acn_packet_laws, acn_terminators, acn_bits, acn_ints, acn_cut, acn_text, acn_reads, acn_events, acn_writer, acn_leads, acn_pack, acn_unpack, acn_packing, acn_plain_write, acn_string_lines, acn_stream, acn_explain, acn_stream_laws, acn_route and acn_work
pub mod BitLists
-- for acn_extreme_laws, acn_constraint, acn_codings, acn_fold_laws and acn_leaf_laws
pub mod Members
-- for acn_constraint, acn_codings, acn_fold_laws and acn_leaf_laws
pub mod Order
mod Turns
mod Meeting
mod Joining
mod Unions
-- for acn_text
pub mod Nth
mod Halves
mod Octets
mod Pushed
