mod Alternatives
mod CalledLaw
mod CountLaw
mod FillingLaw
mod GoingOn
mod KeysLaw
mod LeafLaw
mod MemberTurns
mod MembersLaw
mod MetLaw
mod NamesLaw
mod NodesLaw
mod Noting
mod OrderLaw
-- for acn_transcode
pub mod Parts
mod PlacesLaw
mod ReadLaw
mod TakenLaw
