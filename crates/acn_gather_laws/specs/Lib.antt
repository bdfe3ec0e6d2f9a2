pub mod CanGather
