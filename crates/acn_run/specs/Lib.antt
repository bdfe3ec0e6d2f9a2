pub mod Headline
pub mod Run
pub mod Stuck
pub mod Complete
pub mod Exactly
pub mod OneAnswer
