pub mod Mentions
pub mod Mentioned
pub mod AcnMentioned
