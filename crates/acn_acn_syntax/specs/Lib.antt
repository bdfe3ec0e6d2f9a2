pub mod MapTokens
pub mod Mirror
pub mod ModuleTokens
pub mod View
