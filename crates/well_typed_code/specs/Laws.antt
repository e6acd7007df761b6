pub mod Rising
pub mod Counted
pub mod NewScopes
pub mod NewStatements
pub mod NewLocals
pub mod Functions
