pub mod Initials
pub mod Declarations
pub mod Statements
pub mod Locals
pub mod Made
pub mod Slots
pub mod Laws
