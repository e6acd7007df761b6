pub mod FreshFunctions
pub mod Laws
