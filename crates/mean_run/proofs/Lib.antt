pub mod ScopeTurns
pub mod CallTurns
