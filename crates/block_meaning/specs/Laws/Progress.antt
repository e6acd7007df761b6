-- A program in order is never stuck, so it has a meaning, whatever its input and its work are. Two things are shown of each run: what it
-- uses is there (blocks never go away, pointers in memory name blocks that exist, and values fit their types); and a bound suffices that
-- is the levels that the bodies of functions need and the work that is left, as each turn of a loop and each call spends a unit first.
pub mod Safe
pub mod Fits
pub mod Memory
pub mod Operators
pub mod Linked
pub mod Scenes
pub mod Nodes
pub mod Values
pub mod Arguments
pub mod Places
pub mod Expressions
pub mod Zero
pub mod Locals
pub mod Initialisers
pub mod Turns
pub mod Statements
pub mod Calls
pub mod Opening
pub mod Meaning
