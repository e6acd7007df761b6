-- Placed and Writable are about regions, Inside and OneStart about images that start, TagLaws, PlaceLaws and PointerLaws about what memory
-- has, Kept and CodeInMemory about what start-up leaves as it is.
pub mod Placed
pub mod Writable
pub mod Inside
pub mod OneStart
pub mod TagLaws
pub mod PlaceLaws
pub mod PointerLaws
pub mod Kept
pub mod CodeInMemory
pub mod CodeAlone
pub mod MachineLaws
