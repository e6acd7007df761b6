-- Causes says that a cause is the whole of an answer, OneWay that sources have one meaning or one refusal, Sides what files of sources
-- have side by side.
pub mod Sides
pub mod OneWay
pub mod Causes
