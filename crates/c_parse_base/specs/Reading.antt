-- The parser as functions of the tokens that are left, and the languages that these read. The code is proved equal to them, and they are
-- proved to read the grammar. To believe `parse`, nobody has to read them: its clauses speak of `Spells` alone.
pub mod Answer
pub mod Words
pub mod Spans
pub mod Answers
pub mod Languages
pub mod Good
pub mod Exact
pub mod TypeWords
pub mod TypeNames
