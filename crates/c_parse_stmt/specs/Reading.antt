-- The parser as functions of the tokens that are left, and the languages that these read. The code is proved equal to them, and they are
-- proved to read the grammar. To believe `parse`, nobody has to read them: its clauses speak of `Spells` alone.
pub mod Nodes
pub mod Statements
