-- Uses says which externs a file refers to, Names what a link sees of a file, LinkFault which files link and why others do not.
pub mod Uses
pub mod Names
pub mod LinkFault
pub mod Laws
