-- Object, Sections, Records, Contents, Rules and ObjectFile say which bytes are the file of which object; Claimed, Conditions and
-- ObjectFault what is wrong with other bytes.
pub mod Object
pub mod Sections
pub mod Records
pub mod Contents
pub mod Rules
pub mod ObjectFile
pub mod Claimed
pub mod Conditions
pub mod ObjectFault
pub mod Small
pub mod Repeats
pub mod Apart
pub mod Laying
pub mod Refusal
pub mod Laws
