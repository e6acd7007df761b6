-- Image, Places, Records, Pieces and ImageFile say which bytes are the file of which image, Ranges which numbers it has,
-- Heads, Faults and Refusal which first fault other bytes have, LoadedBytes and FileByte which bytes are loaded.
-- MemtagFile and MemtagEntries say what an ELF file of any producer has of memory tagging.
pub mod Image
pub mod Places
pub mod Records
pub mod Pieces
pub mod ImageFile
pub mod Ranges
pub mod Refusal
pub mod Heads
pub mod Faults
pub mod LoadedBytes
pub mod FileByte
pub mod Constant
pub mod MemtagFile
pub mod MemtagEntries
pub mod Laws
