-- What a file as code has it says of its program.
pub mod Looking
pub mod Found
