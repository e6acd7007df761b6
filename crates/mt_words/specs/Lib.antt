-- what one reads to believe `job_of`: jobs, the numbers that words write, the command that `clap` reads, which words have which job
pub mod Jobs
pub mod Numbers
pub mod Reading
pub mod Asks
pub mod HasJob
-- the job of the code's type
pub mod Model
-- what the parts of `job_of` hold
pub mod Held
pub mod Found
-- laws for later proofs
pub mod Laws
