pub mod PartLaws
pub mod FrameLaws
pub mod WellFormedLaws
pub mod NeighbourLaws
pub mod NeedLaws
