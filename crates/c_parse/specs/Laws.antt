-- Laws for later proofs.
pub mod WordTests
pub mod HeadLaws
pub mod TailLaws
pub mod HeadBridge
pub mod ExternalBridge
pub mod ExternalSeen
pub mod UnitLaws
pub mod Growth
pub mod SeenLaws
pub mod SpellsLaws
pub mod Code
pub mod ParsedLaws
pub mod PlaceLaws
pub mod SeenPlaces
pub mod WholeCode
