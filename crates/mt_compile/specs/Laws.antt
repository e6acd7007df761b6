pub mod CodeRows
pub mod OneWay
pub mod ConstantTrees
pub mod Respelled
pub mod RefusedPlaces
pub mod OneRefusal
pub mod OnePlan
