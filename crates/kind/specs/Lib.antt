-- The modules of this folder.
pub mod Laws
pub mod Meaning
pub mod Runs
pub mod Sound
pub mod Stretch
pub mod Weights
pub mod Summaries
pub mod RunsMeant
pub mod JoinedRight
pub mod WeightsMeant
