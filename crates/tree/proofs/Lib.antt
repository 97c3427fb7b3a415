-- The modules of this folder.
pub mod Heights
pub mod Lists
pub mod Cells
pub mod BlocksUnder
pub mod Gathering
pub mod Blocks
pub mod BlockCounts
pub mod Halving
pub mod Rewriting
pub mod Standing
pub mod Joining
pub mod Windows
pub mod Counting
pub mod Answering
