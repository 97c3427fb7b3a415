-- The modules of this folder.
pub mod Following
pub mod Paths
pub mod Places
pub mod Running
pub mod Summing
