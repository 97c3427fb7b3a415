-- The modules of this folder.
pub mod Places
pub mod Runs
pub mod States
