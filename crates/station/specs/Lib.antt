-- The modules of this folder.
pub mod Labels
pub mod Same
pub mod Weights
pub mod Words
pub mod SameLaws
