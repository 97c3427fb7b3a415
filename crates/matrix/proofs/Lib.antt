-- The modules of this folder.
pub mod Laws
pub mod Rows
pub mod Tables
