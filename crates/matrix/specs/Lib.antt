-- The modules of this folder.
pub mod Chain
pub mod Matrix
pub mod Range
